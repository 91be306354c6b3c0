pub mod Mark
pub mod Input
pub mod Output

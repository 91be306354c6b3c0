pub mod Mark
pub mod Output
pub mod Input
pub mod laws

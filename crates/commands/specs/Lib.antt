pub mod Arguments
pub mod Output
pub mod Answer
pub mod Belongs
pub mod File
pub mod Jobfile
pub mod laws

-- Definitions, which a reader has to believe.
pub mod Rules
pub mod Record
pub mod CuttingPlane
pub mod CuttingPlaneFeas
pub mod CuttingPlaneOptim
pub mod Job
pub mod Text
pub mod Fields
pub mod WriteJob
pub mod Answer
pub mod Belongs
pub mod Trace
pub mod Input
pub mod Run
pub mod Program
pub mod Numbered
pub mod laws

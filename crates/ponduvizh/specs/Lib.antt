-- Definitions, which a reader has to believe.
pub mod Exported
pub mod ExportedRuns
pub mod ExportedScan
pub mod laws

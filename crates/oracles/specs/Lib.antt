-- Definitions, which a reader has to believe.
pub mod RoundRobin
pub mod Table
pub mod Scan
pub mod LowpassOracle
pub mod Verdict
pub mod Matrix
pub mod LdltMgr
pub mod LmiOracle
pub mod EllCommon
pub mod Ell
pub mod EllStable
pub mod laws

-- Definitions, which a reader has to believe.
pub mod Pick
pub mod Over
pub mod Refusal
pub mod F64
pub mod Arr
pub mod Bits
pub mod Sqrt
pub mod Cut
pub mod EllCalcCore
pub mod EllCalc
pub mod laws

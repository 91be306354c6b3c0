-- The three demands of docs/00-demands.md, clause by clause. Nothing here is used by code: it says what the promises come to.
pub mod Demand1
pub mod Demand1Drivers
pub mod Demand2
pub mod Demand3

pub mod Laws
mod WitnessLaws

-- What the proofs of `numbers::sqrt` share.
mod Laws
mod Patterns
mod Tested

-- What the definitions mean, what other crates need of them, and that each contract leaves one result.
pub mod Log
pub mod Rounding
pub mod Laws
mod Determined

-- Laws that every crate may cite.
pub mod Products
pub mod Tests
pub mod Decimal
pub mod Lists
pub mod Writing
mod Determined

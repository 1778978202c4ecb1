-- The one statement over the list of cases, and the laws that the program's proofs use.
pub mod Passed
pub mod Found
pub mod Copies

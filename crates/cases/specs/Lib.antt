-- The cases of document 01 that are to be proved.
pub mod Cases
pub mod Files

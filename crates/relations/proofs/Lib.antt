-- The laws of the numbering, by subject. What the crates above lean on is public.
pub mod Members
pub mod Parts
pub mod Named
pub mod Lowest
pub mod Splits
pub mod Places
mod Determined

-- The figures that were read are fit to be filled; what is answered after the fill; ties, and demand 2 of a plan; how long its text is;
-- that the highest limit never refuses a plan; texts written one after another, and what is printed.
pub mod Fit
pub mod Outcomes
pub mod Ties
pub mod Demand2
pub mod Lengths
pub mod Limits
pub mod Writing
pub mod Reported
mod Determined

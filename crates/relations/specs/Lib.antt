-- What a reader must believe of the numbering: sets and their members, splits in rising order, the places of pairs. Each file ends with
-- its definitions computed on numbers that can be worked out by hand.
pub mod Sets
pub mod Splits
pub mod Pairs

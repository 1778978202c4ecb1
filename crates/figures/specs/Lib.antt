-- What a reader must believe of the figures file, in this order: a text cut into lines and words, the figures that entries say, the judge
-- of lines; then the text that is written for given figures, from which they are read back; last what only the inner functions need.
pub mod Lines
pub mod Entries
pub mod Judge
pub mod Written
pub mod Inner

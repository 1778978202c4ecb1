-- The laws of the code: a text cut at a byte, digits, comments, lines of numbers; figures stored and places seen; each turn over an entry
-- line. Then the laws of the judge, from the other side: what is written for any figures is read back (`ReadBack`), comments change nothing
-- (`Commented`), nor does the order of the entry lines (`Reordered`), and what is accepted are figures as document 01 has them (`Accepted`).
pub mod Cutting
pub mod Digits
pub mod Comments
pub mod Told
pub mod Listed
pub mod Collected
pub mod Stored
pub mod Seen
pub mod Turns
pub mod Pieces
pub mod Numerals
pub mod Rising
pub mod Laid
pub mod Said
pub mod ReadBack
pub mod Commented
pub mod Alike
pub mod Reordered
pub mod Accepted
mod Determined

-- The laws of the walk, of the text and of its bytes; the refusals; what is shown after a fill.
pub mod WalkLaws
pub mod TextLaws
pub mod Writing
pub mod Refusals
pub mod Printing
pub mod Shown
mod Determined

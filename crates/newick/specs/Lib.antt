-- What print answers and leaves behind: the text of a tree, the walk that finds the table sound, the refusals.
pub mod Texts
pub mod Walks
pub mod Results
pub mod Inner
pub mod Shows

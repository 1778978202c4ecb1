-- What the exports tell, put together as the results of the functions that they export.
pub mod Told

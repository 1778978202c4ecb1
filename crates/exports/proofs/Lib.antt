-- The exports leave nothing open.
mod Determined

-- What it means that a contract determines its result; text as bytes.
pub mod Determined
pub mod Texts

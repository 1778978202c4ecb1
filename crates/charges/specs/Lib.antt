-- What a reader must believe of the charges.
pub mod Charges

-- What is answered for the text of a figures file: the plan, or the refusal; and what the program prints.
pub mod Plans
pub mod Best
pub mod Inner
pub mod Reports

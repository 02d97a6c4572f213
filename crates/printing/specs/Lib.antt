-- Bytes put one behind the other (Printing), with laws.
pub mod PrintLaws
pub mod Printing

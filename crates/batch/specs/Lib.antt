-- What a whole run prints, as the code puts it together.
pub mod PrintLaws
pub mod Printing

-- What the program keeps of its files.
pub mod Keeping

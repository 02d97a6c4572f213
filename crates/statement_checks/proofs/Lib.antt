-- What the code's tests of kinds, tags and purposes tell (Told).
pub mod Told

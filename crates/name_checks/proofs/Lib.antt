-- What the code compares: purposes, tags, keys (Comparing).
pub mod Comparing

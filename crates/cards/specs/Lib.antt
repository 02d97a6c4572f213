-- From the bytes of a deck to its statements: classes of bytes (Bytes, and what they tell in ByteLaws), lines and cards (Cards), the packed
-- statement (Packing), the entries of a deck (Entries).
pub mod ByteLaws
pub mod Bytes
pub mod Cards
pub mod Entries
pub mod Packing

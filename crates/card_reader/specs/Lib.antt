-- What the card reader promises: the ends of lines (Lines), keys of names (Keys), packing from a place on (Places, Packs), joining lines from the
-- left (Joins), and an entry read from the deck (Gathering); the letters of a text (Letters); with laws for callers (KeyLaws, LineLaws).
pub mod Gathering
pub mod Joins
pub mod KeyLaws
pub mod Keys
pub mod Letters
pub mod LineLaws
pub mod Lines
pub mod Packs
pub mod Places

-- What the search for a byte or a string promises (Passing), and where a byte stands next, for callers (NextLaws).
pub mod NextLaws
pub mod Passing

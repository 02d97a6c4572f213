-- What the benchmark's replacements leave of a store (Replacements), with laws (ReplacementLaws).
pub mod ReplacementLaws
pub mod Replacements

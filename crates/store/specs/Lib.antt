-- What the store's functions ask for and leave (Clauses), and the laws that their proofs cite (CellLaws, SpanLaws).
pub mod CellLaws
pub mod Clauses
pub mod SpanLaws

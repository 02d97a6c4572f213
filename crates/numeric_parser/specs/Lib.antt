-- What the parsers of numeric expressions do: operands as cells (Operands), expressions as item rows (Reads), their helpers (Kinds), the
-- loops over joined forms (Joins), with the laws of each (OperandLaws, ReadLaws, KindLaws, JoinLaws).
pub mod JoinLaws
pub mod Joins
pub mod KindLaws
pub mod Kinds
pub mod OperandLaws
pub mod Operands
pub mod ReadLaws
pub mod Reads

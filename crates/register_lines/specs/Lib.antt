-- What the code that reads a contract line says (Fields), and the laws behind it (FieldLaws).
pub mod FieldLaws
pub mod Fields

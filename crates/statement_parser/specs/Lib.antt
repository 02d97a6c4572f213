-- Statements parsed in code: what the parsers answer (Drafts) and do (Clauses), rows that are filled part by part (Rows), the parts of forms
-- (Stages, StageLaws, PartLaws), each form (Steps, StepLaws), forms as their parts (FormLaws, BehindLaws) up to the end (Ends), and a
-- statement's label (Labels).
pub mod BehindLaws
pub mod Clauses
pub mod Drafts
pub mod Ends
pub mod FormLaws
pub mod Labels
pub mod PartLaws
pub mod Rows
pub mod StageLaws
pub mod Stages
pub mod StepLaws
pub mod Steps

-- The deck call: its answer by number and card (Verdicts). The first pass: what it does (Judging), how a statement's number, an entry and the deck
-- come to be judged (JudgeLaws, EntryLaws, DeckLaws). The second pass: what it does (Steps), how a statement's step and all steps come to be written
-- (PackedLaws, StepsLaws), rows and header in their parts (RowLaws), up to a program's image (Writing). The call itself (Reading).
pub mod DeckLaws
pub mod EntryLaws
pub mod JudgeLaws
pub mod Judging
pub mod PackedLaws
pub mod Reading
pub mod RowLaws
pub mod Steps
pub mod StepsLaws
pub mod Verdicts
pub mod Writing

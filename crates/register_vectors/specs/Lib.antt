-- The definitions of the register answer the scripts, as computed facts: all that is unfolded (Everything), a script's answers (Script), the scripts
-- of wishes 2, 4 and 10 (Scripts, Reports, Currencies), a line's form at its edges (Forms), header, slots and their rules (Slots), the register
-- opened and calls on whole buffers (Openings), a report's bytes and its call at their edges (Totals).
pub mod Currencies
pub mod Everything
pub mod Forms
pub mod Openings
pub mod Reports
pub mod Script
pub mod Scripts
pub mod Slots
pub mod Totals

-- The definitions of the window answer the scripts, as computed facts: all that is unfolded (Everything), a script's answers (Script), the scripts of
-- wish 13 (Scripts), prices, the window's bytes and its calls at their edges (Windows).
pub mod Everything
pub mod Script
pub mod Scripts
pub mod Windows

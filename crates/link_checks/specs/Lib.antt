-- What 11 and 12 look at, as the symbol table holds it (Held), with laws for callers (HeldLaws); the tests by keys: some number below another
-- passes (Below), labels and routines that are not declared (Lost), which routine executes which (Pairs), and going on from there (Rounds).
pub mod Below
pub mod Held
pub mod HeldLaws
pub mod Lost
pub mod Pairs
pub mod Rounds

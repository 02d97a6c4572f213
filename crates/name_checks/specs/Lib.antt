-- What the symbol table and the names mentioned show (Shown, ShownLaws), and when they hold it (HoldLaws); names put behind those known (Names,
-- NameLaws, EnteringLaws), declared (Declaring, DeclaringLaws), and their roles (Roles, RoleLaws); the numbers 6, 7 and 8 of a statement's names
-- (Judged, JudgedLaws); what loops over names find (LoopLaws), and over pairs of keys and tags (PairLaws).
pub mod Declaring
pub mod DeclaringLaws
pub mod EnteringLaws
pub mod HoldLaws
pub mod Judged
pub mod JudgedLaws
pub mod LoopLaws
pub mod NameLaws
pub mod Names
pub mod PairLaws
pub mod RoleLaws
pub mod Roles
pub mod Shown
pub mod ShownLaws

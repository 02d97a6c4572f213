-- What the code does that judges a statement by 4 and by 6 to 10 and extends the environment by it (Judged), and the law for those who
-- call it (Callers). Its parts: strings and numbers noted (Listing), labels (Labels), routines (Routines), uses (Uses), counts (Counts), all
-- together (Extending); lists that are cut at a size (Cuts).
pub mod Callers
pub mod Counts
pub mod Cuts
pub mod Extending
pub mod Judged
pub mod JudgedLaws
pub mod Judging
pub mod LabelLaws
pub mod Labels
pub mod Listing
pub mod ListingLaws
pub mod NamesFor
pub mod RoutineLaws
pub mod Routines
pub mod UseLaws
pub mod Uses

-- Labels and routines found by their keys (Places); branch fields (Branches, BranchLaws), rows and the tests of IF (Rows, Tests,
-- TestLaws).
pub mod BranchLaws
pub mod Branches
pub mod Places
pub mod Rows
pub mod TestLaws
pub mod Tests

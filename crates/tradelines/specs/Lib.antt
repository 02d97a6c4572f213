-- Document 01, "Trade lines tried": P1 to P12 as one table (Lines), LOTS and the edges (Lots). Document 02: lines that cost as many trials as a
-- line can (Costs).
pub mod Costs
pub mod Lines
pub mod Lots

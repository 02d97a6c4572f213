-- The scan: splits, when one fits, which is first (Splits), the scan step by step with its trials (Trials), the laws of both (Laws,
-- FirstFit), how many trials a scan can cost (Costs, CostLaws), the call (Call), and its numbers for code (Kinds).
pub mod Call
pub mod CostLaws
pub mod Costs
pub mod FirstFit
pub mod Kinds
pub mod Laws
pub mod Splits
pub mod Trials

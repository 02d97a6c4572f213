-- The machine on strings and numbers: what it holds (State), values of expressions (Expressions), scanning statements (Scanning), one
-- step of each statement (Step), a run (Run). Of these: how work ends (Ends), how a step does (StepEnds), that a memory stays within its
-- bounds (Bounds), that a program whose steps have scopes lacks no return (Nesting), and what READ answered before a cut record got its note
-- (ReadLaws). How many trials a step can cost (Costs), and that it costs no more (CostLaws).
pub mod Bounds
pub mod CostLaws
pub mod Costs
pub mod Ends
pub mod Expressions
pub mod Nesting
pub mod ReadLaws
pub mod Run
pub mod Scanning
pub mod State
pub mod Step
pub mod StepEnds

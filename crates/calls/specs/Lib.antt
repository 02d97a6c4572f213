-- The calls: what each answers and leaves (Calls), demand 3 (Demands), how many trials steps can cost (Costs), what each call promises
-- (Promises), what the program prints (Strigol).
-- Demand 3 proved (DemandLaws): programs in range run (NumberBounds, Invariant), buffers hold the machine (Holding, GivenLaws, StartLaws), calls
-- on them do what it does (StepLaws, ScanLaws, RunLaws), stopped steps change the status alone (StopLaws), by the ways in which calls go (Cases),
-- and a call that does what its definition does keeps its promise (PromiseLaws). No call of an accepted deck's run is turned down before it is
-- over (TurnedDownLaws). No step costs more trials than its scan's size allows, no k steps more than k × 20 × 1,025 (CostLaws).
-- The program of an accepted deck is in range (Accepted): literals are whole (Literals), and what a parser produces is what it mentions
-- (Producing, for ProducingWords, ProducingNumeric, ProducingStrings, ProducingForms); where 8 doesn't apply to names, it doesn't apply to
-- their places (ProducingRoles).
pub mod Accepted
pub mod Calls
pub mod Cases
pub mod CostLaws
pub mod Costs
pub mod DemandLaws
pub mod Demands
pub mod GivenLaws
pub mod Holding
pub mod Invariant
pub mod Literals
pub mod NumberBounds
pub mod Producing
pub mod ProducingForms
pub mod ProducingNumeric
pub mod ProducingRoles
pub mod ProducingStrings
pub mod ProducingWords
pub mod PromiseLaws
pub mod Promises
pub mod RunLaws
pub mod ScanLaws
pub mod StartLaws
pub mod StepLaws
pub mod StopLaws
pub mod Strigol
pub mod TurnedDownLaws

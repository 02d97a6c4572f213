-- What the functions of a step ask for and leave (Clauses), why one is turned down and how a run ended (Endings), and the laws that the proofs cite: of a step
-- (Laws), a run (RunLaws), the promises of both (PromiseLaws).
pub mod Clauses
pub mod Endings
pub mod Laws
pub mod PromiseLaws
pub mod RunLaws

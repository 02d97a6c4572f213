-- Document 01, "What is turned down, and its number": the refusals of a deck by their numbers, 0 for none. Assumes nothing.
use Rattle.std.specs.Prelude.{◌≡◌, ℕ, ◌≤◌, Result, Ok, Err}
use Rattle.std.proofs.Common.{arith}
use Rattle.validation.specs.declared.Refusal.{Refusal}
use Rattle.validation.specs.declared.Refusal.TheVariants.{
  BadLine,
  Misplaced,
  BadForm,
  NameClash,
  Undeclared,
  FillerClash,
  BadNesting,
  TooMany,
  BadLink,
  Recursion,
}

-- Q3 to Q12
abbrev pub refusal_number : Refusal → ℕ
refusal_number BadLine = 3
refusal_number Misplaced = 4
refusal_number BadForm = 5
refusal_number NameClash = 6
refusal_number Undeclared = 7
refusal_number FillerClash = 8
refusal_number BadNesting = 9
refusal_number TooMany = 10
refusal_number BadLink = 11
refusal_number Recursion = 12

-- a judgement's number: 0 of what passes
abbrev pub judged_number : {T : Type 0} → Result T Refusal → ℕ
judged_number (Ok x) = 0
judged_number (Err e) = refusal_number e

-- a refusal's number is one of 3 to 12, so none is told by 0
pub refusal_number_range : (e : Refusal) → (3 ≤ refusal_number e) × (refusal_number e ≤ 12)
refusal_number_range BadLine = (omega arith, omega arith)
refusal_number_range Misplaced = (omega arith, omega arith)
refusal_number_range BadForm = (omega arith, omega arith)
refusal_number_range NameClash = (omega arith, omega arith)
refusal_number_range Undeclared = (omega arith, omega arith)
refusal_number_range FillerClash = (omega arith, omega arith)
refusal_number_range BadNesting = (omega arith, omega arith)
refusal_number_range TooMany = (omega arith, omega arith)
refusal_number_range BadLink = (omega arith, omega arith)
refusal_number_range Recursion = (omega arith, omega arith)

pub refusal_number_some : (e : Refusal) → refusal_number e ≡ 0 → ⊥
refusal_number_some e z = omega (arith, (refusal_number_range e).0)

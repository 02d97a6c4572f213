-- What an answer tells once its case is known. Assumes nothing.
use Rattle.std.specs.Prelude.{Bool, List, ◌≡◌, ℕ, Ok, Err}
use Rattle.std.proofs.Common.{sym, ap, subst, ◌∙◌}
use Rattle.numbers.specs.Text.{Text}
use Rattle.values.specs.Result.{Result, done, stop}
use Rattle.values.specs.Stops.{stop_number}
use Rattle.values.specs.declared.Noted.{Noted}
use Rattle.values.specs.declared.Stop.{Stop}
use Rattle.evaluator.specs.Values.{ValueSpells, ValueSpelt, ValueWritten, Truth, truth_worked}

-- a string expression that was valued, and one that stops
module _ {r : Text} {out : List ℕ} {w : Result (List ℕ)} (a : ValueWritten r out w) where
  pub string-is : {v : Noted ℕ} → r ≡ Ok v → ValueSpells v.value v.notes out w
  string-is e = subst (λ (x : Text). ValueSpelt x out w) e a.spelt

  pub string_stops : {s : Stop} → r ≡ Err s → w ≡ stop (stop_number s)
  string_stops e = subst (λ (x : Text). ValueSpelt x out w) e a.spelt

-- a test that was made, and one that stops
module _ {r : Truth} {w : Result Bool} (a : truth_worked r ≡ w) where
  pub truth_is : {v : Noted Bool} → r ≡ Ok v → w ≡ done v.value v.notes
  truth_is e = sym a ∙ ap truth_worked e

  pub truth_stops : {s : Stop} → r ≡ Err s → w ≡ stop (stop_number s)
  truth_stops e = sym a ∙ ap truth_worked e

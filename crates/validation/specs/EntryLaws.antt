-- A deck is judged by its entries alone: decks with the same entries are judged the same, in one edition and in two that read statements the
-- same. Assumes nothing.
use Rattle.std.specs.Prelude.{Bool, ◌≡◌, eqb}
use Rattle.std.proofs.Math.Bool.{true, false, cond}
use mathlib.Core.List.{List, [], ◌∷◌, ◌++◌}
use Rattle.std.proofs.Math.Option.{Option}
use Rattle.std.proofs.Math.Path.{refl, ap, subst}
use Rattle.std.proofs.Common.{◌∙◌}
use Prim.Native.Nat.{ℕ, suc}
use Rattle.std.proofs.Math.ListN.{length}
use Rattle.base.specs.Edition.{Edition}
use Rattle.cards.specs.Entries.{Entry, skipped, statement, entries}
use Rattle.syntax.specs.Keywords.{leading}
use Rattle.syntax.specs.Program.{Statement, Step}
use Rattle.syntax.specs.Parsing.{Parsed}
use Rattle.syntax.specs.Lexemes.{Resolution}
use Rattle.validation.specs.Environment.{Environment, empty_environment, strings_of, numbers_of, is_one_of, extend}
use Rattle.validation.specs.Refusals.{read_statement, statement_number}
use Rattle.validation.specs.Deck.{unresolved, Judged, passed, mentions_of, judge_from, is11, is12, resolution, step_read, program_steps, program_of}
use Rattle.validation.specs.Deck.{Judgement, accepted, judgement_of, judge_entries, judge}

-- decks with the same entries are judged the same
pub judge-entries : (e : Edition) (deck deck' : List ℕ) → entries e deck ≡ entries e deck' → judge e deck ≡ judge e deck'
unfolding judge
judge-entries e deck deck' q = ap (judge_entries e) q

-- each statement is read the same in both editions
abbrev pub SameReading : Edition → Edition → Type 0
SameReading e e' =
    (is_number : List ℕ → Bool) (at : Resolution) (label : List ℕ) (whole : Bool) (text : List ℕ)
    → read_statement e is_number at label whole text ≡ read_statement e' is_number at label whole text

module _ (e e' : Edition) (reads : SameReading e e') where
  -- so entries get the same number and card
  numbered_same : (k : Environment) (es : List Entry) → judge_from e k es ≡ judge_from e' k es
  unfolding judge_from
  numbered_same k [] = refl
  numbered_same k (skipped card true ∷ es) = numbered_same k es
  numbered_same k (skipped card false ∷ es) = refl
  numbered_same k (statement card sound label whole text ∷ es) =
      let kind = (leading text).kind in
      let number : Parsed (Option Statement) → ℕ = λ r. statement_number k kind sound r in
      let next : Parsed (Option Statement) → Environment = λ r. extend k kind (mentions_of r) in
      let x = read_statement e (is_one_of (numbers_of k)) unresolved label whole text in
      let judged : Parsed (Option Statement) → Judged → Judged = λ r j. elim (eqb (number r) 0) [ true ↦ j | false ↦ Judged.failed (number r) card ] in
      subst (λ (r : Parsed (Option Statement)). judged x (judge_from e (next x) es) ≡ judged r (judge_from e' (next r) es))
      (reads (is_one_of (numbers_of k)) unresolved label whole text) (ap (judged x) (numbered_same (next x) es))

  -- and make the same steps
  steps-same : (k : Environment) (n : ℕ) (es : List Entry) → program_steps e k n es ≡ program_steps e' k n es
  unfolding program_steps
  steps-same k n [] = refl
  steps-same k n (skipped card sound ∷ es) = steps-same k n es
  steps-same k n (statement card sound label whole text ∷ es) =
      let next : List Step → ℕ = λ ss. elim ss [ [] ↦ n | s ∷ ss ↦ suc n ] in
      let x = step_read card (read_statement e (is_one_of (numbers_of k)) (resolution k (suc n)) label whole text) in
      subst (λ (ss : List Step). x ++ program_steps e k (next x) es ≡ ss ++ program_steps e' k (next ss) es)
      (ap (step_read card) (reads (is_one_of (numbers_of k)) (resolution k (suc n)) label whole text)) (ap (λ ss. x ++ ss) (steps-same k (next x) es))

  concluded-same : (es : List Entry) (j : Judged) → judgement_of e es j ≡ judgement_of e' es j
  unfolding judgement_of program_of
  concluded-same es (passed k) =
      ap
      (λ (ss : List Step).
      cond (is11 k) (Judgement.refused 11 0)
      (cond (is12 k) (Judgement.refused 12 0)
      (accepted (record { strings = length (strings_of k); numbers = length (numbers_of k); steps = ss }))))
      (steps-same k 0 es)
  concluded-same es (Judged.failed n card) = refl

  -- decks with the same entries are judged the same in both
  pub judge-same : (deck deck' : List ℕ) → entries e deck ≡ entries e' deck' → judge e deck ≡ judge e' deck'
  unfolding judge judge_entries
  judge-same deck deck' q =
      let es = entries e' deck' in
      ap (judge_entries e) q ∙ ap (judgement_of e es) (numbered_same empty_environment es) ∙ concluded-same es (judge_from e' empty_environment es)

-- How labels, routines and branch fields are read, part by part. Assumes nothing.
use Rattle.std.specs.Prelude.{Option, Some, None, true, false, List, [], ◌∷◌, ◌≡◌, ℕ, drop}
use Rattle.std.proofs.Common.{sym, ◌∙◌}
use Rattle.std.proofs.Math.Path.{refl, ap, ap₂, subst}
use Rattle.base.specs.Current.{current}
use Rattle.base.specs.Lists.{begins, all}
use Rattle.base.specs.Text.{bytes}
use Rattle.syntax.specs.Forms.{label_name, branch}
use Rattle.syntax.specs.Program as Program
use Rattle.syntax.specs.Parsing.{Parsed, broken, ◌>>=◌, expect}
use Rattle.syntax.specs.Lexemes as Words
use Rattle.syntax.specs.Lexemes.{name_as}
use Rattle.symbols.specs.Entries.{entry, name_of, mentions_in}
use Rattle.symbols.specs.EntryLaws.{label_used, routine_used, routine_declared}
use Rattle.symbols.specs.Environment.{places_in}
use Rattle.symbols.specs.ParsingLaws.{succeed_then, expect_then, expect_broken, got_broken, bind_assoc, bind_same}
use Rattle.symbols.specs.declared.Cursor.{Cursor}
use Rattle.symbols.specs.declared.Mentioned.{Mentioned}
use Rattle.symbols.specs.declared.known.Known.{Known}
use Rattle.symbols.specs.declared.tags.Tag.{Tag}
use Rattle.numeric_parser.specs.OperandLaws.{gets_succeed, gets_then, gets_skip, skipped, drop-moved, chosen}
use Rattle.numeric_parser.specs.OperandLaws.{named_by, name_placed, then_broken, name_as_broken}
use Rattle.numeric_parser.specs.Operands.{Gets, NameParsed, Skips, cursor_moved}
use Rattle.card_reader.specs.Keys.{key_of, is_key_byte}
use Rattle.branch_parser.specs.Branches.{target_tag, met_as, target_in, TargetRead, BranchingRead, label_parser, failing_to, targets}
use Rattle.encoding.specs.Meaning.{branch_meaning}
use Rattle.encoding.specs.declared.cells.Branch.{Branch}
use Rattle.branch_parser.specs.declared.Target.{Target}
use Rattle.branch_parser.specs.declared.Target.TheVariants.{Label, Entry, Exit}
use Rattle.branch_parser.specs.Places.{is_number_known, step_to}

-- a broken form
pub target_lost : {text : List ℕ} {known : Known} {m : Mentioned} {c : Cursor} {target : Target} {r : Option (ℕ × Cursor)} {m₁ : Mentioned}
    → r ≡ None → target_in known target (drop c.at text) ≡ broken → TargetRead text known m c target r m₁
target_lost {text} {known} {m} {c} {target} {m₁ = m₁} e h =
    subst (λ z. TargetRead text known m c target z m₁) (sym e) (record { answer = h })

pub branch_lost : {text : List ℕ} {m : Mentioned} {c : Cursor} {x : Parsed Program.Branch} {r : Option (Branch × Cursor)} {m₁ : Mentioned} → r ≡ None
    → x ≡ broken → BranchingRead text m c x r m₁
branch_lost {text} {m} {c} {x} {m₁ = m₁} e h = subst (λ z. BranchingRead text m c x z m₁) (sym e) (record { answer = h })

-- a name that leads to a step, by its tag
target_mentioned : (target : Target) (n : List ℕ) → all is_key_byte n ≡ true
    → mentions_in (entry (key_of n) (target_tag target) ∷ []) 0 [] 0 ≡ met_as target n
target_mentioned Label n a = label_used n a
target_mentioned Entry n a = routine_used n a
target_mentioned Exit n a = routine_declared n a

pub target_got : (known : Known) (target : Target) {text : List ℕ} {m m₁ : Mentioned} {c d : Cursor} {tag : Tag} {key step : ℕ}
    → tag ≡ target_tag target → NameParsed text m c tag key m₁ d → step ≡ step_to known target (name_of key)
    → Gets (λ n. n) step text m c (target_in known target (drop c.at text)) m₁ d
unfolding target_in
target_got known target t n e =
    name_placed (met_as target) (step_to known target) n
    (ap₂ (λ j u. mentions_in (entry j u ∷ []) 0 [] 0) n.keyed t ∙ target_mentioned target n.bytes n.shown)
    (ap (step_to known target) (sym (named_by n)) ∙ sym e)

pub target_broken : (known : Known) (target : Target) (bs : List ℕ) → Words.name bs ≡ broken → target_in known target bs ≡ broken
unfolding target_in
target_broken known target bs e = then_broken _ (name_as_broken (met_as target) bs e)

-- what reads behind the step reads behind the name
pub target_then : (known : Known) (target : Target) (bs : List ℕ) {A : Type 0} (next : ℕ × List ℕ → Parsed A)
    → (target_in known target bs >>= next) ≡ (name_as (met_as target) bs >>= λ (n, rest). next (step_to known target n, rest))
unfolding target_in
target_then known target bs next =
    let name = name_as (met_as target) bs in
    bind_assoc name _ next ∙ bind_same name _ _ (λ n rest. succeed_then (step_to known target n) rest next)

-- a label on failure
module _ (known : Known) (s : ℕ) {text : List ℕ} {m : Mentioned} {c : Cursor} where
  pub failure_got : {f : ℕ} {m₁ : Mentioned} {d : Cursor} → Gets (λ n. n) f text m c (label_parser known (drop c.at text)) m₁ d
      → Gets (λ z. z) (record { success = s; failure = f }) text m c (failing_to known s (drop c.at text)) m₁ d
  unfolding failing_to
  failure_got a =
      gets_succeed _ (λ z. z) _ (record { success = s; failure = a.value }) a refl
      (ap {B = Program.Branch} (λ f. record { success = s; failure = f }) a.made)

pub failure_broken : (known : Known) (s : ℕ) (bs : List ℕ) → label_parser known bs ≡ broken → failing_to known s bs ≡ broken
unfolding failing_to
failure_broken known s bs e = then_broken _ e

-- a branch field behind skipped bytes, and behind another reading
pub branching_skip : {text : List ℕ} {m m₁ : Mentioned} (n : ℕ) {b c : Cursor} {x : Parsed Program.Branch} (r : Option (Branch × Cursor))
    → Skips b n c → BranchingRead text m c x r m₁ → BranchingRead text m b x r m₁
branching_skip n (Some (v, d)) s a = record { answer = gets_skip n s a.answer }
branching_skip n None s a = record { answer = a.answer }

pub branching_then : {A C : Type 0} {f : A → C} {v : C} {text : List ℕ} {m : Mentioned} {c : Cursor} {x : Parsed A} {m₁ : Mentioned} {d : Cursor}
    (next : A × List ℕ → Parsed Program.Branch) (r : Option (Branch × Cursor)) {m₂ : Mentioned}
    → (a : Gets f v text m c x m₁ d) → BranchingRead text m₁ d (next (a.value, drop d.at text)) r m₂
    → BranchingRead text m c (x >>= next) r m₂
branching_then next (Some (v, e)) a b = record { answer = gets_then next (λ z. z) (branch_meaning v) a b.answer }
branching_then next None a b = record { answer = got_broken next a.is b.answer }

-- by the same reading
branching_same : {text : List ℕ} {m : Mentioned} {c : Cursor} {x y : Parsed Program.Branch} {r : Option (Branch × Cursor)} {m₁ : Mentioned} → x ≡ y
    → BranchingRead text m c y r m₁ → BranchingRead text m c x r m₁
branching_same {text} {m} {c} {r = r} {m₁} e a = subst (λ z. BranchingRead text m c z r m₁) (sym e) a

module _ (known : Known) (bs : List ℕ) where
  pub targets_broken : begins (44 ∷ []) bs ≡ false → label_parser known bs ≡ broken
      → targets known bs ≡ broken
  unfolding targets bytes
  targets_broken e h = chosen _ _ e ∙ then_broken _ h

  -- the branch field behind `/`
  branch-is : branch current (is_number_known known) (places_in known) bs
      ≡ (expect (bytes "/") bs >>= λ (_, rest). targets known rest)
  unfolding branch targets failing_to label_name target_in places_in
  branch-is = refl

  pub branch_broken : begins (47 ∷ []) bs ≡ false
      → branch current (is_number_known known) (places_in known) bs ≡ broken
  unfolding bytes
  branch_broken e = branch-is ∙ expect_broken (47 ∷ []) bs _ e

module _ (known : Known) {text : List ℕ} {m : Mentioned} {c : Cursor} where
  -- `/,f`
  pub targets_failing : begins (44 ∷ []) (drop c.at text) ≡ true → (r : Option (Branch × Cursor)) {b : Cursor} {m₁ : Mentioned}
      → b ≡ cursor_moved c 1 → BranchingRead text m b (failing_to known known.next (drop b.at text)) r m₁
      → BranchingRead text m c (targets known (drop c.at text)) r m₁
  unfolding targets bytes
  targets_failing e r moved a =
      branching_same (chosen _ _ e ∙ ap (failing_to known known.next) (sym (drop-moved text c 1 moved))) (branching_skip 1 r (skipped c 1 moved) a)

  module _ (e : begins (44 ∷ []) (drop c.at text) ≡ false) {s : ℕ} {m₁ : Mentioned} {d : Cursor}
      (a : Gets (λ n. n) s text m c (label_parser known (drop c.at text)) m₁ d) where
    -- `/s,f`
    pub targets-both : begins (44 ∷ []) (drop d.at text) ≡ true → (r : Option (Branch × Cursor)) {b : Cursor} {m₂ : Mentioned}
        → b ≡ cursor_moved d 1 → BranchingRead text m₁ b (failing_to known s (drop b.at text)) r m₂
        → BranchingRead text m c (targets known (drop c.at text)) r m₂
    unfolding targets bytes
    targets-both g r moved b =
        branching_same (chosen _ _ e)
        (branching_then _ r a
        (branching_same (chosen _ _ g ∙ ap₂ (failing_to known) a.made (sym (drop-moved text d 1 moved))) (branching_skip 1 r (skipped d 1 moved) b)))

    -- `/s`
    pub targets_success : begins (44 ∷ []) (drop d.at text) ≡ false
        → Gets (λ z. z) (record { success = s; failure = known.next }) text m c (targets known (drop c.at text)) m₁ d
    unfolding targets bytes
    targets_success g =
        let branch : Program.Branch = record { success = s; failure = known.next } in
        subst (λ y. Gets (λ z. z) branch text m c y m₁ d) (sym (chosen _ _ e))
        (gets_succeed _ (λ z. z) _ (record { success = a.value; failure = known.next }) a (chosen _ _ g)
        (ap {B = Program.Branch} (λ i. record { success = i; failure = known.next }) a.made))

  pub branch-targets : begins (47 ∷ []) (drop c.at text) ≡ true → (r : Option (Branch × Cursor)) {b : Cursor} {m₁ : Mentioned} → b ≡ cursor_moved c 1
      → BranchingRead text m b (targets known (drop b.at text)) r m₁
      → BranchingRead text m c (branch current (is_number_known known) (places_in known) (drop c.at text)) r m₁
  unfolding bytes
  branch-targets e r moved a =
      branching_same
      (branch-is known (drop c.at text)
      ∙ expect_then (47 ∷ []) (drop c.at text) (λ (_, rest). targets known rest) e
      ∙ ap (targets known) (sym (drop-moved text c 1 moved)))
      (branching_skip 1 r (skipped c 1 moved) a)

-- The latest routine closed, and the first one that entries declare. Assumes nothing.
use Rattle.std.specs.Prelude.{Bool, true, false, cond, ◌≡◌, refl, Some, None}
use mathlib.Core.List.{List, [], ◌∷◌, ◌++◌, append-nil}
use Rattle.std.proofs.Math.Path.{sym, ap}
use Rattle.std.proofs.Common.{◌∙◌, arith}
use Prim.Native.Nat.{ℕ, zero, suc, ◌+◌, ◌-◌, ◌≤◌, ◌<◌}
use Rattle.std.proofs.Math.Dec.{ltb}
use Rattle.std.proofs.Math.ListN.{length, set, get_or, get_or-eq_default}
use Rattle.std.proofs.lemmas.Grind.{common_steps}
use Rattle.std.proofs.lemmas.List.Quantifiers.{position-Some}
use Rattle.std.proofs.lemmas.List.Sums.{fails_before_first}
use Rattle.std.specs.List.{position, position_or_len}
use borrow.Author.Tests.{ltb-true, ltb-false}
use Rattle.base.specs.Choice.{test_cases}
use Rattle.base.specs.Lists.{keep}
use Rattle.validation.specs.Environment.{Routine, names_for, close_routine}
use Rattle.syntax.specs.Parsing.{for_routine, same_purpose, purpose_number}
use Rattle.symbols.specs.Entries.{entry, name_of, purpose_meaning, tag_purpose, tag_declares, declares_name, mention_of, gather, declared_by}
use Rattle.symbols.specs.From.{from-turn, from_none}
use Rattle.symbols.specs.Environment.{routine_meaning, latest_first}
use Rattle.symbols.specs.EnvironmentLaws.{length-routines, latest_more}
use Rattle.symbols.specs.declared.known.Routine as Opened
use Rattle.symbols.specs.declared.tags.Tag.{Tag}
use Rattle.symbols.specs.declared.tags.Tag.TheVariants.{ProgramDeclared, RoutineDeclared}
use Rattle.name_checks.specs.declared.entries.Entries.{Entries}
use Rattle.name_checks.specs.Shown.{entry_count, key_in, tag_in, entry_in, entries_to, entries_in, entries_left}
use Rattle.statement_checks.specs.NamesFor.{names_append}
use Rattle.statement_checks.specs.Routines.{declares_routine, routine_names, Opens}

-- a routine opened is the latest
pub latest_opened : (rs : List Opened.Routine) (key entry exit : ℕ)
    → latest_first (rs ++ (record { key = key; entry = entry; exit = exit } ∷ []))
    ≡ record { name = name_of key; entry = entry; exit = exit } ∷ latest_first rs
unfolding routine_meaning
latest_opened rs key entry exit = latest_more rs (record { key = key; entry = entry; exit = exit })

-- what stands behind the latest stays
close_append : (exit : ℕ) (xs ys : List Routine) → 0 < length xs → close_routine exit (xs ++ ys) ≡ close_routine exit xs ++ ys
unfolding close_routine
close_append exit [] ys h = absurd (omega arith)
close_append exit (x ∷ xs) ys h = refl

-- the latest routine closed
abbrev closed : Opened.Routine → ℕ → Opened.Routine
closed r exit = record { key = r.key; entry = r.entry; exit = exit }

closed_at : (rs : List Opened.Routine) (n : ℕ) (r : Opened.Routine) (exit : ℕ) → length rs ≡ suc n → r ≡ get_or rs n r
    → latest_first (set rs n (closed r exit)) ≡ close_routine exit (latest_first rs)
unfolding latest_first close_routine routine_meaning
closed_at [] n r exit size is = absurd (omega arith)
closed_at (q ∷ []) zero r exit size is = ap (λ (x : Opened.Routine). routine_meaning (closed x exit) ∷ []) is
closed_at (q ∷ []) (suc n) r exit size is = absurd (omega arith)
closed_at (q ∷ p ∷ rs) zero r exit size is = absurd (omega arith)
closed_at (q ∷ p ∷ rs) (suc n) r exit size is =
    let some = length-routines (p ∷ rs) in
    ap (λ (l : List Routine). l ++ (routine_meaning q ∷ [])) (closed_at (p ∷ rs) n r exit (omega arith) is)
    ∙ sym (close_append exit (latest_first (p ∷ rs)) (routine_meaning q ∷ []) (omega arith))

pub closed_last : (rs : List Opened.Routine) (r : Opened.Routine) (exit : ℕ) → 0 < length rs → r ≡ get_or rs (length rs - 1) r
    → latest_first (set rs (length rs - 1) (closed r exit)) ≡ close_routine exit (latest_first rs)
closed_last rs r exit some is = closed_at rs (length rs - 1) r exit (omega arith) is

pub closed_none : (rs : List Opened.Routine) (exit : ℕ) → length rs ≤ 0 → latest_first rs ≡ close_routine exit (latest_first rs)
unfolding latest_first close_routine
closed_none [] exit h = refl
closed_none (r ∷ rs) exit h = absurd (omega arith)

-- an entry declares a routine by its tag
routine_told : (key : ℕ) (t : Tag) → routine_names (entry key t ∷ []) ≡ cond (declares_routine t) (name_of key ∷ []) []
unfolding routine_names declares_routine gather declared_by declares_name mention_of entry tag_declares tag_purpose purpose_meaning
    names_for keep same_purpose purpose_number
routine_told key RoutineDeclared = refl
routine_told key _ = refl

-- the first routine that entries declare: the entries before it declare none
module _ (m : Entries) where
  abbrev one : ℕ → List (List ℕ)
  one i = routine_names (entry_in m i ∷ [])

  abbrev left : ℕ → List (List ℕ)
  left i = routine_names (entries_left m i)

  routine_turn : (i : ℕ) → i < entry_count m → left i ≡ one i ++ left (i + 1)
  unfolding routine_names gather
  routine_turn i h =
      let x = entry_in m i in
      let behind = gather declared_by (entries_left m (i + 1)) in
      ap routine_names (from-turn (entry_in m) (entry_count m) i h)
      ∙ names_append for_routine (declared_by x) behind
      ∙ ap (λ l. names_for for_routine l ++ left (i + 1)) (sym (append-nil (declared_by x)))

  -- one entry
  here : (i : ℕ) (t : Bool) → declares_routine (tag_in m i) ≡ t → one i ≡ cond t (name_of (key_in m i) ∷ []) []
  here i t e = routine_told (key_in m i) (tag_in m i) ∙ ap (λ b. cond b (name_of (key_in m i) ∷ []) []) e

  routine_pass : (i : ℕ) → i ≤ entry_count m → ((k : ℕ) → k < i → declares_routine (tag_in m k) ≡ false) → left 0 ≡ left i
  routine_pass zero h none = refl
  routine_pass (suc i) h none =
      let next : i + 1 ≡ suc i = omega arith in
      routine_pass i (omega arith) (λ k g. none k (omega arith))
      ∙ routine_turn i (omega arith)
      ∙ ap (λ l. l ++ left (i + 1)) (here i false (none i (omega arith)))
      ∙ ap left next

  whole : routine_names (entries_in m) ≡ left 0
  whole = let all : entry_count m ≡ entry_count m - 0 = omega arith in ap (λ n. routine_names (entries_to m n)) all

  pub routine_first : (i : ℕ) → position declares_routine m.tags.now ≡ Some i → Opens (routine_names (entries_in m)) (Some (key_in m i))
  routine_first i is =
      let at = position-Some declares_routine m.tags.now i ProgramDeclared is in
      let inside : i < entry_count m = omega (arith, at.0, m.same) in
      record {
        others = left (i + 1);
        is =
            whole
            ∙ routine_pass i (omega arith) at.2
            ∙ routine_turn i inside
            ∙ ap (λ l. l ++ left (i + 1)) (here i true at.1);
      }

  -- where no tag declares a routine, no entry does
  no_tag : position declares_routine m.tags.now ≡ None → (k : ℕ) → declares_routine (tag_in m k) ≡ false
  unfolding declares_routine
  no_tag is k =
      let tags = m.tags.now in
      let none : length tags ≤ position_or_len declares_routine tags = grind (arith, common_steps) in
      test_cases (λ t. ltb k (length tags) ≡ t → declares_routine (get_or tags k ProgramDeclared) ≡ false) (ltb k (length tags))
      (λ _ e. let inside = ltb-true k (length tags) e in fails_before_first declares_routine tags k ProgramDeclared (omega arith))
      (λ _ e. ap declares_routine (get_or-eq_default tags ProgramDeclared (ltb-false k (length tags) e))) refl

  pub routine_none : position declares_routine m.tags.now ≡ None → Opens (routine_names (entries_in m)) None
  unfolding routine_names gather names_for keep
  routine_none is =
      record {
        others = [];
        is =
            whole
            ∙ routine_pass (entry_count m) (omega arith) (λ k h. no_tag is k)
            ∙ ap routine_names (from_none (entry_in m) (entry_count m) (entry_count m) (omega arith));
      }

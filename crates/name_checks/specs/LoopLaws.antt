-- What each loop over names, keys and entries finds at a place. Assumes nothing.
use Rattle.std.specs.Prelude.{Bool, true, ◌||◌, ◌≡◌, refl, ℕ, zero, suc, ◌+◌, ◌-◌, ◌≤◌, ◌<◌, eqb, ltb, ◌==◌, get_or, take, length, Some, None}
use Rattle.std.specs.List.{position, position_or_len, list_any, range_with_len}
use Rattle.std.proofs.Math.Bool.{false, cond}
use mathlib.Core.List.{List, [], ◌∷◌, ◌++◌, map, append_assoc}
use Rattle.std.proofs.Common.{sym, ◌∙◌, arith, eq-eqb, ne_eqb, eqb-true, ltb-false}
use Rattle.std.proofs.lemmas.Bool.{eqb-false}
use Rattle.std.proofs.lemmas.List.{get_or-take, length-take-le}
use Rattle.std.proofs.lemmas.List.Quantifiers.{position-Some}
use Rattle.std.proofs.lemmas.List.Sums.{fails_before_first}
use Rattle.std.proofs.Math.Path.{ap}
use Rattle.base.specs.Choice.{test_cases}
use Rattle.base.specs.Lists.{any}
use Rattle.validation.specs.Environment.{same_mention}
use Rattle.validation.specs.Names.{any_append}
use Rattle.syntax.specs.Parsing.{same_purpose, Mention}
use Rattle.name_checks.specs.declared.entries.Entries.{Entries}
use Rattle.symbols.specs.declared.tags.Purpose.{Purpose}
use Rattle.symbols.specs.declared.tags.Purpose.TheVariants.{Program}
use Rattle.symbols.specs.declared.tags.Tag.{Tag}
use Rattle.symbols.specs.Entries.{NameEntry, purpose_meaning, mention_of, declares_name, gather, declared_by}
use Rattle.symbols.specs.From.{values_from, from-turn, from_none, from_more}
use Rattle.symbols.specs.Holding.{mention_in, names_from}
use Rattle.symbols.specs.EnvironmentLaws.{name-same}
use Rattle.name_checks.specs.Shown.{entry_count, entry_in, entries_to, entries_in, entries_left}
use Rattle.name_checks.specs.PairLaws.{paired, pairs, all_paired}
use Rattle.name_checks.specs.Declaring.{again, again_at}
use Rattle.name_checks.specs.Names.{key_mention, standing}

-- a name among those from a place on
abbrev pub stands_from : (keys : List ℕ) (purposes : List Purpose) (n key : ℕ) (p : Purpose) → ℕ → ℕ
stands_from keys purposes n key p i = standing (names_from keys purposes i (n - i)) (key_mention key p)

module _ (keys : List ℕ) (purposes : List Purpose) (n key : ℕ) (p : Purpose) (i : ℕ) where
  module _ (h : i < n) where
    standing-turn : stands_from keys purposes n key p i
        ≡ cond (eqb key (get_or keys i 0))
        (cond (same_purpose (purpose_meaning p) (purpose_meaning (get_or purposes i Program))) 1 2)
        (stands_from keys purposes n key p (i + 1))
    unfolding standing mention_in
    standing-turn =
        ap (λ l. standing l (key_mention key p)) (from-turn (mention_in keys purposes) n i h)
        ∙ ap
        (λ b.
        cond b (cond (same_purpose (purpose_meaning p) (purpose_meaning (get_or purposes i Program))) 1 2)
        (stands_from keys purposes n key p (i + 1)))
        (name-same key (get_or keys i 0))

    pub standing-same : get_or keys i 0 ≡ key → same_purpose (purpose_meaning p) (purpose_meaning (get_or purposes i Program)) ≡ true
        → stands_from keys purposes n key p i ≡ 1
    standing-same e f = standing-turn ∙ rw (eq-eqb key (get_or keys i 0) (sym e), f)

    pub standing-other : get_or keys i 0 ≡ key → same_purpose (purpose_meaning p) (purpose_meaning (get_or purposes i Program)) ≡ false
        → stands_from keys purposes n key p i ≡ 2
    standing-other e f = standing-turn ∙ rw (eq-eqb key (get_or keys i 0) (sym e), f)

    pub standing-next : (get_or keys i 0 ≡ key → ⊥) → stands_from keys purposes n key p i ≡ stands_from keys purposes n key p (i + 1)
    standing-next f = standing-turn ∙ rw (ne_eqb key (get_or keys i 0) (λ e. f (sym e)))

  pub standing_end : n ≤ i → stands_from keys purposes n key p i ≡ 0
  unfolding standing
  standing_end h = ap (λ l. standing l (key_mention key p)) (from_none (mention_in keys purposes) n i h)

pub standing-whole : (keys : List ℕ) (purposes : List Purpose) (n key : ℕ) (p : Purpose)
    → stands_from keys purposes n key p 0 ≡ standing (names_from keys purposes 0 n) (key_mention key p)
standing-whole keys purposes n key p =
    let all : n - 0 ≡ n = omega arith in
    ap (λ m. standing (names_from keys purposes 0 m) (key_mention key p)) all

-- how a name stands by the first place that has its key
module _ (keys : List ℕ) (purposes : List Purpose) (n key : ℕ) (p : Purpose) (inside : n ≤ length keys) where
  abbrev stands : ℕ
  stands = standing (names_from keys purposes 0 n) (key_mention key p)

  -- none up to a place has the key
  passed : (i : ℕ) → i ≤ n → ((j : ℕ) → j < i → (get_or (take n keys) j 0 == key) ≡ false) → stands_from keys purposes n key p i ≡ stands
  passed zero h f = standing-whole keys purposes n key p
  passed (suc i) h f =
      let next : suc i ≡ i + 1 = omega arith in
      let other : get_or keys i 0 ≡ key → ⊥ =
      λ e. eqb-false (get_or (take n keys) i 0) key (f i (omega arith)) (get_or-take n keys i 0 (omega arith) ∙ e)
      in
      ap (stands_from keys purposes n key p) next
      ∙ sym (standing-next keys purposes n key p i (omega arith) other)
      ∙ passed i (omega arith) (λ j l. f j (omega arith))

  size : length (take n keys) ≡ n
  size = length-take-le n keys inside

  not_found : (xs : List ℕ) → position (λ k. k == key) xs ≡ None → length xs ≤ position_or_len (λ k. k == key) xs
  not_found xs =
      let at = position_or_len (λ k. k == key) xs in
      test_cases (λ t. ltb at (length xs) ≡ t → cond t (Some at) None ≡ None → length xs ≤ at) (ltb at (length xs))
      (λ _ _ e. cc) (λ _ h _. ltb-false at (length xs) h) refl

  pub stands_not : position (λ k. k == key) (take n keys) ≡ None → stands ≡ 0
  stands_not e =
      let most = not_found (take n keys) e in
      sym (passed n (omega arith) (λ j h. fails_before_first (λ k. k == key) (take n keys) j 0 (omega (arith, size))))
      ∙ standing_end keys purposes n key p n (omega arith)

  module _ (i : ℕ) (e : position (λ k. k == key) (take n keys) ≡ Some i) where
    found : (i < length (take n keys)) × ((get_or (take n keys) i 0 == key) ≡ true) × ((k : ℕ) → k < i → (get_or (take n keys) k 0 == key) ≡ false)
    found = position-Some (λ k. k == key) (take n keys) i 0 e

    pub stands_inside : i < n
    stands_inside = omega (arith, found.0, size)

    here : get_or keys i 0 ≡ key
    here = sym (get_or-take n keys i 0 stands_inside) ∙ eqb-true (get_or (take n keys) i 0) key found.1

    before : stands_from keys purposes n key p i ≡ stands
    before = passed i (omega (arith, stands_inside)) found.2

    pub stands_same : same_purpose (purpose_meaning p) (purpose_meaning (get_or purposes i Program)) ≡ true → stands ≡ 1
    stands_same f = sym before ∙ standing-same keys purposes n key p i stands_inside here f

    pub stands_other : same_purpose (purpose_meaning p) (purpose_meaning (get_or purposes i Program)) ≡ false → stands ≡ 2
    stands_other f = sym before ∙ standing-other keys purposes n key p i stands_inside here f

-- a test of each entry left, one by one
module _ {A : Type 0} (f : A → Bool) (g : NameEntry → List A) (m : Entries) where
  abbrev pub any_from : ℕ → Bool
  any_from i = any f (gather g (entries_left m i))

  pub any_turn : (i : ℕ) → i < entry_count m → any_from i ≡ (any f (g (entry_in m i)) || any_from (i + 1))
  unfolding gather
  any_turn i h =
      ap (λ es. any f (gather g es)) (from-turn (entry_in m) (entry_count m) i h)
      ∙ any_append f (g (entry_in m i)) (gather g (entries_left m (i + 1)))

  pub any_end : (i : ℕ) → entry_count m ≤ i → any_from i ≡ false
  unfolding gather any
  any_end i h = ap (λ es. any f (gather g es)) (from_none (entry_in m) (entry_count m) i h)

pub ruleset any_steps = (any_turn, any_end)

-- and of all of them, by the pairs of their keys and tags
any_paired : {A : Type 0} (f : A → Bool) (g : NameEntry → List A) (ps : List (ℕ × Tag))
    → list_any (λ p. any f (g (paired p))) ps ≡ any f (gather g (map paired ps))
unfolding gather any
any_paired f g [] = refl
any_paired f g (p ∷ ps) =
    ap (λ b. any f (g (paired p)) || b) (any_paired f g ps) ∙ sym (any_append f (g (paired p)) (gather g (map paired ps)))

pub any_all : {A : Type 0} (f : A → Bool) (g : NameEntry → List A) (m : Entries)
    → list_any (λ p. any f (g (paired p))) (pairs m) ≡ any f (gather g (entries_in m))
any_all f g m = any_paired f g (pairs m) ∙ ap (λ es. any f (gather g es)) (all_paired m)

-- names declared again, one by one
module _ (f : Mention → Bool) (m : Entries) where
  abbrev pub again_from : ℕ → Bool
  again_from i = again f (gather declared_by (entries_left m i))

  again_turn : (i : ℕ) → i < entry_count m → again_from i ≡ (again_at f m i || again_from (i + 1))
  unfolding gather declared_by again again_at
  again_turn i h =
      let x = entry_in m i in
      let behind = gather declared_by (entries_left m (i + 1)) in
      ap (λ es. again f (gather declared_by es)) (from-turn (entry_in m) (entry_count m) i h)
      ∙ test_cases
      (λ t. again f (cond t (mention_of x ∷ []) [] ++ behind)
      ≡ (cond t (f (mention_of x) || any (same_mention (mention_of x)) behind) false || again f behind)) (declares_name x) (λ _. refl) (λ _. refl)

  pub again_end : (i : ℕ) → entry_count m ≤ i → again_from i ≡ false
  unfolding gather again
  again_end i h = ap (λ es. again f (gather declared_by es)) (from_none (entry_in m) (entry_count m) i h)

  again_over : (i n : ℕ) → i + n ≡ entry_count m → list_any (again_at f m) (range_with_len i n) ≡ again_from i
  again_over i zero h = sym (again_end i (omega arith))
  again_over i (suc n) h = ap (λ b. again_at f m i || b) (again_over (i + 1) n (omega arith)) ∙ sym (again_turn i (omega arith))

  pub again_all : list_any (again_at f m) (range_with_len 0 (entry_count m)) ≡ again f (gather declared_by (entries_in m))
  again_all =
      let all : entry_count m - 0 ≡ entry_count m = omega arith in
      again_over 0 (entry_count m) (omega arith) ∙ ap (λ n. again f (gather declared_by (entries_to m n))) all

-- the values up to a place and those from it on
pub from_parts : {A : Type 0} (f : ℕ → A) (n i : ℕ) → i ≤ n → values_from f 0 i ++ values_from f i (n - i) ≡ values_from f 0 n
unfolding values_from
from_parts f n zero h = let all : n - 0 ≡ n = omega arith in ap (values_from f 0) all
from_parts {A} f n (suc i) h =
    let at : 0 + i ≡ i = omega arith in
    let next : suc i ≡ i + 1 = omega arith in
    ap (λ (l : List A). l ++ values_from f (suc i) (n - suc i)) (from_more f 0 i ∙ ap (λ j. values_from f 0 i ++ (f j ∷ [])) at)
    ∙ append_assoc (values_from f 0 i) (f i ∷ []) (values_from f (suc i) (n - suc i))
    ∙ ap (λ j. values_from f 0 i ++ (f i ∷ values_from f j (n - j))) next
    ∙ ap (λ (l : List A). values_from f 0 i ++ l) (sym (from-turn f n i (omega arith)))
    ∙ from_parts f n i (omega arith)

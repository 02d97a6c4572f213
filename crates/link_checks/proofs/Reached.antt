-- Laws of the routines reached by going on: by membership alone, by places, and so 12.
-- Assumes nothing.
use Rattle.std.specs.Prelude.{Bool, true, false, not, ◌&&◌, ◌||◌, List, ◌≡◌, refl, ℕ, zero, suc, ◌≤◌, ◌<◌, eqb, length, get_or}
use Rattle.std.proofs.Common.{inl, inr, sym, ap, ap₂, ◌∙◌, arith}
use Rattle.std.proofs.Math.Bool.{and-eq-true_iff, and-false}
use Rattle.std.proofs.lemmas.Bool.{lt-ltb, le-ltb}
use Rattle.base.specs.Choice.{either_true, neither_true, same_truth}
use Rattle.base.specs.ListLaws.{same_true}
use Rattle.base.specs.Lists.{any, same}
use Rattle.validation.specs.Chains.{executes}
use Rattle.validation.specs.Deck.{is11, is12, executed_by, executed_by_all, reached, with_new}
use Rattle.validation.specs.Environment.{Label, Routine, Use, is_one_of}
use Rattle.validation.specs.Rounds.{named_some, some_named, executed_by_lem, executed_by_all_lem, with_new_lem, executed_passes}
use Rattle.syntax.specs.Parsing.{for_label, for_routine, same_purpose}
use Rattle.symbols.specs.Entries.{name_of, purpose_meaning}
use Rattle.symbols.specs.Holding.{uses_in}
use Rattle.symbols.specs.Environment.{labels_in, routines_in}
use Rattle.symbols.specs.declared.known.Known.{Known}
use Rattle.symbols.specs.declared.known.Symbols.{Symbols}
use Rattle.symbols.specs.declared.tags.Purpose.TheVariants.{Program}
use Rattle.symbols.specs.EnvironmentLaws.{name-same, length-routines}
use Rattle.link_checks.proofs.Losses.{any-routines, any_uses}
use Rattle.link_checks.proofs.Turns.{gone_same}
use Rattle.link_checks.specs.Below.{below, below-same, below_find, below-found, below_few}
use Rattle.link_checks.specs.Held.{held_in}
use Rattle.link_checks.specs.Pairs.{pair_in, routine_count, routine_key, routine_has_key, by_use, use_pairs, executed_in}
use Rattle.link_checks.specs.declared.executed.TheConstants.{PLACES}
use Rattle.link_checks.specs.Rounds.{go_on, gone_on}

-- routines by their places
module _ (count : ℕ) (name : ℕ → List ℕ) where
  -- a name is that of a place; some names are
  abbrev is_placed : List ℕ → Bool
  is_placed x = below (λ i. same x (name i)) count

  abbrev Placed : List (List ℕ) → Type 0
  Placed xs = (x : List ℕ) → is_one_of xs x ≡ true → is_placed x ≡ true

  -- one of these names passes exactly if the name of a place does that is one of them
  any_placed : (f : List ℕ → Bool) (xs : List (List ℕ)) → Placed xs → any f xs ≡ below (λ i. is_one_of xs (name i) && f (name i)) count
  unfolding is_one_of
  any_placed f xs placed =
      same_truth (any f xs) (below (λ i. is_one_of xs (name i) && f (name i)) count)
      (λ e.
      let (x, among, passes) = named_some (λ n. n) f xs e in
      let p = below_find (λ i. same x (name i)) count (placed x among) in
      let here = same_true x (name p.at) p.passes in
      below-found (λ i. is_one_of xs (name i) && f (name i)) count p.at p.under
      (ap (λ (y : List ℕ). is_one_of xs y && f y) (sym here) ∙ ap₂ {C = Bool} ◌&&◌ among passes))
      (λ e.
      let p = below_find (λ i. is_one_of xs (name i) && f (name i)) count e in
      let both = (and-eq-true_iff (is_one_of xs (name p.at)) (f (name p.at))).0 p.passes in
      some_named (λ n. n) f xs (name p.at) both.0 both.1)

  -- every routine executed is declared
  abbrev AllPlaced : List Use → Type 0
  AllPlaced us = any (λ (u : Use). not (is_placed u.name)) us ≡ false

  module _ (us : List Use) (all : AllPlaced us) where
    first_placed : (x : List ℕ) → Placed (executed_by us x)
    first_placed x y e = executed_passes is_placed us all x y (sym (executed_by_lem us x y) ∙ e)

    -- one round more, by membership
    round : (xs : List (List ℕ)) (y : List ℕ) →
        is_one_of (with_new xs (executed_by_all us xs)) y ≡ (is_one_of xs y || any (λ r. executes us r y) xs)
    round xs y = with_new_lem xs (executed_by_all us xs) y ∙ ap (λ t. is_one_of xs y || t) (executed_by_all_lem us xs y)

    next_placed : (xs : List (List ℕ)) → Placed xs → Placed (with_new xs (executed_by_all us xs))
    next_placed xs placed y e =
        elim (either_true (is_one_of xs y) (any (λ r. executes us r y) xs) (sym (round xs y) ∙ e)) [
          | inl h ↦ placed y h
          | inr h ↦ let (r, among, passes) = named_some (λ n. n) (λ r. executes us r y) xs h in executed_passes is_placed us all r y passes
        ]

    abbrev between : ℕ → ℕ → Bool
    between i j = executes us (name i) (name j)

    -- those reached by going on, by places
    reached_placed : (n : ℕ) (xs : List (List ℕ)) → Placed xs → (j : ℕ) →
        is_one_of (reached n us xs) (name j) ≡ gone_on n between count (λ i. is_one_of xs (name i)) j
    unfolding reached gone_on go_on
    reached_placed zero xs placed j = refl
    reached_placed (suc n) xs placed j =
        let xs' = with_new xs (executed_by_all us xs) in
        let turn : (i : ℕ) → is_one_of xs' (name i) ≡ go_on between count (λ k. is_one_of xs (name k)) i =
        λ i. round xs (name i) ∙ ap (λ t. is_one_of xs (name i) || t) (any_placed (λ r. executes us r (name i)) xs placed) in
        reached_placed n xs' (next_placed xs placed) j
        ∙ ap (λ (m : ℕ → Bool). gone_on n between count m j) (λ t i. turn i t)

-- 12, place by place
abbrev pub back_at : (pairs : List (List Bool)) → (rounds i : ℕ) → Bool
back_at pairs rounds i = gone_on rounds (pair_in pairs) PLACES (pair_in pairs i) i

-- the key of a place where a routine stands
key_at : (known : Known) (key i : ℕ) → i < routine_count known → routine_has_key known key i ≡ eqb (routine_key known i) key
unfolding routine_has_key
key_at known key i h = ap (λ t. t && eqb (routine_key known i) key) (lt-ltb i (routine_count known) h)

module _ (s : Symbols) where
  abbrev name : ℕ → List ℕ
  name i = name_of (routine_key s.known i)

  abbrev used : List Use
  used = uses_in for_routine s.uses

  executes-pairs : (i j : ℕ) → i < routine_count s.known → j < routine_count s.known → executes used (name i) (name j) ≡ executed_in s i j
  unfolding executed_in use_pairs by_use uses_in
  executes-pairs i j hi hj =
      let us = s.uses in
      any_uses (λ u. same (name i) u.scope && same (name j) u.name) for_routine us.keys us.scopes us.purposes us.count
      ∙ below-same _ _ us.count
      (λ u _.
      ap₂ {C = Bool} (λ x y. same_purpose for_routine (purpose_meaning (get_or us.purposes u Program)) && (x && y))
      (name-same (routine_key s.known i) (get_or us.scopes u 0) ∙ sym (key_at s.known (get_or us.scopes u 0) i hi))
      (name-same (routine_key s.known j) (get_or us.keys u 0) ∙ sym (key_at s.known (get_or us.keys u 0) j hj)))

  -- a place where none stands executes none
  executes-none : (i j : ℕ) → routine_count s.known ≤ i → executed_in s i j ≡ false
  unfolding executed_in use_pairs by_use routine_has_key below
  executes-none i j h =
      let us = s.uses in
      let none : Bool → ℕ → Bool = λ t u. same_purpose for_routine (purpose_meaning (get_or us.purposes u Program))
      && ((t && eqb (routine_key s.known i) (get_or us.scopes u 0)) && routine_has_key s.known (get_or us.keys u 0) j) in
      ap (λ t. below (none t) us.count) (le-ltb i (routine_count s.known) h)
      ∙ ap (λ f. below f us.count) (λ t u. and-false (same_purpose for_routine (purpose_meaning (get_or us.purposes u Program))) t)
      ∙ sym (below_few (λ _. false) 0 us.count (omega arith) (λ _ _ _. refl))

  all_placed : is11 (held_in s) ≡ false → AllPlaced (routine_count s.known) name used
  unfolding is11 held_in
  all_placed e =
      let crossing : Bool =
      any (λ (u : Use). not (any (λ (l : Label). same u.name l.name && same u.scope l.scope) (labels_in s.known))) (uses_in for_label s.uses) in
      let undeclared : Bool = any (λ (u : Use). not (any (λ (r : Routine). same u.name r.name) (routines_in s.known))) used in
      let parts = neither_true crossing undeclared e in
      ap (λ (f : List ℕ → Bool). any (λ (u : Use). not (f u.name)) used) (λ t x. sym (any-routines (same x) s.known) t) ∙ parts.1

  pub pairs_12 : (pairs : List (List Bool)) → ((i j : ℕ) → pair_in pairs i j ≡ executed_in s i j) → routine_count s.known ≤ PLACES →
      is11 (held_in s) ≡ false → below (back_at pairs (routine_count s.known)) (routine_count s.known) ≡ is12 (held_in s)
  unfolding is12 held_in routines_in
  pairs_12 pairs noted few none =
      let count = routine_count s.known in
      let all = all_placed none in
      let alike : (i j : ℕ) → i < count → j < count → executes used (name i) (name j) ≡ pair_in pairs i j =
      λ i j hi hj. executes-pairs i j hi hj ∙ sym (noted i j) in
      sym
      (any-routines (λ x. is_one_of (reached (length (routines_in s.known)) used (executed_by used x)) x) s.known
      ∙ below-same _ _ count
      (λ i h.
      ap (λ n. is_one_of (reached n used (executed_by used (name i))) (name i)) (length-routines s.known.routines.items)
      ∙ reached_placed count name used all count (executed_by used (name i)) (first_placed count name used all (name i)) i
      ∙ gone_same (λ a b. executes used (name a) (name b)) (pair_in pairs) count PLACES few alike
      (λ a b past _. noted a b ∙ executes-none a b past) count
      (λ j. is_one_of (executed_by used (name i)) (name j)) (pair_in pairs i)
      (λ j hj. executed_by_lem used (name i) (name j) ∙ alike i j h hj) i h))

-- Roles one by one. Assumes nothing.
use Rattle.std.specs.Prelude.{Bool, false, cond, ◌&&◌, ◌||◌, ◌≡◌, refl, ℕ, zero, suc, ◌+◌, ◌-◌, ◌≤◌, ◌<◌, eqb}
use mathlib.Core.List.{List, [], ◌∷◌, ◌++◌}
use Rattle.std.proofs.Common.{sym, ap, ap₂, ◌∙◌, subst, arith, eqb-true}
use Rattle.std.proofs.lemmas.Bool.{eqb-false}
use Rattle.base.specs.Choice.{test_cases}
use Rattle.base.specs.Lists.{same, any}
use Rattle.validation.specs.Environment.{is_one_of}
use Rattle.validation.specs.Refusals.{clashes}
use Rattle.syntax.specs.Parsing.{Role}
use Rattle.name_checks.specs.declared.entries.Entries.{Entries}
use Rattle.symbols.specs.declared.tags.Tag.{Tag}
use Rattle.symbols.specs.declared.tags.Tag.TheVariants.{SoughtUsed, FillerUsed}
use Rattle.symbols.specs.Entries.{entry, name_of, name_from, tag_roles, gather, roles_by}
use Rattle.symbols.specs.From.{from-turn, from_none}
use Rattle.symbols.specs.EnvironmentLaws.{name-same}
use Rattle.name_checks.specs.Shown.{entry_count, key_in, tag_in, entry_in, entries_to, entries_in, entries_left}
use Rattle.name_checks.specs.NameLaws.{eqb_sym}
use Rattle.name_checks.specs.Roles.{is_filler, fillers_before, fillers_have, Unclashed, clash_of, clash_at, searched_behind}

-- a name is among the fillers by its key
fillers_have_lem : (m : Entries) (n key : ℕ) → is_one_of (fillers_before m n) (name_of key) ≡ fillers_have m n key
unfolding is_one_of any fillers_before fillers_have
fillers_have_lem m zero key = refl
fillers_have_lem m (suc n) key =
    let k = key_in m n in
    let rest = fillers_before m n in
    test_cases
    (λ t. any (same (name_of key)) (cond t (name_of k ∷ rest) rest) ≡ ((t && eqb k key) || fillers_have m n key))
    (is_filler (tag_in m n))
    (λ _. ap₂ {C = Bool} ◌||◌ (name-same key k ∙ eqb_sym key k) (fillers_have_lem m n key)) (λ _. fillers_have_lem m n key)

-- one role, and then others
clash_role : (tag : Tag) (key searched : ℕ) (fs : List (List ℕ)) (has : Bool) → is_one_of fs (name_of key) ≡ has → (rs : List Role)
    → clashes (name_of searched) fs (tag_roles tag (name_of key) ++ rs)
    ≡ (clash_of tag has (eqb searched key)
    || clashes (name_of (searched_behind key tag searched)) (cond (is_filler tag) (name_of key ∷ fs) fs) rs)
unfolding clashes tag_roles is_filler clash_of searched_behind
clash_role SoughtUsed key searched fs has h rs = ap (λ b. b || clashes (name_of searched) fs rs) h
clash_role FillerUsed key searched fs has h rs =
    ap (λ b. b || clashes (name_of searched) (name_of key ∷ fs) rs) (name-same searched key)
clash_role _ key searched fs has h rs = refl

-- the roles left, with the key of the reference so far
module _ (m : Entries) where
  abbrev pub clash_from : ℕ → ℕ → Bool
  clash_from searched i = clashes (name_of searched) (fillers_before m i) (gather roles_by (entries_left m i))

  pub clash_turn : (searched i : ℕ) → i < entry_count m
      → clash_from searched i ≡ (clash_at m i searched || clash_from (searched_behind (key_in m i) (tag_in m i) searched) (i + 1))
  unfolding gather roles_by entry clash_at fillers_before
  clash_turn searched i h =
      let k = key_in m i in
      let fs = fillers_before m i in
      let rs = gather roles_by (entries_left m (i + 1)) in
      let next : suc i ≡ i + 1 = omega arith in
      ap (λ es. clashes (name_of searched) fs (gather roles_by es)) (from-turn (entry_in m) (entry_count m) i h)
      ∙ clash_role (tag_in m i) k searched fs (fillers_have m i k) (fillers_have_lem m i k) rs
      ∙ ap (λ j. clash_at m i searched || clashes (name_of (searched_behind k (tag_in m i) searched)) (fillers_before m j) rs) next

  pub clash_end : (searched i : ℕ) → entry_count m ≤ i → clash_from searched i ≡ false
  unfolding gather clashes
  clash_end searched i h = ap (λ es. clashes (name_of searched) (fillers_before m i) (gather roles_by es)) (from_none (entry_in m) (entry_count m) i h)

  pub clash_whole : clash_from 0 0 ≡ clashes [] [] (gather roles_by (entries_in m))
  unfolding name_of name_from fillers_before
  clash_whole =
      let all : entry_count m - 0 ≡ entry_count m = omega arith in
      ap (λ n. clashes [] [] (gather roles_by (entries_to m n))) all

-- a filler among those up to a place
pub fillers_turn : (m : Entries) (key i : ℕ) → 0 < i
    → fillers_have m i key ≡ ((is_filler (tag_in m (i - 1)) && eqb (key_in m (i - 1)) key) || fillers_have m (i - 1) key)
unfolding fillers_have
fillers_turn m key i h =
    let is : i ≡ suc (i - 1) = omega arith in
    ap (λ n. fillers_have m n key) is

-- one role more that doesn't clash
pub unclashed_more : (m : Entries) (i searched : ℕ) → Unclashed m i → clash_at m i searched ≡ false → Unclashed m (i + 1)
unfolding clash_at clash_of
unclashed_more m i searched clear none j h role =
    let Free : ℕ → Type 0 = λ n. tag_in m n ≡ SoughtUsed → fillers_have m n (key_in m n) ≡ false in
    test_cases (λ t. eqb j i ≡ t → fillers_have m j (key_in m j) ≡ false) (eqb j i)
    (λ _ e. subst Free (sym (eqb-true j i e)) (λ r. here r none) role)
    (λ _ e.
    let other : j ≡ i → ⊥ = eqb-false j i e in
    clear j (omega (arith, h, other)) role) refl
  where
    here : tag_in m i ≡ SoughtUsed → clash_at m i searched ≡ false → fillers_have m i (key_in m i) ≡ false
    here r = rw r (λ e. e)

pub ruleset clash_steps = (clash_turn, clash_end, clash_whole, unclashed_more)

-- Laws of the lists that the symbol table holds, and of 11 by keys.
-- Assumes nothing.
use Rattle.std.specs.Prelude.{Bool, true, false, cond, not, ◌&&◌, ◌||◌, ◌==◌, List, [], ◌∷◌, ◌++◌, map, ◌≡◌, refl, ℕ, zero, suc, ◌+◌, get_or}
use Rattle.std.specs.List.{list_any}
use Rattle.std.proofs.Common.{sym, ap, ap₂, ◌∙◌, arith}
use Rattle.std.proofs.Math.Bool.{or_comm, or-false}
use Rattle.std.proofs.lemmas.Bool.Decides.{nat_tests}
use Rattle.base.specs.Lists.{any, same}
use Rattle.syntax.specs.Parsing as Parsing
use Rattle.syntax.specs.Parsing.{for_label, for_routine, same_purpose, purpose_number}
use Rattle.validation.specs.Deck.{is11}
use Rattle.validation.specs.Environment as Environment
use Rattle.validation.specs.Environment.{Use}
use Rattle.validation.specs.Names.{any_append}
use Rattle.symbols.specs.Entries.{name_of, purpose_meaning}
use Rattle.symbols.specs.Environment.{label_meaning, labels_in, routine_meaning, latest_first, routines_in, has_routine}
use Rattle.symbols.specs.EnvironmentLaws.{name-same}
use Rattle.symbols.specs.Holding.{uses_from, uses_in}
use Rattle.symbols.specs.declared.known.Known.{Known}
use Rattle.symbols.specs.declared.known.Routine.{Routine}
use Rattle.symbols.specs.declared.known.Symbols.{Symbols}
use Rattle.symbols.specs.declared.tags.Purpose.{Purpose}
use Rattle.symbols.specs.declared.tags.Purpose.TheVariants.{Program, Label, Routine as Executed, Number, String}
use Rattle.link_checks.proofs.Slices.{any_below}
use Rattle.link_checks.specs.Below.{below, below-same, below-from, below-start, below_either}
use Rattle.link_checks.specs.Held.{held_in}
use Rattle.link_checks.specs.Lost.{has_label, is_lost}
use Rattle.link_checks.specs.Pairs.{no_routine, routine_count, routine_key}

-- some element passes a test: of a list made of another, and of the latest first
any-map : {A B : Type 0} (g : B → Bool) (h : A → B) (xs : List A) → any g (map h xs) ≡ list_any (λ x. g (h x)) xs
unfolding any
any-map g h [] = refl
any-map g h (x ∷ xs) = ap (λ t. g (h x) || t) (any-map g h xs)

any_latest : (g : Environment.Routine → Bool) (rs : List Routine) → any g (latest_first rs) ≡ list_any (λ r. g (routine_meaning r)) rs
unfolding any latest_first
any_latest g [] = refl
any_latest g (r ∷ rs) =
    any_append g (latest_first rs) (routine_meaning r ∷ [])
    ∙ ap₂ {C = Bool} ◌||◌ (any_latest g rs) (or-false (g (routine_meaning r)))
    ∙ or_comm (list_any (λ q. g (routine_meaning q)) rs) (g (routine_meaning r))

pub any-routines : (g : List ℕ → Bool) (known : Known)
    → any (λ (r : Environment.Routine). g r.name) (routines_in known) ≡ below (λ i. g (name_of (routine_key known i))) (routine_count known)
unfolding routines_in routine_meaning
any-routines g known =
    any_latest (λ (r : Environment.Routine). g r.name) known.routines.items
    ∙ any_below (λ (r : Routine). g (name_of r.key)) no_routine known.routines.items

-- some use of a purpose passes a test
abbrev use_at : (keys scopes : List ℕ) → ℕ → Use
use_at keys scopes i = record { name = name_of (get_or keys i 0); scope = name_of (get_or scopes i 0) }

any-one : (g : Use → Bool) (t : Bool) (u : Use) (us : List Use) → any g (cond t (u ∷ []) [] ++ us) ≡ ((t && g u) || any g us)
unfolding any
any-one g true u us = refl
any-one g false u us = refl

module _ (g : Use → Bool) (p : Parsing.Purpose) (keys scopes : List ℕ) (purposes : List Purpose) where
  abbrev passes : ℕ → Bool
  passes i = same_purpose p (purpose_meaning (get_or purposes i Program)) && g (use_at keys scopes i)

  uses_from_lem : (i n : ℕ) → any g (uses_from p keys scopes purposes i n) ≡ below (λ j. passes (i + j)) n
  unfolding any uses_from below
  uses_from_lem i zero = refl
  uses_from_lem i (suc n) =
      any-one g (same_purpose p (purpose_meaning (get_or purposes i Program))) (use_at keys scopes i) (uses_from p keys scopes purposes (suc i) n)
      ∙ ap (λ t. passes i || t) (uses_from_lem (suc i) n)
      ∙ below-from passes i n

  pub any_uses : (n : ℕ) → any g (uses_from p keys scopes purposes 0 n) ≡ below passes n
  any_uses n = uses_from_lem 0 n ∙ below-start passes n

-- a name among the labels and routines declared
module _ (known : Known) where
  tested : (key k : ℕ) → same (name_of key) (name_of k) ≡ (k == key)
  tested key k = name-same key k ∙ grind (arith, nat_tests)

  label_declared : (key scope : ℕ)
      → any (λ (l : Environment.Label). same (name_of key) l.name && same (name_of scope) l.scope) (labels_in known) ≡ has_label known key scope
  unfolding labels_in label_meaning
  label_declared key scope =
      any-map (λ (l : Environment.Label). same (name_of key) l.name && same (name_of scope) l.scope) label_meaning known.labels.items
      ∙ (λ t. list_any (λ l. ap₂ {C = Bool} ◌&&◌ (tested key l.key) (tested scope l.scope) t) known.labels.items)

  routine_declared : (key : ℕ) → any (λ (r : Environment.Routine). same (name_of key) r.name) (routines_in known) ≡ has_routine known key
  unfolding routines_in routine_meaning
  routine_declared key =
      any_latest (λ (r : Environment.Routine). same (name_of key) r.name) known.routines.items
      ∙ (λ t. list_any (λ r. tested key r.key t) known.routines.items)

  -- a use of each purpose
  lost_use : (key scope : ℕ) (p : Purpose)
      → ((same_purpose for_label (purpose_meaning p) && not (has_label known key scope))
      || (same_purpose for_routine (purpose_meaning p) && not (has_routine known key)))
      ≡ is_lost known key scope p
  unfolding same_purpose purpose_number purpose_meaning
  lost_use key scope Program = refl
  lost_use key scope Label = or-false (not (has_label known key scope))
  lost_use key scope Executed = refl
  lost_use key scope Number = refl
  lost_use key scope String = refl

-- 11, use by use
abbrev lost_at : Symbols → ℕ → Bool
lost_at s i = is_lost s.known (get_or s.uses.keys i 0) (get_or s.uses.scopes i 0) (get_or s.uses.purposes i Program)

pub lost_11 : (s : Symbols) → below (lost_at s) s.uses.count ≡ is11 (held_in s)
unfolding is11 held_in uses_in
lost_11 s =
    let known = s.known in
    let us = s.uses in
    let astray : Use → Bool =
    λ u. not (any (λ (l : Environment.Label). same u.name l.name && same u.scope l.scope) (labels_in known)) in
    let undeclared : Use → Bool = λ u. not (any (λ (r : Environment.Routine). same u.name r.name) (routines_in known)) in
    sym
    (ap₂ {C = Bool} ◌||◌ (any_uses astray for_label us.keys us.scopes us.purposes us.count)
    (any_uses undeclared for_routine us.keys us.scopes us.purposes us.count)
    ∙ below_either _ _ us.count
    ∙ below-same _ _ us.count
    (λ i _.
    let p = purpose_meaning (get_or us.purposes i Program) in
    ap₂ {C = Bool} (λ x y. (same_purpose for_label p && not x) || (same_purpose for_routine p && not y))
    (label_declared known (get_or us.keys i 0) (get_or us.scopes i 0)) (routine_declared known (get_or us.keys i 0))
    ∙ lost_use known (get_or us.keys i 0) (get_or us.scopes i 0) (get_or us.purposes i Program)))

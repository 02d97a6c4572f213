-- Where 8 does not apply to the names of a pattern, it does not apply to their places. Assumes nothing.
use Rattle.std.specs.Prelude.{true, false, ◌≡◌, ℕ}
use Rattle.std.proofs.Math.Bool.{not}
use mathlib.Core.List.{List, [], ◌∷◌, ◌++◌, map, append_assoc}
use Rattle.std.proofs.Math.Path.{refl, ap}
use Rattle.std.proofs.Common.{sym, ◌∙◌, subst}
use Rattle.std.proofs.Math.Dec.{eqb}
use borrow.Author.Tests.{ne_eqb, eqb-false}
use Rattle.base.specs.Choice.{neither_true, both_pass}
use Rattle.base.specs.Lists.{same, any}
use Rattle.validation.specs.Environment.{is_one_of}
use Rattle.validation.specs.Refusals.{clashes}
use Rattle.syntax.specs.Placed.{Each}
use Rattle.syntax.specs.Program.{literal, part, string_call, PatternElement, value, free_filler, fixed_filler}
use Rattle.syntax.specs.Parsing.{for_string, Mention, Role, sought, filler}
use Rattle.syntax.specs.Lexemes.{Resolution}
use Rattle.encoding.specs.Rules.{named_by, is_among, roles_hold}
use Rattle.calls.specs.ProducingStrings.{AllPlay}

-- known strings of other names have other places
abbrev pub Distinct : (Mention → Type 0) → Resolution → Type 0
Distinct K at =
    (m n : List ℕ) → K (record { purpose = for_string; name = m }) → K (record { purpose = for_string; name = n }) → same n m ≡ false
    → eqb (at.string m) (at.string n) ≡ false

-- names whose strings are known
abbrev PlacesKnown : (Mention → Type 0) → List ℕ → Type 0
PlacesKnown K n = K (record { purpose = for_string; name = n })

module _ (K : Mention → Type 0) (at : Resolution) (distinct : Distinct K at) where
  -- a name that is none of some has a place that is none of theirs
  others_apart : (n : List ℕ) → PlacesKnown K n → (fs : List (List ℕ)) → Each (PlacesKnown K) fs → is_one_of fs n ≡ false
      → any (eqb (at.string n)) (map at.string fs) ≡ false
  unfolding is_one_of any Each
  others_apart n known [] all h = refl
  others_apart n known (f ∷ fs) all h =
      let parts = neither_true (same n f) (is_one_of fs n) h in
      let other = distinct f n all.0 known parts.0 in
      let apart = ne_eqb (at.string n) (at.string f) (λ q. eqb-false (at.string f) (at.string n) other (sym q)) in
      rw (apart, others_apart n known fs all.1 parts.1)

  -- where 8 does not apply, the roles of a pattern's elements hold
  module _ (r : List ℕ) (reference : PlacesKnown K r) where
    -- roles that are known stand before the others
    moved : (own known rest rs more : List Role) → rs ≡ own ++ rest → own ≡ known → (fs : List (List ℕ))
        → clashes r fs (rs ++ more) ≡ false → clashes r fs (known ++ (rest ++ more)) ≡ false
    moved own known rest rs more e g fs h =
        let whole : rs ++ more ≡ known ++ (rest ++ more) = ap (λ l. l ++ more) (e ∙ ap (λ l. l ++ rest) g) ∙ append_assoc known rest more in
        subst (λ l. clashes r fs l ≡ false) whole h

    pub roles_hold_lem : (fs : List (List ℕ)) → Each (PlacesKnown K) fs → (xs : List PatternElement) (rs more : List Role) → AllPlay K at xs rs
        → clashes r fs (rs ++ more) ≡ false → roles_hold (at.string r) (map at.string fs) xs ≡ true
    unfolding roles_hold clashes is_among named_by Each
    roles_hold_lem fs known [] rs more plays h = refl
    roles_hold_lem fs known (value (literal w) ∷ xs) rs more (own, rest, e, nothing, plays) h =
        roles_hold_lem fs known xs rest more plays (moved own [] rest rs more e nothing fs h)
    roles_hold_lem fs known (value (string_call n m) ∷ xs) rs more (own, rest, e, nothing, plays) h =
        roles_hold_lem fs known xs rest more plays (moved own [] rest rs more e nothing fs h)
    roles_hold_lem fs known (value (part p) ∷ xs) rs more (own, rest, e, (n, place, named, role), plays) h =
        let parts = neither_true (is_one_of fs n) (clashes r fs (rest ++ more)) (moved own (sought n ∷ []) rest rs more e role fs h) in
        let apart = ap (λ j. any (eqb j) (map at.string fs)) place ∙ others_apart n named fs known parts.0 in
        both_pass (ap not apart) (roles_hold_lem fs known xs rest more plays parts.1)
    roles_hold_lem fs known (free_filler s ∷ xs) rs more (own, rest, e, (n, place, named, role), plays) h =
        let parts = neither_true (same r n) (clashes r (n ∷ fs) (rest ++ more)) (moved own (filler n ∷ []) rest rs more e role fs h) in
        let apart = ap (λ j. eqb j (at.string r)) place ∙ distinct n r named reference parts.0 in
        both_pass (ap not apart)
        (ap (λ j. roles_hold (at.string r) (j ∷ map at.string fs) xs) place
        ∙ roles_hold_lem (n ∷ fs) (named, known) xs rest more plays parts.1)
    roles_hold_lem fs known (fixed_filler s l ∷ xs) rs more (own, rest, e, (n, place, named, role), plays) h =
        let parts = neither_true (same r n) (clashes r (n ∷ fs) (rest ++ more)) (moved own (filler n ∷ []) rest rs more e role fs h) in
        let apart = ap (λ j. eqb j (at.string r)) place ∙ distinct n r named reference parts.0 in
        both_pass (ap not apart)
        (ap (λ j. roles_hold (at.string r) (j ∷ map at.string fs) xs) place
        ∙ roles_hold_lem (n ∷ fs) (named, known) xs rest more plays parts.1)

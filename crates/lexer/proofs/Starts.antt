-- What stands at a place of a text, near its end and behind it. Assumes nothing.
use denote.Ref.{Bor}
use mathlib.Core.Bool.{Bool, true, false, ◌&&◌, and-false, and-true}
use mathlib.Core.List.{List, [], ◌∷◌}
use mathlib.Core.Path.{◌≡◌, refl, sym, ap, ap₂, ◌∙◌}
use Prim.Native.Nat.{ℕ, ◌≤◌, ◌<◌}
use native.Mathlib.Omega.{arith}
use lib.Dec.{eqb, ltb}
use lib.ListN.{length, drop, get_or, drop_of_length-le}
use lib.Seq.{drop-cons}
use borrow.Author.Tests.{eq-eqb, eqb-true, le-ltb, ltb-true, ltb-false}
use Rattle.std.specs.List.{slice_get, starts_with}
use Rattle.std.proofs.lemmas.Option.{none-some, same_Some}
use Rattle.std.specs.Option.{is_some, option_copied, option_eq, option_map, unwrap_or}
use Rattle.std.specs.Prelude.{Option, Some, None}
use Rattle.base.specs.Choice.{same_truth}
use Rattle.base.specs.Lists.{begins, same}

-- a byte in front of a word and of a text
begins_cons : (w b : ℕ) (ws bs : List ℕ) → begins (w ∷ ws) (b ∷ bs) ≡ (eqb b w && begins ws bs)
unfolding begins same
begins_cons w b ws bs = refl

-- a word of a byte or more does not begin the empty text
begins_none : (w : ℕ) (ws : List ℕ) → begins (w ∷ ws) [] ≡ false
unfolding begins same
begins_none w ws = refl

-- the empty word begins every text
begins_empty : (bs : List ℕ) → begins [] bs ≡ true
unfolding begins same
begins_empty bs = refl

eqb_turned : (a b : ℕ) → eqb a b ≡ eqb b a
eqb_turned a b = same_truth (eqb a b) (eqb b a) (λ e. eq-eqb b a (sym (eqb-true a b e))) (λ e. eq-eqb a b (sym (eqb-true b a e)))

-- what the library says of a word that begins a text
pub starts_begins : (ws bs : List ℕ) → starts_with eqb bs ws ≡ begins ws bs
starts_begins [] bs = sym (begins_empty bs)
starts_begins (w ∷ ws) [] = sym (begins_none w ws)
starts_begins (w ∷ ws) (b ∷ bs) =
    ap₂ {C = Bool} ◌&&◌ (eqb_turned w b) (starts_begins ws bs) ∙ sym (begins_cons w b ws bs)

-- what it says of the byte at a place
pub mark_stands : (text : List ℕ) (at : ℕ) (r : Option (Bor ℕ)) (m : Bor ℕ) → is_some r ≡ ltb at (length text)
    → unwrap_or (option_map {T = Bor ℕ} {U = ℕ} (λ x. x.now) r) 0 ≡ get_or text at 0
    → option_eq (λ (x : Bor ℕ) (y : Bor ℕ). eqb x.now y.now) r (Some m) ≡ begins (m.now ∷ []) (drop at text)
mark_stands text at None m inside e =
    let over : length text ≤ at = ltb-false at (length text) (sym inside) in
    sym (ap (begins (m.now ∷ [])) (drop_of_length-le text over) ∙ begins_none m.now [])
mark_stands text at (Some x) m inside e =
    let within : at < length text = ltb-true at (length text) (sym inside) in
    ap (λ (b : ℕ). eqb b m.now) e ∙ rw (drop-cons text at 0, begins_cons, begins_empty, and-true)

-- where the first bytes differ, no word of a byte or more begins the text
pub firsts_differ : (n : ℕ) (bs ws : List ℕ) (r t : Option (Bor ℕ)) → option_copied r ≡ slice_get bs 0 → option_copied t ≡ slice_get ws 0
    → option_eq (λ (x : Bor ℕ) (y : Bor ℕ). eqb x.now y.now) r t ≡ false → (begins ws bs && ltb n (length ws)) ≡ false
firsts_differ n bs [] r t e f d = ap (λ u. begins [] bs && u) (le-ltb n 0 (omega arith)) ∙ and-false (begins [] bs)
firsts_differ n [] (w ∷ ws) r t e f d = ap (λ u. u && ltb n (length (w ∷ ws))) (begins_none w ws)
firsts_differ n (b ∷ bs) (w ∷ ws) None t e f d = absurd (none-some b e)
firsts_differ n (b ∷ bs) (w ∷ ws) (Some x) None e f d = absurd (none-some w f)
firsts_differ n (b ∷ bs) (w ∷ ws) (Some x) (Some y) e f d =
    let other : eqb b w ≡ false = ap₂ eqb (sym (same_Some x.now b e)) (sym (same_Some y.now w f)) ∙ d in
    ap (λ u. u && ltb n (length (w ∷ ws))) (begins_cons w b ws bs ∙ ap (λ u. u && begins ws bs) other)

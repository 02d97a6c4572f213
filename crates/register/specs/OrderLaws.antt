-- Words in letter order, and the currencies of lines: each once, in order, and no other. Assumes nothing.
use Rattle.std.specs.Prelude.{Bool, ◌&&◌, ◌||◌, ◌⊎◌, ◌≡◌, eqb, ltb}
use Rattle.std.proofs.Math.Bool.{true, false}
use Rattle.std.proofs.lemmas.Bool.{false≢true, eqb-false}
use Rattle.std.proofs.Common.{true≢false, inl, inr, ⊎_elim, sym, ◌∙◌, eq-eqb, eqb-true, le-ltb, lt-ltb, ltb-false, ltb-true}
use mathlib.Core.List.{List, [], ◌∷◌}
use Rattle.std.proofs.Math.Path.{refl, ap}
use Prim.Native.Nat.{ℕ, suc, ◌<◌, ◌≤◌}
use native.Mathlib.Omega.{arith}
use Rattle.std.proofs.Math.ListN.{length}
use Rattle.base.specs.Choice.{both_pass, both_true, cond_cases, either_true, neither_true, test_cases, true_behind}
use Rattle.base.specs.ListLaws.{all_imply, same_true}
use Rattle.base.specs.Lists.{all, any, same}
use Rattle.register.specs.Line.{currency_of}
use Rattle.register.specs.Register.{Lines}
use Rattle.register.specs.Report.{letter_before, currencies, in_letter_order, in_order, is_one_word}

-- One word before another: its first letter is lower, or it is the same and the rest stands before the rest.
before-first : (a b : ℕ) (u v : List ℕ) → letter_before (a ∷ u) (b ∷ v) ≡ true → (a < b) ⊎ ((a ≡ b) × (letter_before u v ≡ true))
unfolding letter_before
before-first a b u v e =
    ⊎_elim (λ h. inl (ltb-true a b h))
    (λ h. let parts = both_true (eqb a b) (letter_before u v) h in inr (eqb-true a b parts.0, parts.1))
    (either_true (ltb a b) (eqb a b && letter_before u v) e)

before-lower : (a b : ℕ) (u v : List ℕ) → a < b → letter_before (a ∷ u) (b ∷ v) ≡ true
unfolding letter_before
before-lower a b u v h = rw (letter_before, lt-ltb a b h)

before-rest : (a b : ℕ) (u v : List ℕ) → a ≡ b → letter_before u v ≡ true → letter_before (a ∷ u) (b ∷ v) ≡ true
unfolding letter_before
before-rest a b u v is h = true_behind (ltb a b) (eqb a b && letter_before u v) (both_pass (eq-eqb a b is) h)

-- So words are in an order: none stands before itself, one before a second before a third stands before that, and of two different words one stands
-- before the other.
pub before_itself : (w : List ℕ) → letter_before w w ≡ false
unfolding letter_before
before_itself [] = refl
before_itself (a ∷ w) = rw (letter_before, le-ltb a a (omega arith), eq-eqb a a refl, before_itself w)

pub before-third : (u v w : List ℕ) → letter_before u v ≡ true → letter_before v w ≡ true → letter_before u w ≡ true
unfolding letter_before
before-third [] [] w h g = absurd (false≢true h)
before-third [] (b ∷ v) [] h g = absurd (false≢true g)
before-third [] (b ∷ v) (c ∷ w) h g = refl
before-third (a ∷ u) [] w h g = absurd (false≢true h)
before-third (a ∷ u) (b ∷ v) [] h g = absurd (false≢true g)
before-third (a ∷ u) (b ∷ v) (c ∷ w) h g =
    ⊎_elim
    (λ less. ⊎_elim (λ more. before-lower a c u w (omega arith)) (λ is. before-lower a c u w (omega (arith, is.0))) (before-first b c v w g))
    (λ is. ⊎_elim (λ more. before-lower a c u w (omega (arith, is.0)))
    (λ as-well. before-rest a c u w (is.0 ∙ as-well.0) (before-third u v w is.1 as-well.1)) (before-first b c v w g))
    (before-first a b u v h)

pub before-other : (u v : List ℕ) → same u v ≡ false → letter_before u v ≡ false → letter_before v u ≡ true
unfolding letter_before same
before-other [] [] s n = absurd (true≢false s)
before-other [] (b ∷ v) s n = absurd (true≢false n)
before-other (a ∷ u) [] s n = refl
before-other (a ∷ u) (b ∷ v) s n =
    let parts = neither_true (ltb a b) (eqb a b && letter_before u v) n in
    let least = ltb-false a b parts.0 in
    test_cases (λ t. (eqb a b ≡ t) → (t && same u v) ≡ false → (t && letter_before u v) ≡ false → letter_before (b ∷ v) (a ∷ u) ≡ true) (eqb a b)
    (λ _ is rest later. before-rest b a v u (sym (eqb-true a b is)) (before-other u v rest later))
    (λ _ other _ _. before-lower b a v u (let differ = eqb-false a b other in omega arith))
    refl s parts.1

-- A word entered among others.
module _ (word : List ℕ) where
  -- what passes a test with the others
  pub entered_all : (p : List ℕ → Bool) → p word ≡ true → (ws : List (List ℕ)) → all p ws ≡ true → all p (in_letter_order word ws) ≡ true
  unfolding in_letter_order all
  entered_all p passes [] a = both_pass passes refl
  entered_all p passes (w ∷ ws) a =
      let parts = both_true (p w) (all p ws) a in
      cond_cases (λ l. all p l ≡ true) (same word w) (λ _. a)
      (λ _. cond_cases (λ l. all p l ≡ true) (letter_before word w) (λ _. both_pass passes a)
      (λ _. both_pass parts.0 (entered_all p passes ws parts.1)))

  -- they stay in order
  pub entered_order : (ws : List (List ℕ)) → in_order ws ≡ true → in_order (in_letter_order word ws) ≡ true
  unfolding in_letter_order in_order all
  entered_order [] o = refl
  entered_order (w ∷ ws) o =
      let parts = both_true (all (letter_before w) ws) (in_order ws) o in
      cond_cases (λ l. in_order l ≡ true) (same word w) (λ _. o)
      (λ other. cond_cases (λ l. in_order l ≡ true) (letter_before word w)
      (λ first. both_pass (both_pass first (all_imply (letter_before w) (letter_before word) (λ x h. before-third word w x first h) ws parts.0)) o)
      (λ later. both_pass (entered_all (letter_before w) (before-other word w other later) ws parts.0) (entered_order ws parts.1)))

  -- it is among them then, and no other is that wasn't
  pub entered_any : (p : List ℕ → Bool) (ws : List (List ℕ)) → any p (in_letter_order word ws) ≡ (p word || any p ws)
  unfolding in_letter_order any
  entered_any p [] = refl
  entered_any p (w ∷ ws) =
      cond_cases (λ l. any p l ≡ (p word || any p (w ∷ ws))) (same word w)
      (λ is. twice (p w) (any p ws) ∙ ap (λ x. p x || any p (w ∷ ws)) (sym (same_true word w is)))
      (λ _. cond_cases (λ l. any p l ≡ (p word || any p (w ∷ ws))) (letter_before word w) (λ _. refl)
      (λ _. ap (λ t. p w || t) (entered_any p ws) ∙ exchanged (p w) (p word) (any p ws)))
    where
      twice : (a b : Bool) → (a || b) ≡ (a || (a || b))
      twice true b = refl
      twice false b = refl

      exchanged : (a b c : Bool) → (a || (b || c)) ≡ (b || (a || c))
      exchanged true true c = refl
      exchanged true false c = refl
      exchanged false b c = refl

  pub entered_few : (ws : List (List ℕ)) → length (in_letter_order word ws) ≤ suc (length ws)
  unfolding in_letter_order
  entered_few [] = omega arith
  entered_few (w ∷ ws) =
      let rest = entered_few ws in
      cond_cases (λ (l : List (List ℕ)). length l ≤ suc (suc (length ws))) (same word w) (λ _. omega arith)
      (λ _. cond_cases (λ (l : List (List ℕ)). length l ≤ suc (suc (length ws))) (letter_before word w) (λ _. omega arith) (λ _. omega arith))

-- W10.4 The currencies of lines: in letter order, those of the lines and no other, and no more than there are lines.
pub currencies_order : (held : Lines) → in_order (currencies held) ≡ true
unfolding currencies in_order
currencies_order [] = refl
currencies_order (line ∷ held) = entered_order (currency_of line) (currencies held) (currencies_order held)

pub currencies-any : (p : List ℕ → Bool) (held : Lines) → any p (currencies held) ≡ any (λ line. p (currency_of line)) held
unfolding currencies any
currencies-any p [] = refl
currencies-any p (line ∷ held) = entered_any (currency_of line) p (currencies held) ∙ ap (λ t. p (currency_of line) || t) (currencies-any p held)

pub currencies-among : (c : List ℕ) (held : Lines) → is_one_word c (currencies held) ≡ any (λ line. same (currency_of line) c) held
unfolding is_one_word
currencies-among c held = currencies-any (λ w. same w c) held

pub currencies_few : (held : Lines) → length (currencies held) ≤ length held
unfolding currencies
currencies_few [] = omega arith
currencies_few (line ∷ held) =
    let rest = currencies_few held in
    omega (arith, entered_few (currency_of line) (currencies held))

-- what holds of each line's currency
pub currencies-all : (p : List ℕ → Bool) (held : Lines) → all (λ line. p (currency_of line)) held ≡ true → all p (currencies held) ≡ true
unfolding currencies all
currencies-all p [] a = refl
currencies-all p (line ∷ held) a =
    let parts = both_true (p (currency_of line)) (all (λ line. p (currency_of line)) held) a in
    entered_all (currency_of line) p parts.0 (currencies held) (currencies-all p held parts.1)

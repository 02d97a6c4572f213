-- What a parser produces: a predicate of the value and of its mentions, kept from parser to parser, with whole literals in the bytes left.
-- Assumes nothing.
use Rattle.std.specs.Prelude.{Bool, true, false, ◌≡◌, refl, ℕ, ◌+◌, ◌≤◌, length, drop}
use mathlib.Core.List.{List, [], ◌∷◌, ◌++◌}
use Rattle.std.proofs.Common.{sym, ap, zero-add, arith}
use Rattle.std.proofs.Math.Path.{subst}
use Rattle.base.specs.Limits as Limits
use Rattle.base.specs.Lists.{all, begins, total}
use Rattle.syntax.specs.Placed.{Each, each_part}
use Rattle.syntax.specs.Parsing as Reading
use Rattle.syntax.specs.Parsing.{Mention, Role, Mentions, Parsed, got, broken, mentioning, succeed, expect, end_of_text, ◌>>=◌}
use Rattle.calls.specs.Literals.{LiteralsWhole, is_unquoted, whole-behind}

-- what was mentioned, but for the names: how many elements, items and literal bytes, and the roles of names in a SCAN
pub record View : Type 0 where
  pub elements : ℕ
  pub items : ℕ
  pub literals : ℕ
  pub roles : List Role

abbrev pub view : (elements items literals : ℕ) → List Role → View
view n i l rs = record { elements = n; items = i; literals = l; roles = rs }

-- the view of what was mentioned
unfoldable pub view_of : Mentions → View
view_of m = view (total (λ n. n) m.rows) m.items m.literals m.roles

abbrev pub no_view : View
no_view = view 0 0 0 []

-- one view behind the other
abbrev pub join : View → View → View
join s t = view (s.elements + t.elements) (s.items + t.items) (s.literals + t.literals) (s.roles ++ t.roles)

-- a total goes over two lists
pub total-append : {A : Type 0} (f : A → ℕ) (xs ys : List A) → total f (xs ++ ys) ≡ total f xs + total f ys
unfolding total
total-append f [] ys = omega arith
total-append f (x ∷ xs) ys = rw (total-append f xs ys) (omega arith)

-- the view of two readings
view-both : (m n : Mentions) → view_of (Reading.merge_mentions m n) ≡ join (view_of m) (view_of n)
unfolding view_of Reading.merge_mentions
view-both m n =
    ap (λ k. view k (m.items + n.items) (m.literals + n.literals) (m.roles ++ n.roles)) (total-append (λ n. n) m.rows n.rows)

-- nothing mentioned changes no view
nothing_join : (t : View) → join no_view t ≡ t
nothing_join t =
    λ i.
    record {
      elements = zero-add t.elements i;
      items = zero-add t.items i;
      literals = zero-add t.literals i;
      roles = t.roles;
    }

-- names mentioned that K holds of, and expressions of no more elements than they may have
pub record LiteralsFit (K : Mention → Type 0) (m : Mentions) : Type 0 where
  pub used : Each K m.used
  pub rows : Each (λ n. n ≤ Limits.row_elements) m.rows

-- two readings fit where each does
fit_parts : {K : Mention → Type 0} (m n : Mentions) → LiteralsFit K (Reading.merge_mentions m n) → LiteralsFit K m × LiteralsFit K n
unfolding Reading.merge_mentions
fit_parts {K} m n h =
    let used = each_part K m.used n.used h.used in
    let rows = each_part (λ k. k ≤ Limits.row_elements) m.rows n.rows h.rows in
    (record { used = used.0; rows = rows.0 }, record { used = used.1; rows = rows.1 })

-- a reading leaves whole literals, and P holds of its value and its view where what was mentioned fits
pub data Produces (K : Mention → Type 0) {A : Type 0} (P : A → View → Type 0) : Parsed A → Type 0 where
  produces : {a : A} {m : Mentions} {rest : List ℕ} → LiteralsWhole rest → (LiteralsFit K m → P a (view_of m)) → Produces K P (got a m rest)
  breaks : Produces K P broken

-- nothing but names was mentioned, and P holds of the value
abbrev pub ProducesPlainly : {A : Type 0} → (A → Type 0) → A → View → Type 0
ProducesPlainly P a s = (s ≡ no_view) × P a

module _ {K : Mention → Type 0} where
  -- what follows from P
  pub produces_map : {A : Type 0} {P Q : A → View → Type 0} {x : Parsed A} → ((a : A) (s : View) → P a s → Q a s) → Produces K P x → Produces K Q x
  produces_map f (produces {a} {m} whole p) = produces whole (λ h. f a (view_of m) (p h))
  produces_map f breaks = breaks

  -- what is read behind something mentioned
  pub produces_mentioning : {A : Type 0} {R : Type 0} {P : A → View → Type 0} {x : Parsed A} (m : Mentions) → (LiteralsFit K m → R)
      → Produces K (λ a t. R → P a (join (view_of m) t)) x → Produces K P (mentioning m x)
  unfolding mentioning
  produces_mentioning {P} m r (produces {a} {m = n} whole p) =
      produces whole (λ h.
      let parts = fit_parts m n h in
      subst (P a) (sym (view-both m n)) (p parts.1 (r parts.0)))
  produces_mentioning m r breaks = breaks

  -- what is read next, knowing what was yielded before it
  pub produces_next : {A B : Type 0} {P : A → View → Type 0} {Q : B → View → Type 0} {x : Parsed A} (f : A × List ℕ → Parsed B) → Produces K P x
      → ((a : A) (rest : List ℕ) → LiteralsWhole rest → Produces K (λ b t. (s : View) → P a s → Q b (join s t)) (f (a, rest)))
      → Produces K Q (x >>= f)
  unfolding ◌>>=◌
  produces_next {P} f (produces {a} {m} {rest} whole p) next =
      produces_mentioning m p (produces_map (λ b t q r. q (view_of m) r) (next a rest whole))
  produces_next f breaks next = breaks

  -- what is read behind nothing but names
  pub produces_after : {A B : Type 0} {P : A → Type 0} {Q : B → View → Type 0} {x : Parsed A} (f : A × List ℕ → Parsed B) → Produces K (ProducesPlainly P) x
      → ((a : A) (rest : List ℕ) → LiteralsWhole rest → Produces K (λ b t. P a → Q b t) (f (a, rest))) → Produces K Q (x >>= f)
  produces_after {P} {Q} f h next =
      produces_next f h (λ a rest whole.
      produces_map (λ b t q s p. subst (λ s. Q b (join s t)) (sym p.0) (subst (Q b) (sym (nothing_join t)) (q p.1)))
      (next a rest whole))

  -- a value that takes no bytes
  pub produces_succeed : {A : Type 0} {P : A → View → Type 0} (a : A) (bs : List ℕ) → LiteralsWhole bs → P a no_view → Produces K P (succeed a bs)
  unfolding succeed Reading.no_mentions view_of total
  produces_succeed a bs whole p = produces whole (λ _. p)

  -- either way a test goes
  pub produces_if : {A : Type 0} {P : A → View → Type 0} (test : Bool) (x y : Parsed A) → (test ≡ true → Produces K P x)
      → (test ≡ false → Produces K P y)
      → Produces K P (elim test [ true ↦ x | false ↦ y ])
  produces_if true x y h g = h refl
  produces_if false x y h g = g refl

  -- bytes that must stand here
  pub produces_expect : (w bs : List ℕ) → all is_unquoted w ≡ true → LiteralsWhole bs → Produces K (ProducesPlainly (λ _. Unit {0})) (expect w bs)
  unfolding expect
  produces_expect w bs plain whole =
      produces_if (begins w bs) _ _ (λ h. produces_succeed tt (drop (length w) bs) (whole-behind w bs plain h whole) (refl, tt)) (λ _. breaks)

  -- the end of a statement
  pub produces_end : (bs : List ℕ) → LiteralsWhole bs → Produces K (ProducesPlainly (λ _. Unit {0})) (end_of_text bs)
  unfolding end_of_text
  produces_end [] whole = produces_succeed tt [] whole (refl, tt)
  produces_end (b ∷ bs) whole = breaks

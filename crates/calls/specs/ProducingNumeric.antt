-- What a numeric expression produces: as many items as were mentioned, all in range, that add one number and never keep more than 64 waiting.
-- Assumes nothing.
use Rattle.std.specs.Prelude.{true, ◌||◌, ◌≡◌, ℕ, zero, suc, ◌+◌, ◌*◌, ◌-◌, ◌≤◌, ltb, drop}
use mathlib.Core.List.{List, [], ◌∷◌, ◌++◌, append_assoc, append-nil}
use Rattle.std.proofs.Math.Path.{refl, ap, subst}
use Rattle.std.proofs.Common.{sym, ◌∙◌, ltb-true, lt-ltb, le-leb}
use native.Mathlib.Omega.{arith}
use Rattle.std.proofs.Math.ListN.{length, length-append}
use Rattle.base.specs.Choice.{both_pass}
use Rattle.base.specs.ListLaws.{all_append}
use Rattle.base.specs.Edition.{Edition}
use Rattle.base.specs.Lists.{all, begins, total}
use Rattle.base.specs.Text.{bytes}
use Rattle.cards.specs.Bytes.{quote}
use Rattle.syntax.specs.Numeric.{deepest, sum_operator, product_operator, leading_sign, expression_at, more_terms, term_at, more_factors}
use Rattle.syntax.specs.Numeric.{factor_at, fuel_for, numeric_expression}
use Rattle.syntax.specs.Placed.{Sizes, PlacedBy}
use Rattle.syntax.specs.Program.{Operator, Sign, positive, negative, Item, operator, sign}
use Rattle.syntax.specs.Parsing.{Mention, one_item}
use Rattle.syntax.specs.Lexemes.{Resolution, is_sign}
use Rattle.calls.specs.Literals.{LiteralsWhole, whole-behind}
use Rattle.encoding.specs.Rules.{most_waiting, balanced, operand_holds, item_holds}
use Rattle.calls.specs.Producing.{View, view, view_of, join, Produces, produces, breaks}
use Rattle.calls.specs.Producing.{produces_map, produces_next, produces_after, produces_succeed, produces_if, produces_expect}
use Rattle.calls.specs.ProducingWords.{produces_plain_factor}

-- Items at this depth of parentheses that add one number to those known, where there is room for c more besides two for each depth
-- further in.
abbrev Adds : (depth c : ℕ) → List Item → Type 0
Adds d c x =
    (known : ℕ) (is : List Item) → known + c ≤ 32 + 2 * d → balanced (suc known) is ≡ true → balanced known (x ++ is) ≡ true

-- items that need less room
adds_more : (d b c : ℕ) (x : List Item) → b ≤ c → Adds d b x → Adds d c x
adds_more d b c x h f known is room g = f known is (omega arith) g

-- both sides and their operator behind them
adds_operator : (d c : ℕ) (is t : List Item) (o : Operator) → Adds d (suc c) is → Adds d c t
    → Adds d (suc c) (is ++ (t ++ (operator o ∷ [])))
unfolding balanced
adds_operator d c is t o f g known js room h =
    let less : suc known ≡ suc (suc known) - 1 = omega arith in
    let last : balanced (suc (suc known)) (operator o ∷ js) ≡ true =
    both_pass (le-leb 2 (suc (suc known)) (omega arith)) (subst (λ n. balanced n js ≡ true) less h) in
    let side : balanced (suc known) (t ++ (operator o ∷ js)) ≡ true = g (suc known) (operator o ∷ js) (omega arith) last in
    subst (λ ks. balanced known ks ≡ true)
    (sym (append_assoc is (t ++ (operator o ∷ [])) js ∙ ap (λ ks. is ++ ks) (append_assoc t (operator o ∷ []) js)))
    (f known (t ++ (operator o ∷ js)) room side)

-- signs that a number may have behind it
abbrev Signs : List Item → Type 0
Signs x = (known : ℕ) (is : List Item) → balanced (suc known) is ≡ true → balanced (suc known) (x ++ is) ≡ true

-- a sign is one of them
one_sign : (s : Sign) → Signs (sign s ∷ [])
unfolding balanced
one_sign s n is h = both_pass (le-leb 1 (suc n) (omega arith)) h

-- a term with its sign behind it
adds_sign : (d c : ℕ) (t x : List Item) → Adds d c t → Signs x → Adds d c (t ++ x)
adds_sign d c t x f g known is room h =
    subst (λ ks. balanced known ks ≡ true) (sym (append_assoc t x is)) (f known (x ++ is) room (g known is h))

abbrev ItemsHold : Edition → Sizes → List Item → Type 0
ItemsHold e z x = all (item_holds e z.strings z.numbers z.steps) x ≡ true

-- items of an expression, all mentioned and in range, that add a number
abbrev Adding : Edition → Sizes → (depth c : ℕ) → List Item → View → Type 0
Adding e z d c x s = (s.elements ≡ 0) × (s.items ≡ length x) × (s.literals ≡ 0) × ItemsHold e z x × Adds d c x

-- items that go on from such as add a number
abbrev Longer : Edition → Sizes → (depth c : ℕ) → List Item → List Item → View → Type 0
Longer e z d c is js s =
    (s.elements ≡ 0)
    × (length js ≡ length is + s.items)
    × (s.literals ≡ 0)
    × (ItemsHold e z is → ItemsHold e z js)
    × (Adds d c is → Adds d c js)

-- one item was mentioned
abbrev OneItem : Operator → View → Type 0
OneItem o s = s ≡ view 0 1 0 []

module _ {K : Mention → Type 0} where
  produces_sum_operator : (bs : List ℕ) → LiteralsWhole bs → Produces K OneItem (sum_operator bs)
  unfolding sum_operator one_item view_of total bytes all quote
  produces_sum_operator bs whole =
      produces_if (begins (bytes "+") bs) _ _ (λ h. produces (whole-behind (bytes "+") bs refl h whole) (λ _. refl)) (λ _.
      produces_if (begins (bytes "-") bs) _ _ (λ h. produces (whole-behind (bytes "-") bs refl h whole) (λ _. refl)) (λ _. breaks))

  produces_product_operator : (bs : List ℕ) → LiteralsWhole bs → Produces K OneItem (product_operator bs)
  unfolding product_operator one_item view_of total bytes all quote
  produces_product_operator bs whole =
      produces_if (begins (bytes "*") bs) _ _ (λ h. produces (whole-behind (bytes "*") bs refl h whole) (λ _. refl)) (λ _.
      produces_if (begins (bytes "/") bs) _ _ (λ h. produces (whole-behind (bytes "/") bs refl h whole) (λ _. refl)) (λ _. breaks))

module _ {K : Mention → Type 0} {z : Sizes} (e : Edition) {at : Resolution} (placed : PlacedBy K z at) where
  -- a sign is an item
  produces_leading_sign : (bs : List ℕ) → LiteralsWhole bs
      → Produces K (λ x s. (s.elements ≡ 0) × (s.items ≡ length x) × (s.literals ≡ 0) × ItemsHold e z x × Signs x) (leading_sign bs)
  unfolding leading_sign one_item view_of total bytes all quote item_holds balanced
  produces_leading_sign bs whole =
      produces_if (begins (bytes "+") bs) _ _
      (λ h. produces (whole-behind (bytes "+") bs refl h whole) (λ _. (refl, refl, refl, refl, one_sign positive)))
      (λ _. produces_if (begins (bytes "-") bs) _ _
      (λ h. produces (whole-behind (bytes "-") bs refl h whole) (λ _. (refl, refl, refl, refl, one_sign negative)))
      (λ _. produces_succeed [] bs whole (refl, refl, refl, refl, λ n is g. g)))

  -- an operator with its right side goes on from such as add a number
  longer_operator : (d c : ℕ) (is t js : List Item) (o : Operator) (s r u : View) → s ≡ view 0 1 0 [] → Adding e z d c t r
      → Longer e z d (suc c) (is ++ (t ++ (operator o ∷ []))) js u → Longer e z d (suc c) is js (join s (join r u))
  unfolding all item_holds
  longer_operator d c is t js o s r u one right more =
      let items : s.items ≡ 1 = ap (λ s. s.items) one in
      let elements : s.elements ≡ 0 = ap (λ s. s.elements) one in
      let literals : s.literals ≡ 0 = ap (λ s. s.literals) one in (
        omega arith,
        omega (arith, length-append is (t ++ (operator o ∷ [])), length-append t (operator o ∷ [])),
        omega arith,
        λ h. more.3 (all_append _ is (t ++ (operator o ∷ [])) h (all_append _ t (operator o ∷ []) right.3 refl)),
        λ f. more.4 (adds_operator d c is t o f right.4),
      )

  mutual
    unfolding expression_at bytes all quote item_holds operand_holds one_item view_of total balanced most_waiting deepest

    yields_expression_at : (k d : ℕ) → d ≤ deepest → (bs : List ℕ) → LiteralsWhole bs → Produces K (Adding e z d 3) (expression_at e at k d bs)
    yields_expression_at zero d deep bs whole = breaks
    yields_expression_at (suc k) d deep bs whole =
        produces_next _ (produces_leading_sign bs whole) (λ x rest whole.
        produces_next _ (yields_term_at k d deep rest whole) (λ t rest whole.
        produces_map
        (λ js u more r term s signs. (
          omega arith,
          omega (arith, length-append t x),
          omega arith,
          more.3 (all_append _ t x term.3 signs.3),
          more.4 (adds_sign d 3 t x (adds_more d 2 3 t (omega arith) term.4) signs.4),
        ))
        (yields_more_terms k d deep (t ++ x) rest whole)))

    yields_more_terms : (k d : ℕ) → d ≤ deepest → (is : List Item) (bs : List ℕ) → LiteralsWhole bs
        → Produces K (Longer e z d 3 is) (more_terms e at k d is bs)
    yields_more_terms zero d deep is bs whole = breaks
    yields_more_terms (suc k) d deep is bs whole =
        produces_if (is_sign bs) _ _
        (λ _. produces_next _ (produces_sum_operator bs whole) (λ o rest whole.
        produces_next _ (yields_term_at k d deep rest whole) (λ t rest whole.
        produces_map (λ js u more r right s one. longer_operator d 2 is t js o s r u one right more)
        (yields_more_terms k d deep (is ++ (t ++ (operator o ∷ []))) rest whole))))
        (λ _. produces_succeed is bs whole (refl, omega arith, refl, λ h. h, λ f. f))

    yields_term_at : (k d : ℕ) → d ≤ deepest → (bs : List ℕ) → LiteralsWhole bs → Produces K (Adding e z d 2) (term_at e at k d bs)
    yields_term_at zero d deep bs whole = breaks
    yields_term_at (suc k) d deep bs whole =
        produces_next _ (yields_factor_at k d deep bs whole) (λ f rest whole.
        produces_map
        (λ js u more s factor.
        (omega arith, omega arith, omega arith, more.3 factor.3, more.4 (adds_more d 1 2 f (omega arith) factor.4)))
        (yields_more_factors k d deep f rest whole))

    yields_more_factors : (k d : ℕ) → d ≤ deepest → (is : List Item) (bs : List ℕ) → LiteralsWhole bs
        → Produces K (Longer e z d 2 is) (more_factors e at k d is bs)
    yields_more_factors zero d deep is bs whole = breaks
    yields_more_factors (suc k) d deep is bs whole =
        produces_if (begins (bytes "*") bs || begins (bytes "/") bs) _ _
        (λ _. produces_next _ (produces_product_operator bs whole) (λ o rest whole.
        produces_next _ (yields_factor_at k d deep rest whole) (λ f rest whole.
        produces_map (λ js u more r right s one. longer_operator d 1 is f js o s r u one right more)
        (yields_more_factors k d deep (is ++ (f ++ (operator o ∷ []))) rest whole))))
        (λ _. produces_succeed is bs whole (refl, omega arith, refl, λ h. h, λ f. f))

    yields_factor_at : (k d : ℕ) → d ≤ deepest → (bs : List ℕ) → LiteralsWhole bs → Produces K (Adding e z d 1) (factor_at e at k d bs)
    yields_factor_at zero d deep bs whole = breaks
    yields_factor_at (suc k) d deep bs whole =
        produces_if (begins (bytes "(") bs) _ _
        (λ h. produces_if (ltb d deepest) _ _
        (λ g. produces_next _ (yields_expression_at k (suc d) (ltb-true d deepest g) (drop 1 bs) (whole-behind (bytes "(") bs refl h whole))
        (λ x rest whole.
        produces_after _ (produces_expect (bytes ")") rest refl whole) (λ _ rest whole.
        produces_succeed x rest whole (λ _ s inner.
        (omega arith, omega arith, omega arith, inner.3, λ known is room. inner.4 known is (omega arith))))))
        (λ _. breaks))
        (λ _. produces_after _ (produces_plain_factor e placed bs whole) (λ a rest whole.
        produces whole (λ _ h.
        (refl, refl, refl, both_pass h refl, λ known is room g. both_pass (lt-ltb known most_waiting (omega arith)) g))))

  -- a numeric expression has the items mentioned, holds, and is balanced
  pub produces_numeric_expression : (bs : List ℕ) → LiteralsWhole bs
      → Produces K (λ x s. (s.elements ≡ 0) × (s.items ≡ length x) × (s.literals ≡ 0) × ItemsHold e z x × (balanced 0 x ≡ true))
      (numeric_expression e at bs)
  unfolding numeric_expression fuel_for balanced
  produces_numeric_expression bs whole =
      produces_map
      (λ x s h. (h.0, h.1, h.2, h.3, subst (λ is. balanced 0 is ≡ true) (append-nil x) (h.4 0 [] (omega arith) refl)))
      (yields_expression_at (4 * length bs + 4) 0 (omega arith) bs whole)

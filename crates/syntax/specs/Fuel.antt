-- Numeric expressions with no fuel: the readers leave fewer bytes than they got, so that from fuel_for on fuel changes nothing, and each
-- is what its form says by the readers of the forms in it. Assumes nothing.
use Rattle.std.specs.Prelude.{Bool, true, false, ◌&&◌, ◌||◌, List, [], ◌∷◌, ◌++◌, ◌≡◌, ℕ, zero, suc, ◌+◌, ◌*◌, ◌≤◌, ◌<◌, ltb, take, drop, get_or}
use Rattle.std.proofs.Math.Bool.{and-eq-true_iff}
use Rattle.std.proofs.Math.Path.{refl, sym}
use Rattle.std.proofs.Common.{◌∙◌, arith}
use Rattle.std.proofs.Math.Dec.{leb}
use Rattle.std.proofs.Math.ListN.{length, length-drop}
use borrow.Author.Tests.{leb-true}
use Rattle.base.specs.Choice.{test_cases, cond_cases}
use Rattle.base.specs.Edition.{Edition}
use Rattle.base.specs.ListLaws.{begins_room}
use Rattle.base.specs.Lists.{begins}
use Rattle.base.specs.Text.{bytes}
use Rattle.cards.specs.Bytes.{is_letter, is_digit, is_name_byte}
use Rattle.syntax.specs.Program.{Item, operand, operator}
use Rattle.syntax.specs.Parsing.{Role, Mentions, usage, for_number, for_string, one_item, Parsed, got, broken, ◌>>=◌, mentioning, succeed, expect}
use Rattle.syntax.specs.Lexemes.{
  Resolution,
  run_length,
  name_length,
  name,
  name_as,
  decimal_from,
  no_role,
  is_sign,
  unsigned,
  number_name,
  bound,
  part_of,
  string_name,
  part_name,
}
use Rattle.syntax.specs.Numeric.{deepest, sum_operator, product_operator, leading_sign, called_or_number, plain_factor}
use Rattle.syntax.specs.Numeric.{expression_at, more_terms, term_at, more_factors, factor_at, fuel_for, numeric_expression}

-- two readings that are the same and leave fewer than n bytes
pub data Agree {A : Type 0} (n : ℕ) : Parsed A → Parsed A → Type 0 where
  both : {a : A} {m : Mentions} {rest : List ℕ} → length rest < n → Agree n (got a m rest) (got a m rest)
  neither : Agree n broken broken

-- a reading that leaves fewer than n bytes
abbrev pub LeavesFewer : {A : Type 0} → ℕ → Parsed A → Type 0
LeavesFewer n x = Agree n x x

module _ {A : Type 0} where
  pub agree_same : {n : ℕ} {x y : Parsed A} → Agree n x y → x ≡ y
  agree_same (both h) = refl
  agree_same neither = refl

  agree_wider : {n k : ℕ} {x y : Parsed A} → n ≤ k → Agree n x y → Agree k x y
  agree_wider {k} le (both {rest} h) = let l : length rest < k = omega arith in both l
  agree_wider le neither = neither

  agree-mentioning : {n : ℕ} {x y : Parsed A} (m : Mentions) → Agree n x y → Agree n (mentioning m x) (mentioning m y)
  unfolding mentioning
  agree-mentioning m (both h) = both h
  agree-mentioning m neither = neither

  -- either way a test goes
  agree_if : {n : ℕ} (test : Bool) (x x' y y' : Parsed A) → (test ≡ true → Agree n x x') → (test ≡ false → Agree n y y')
      → Agree {A = A} n (elim test [ true ↦ x | false ↦ y ]) (elim test [ true ↦ x' | false ↦ y' ])
  agree_if true x x' y y' h g = h refl
  agree_if false x x' y y' h g = g refl

-- what is read next agrees where it does for each value and for the bytes left
agree-next : {A B : Type 0} {n k : ℕ} {x y : Parsed A} (f g : A × List ℕ → Parsed B) → Agree n x y
    → ((a : A) (rest : List ℕ) → length rest < n → Agree k (f (a, rest)) (g (a, rest))) → Agree k (x >>= f) (y >>= g)
unfolding ◌>>=◌
agree-next f g (both {a} {m} {rest} h) next = agree-mentioning m (next a rest h)
agree-next f g neither next = neither

-- a run is no longer than the bytes
pub run_within : (f : ℕ → Bool) (bs : List ℕ) → run_length f bs ≤ length bs
unfolding run_length
run_within f [] = omega arith
run_within f (b ∷ bs) =
    test_cases (λ t. elim t [ true ↦ suc (run_length f bs) | false ↦ 0 ] ≤ suc (length bs)) (f b) (λ e. omega (arith, run_within f bs))
    (λ e. omega arith)

-- nor is a name
pub name_within : (bs : List ℕ) → name_length bs ≤ length bs
unfolding name_length
name_within bs =
    cond_cases (λ n. n ≤ length bs) (is_letter (get_or bs 0 0) && leb (run_length is_name_byte bs) 8) (λ _. run_within is_name_byte bs)
    (λ _. omega arith)

-- bytes that begin with a word of one or more are one or more
begins_some : (w : ℕ) (ws bs : List ℕ) → begins (w ∷ ws) bs ≡ true → length (drop 1 bs) < length bs
begins_some w ws bs e = omega (arith, begins_room (w ∷ ws) bs e, length-drop 1 bs)

-- ---- what each reader leaves, in the order of the definitions

leaves-expect : (w bs : List ℕ) → LeavesFewer (suc (length bs)) (expect w bs)
unfolding expect succeed
leaves-expect w bs =
    let fewer : length (drop (length w) bs) < suc (length bs) = omega (arith, length-drop (length w) bs) in
    agree_if (begins w bs) _ _ _ _ (λ _. both fewer) (λ _. neither)

leaves-name : (bs : List ℕ) → LeavesFewer (length bs) (name bs)
unfolding name succeed
leaves-name bs =
    agree_if (leb 1 (name_length bs)) _ _ _ _
    (λ e. both (omega (arith, length-drop (name_length bs) bs, name_within bs, leb-true 1 (name_length bs) e))) (λ _. neither)

leaves-name_as : (meets : List ℕ → Mentions) (bs : List ℕ) → LeavesFewer (length bs) (name_as meets bs)
unfolding name_as
leaves-name_as meets bs = agree-next _ _ (leaves-name bs) (λ _ _ h. both h)

leaves-leading_sign : (bs : List ℕ) → LeavesFewer (suc (length bs)) (leading_sign bs)
unfolding leading_sign succeed
leaves-leading_sign bs =
    let fewer : length (drop 1 bs) < suc (length bs) = omega (arith, length-drop 1 bs) in
    agree_if (begins (bytes "+") bs) _ _ _ _ (λ _. both fewer)
    (λ _. agree_if (begins (bytes "-") bs) _ _ _ _ (λ _. both fewer) (λ _. both (omega arith)))

leaves-sum_operator : (bs : List ℕ) → LeavesFewer (length bs) (sum_operator bs)
unfolding sum_operator bytes
leaves-sum_operator bs =
    agree_if (begins (bytes "+") bs) _ _ _ _ (λ e. both (begins_some _ _ bs e))
    (λ _. agree_if (begins (bytes "-") bs) _ _ _ _ (λ e. both (begins_some _ _ bs e)) (λ _. neither))

leaves-product_operator : (bs : List ℕ) → LeavesFewer (length bs) (product_operator bs)
unfolding product_operator bytes
leaves-product_operator bs =
    agree_if (begins (bytes "*") bs) _ _ _ _ (λ e. both (begins_some _ _ bs e))
    (λ _. agree_if (begins (bytes "/") bs) _ _ _ _ (λ e. both (begins_some _ _ bs e)) (λ _. neither))

module _ (e : Edition) where
  leaves-unsigned : (bs : List ℕ) → LeavesFewer (length bs) (unsigned e bs)
  unfolding unsigned succeed
  leaves-unsigned bs =
      agree_if (leb 1 (run_length is_digit bs) && leb (decimal_from 0 (take (run_length is_digit bs) bs)) e.limit) _ _ _ _
      (λ h.
      let some = ((and-eq-true_iff (leb 1 (run_length is_digit bs)) (leb (decimal_from 0 (take (run_length is_digit bs) bs)) e.limit)).0 h).0 in
      both (omega (arith, length-drop (run_length is_digit bs) bs, run_within is_digit bs, leb-true 1 (run_length is_digit bs) some)))
      (λ _. neither)

  module _ (at : Resolution) where
    leaves-number_name : (bs : List ℕ) → LeavesFewer (length bs) (number_name e at bs)
    unfolding number_name succeed
    leaves-number_name bs = agree-next _ _ (leaves-name_as (usage for_number []) bs) (λ _ _ h. both h)

    leaves-bound : (bs : List ℕ) → LeavesFewer (length bs) (bound e at bs)
    unfolding bound succeed
    leaves-bound bs =
        agree_if (is_digit (get_or bs 0 0)) _ _ _ _ (λ _. agree-next _ _ (leaves-unsigned bs) (λ _ _ h. both h))
        (λ _. agree-next _ _ (leaves-number_name bs) (λ _ _ h. both h))

    leaves-part_of : (s : ℕ) (bs : List ℕ) → LeavesFewer (suc (length bs)) (part_of e at s bs)
    unfolding part_of succeed
    leaves-part_of s bs =
        agree_if (begins (bytes "$") bs) _ _ _ _
        (λ _. agree-next _ _ (leaves-bound (drop 1 bs)) (λ _ _ h. both (omega (arith, length-drop 1 bs)))) (λ _. both (omega arith))

    leaves-string_name : (roles : List ℕ → List Role) (bs : List ℕ) → LeavesFewer (length bs) (string_name e at roles bs)
    unfolding string_name succeed
    leaves-string_name roles bs = agree-next _ _ (leaves-name_as (λ n. usage for_string (roles n) n) bs) (λ _ _ h. both h)

    leaves-part_name : (roles : List ℕ → List Role) (bs : List ℕ) → LeavesFewer (length bs) (part_name e at roles bs)
    unfolding part_name
    leaves-part_name roles bs =
        agree-next _ _ (leaves-string_name roles bs) (λ s rest h. agree_wider (omega arith) (leaves-part_of s rest))

    -- a reader behind so many bytes, and `)` behind it
    leaves_call : {A B : Type 0} (n : ℕ) (bs : List ℕ) (x : Parsed A) (f : A → B) → LeavesFewer (length (drop n bs)) x
        → LeavesFewer (length bs) (x >>= λ (a, rest). expect (bytes ")") rest >>= λ (_, rest). succeed (f a) rest)
    unfolding succeed
    leaves_call n bs x f h =
        agree-next _ _ h (λ _ rest l. agree-next _ _ (leaves-expect (bytes ")") rest) (λ _ _ m. both (omega (arith, length-drop n bs))))

    leaves-called_or_number : (bs : List ℕ) → LeavesFewer (length bs) (called_or_number e at bs)
    unfolding called_or_number succeed
    leaves-called_or_number bs =
        agree_if (begins (bytes "LENGTH(") bs) _ _ _ _ (λ _. leaves_call 7 bs _ _ (leaves-string_name no_role (drop 7 bs)))
        (λ _. agree_if (begins (bytes "NUMBER(") bs) _ _ _ _ (λ _. leaves_call 7 bs _ _ (leaves-part_name no_role (drop 7 bs)))
        (λ _. agree-next _ _ (leaves-number_name bs) (λ _ _ h. both h)))

    leaves-plain_factor : (bs : List ℕ) → LeavesFewer (length bs) (plain_factor e at bs)
    unfolding plain_factor succeed
    leaves-plain_factor bs =
        agree_if (is_digit (get_or bs 0 0)) _ _ _ _ (λ _. agree-next _ _ (leaves-unsigned bs) (λ _ _ h. both h))
        (λ _. leaves-called_or_number bs)

-- ---- the forms with no fuel

-- a reader of items, and one that has read some before
abbrev pub Reader : Type 0
Reader = List ℕ → Parsed (List Item)

abbrev pub More : Type 0
More = List Item → Reader

module _ (bs : List ℕ) where
  -- S11 "an optional sign of the first term, then terms joined by + or -"
  unfoldable pub expression_by : (term : Reader) (more : More) → Parsed (List Item)
  expression_by term more = do
    (signs, rest) ← leading_sign bs
    (t, rest) ← term rest
    more (t ++ signs) rest

  unfoldable pub more_terms_by : (term : Reader) (more : More) → List Item → Parsed (List Item)
  more_terms_by term more before = elim (is_sign bs) [
    | true ↦ do
      (o, rest) ← sum_operator bs
      (t, rest) ← term rest
      more (before ++ (t ++ (operator o ∷ []))) rest
    | false ↦ succeed before bs
  ]

  -- S12 "A term is factors joined by * or /."
  unfoldable pub term_by : (factor : Reader) (more : More) → Parsed (List Item)
  term_by factor more = do
    (f, rest) ← factor bs
    more f rest

  unfoldable pub more_factors_by : (factor : Reader) (more : More) → List Item → Parsed (List Item)
  more_factors_by factor more before = elim (begins (bytes "*") bs || begins (bytes "/") bs) [
    | true ↦ do
      (o, rest) ← product_operator bs
      (f, rest) ← factor rest
      more (before ++ (f ++ (operator o ∷ []))) rest
    | false ↦ succeed before bs
  ]

  -- S13 "or an expression in parentheses, at most 16 deep"
  unfoldable pub factor_by : Edition → Resolution → (depth : ℕ) (expression : Reader) → Parsed (List Item)
  factor_by e at d expression = elim (begins (bytes "(") bs) [
    | true ↦ elim (ltb d deepest) [
      | true ↦ do
        (x, rest) ← expression (drop 1 bs)
        (_, rest) ← expect (bytes ")") rest
        succeed x rest
      | false ↦ broken
    ]
    | false ↦ do
      (a, rest) ← plain_factor e at bs
      got (operand a ∷ []) one_item rest
  ]

-- two readers agree on fewer than n bytes: they leave fewer than they got, or no more if they need not read any
abbrev AgreeBelow : ℕ → Reader → Reader → Type 0
AgreeBelow n f g = (rest : List ℕ) → length rest < n → Agree (length rest) (f rest) (g rest)

abbrev AgreeMore : ℕ → More → More → Type 0
AgreeMore n f g = (before : List Item) (rest : List ℕ) → length rest < n → Agree (suc (length rest)) (f before rest) (g before rest)

-- a form agrees where the readers of the forms in it do
module _ (bs : List ℕ) where
  module _ (term term' : Reader) (more more' : More) (agree : AgreeMore (length bs) more more') where
    expression_step : AgreeBelow (suc (length bs)) term term' → Agree (length bs) (expression_by bs term more) (expression_by bs term' more')
    unfolding expression_by
    expression_step h =
        agree-next _ _ (leaves-leading_sign bs) (λ signs rest l.
        agree-next _ _ (h rest l) (λ t rest₂ l₂.
        agree_wider (omega arith) (agree (t ++ signs) rest₂ (omega arith))))

    more_terms_step : AgreeBelow (length bs) term term' → (before : List Item)
        → Agree (suc (length bs)) (more_terms_by bs term more before) (more_terms_by bs term' more' before)
    unfolding more_terms_by succeed
    more_terms_step h before =
        agree_if (is_sign bs) _ _ _ _
        (λ _.
        agree-next _ _ (leaves-sum_operator bs) (λ o rest l.
        agree-next _ _ (h rest l) (λ t rest₂ l₂.
        agree_wider (omega arith) (agree (before ++ (t ++ (operator o ∷ []))) rest₂ (omega arith)))))
        (λ _. both (omega arith))

    term_step : AgreeBelow (suc (length bs)) term term' → Agree (length bs) (term_by bs term more) (term_by bs term' more')
    unfolding term_by
    term_step h =
        agree-next _ _ (h bs (omega arith)) (λ f rest l. agree_wider (omega arith) (agree f rest l))

    more_factors_step : AgreeBelow (length bs) term term' → (before : List Item)
        → Agree (suc (length bs)) (more_factors_by bs term more before) (more_factors_by bs term' more' before)
    unfolding more_factors_by succeed
    more_factors_step h before =
        agree_if (begins (bytes "*") bs || begins (bytes "/") bs) _ _ _ _
        (λ _.
        agree-next _ _ (leaves-product_operator bs) (λ o rest l.
        agree-next _ _ (h rest l) (λ f rest₂ l₂.
        agree_wider (omega arith) (agree (before ++ (f ++ (operator o ∷ []))) rest₂ (omega arith)))))
        (λ _. both (omega arith))

  factor_step : (e : Edition) (at : Resolution) (d : ℕ) (expression expression' : Reader) → AgreeBelow (length bs) expression expression'
      → Agree (length bs) (factor_by bs e at d expression) (factor_by bs e at d expression')
  unfolding factor_by succeed bytes
  factor_step e at d expression expression' h =
      agree_if (begins (bytes "(") bs) _ _ _ _
      (λ t.
      let fewer : length (drop 1 bs) < length bs = begins_some _ _ bs t in
      agree_if (ltb d deepest) _ _ _ _
      (λ _.
      agree-next _ _ (h (drop 1 bs) fewer) (λ _ rest l.
      agree-next _ _ (leaves-expect (bytes ")") rest) (λ _ rest₂ l₂. both (omega arith))))
      (λ _. neither))
      (λ _. agree-next _ _ (leaves-plain_factor e at bs) (λ _ _ l. both l))

module _ (e : Edition) (at : Resolution) where
  -- any two amounts of fuel above a measure read the same, and leave fewer bytes than there were, or no more where none need be read
  mutual
    unfolding expression_at expression_by more_terms_by term_by more_factors_by factor_by

    pub agree_expression : (k k' d : ℕ) (bs : List ℕ) → 4 * length bs + 3 ≤ k → 4 * length bs + 3 ≤ k'
        → Agree (length bs) (expression_at e at k d bs) (expression_at e at k' d bs)
    agree_expression zero k' d bs h h' = absurd (omega arith)
    agree_expression (suc k) zero d bs h h' = absurd (omega arith)
    agree_expression (suc k) (suc k') d bs h h' =
        expression_step bs (term_at e at k d) (term_at e at k' d) (more_terms e at k d) (more_terms e at k' d)
        (λ before rest l. agree_more_terms k k' d before rest (omega arith) (omega arith))
        (λ rest l. agree_term k k' d rest (omega arith) (omega arith))

    agree_more_terms : (k k' d : ℕ) (before : List Item) (bs : List ℕ) → 4 * length bs + 1 ≤ k → 4 * length bs + 1 ≤ k'
        → Agree (suc (length bs)) (more_terms e at k d before bs) (more_terms e at k' d before bs)
    agree_more_terms zero k' d before bs h h' = absurd (omega arith)
    agree_more_terms (suc k) zero d before bs h h' = absurd (omega arith)
    agree_more_terms (suc k) (suc k') d before bs h h' =
        more_terms_step bs (term_at e at k d) (term_at e at k' d) (more_terms e at k d) (more_terms e at k' d)
        (λ before rest l. agree_more_terms k k' d before rest (omega arith) (omega arith))
        (λ rest l. agree_term k k' d rest (omega arith) (omega arith))
        before

    pub agree_term : (k k' d : ℕ) (bs : List ℕ) → 4 * length bs + 2 ≤ k → 4 * length bs + 2 ≤ k'
        → Agree (length bs) (term_at e at k d bs) (term_at e at k' d bs)
    agree_term zero k' d bs h h' = absurd (omega arith)
    agree_term (suc k) zero d bs h h' = absurd (omega arith)
    agree_term (suc k) (suc k') d bs h h' =
        term_step bs (factor_at e at k d) (factor_at e at k' d) (more_factors e at k d) (more_factors e at k' d)
        (λ before rest l. agree_more_factors k k' d before rest (omega arith) (omega arith))
        (λ rest l. agree_factor k k' d rest (omega arith) (omega arith))

    agree_more_factors : (k k' d : ℕ) (before : List Item) (bs : List ℕ) → 4 * length bs + 1 ≤ k → 4 * length bs + 1 ≤ k'
        → Agree (suc (length bs)) (more_factors e at k d before bs) (more_factors e at k' d before bs)
    agree_more_factors zero k' d before bs h h' = absurd (omega arith)
    agree_more_factors (suc k) zero d before bs h h' = absurd (omega arith)
    agree_more_factors (suc k) (suc k') d before bs h h' =
        more_factors_step bs (factor_at e at k d) (factor_at e at k' d) (more_factors e at k d) (more_factors e at k' d)
        (λ before rest l. agree_more_factors k k' d before rest (omega arith) (omega arith))
        (λ rest l. agree_factor k k' d rest (omega arith) (omega arith))
        before

    pub agree_factor : (k k' d : ℕ) (bs : List ℕ) → 4 * length bs + 1 ≤ k → 4 * length bs + 1 ≤ k'
        → Agree (length bs) (factor_at e at k d bs) (factor_at e at k' d bs)
    agree_factor zero k' d bs h h' = absurd (omega arith)
    agree_factor (suc k) zero d bs h h' = absurd (omega arith)
    agree_factor (suc k) (suc k') d bs h h' =
        factor_step bs e at d (expression_at e at k (suc d)) (expression_at e at k' (suc d))
        (λ rest l. agree_expression k k' (suc d) rest (omega arith) (omega arith))

  -- ---- the readers with no fuel: each has what is always enough
  unfoldable pub expression_from : (depth : ℕ) → Reader
  expression_from d bs = expression_at e at (fuel_for bs) d bs

  unfoldable pub more_terms_from : (depth : ℕ) → More
  more_terms_from d before bs = more_terms e at (fuel_for bs) d before bs

  unfoldable pub term_from : (depth : ℕ) → Reader
  term_from d bs = term_at e at (fuel_for bs) d bs

  unfoldable pub more_factors_from : (depth : ℕ) → More
  more_factors_from d before bs = more_factors e at (fuel_for bs) d before bs

  unfoldable pub factor_from : (depth : ℕ) → Reader
  factor_from d bs = factor_at e at (fuel_for bs) d bs

  pub numeric_from_lem : (bs : List ℕ) → numeric_expression e at bs ≡ expression_from 0 bs
  unfolding numeric_expression expression_from
  numeric_from_lem bs = refl

  module _ (d : ℕ) (bs : List ℕ) where
    -- more fuel changes nothing
    module _ (fuel : ℕ) (enough : fuel_for bs ≤ fuel) where
      pub expression_fuel : expression_at e at fuel d bs ≡ expression_from d bs
      unfolding expression_from fuel_for
      expression_fuel = agree_same (agree_expression fuel (fuel_for bs) d bs (omega arith) (omega arith))

      pub more_terms_fuel : (before : List Item) → more_terms e at fuel d before bs ≡ more_terms_from d before bs
      unfolding more_terms_from fuel_for
      more_terms_fuel before = agree_same (agree_more_terms fuel (fuel_for bs) d before bs (omega arith) (omega arith))

      pub term_fuel : term_at e at fuel d bs ≡ term_from d bs
      unfolding term_from fuel_for
      term_fuel = agree_same (agree_term fuel (fuel_for bs) d bs (omega arith) (omega arith))

      pub more_factors_fuel : (before : List Item) → more_factors e at fuel d before bs ≡ more_factors_from d before bs
      unfolding more_factors_from fuel_for
      more_factors_fuel before = agree_same (agree_more_factors fuel (fuel_for bs) d before bs (omega arith) (omega arith))

      pub factor_fuel : factor_at e at fuel d bs ≡ factor_from d bs
      unfolding factor_from fuel_for
      factor_fuel = agree_same (agree_factor fuel (fuel_for bs) d bs (omega arith) (omega arith))

    -- the fuel of these bytes is enough for those behind them
    terms_agree : AgreeBelow (suc (length bs)) (term_at e at (fuel_for bs) d) (term_from d)
    unfolding term_from fuel_for
    terms_agree rest l = agree_term _ _ d rest (omega arith) (omega arith)

    more_terms_agree : AgreeMore (length bs) (more_terms e at (fuel_for bs) d) (more_terms_from d)
    unfolding more_terms_from fuel_for
    more_terms_agree before rest l = agree_more_terms _ _ d before rest (omega arith) (omega arith)

    factors_agree : AgreeBelow (suc (length bs)) (factor_at e at (fuel_for bs) d) (factor_from d)
    unfolding factor_from fuel_for
    factors_agree rest l = agree_factor _ _ d rest (omega arith) (omega arith)

    more_factors_agree : AgreeMore (length bs) (more_factors e at (fuel_for bs) d) (more_factors_from d)
    unfolding more_factors_from fuel_for
    more_factors_agree before rest l = agree_more_factors _ _ d before rest (omega arith) (omega arith)

    expressions_agree : AgreeBelow (length bs) (expression_at e at (fuel_for bs) (suc d)) (expression_from (suc d))
    unfolding expression_from fuel_for
    expressions_agree rest l = agree_expression _ _ (suc d) rest (omega arith) (omega arith)

    -- each form by the forms in it
    pub expression_is : expression_from d bs ≡ expression_by bs (term_from d) (more_terms_from d)
    unfolding expression_at expression_by
    expression_is =
        sym (expression_fuel (suc (fuel_for bs)) (omega arith))
        ∙ agree_same (expression_step bs _ _ _ _ more_terms_agree terms_agree)

    pub more_terms_is : (before : List Item) → more_terms_from d before bs ≡ more_terms_by bs (term_from d) (more_terms_from d) before
    unfolding more_terms more_terms_by
    more_terms_is before =
        sym (more_terms_fuel (suc (fuel_for bs)) (omega arith) before)
        ∙ agree_same (more_terms_step bs _ _ _ _ more_terms_agree (λ rest l. terms_agree rest (omega arith)) before)

    pub term_is : term_from d bs ≡ term_by bs (factor_from d) (more_factors_from d)
    unfolding term_at term_by
    term_is =
        sym (term_fuel (suc (fuel_for bs)) (omega arith)) ∙ agree_same (term_step bs _ _ _ _ more_factors_agree factors_agree)

    pub more_factors_is : (before : List Item) → more_factors_from d before bs ≡ more_factors_by bs (factor_from d) (more_factors_from d) before
    unfolding more_factors more_factors_by
    more_factors_is before =
        sym (more_factors_fuel (suc (fuel_for bs)) (omega arith) before)
        ∙ agree_same (more_factors_step bs _ _ _ _ more_factors_agree (λ rest l. factors_agree rest (omega arith)) before)

    pub factor_is : factor_from d bs ≡ factor_by bs e at d (expression_from (suc d))
    unfolding factor_at factor_by
    factor_is =
        sym (factor_fuel (suc (fuel_for bs)) (omega arith)) ∙ agree_same (factor_step bs e at d _ _ expressions_agree)

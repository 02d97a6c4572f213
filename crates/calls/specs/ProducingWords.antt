-- What names, constants, lengths, parts and operands produce: they hold where the names mentioned are known. Assumes nothing.
use Rattle.std.specs.Prelude.{true, cond, ◌&&◌, ◌||◌, List, [], ◌≡◌, ℕ, ltb, pos, neg_ℤ, take, drop, get_or}
use Rattle.std.proofs.Math.Bool.{not, and-eq-true_iff}
use Rattle.std.proofs.Common.{append-nil, ◌∙◌, arith}
use Rattle.std.proofs.Math.Path.{refl, ap}
use Rattle.std.proofs.Math.Dec.{leb}
use borrow.Author.Tests.{lt-ltb, le-ltb}
use Rattle.base.specs.Choice.{cond_cases, both_pass}
use Rattle.base.specs.Edition.{Edition}
use Rattle.base.specs.Lists.{all, begins, total}
use Rattle.base.specs.Text.{bytes}
use Rattle.cards.specs.Bytes.{is_digit, quote}
use Rattle.syntax.specs.Numeric.{comparison, called_or_number, plain_factor, if_operand, test}
use Rattle.syntax.specs.Placed.{Each, Sizes, PlacedBy}
use Rattle.syntax.specs.Program as Program
use Rattle.syntax.specs.Program.{Length, constantly, numbered, Part, first, Operand, Test}
use Rattle.syntax.specs.Program.{constant, length_of, number_of, is_null, is_numeric, compares}
use Rattle.syntax.specs.Parsing.{Purpose, for_number, for_string, Mention, Role, declaring, usage}
use Rattle.syntax.specs.Lexemes.{Resolution, run_length, decimal_from, name_length, name, name_as, unsigned, signed, is_sign, no_role, number_name, bound}
use Rattle.syntax.specs.Lexemes.{part_of, string_name, part_name}
use Rattle.values.specs.Laws.{abs_negative}
use Rattle.values.specs.Numbers.{is_negative, is_in_range}
use Rattle.calls.specs.Literals.{LiteralsWhole, whole-behind, whole-name, whole-digits}
use Rattle.encoding.specs.RuleLaws.{length_holds, test_holds, first_holds, number_of_holds}
use Rattle.encoding.specs.Rules.{place_of, part_holds, operand_holds}
use Rattle.calls.specs.Producing.{view, view_of, no_view, join, Produces, produces, breaks, ProducesPlainly}
use Rattle.calls.specs.Producing.{produces_map, produces_next, produces_after, produces_succeed, produces_if, produces_expect}

module _ {K : Mention → Type 0} where
  -- a name
  produces_name : (bs : List ℕ) → LiteralsWhole bs → Produces K (ProducesPlainly (λ _. Unit {0})) (name bs)
  unfolding name
  produces_name bs whole =
      produces_if (leb 1 (name_length bs)) _ _
      (λ _. produces_succeed (take (name_length bs) bs) (drop (name_length bs) bs) (whole-name bs whole) (refl, tt)) (λ _. breaks)

  -- a name used is known with its purpose, and has its roles
  pub produces_usage : (p : Purpose) (roles : List ℕ → List Role) (bs : List ℕ) → LiteralsWhole bs
      → Produces K (λ n s. (s ≡ view 0 0 0 (roles n)) × K (record { purpose = p; name = n })) (name_as (λ n. usage p (roles n) n) bs)
  unfolding name_as usage view_of total Each
  produces_usage p roles bs whole =
      produces_after _ (produces_name bs whole) (λ n rest whole. produces whole (λ h _. (refl, h.used.0)))

  -- a name declared
  pub produces_declaring : (p : Purpose) (bs : List ℕ) → LiteralsWhole bs → Produces K (ProducesPlainly (λ _. Unit {0})) (name_as (declaring p) bs)
  unfolding name_as declaring view_of total
  produces_declaring p bs whole = produces_after _ (produces_name bs whole) (λ n rest whole. produces whole (λ _ _. (refl, tt)))

  -- constants are in range
  pub produces_unsigned : (e : Edition) (bs : List ℕ) → LiteralsWhole bs → Produces K (ProducesPlainly (λ v. leb v e.limit ≡ true)) (unsigned e bs)
  unfolding unsigned
  produces_unsigned e bs whole =
      let n = run_length is_digit bs in
      let v = decimal_from 0 (take n bs) in
      produces_if (leb 1 n && leb v e.limit) _ _
      (λ h. produces_succeed v (drop n bs) (whole-digits bs whole) (refl, ((and-eq-true_iff (leb 1 n) (leb v e.limit)).0 h).1)) (λ _. breaks)

  -- so are those with a sign
  pub produces_signed : (e : Edition) (bs : List ℕ) → LiteralsWhole bs → Produces K (ProducesPlainly (λ z. is_in_range e z ≡ true)) (signed e bs)
  unfolding signed is_in_range bytes all quote
  produces_signed e bs whole =
      produces_if (begins (bytes "-") bs) _ _
      (λ h. produces_after _ (produces_unsigned e (drop 1 bs) (whole-behind (bytes "-") bs refl h whole)) (λ v rest whole.
      produces_succeed (neg_ℤ (pos v)) rest whole (λ h. (refl, ap (λ n. leb n e.limit) (abs_negative v) ∙ h))))
      (λ _. produces_after _ (produces_unsigned e (drop (cond (begins (bytes "+") bs) 1 0) bs) behind) (λ v rest whole.
      produces_succeed (pos v) rest whole (λ h. (refl, h))))
    where
      behind : LiteralsWhole (drop (cond (begins (bytes "+") bs) 1 0) bs)
      behind =
          cond_cases (λ n. LiteralsWhole (drop n bs)) (begins (bytes "+") bs) (λ h. whole-behind (bytes "+") bs refl h whole) (λ _. whole)

-- what the rules say of a length in a program with these counts
abbrev pub LengthInRange : Edition → Sizes → Length → Type 0
LengthInRange e z n = length_holds e z.strings z.numbers z.steps n ≡ true

-- of a part
abbrev pub PartInRange : Edition → Sizes → Part → Type 0
PartInRange e z p = part_holds e z.strings z.numbers z.steps p ≡ true

-- of an operand
abbrev pub OperandInRange : Edition → Sizes → Operand → Type 0
OperandInRange e z a = operand_holds e z.strings z.numbers z.steps a ≡ true

-- of a test
abbrev pub TestInRange : Edition → Sizes → Test → Type 0
TestInRange e z t = test_holds e z.strings z.numbers z.steps t ≡ true

module _ {K : Mention → Type 0} {z : Sizes} (e : Edition) {at : Resolution} (placed : PlacedBy K z at) where
  -- a number is one of the program's
  pub produces_number_name : (bs : List ℕ) → LiteralsWhole bs → Produces K (ProducesPlainly (λ i. ltb i z.numbers ≡ true)) (number_name e at bs)
  unfolding number_name
  produces_number_name bs whole =
      produces_after _ (produces_usage for_number (λ _. []) bs whole) (λ n rest whole.
      produces_succeed (at.number n) rest whole (λ k. (refl, lt-ltb (at.number n) z.numbers (placed.number n k))))

  -- a length is a constant in range and not negative, or one of the program's numbers
  pub produces_bound : (bs : List ℕ) → LiteralsWhole bs → Produces K (ProducesPlainly (LengthInRange e z)) (bound e at bs)
  unfolding bound length_holds is_in_range is_negative
  produces_bound bs whole =
      produces_if (is_digit (get_or bs 0 0)) _ _
      (λ _. produces_after _ (produces_unsigned e bs whole) (λ v rest whole.
      produces_succeed (constantly (pos v)) rest whole (λ h. (refl, both_pass h (ap not (le-ltb v 0 (omega arith)))))))
      (λ _. produces_after _ (produces_number_name bs whole) (λ i rest whole. produces_succeed (numbered i) rest whole (λ h. (refl, h))))

  -- a part is of its string
  produces_part_of : (s : ℕ) (bs : List ℕ) → LiteralsWhole bs
      → Produces K (ProducesPlainly (λ p. (place_of p ≡ s) × (ltb s z.strings ≡ true → PartInRange e z p))) (part_of e at s bs)
  unfolding part_of place_of part_holds bytes all quote
  produces_part_of s bs whole =
      produces_if (begins (bytes "$") bs) _ _
      (λ h. produces_after _ (produces_bound (drop 1 bs) (whole-behind (bytes "$") bs refl h whole)) (λ n rest whole.
      produces_succeed (first s n) rest whole (λ l. (refl, (refl, λ h. first_holds e z.strings z.numbers z.steps s n ∙ both_pass h l)))))
      (λ _. produces_succeed (Part.whole s) bs whole (refl, (refl, λ s. s)))

  -- the place of a known string is one of the program's
  pub string-below : (i : ℕ) (n : List ℕ) → i ≡ at.string n → K (record { purpose = for_string; name = n }) → ltb i z.strings ≡ true
  string-below i n q k = ap (λ j. ltb j z.strings) q ∙ lt-ltb (at.string n) z.strings (placed.string n k)

  -- a string's name is known, has its roles, and gives its place
  pub produces_string_name : (roles : List ℕ → List Role) (bs : List ℕ) → LiteralsWhole bs
      → Produces K (λ i s. (n : List ℕ) × (i ≡ at.string n) × (s ≡ view 0 0 0 (roles n)) × K (record { purpose = for_string; name = n }))
      (string_name e at roles bs)
  unfolding string_name
  produces_string_name roles bs whole =
      produces_next _ (produces_usage for_string roles bs whole) (λ n rest whole.
      produces_succeed (at.string n) rest whole (λ s h.
      (n, refl, ap (λ s. join s no_view) h.0 ∙ ap (λ rs. view 0 0 0 rs) (append-nil (roles n)), h.1)))

  -- so is that of a part, which holds
  pub produces_part_name : (roles : List ℕ → List Role) (bs : List ℕ) → LiteralsWhole bs
      → Produces K
      (λ p s.
      (n : List ℕ)
      × (place_of p ≡ at.string n)
      × (s ≡ view 0 0 0 (roles n))
      × K (record { purpose = for_string; name = n })
      × PartInRange e z p)
      (part_name e at roles bs)
  unfolding part_name
  produces_part_name roles bs whole =
      produces_next _ (produces_string_name roles bs whole) (λ i rest whole.
      produces_map
      (λ p t h s g.
      let n = g.0 in (
        n,
        h.1.0 ∙ g.1,
        ap (λ s. join s t) g.2 ∙ ap (λ t. join (view 0 0 0 (roles n)) t) h.0 ∙ ap (λ rs. view 0 0 0 rs) (append-nil (roles n)),
        g.3,
        h.1.1 (string-below i n g.1 g.3),
      ))
      (produces_part_of i rest whole))

  -- a string's name with no role
  pub produces_string : (bs : List ℕ) → LiteralsWhole bs → Produces K (ProducesPlainly (λ i. ltb i z.strings ≡ true)) (string_name e at no_role bs)
  unfolding no_role
  produces_string bs whole =
      produces_map
      (λ i s h. (h.2, string-below i h.0 h.1 h.3))
      (produces_string_name no_role bs whole)

  -- a part with no role
  pub produces_part : (bs : List ℕ) → LiteralsWhole bs → Produces K (ProducesPlainly (PartInRange e z)) (part_name e at no_role bs)
  unfolding no_role
  produces_part bs whole = produces_map (λ p s h. (h.2, h.4)) (produces_part_name no_role bs whole)

  -- LENGTH, NUMBER or a number
  produces_called_or_number : (bs : List ℕ) → LiteralsWhole bs → Produces K (ProducesPlainly (OperandInRange e z)) (called_or_number e at bs)
  unfolding called_or_number operand_holds bytes all quote
  produces_called_or_number bs whole =
      produces_if (begins (bytes "LENGTH(") bs) _ _
      (λ h. produces_after _ (produces_string (drop 7 bs) (whole-behind (bytes "LENGTH(") bs refl h whole)) (λ s rest whole.
      produces_after _ (produces_expect (bytes ")") rest refl whole) (λ _ rest whole.
      produces_succeed (length_of s) rest whole (λ _ h. (refl, h)))))
      (λ _. produces_if (begins (bytes "NUMBER(") bs) _ _
      (λ h. produces_after _ (produces_part (drop 7 bs) (whole-behind (bytes "NUMBER(") bs refl h whole)) (λ p rest whole.
      produces_after _ (produces_expect (bytes ")") rest refl whole) (λ _ rest whole.
      produces_succeed (number_of p) rest whole (λ _ h. (refl, number_of_holds e z.strings z.numbers z.steps p ∙ h)))))
      (λ _. produces_after _ (produces_number_name bs whole) (λ i rest whole. produces_succeed (Program.variable i) rest whole (λ h. (refl, h)))))

  -- a factor that is no expression in parentheses
  pub produces_plain_factor : (bs : List ℕ) → LiteralsWhole bs → Produces K (ProducesPlainly (OperandInRange e z)) (plain_factor e at bs)
  unfolding plain_factor operand_holds is_in_range
  produces_plain_factor bs whole =
      produces_if (is_digit (get_or bs 0 0)) _ _
      (λ _. produces_after _ (produces_unsigned e bs whole) (λ v rest whole. produces_succeed (constant (pos v)) rest whole (λ h. (refl, h))))
      (λ _. produces_called_or_number bs whole)

  -- an operand of a test
  produces_if_operand : (bs : List ℕ) → LiteralsWhole bs → Produces K (ProducesPlainly (OperandInRange e z)) (if_operand e at bs)
  unfolding if_operand operand_holds
  produces_if_operand bs whole =
      produces_if (is_digit (get_or bs 0 0) || is_sign bs) _ _
      (λ _. produces_after _ (produces_signed e bs whole) (λ v rest whole. produces_succeed (constant v) rest whole (λ h. (refl, h))))
      (λ _. produces_called_or_number bs whole)

  -- one of the six signs
  produces_comparison : (bs : List ℕ) → LiteralsWhole bs → Produces K (ProducesPlainly (λ _. Unit {0})) (comparison bs)
  unfolding comparison bytes all quote
  produces_comparison bs whole =
      produces_if (begins (bytes "<>") bs) _ _ (λ h. produces_succeed _ (drop 2 bs) (whole-behind (bytes "<>") bs refl h whole) (refl, tt)) (λ _.
      produces_if (begins (bytes "<=") bs) _ _ (λ h. produces_succeed _ (drop 2 bs) (whole-behind (bytes "<=") bs refl h whole) (refl, tt)) (λ _.
      produces_if (begins (bytes ">=") bs) _ _ (λ h. produces_succeed _ (drop 2 bs) (whole-behind (bytes ">=") bs refl h whole) (refl, tt)) (λ _.
      produces_if (begins (bytes "=") bs) _ _ (λ h. produces_succeed _ (drop 1 bs) (whole-behind (bytes "=") bs refl h whole) (refl, tt)) (λ _.
      produces_if (begins (bytes "<") bs) _ _ (λ h. produces_succeed _ (drop 1 bs) (whole-behind (bytes "<") bs refl h whole) (refl, tt)) (λ _.
      produces_if (begins (bytes ">") bs) _ _ (λ h. produces_succeed _ (drop 1 bs) (whole-behind (bytes ">") bs refl h whole) (refl, tt)) (λ _.
      breaks))))))

  -- the test of an IF
  pub produces_test : (bs : List ℕ) → LiteralsWhole bs → Produces K (ProducesPlainly (TestInRange e z)) (test e at bs)
  unfolding test test_holds bytes all quote
  produces_test bs whole =
      produces_if (begins (bytes "NULL(") bs) _ _
      (λ h. produces_after _ (produces_string (drop 5 bs) (whole-behind (bytes "NULL(") bs refl h whole)) (λ s rest whole.
      produces_after _ (produces_expect (bytes ")") rest refl whole) (λ _ rest whole. produces_succeed (is_null s) rest whole (λ _ h. (refl, h)))))
      (λ _. produces_if (begins (bytes "NUMERIC(") bs) _ _
      (λ h. produces_after _ (produces_part (drop 8 bs) (whole-behind (bytes "NUMERIC(") bs refl h whole)) (λ p rest whole.
      produces_after _ (produces_expect (bytes ")") rest refl whole) (λ _ rest whole. produces_succeed (is_numeric p) rest whole (λ _ h. (refl, h)))))
      (λ _. produces_after _ (produces_if_operand bs whole) (λ a rest whole.
      produces_after _ (produces_comparison rest whole) (λ c rest whole.
      produces_after _ (produces_if_operand rest whole) (λ b rest whole.
      produces_succeed (compares a c b) rest whole (λ b _ a. (refl, both_pass a b)))))))

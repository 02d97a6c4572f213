-- What string expressions and patterns produce: as many elements and literal bytes as were mentioned, all in range, and a pattern's roles are those
-- of its elements. Assumes nothing.
use Rattle.std.specs.Prelude.{true, false, ◌||◌, ◌≡◌, leb, pos, drop, get_or}
use Rattle.std.proofs.Math.Bool.{not}
use mathlib.Core.List.{List, [], ◌∷◌, ◌++◌, map, append-nil}
use Rattle.std.proofs.Math.Path.{refl, ap, subst}
use Rattle.std.proofs.Common.{sym, ◌∙◌}
use Prim.Native.Nat.{ℕ, zero, suc, ◌+◌, ◌≤◌}
use native.Mathlib.Omega.{arith}
use Rattle.std.proofs.Math.ListN.{length, length-append}
use borrow.Author.Tests.{le-leb}
use Rattle.base.specs.Choice.{both_pass}
use Rattle.base.specs.Edition.{Edition}
use Rattle.base.specs.Limits as Limits
use Rattle.base.specs.Lists.{all, begins, total, is_nil}
use Rattle.base.specs.Text.{bytes}
use Rattle.cards.specs.Bytes.{is_digit, quote}
use Rattle.syntax.specs.Placed.{Each, Sizes, PlacedBy}
use Rattle.syntax.specs.Program.{constantly, numbered, Element, literal, part, string_call, PatternElement, value, free_filler, fixed_filler}
use Rattle.syntax.specs.Parsing.{for_string, Mention, Role, sought, filler, one_row, one_literal, Parsed}
use Rattle.syntax.specs.Strings.{nothing_here, more_of, list_of, row_parser, text_call, element, string_expression, filler_at}
use Rattle.syntax.specs.Strings.{pattern_element, pattern}
use Rattle.syntax.specs.Lexemes.{Resolution, is_sign, no_role}
use Rattle.values.specs.Numbers.{is_in_range}
use Rattle.encoding.specs.CellLaws.{part_literal, fixed_literal}
use Rattle.calls.specs.Literals.{LiteralsWhole, whole-behind, LiteralParsed, literal_read, literal_read_lem}
use Rattle.encoding.specs.RuleLaws.{fixed_holds}
use Rattle.encoding.specs.Rules.{place_of, part_holds, element_holds, pattern_holds, row_holds}
use Rattle.encoding.specs.Table.{literal_in, all_literals}
use Rattle.calls.specs.Producing.{View, view, view_of, no_view, join, Produces, produces}
use Rattle.calls.specs.Producing.{produces_next, produces_after, produces_succeed, produces_if, produces_expect}
use Rattle.calls.specs.ProducingWords.{string-below, produces_signed, produces_number_name, produces_bound}
use Rattle.calls.specs.ProducingWords.{produces_string_name, produces_part_name}

-- Rows of what is read one by one: what holds of none, of one more and of a row that may be so long holds of those read.
module _ {K : Mention → Type 0} {A : Type 0} {One : A → View → Type 0} {Many : List A → View → Type 0} (empty : Many [] no_view)
    (more : (x : A) (xs : List A) (s t : View) → One x s → Many xs t → Many (x ∷ xs) (join s (join t no_view)))
    (one : List ℕ → Parsed A) (yields-one : (bs : List ℕ) → LiteralsWhole bs → Produces K One (one bs)) where
  -- more of the same behind each comma
  produces_more_of : (k : ℕ) (bs : List ℕ) → LiteralsWhole bs → Produces K Many (more_of one k bs)
  unfolding more_of bytes all quote
  produces_more_of zero bs whole = produces_succeed [] bs whole empty
  produces_more_of (suc k) bs whole =
      produces_if (begins (bytes ",") bs) _ _
      (λ h. produces_next _ (yields-one (drop 1 bs) (whole-behind (bytes ",") bs refl h whole)) (λ x rest whole.
      produces_next _ (produces_more_of k rest whole) (λ xs rest whole. produces_succeed (x ∷ xs) rest whole (λ t h s g. more x xs s t g h))))
      (λ _. produces_succeed [] bs whole empty)

  -- one, or several parted by commas
  pub produces_list_of : (bs : List ℕ) → LiteralsWhole bs → Produces K Many (list_of one bs)
  unfolding list_of
  produces_list_of bs whole =
      produces_next _ (yields-one bs whole) (λ x rest whole.
      produces_next _ (produces_more_of (length rest) rest whole) (λ xs rest whole.
      produces_succeed (x ∷ xs) rest whole (λ t h s g. more x xs s t g h)))

  -- a row, no longer than it may be where what was mentioned fits
  pub produces_row : {Row : List A → View → Type 0} → Row [] no_view
      → ((xs : List A) (s : View) → length xs ≤ Limits.row_elements → Many xs s → Row xs (join s (view (length xs + 0) 0 0 [])))
      → (bs : List ℕ) → LiteralsWhole bs → Produces K Row (row_parser one bs)
  unfolding row_parser one_row view_of total Each
  produces_row none row bs whole =
      produces_if (nothing_here bs) _ _ (λ _. produces_succeed [] bs whole none)
      (λ _. produces_next _ (produces_list_of bs whole) (λ xs rest whole. produces whole (λ fit s h. row xs s fit.rows.0 h)))

-- what an element of a string expression makes of the roles of a name: those of the string that it names
abbrev pub Played : (Mention → Type 0) → Resolution → (List ℕ → List Role) → Element → List Role → Type 0
Played K at roles (literal w) rs = rs ≡ []
Played K at roles (part p) rs =
    (n : List ℕ) × (place_of p ≡ at.string n) × K (record { purpose = for_string; name = n }) × (rs ≡ roles n)
Played K at roles (string_call n m) rs = rs ≡ []

-- the role of a string in a pattern, where it is sought, and of a filler
abbrev pub sought_role : List ℕ → List Role
sought_role n = sought n ∷ []

abbrev Filled : (Mention → Type 0) → Resolution → ℕ → List Role → Type 0
Filled K at s rs = (n : List ℕ) × (s ≡ at.string n) × K (record { purpose = for_string; name = n }) × (rs ≡ filler n ∷ [])

abbrev pub Plays : (Mention → Type 0) → Resolution → PatternElement → List Role → Type 0
Plays K at (value x) rs = Played K at sought_role x rs
Plays K at (free_filler s) rs = Filled K at s rs
Plays K at (fixed_filler s n) rs = Filled K at s rs

-- all elements of a pattern, one after the other
abbrev pub AllPlay : (Mention → Type 0) → Resolution → List PatternElement → List Role → Type 0
AllPlay K at [] rs = rs ≡ []
AllPlay K at (x ∷ xs) rs = (own : List Role) × (rest : List Role) × (rs ≡ own ++ rest) × Plays K at x own × AllPlay K at xs rest

-- an element, which mentions its literal bytes
abbrev OneElement : (Mention → Type 0) → Edition → Sizes → Resolution → (List ℕ → List Role) → Element → View → Type 0
OneElement K e z at roles x s =
    (s.elements ≡ 0)
    × (s.items ≡ 0)
    × (s.literals ≡ length (literal_in (value x)))
    × Played K at roles x s.roles
    × (element_holds e z.strings z.numbers z.steps x ≡ true)

-- some of them
abbrev Elements : Edition → Sizes → List Element → View → Type 0
Elements e z xs s =
    (s.elements ≡ 0)
    × (s.items ≡ 0)
    × (s.literals ≡ length (all_literals (map value xs)))
    × (all (element_holds e z.strings z.numbers z.steps) xs ≡ true)

-- a string expression, which mentions its elements and their literal bytes
abbrev pub ElementRow : Edition → Sizes → List Element → View → Type 0
ElementRow e z xs s =
    (s.elements ≡ length xs)
    × (s.items ≡ 0)
    × (s.literals ≡ length (all_literals (map value xs)))
    × (row_holds e z.strings z.numbers z.steps xs ≡ true)

-- an element of a pattern, which mentions its literal bytes and its role
abbrev OnePattern : (Mention → Type 0) → Edition → Sizes → Resolution → PatternElement → View → Type 0
OnePattern K e z at x s =
    (s.elements ≡ 0)
    × (s.items ≡ 0)
    × (s.literals ≡ length (literal_in x))
    × Plays K at x s.roles
    × (pattern_holds e z.strings z.numbers z.steps x ≡ true)

-- some of them
abbrev Patterns : (Mention → Type 0) → Edition → Sizes → Resolution → List PatternElement → View → Type 0
Patterns K e z at xs s =
    (s.elements ≡ 0)
    × (s.items ≡ 0)
    × (s.literals ≡ length (all_literals xs))
    × AllPlay K at xs s.roles
    × (all (pattern_holds e z.strings z.numbers z.steps) xs ≡ true)

-- a pattern, which mentions its elements, their literal bytes and their roles
abbrev pub PatternRow : (Mention → Type 0) → Edition → Sizes → Resolution → List PatternElement → View → Type 0
PatternRow K e z at xs s =
    (s.elements ≡ length xs)
    × (s.items ≡ 0)
    × (s.literals ≡ length (all_literals xs))
    × AllPlay K at xs s.roles
    × (leb (length xs) Limits.row_elements ≡ true)
    × (all (pattern_holds e z.strings z.numbers z.steps) xs ≡ true)

-- a literal has a byte
produces_literal : {K : Mention → Type 0} {read : Parsed (List ℕ)} → LiteralParsed read
    → Produces K (λ w s. (s ≡ view 0 0 (length w) []) × (is_nil w ≡ false)) read
unfolding one_literal view_of total
produces_literal (literal_read nonempty whole) = produces whole (λ _. (refl, nonempty))

module _ {K : Mention → Type 0} {z : Sizes} (e : Edition) {at : Resolution} (placed : PlacedBy K z at) where
  -- a call of STRING
  produces_text_call : {roles : List ℕ → List Role} (bs : List ℕ) → LiteralsWhole bs → Produces K (OneElement K e z at roles) (text_call e at bs)
  unfolding text_call literal_in element_holds is_in_range bytes all quote
  produces_text_call bs whole =
      produces_if (is_digit (get_or bs 0 0) || is_sign bs) _ _
      (λ _. produces_after _ (produces_signed e bs whole) (λ n rest whole.
      produces_after _ (produces_expect (bytes ",") rest refl whole) (λ _ rest whole.
      produces_after _ (produces_number_name e placed rest whole) (λ m rest whole.
      produces_after _ (produces_expect (bytes ")") rest refl whole) (λ _ rest whole.
      produces_succeed (string_call (constantly n) m) rest whole (λ _ m _ n. (refl, refl, refl, refl, both_pass m n)))))))
      (λ _. produces_after _ (produces_number_name e placed bs whole) (λ i rest whole.
      produces_if (begins (bytes ",") rest) _ _
      (λ h. produces_after _ (produces_number_name e placed (drop 1 rest) (whole-behind (bytes ",") rest refl h whole)) (λ m rest whole.
      produces_after _ (produces_expect (bytes ")") rest refl whole) (λ _ rest whole.
      produces_succeed (string_call (numbered i) m) rest whole (λ _ m i. (refl, refl, refl, refl, both_pass m i)))))
      (λ _. produces_after _ (produces_expect (bytes ")") rest refl whole) (λ _ rest whole.
      produces_succeed (string_call (constantly (pos 0)) i) rest whole (λ _ i.
      (refl, refl, refl, refl, both_pass i (le-leb 0 e.limit (omega arith))))))))

  -- an element
  produces_element : (roles : List ℕ → List Role) (bs : List ℕ) → LiteralsWhole bs → Produces K (OneElement K e z at roles) (element e at roles bs)
  unfolding element literal_in element_holds part_holds bytes all quote
  produces_element roles bs whole =
      produces_if (begins (bytes "\"") bs) _ _
      (λ h. produces_next _ (produces_literal (literal_read_lem bs h whole)) (λ w rest whole.
      produces_succeed (literal w) rest whole (λ s h.
      subst (λ s. OneElement K e z at roles (literal w) (join s no_view)) (sym h.0) (refl, refl, omega arith, refl, ap not h.1))))
      (λ _. produces_if (begins (bytes "STRING(") bs) _ _
      (λ h. produces_text_call (drop 7 bs) (whole-behind (bytes "STRING(") bs refl h whole))
      (λ _. produces_next _ (produces_part_name e placed roles bs whole) (λ p rest whole.
      produces_succeed (part p) rest whole (λ s h.
      subst (λ s. OneElement K e z at roles (part p) (join s no_view)) (sym h.2)
      (refl, refl, ap length (sym (part_literal p)), (h.0, h.1, h.3, append-nil (roles h.0)), h.4)))))

  -- a string expression
  pub produces_string_expression : (bs : List ℕ) → LiteralsWhole bs → Produces K (ElementRow e z) (string_expression e at bs)
  unfolding string_expression no_role Each all all_literals row_holds
  produces_string_expression =
      produces_row {One = OneElement K e z at no_role} {Many = Elements e z} (refl, refl, refl, refl)
      (λ x xs s t h g. (
        omega arith,
        omega arith,
        omega (arith, length-append (literal_in (value x)) (all_literals (map value xs))),
        both_pass h.4 g.3,
      ))
      (element e at no_role) (produces_element no_role) {Row = ElementRow e z} (refl, refl, refl, refl)
      (λ xs s few h. (omega arith, omega arith, omega arith, both_pass (le-leb (length xs) Limits.row_elements few) h.3))

  -- a filler in parentheses
  produces_filler_at : (bs : List ℕ) → LiteralsWhole bs → Produces K (OnePattern K e z at) (filler_at e at bs)
  unfolding filler_at literal_in pattern_holds bytes all quote
  produces_filler_at bs whole =
      produces_next _ (produces_string_name e placed (λ n. filler n ∷ []) bs whole) (λ i rest whole.
      produces_if (begins (bytes "$") rest) _ _
      (λ h. produces_after _ (produces_bound e placed (drop 1 rest) (whole-behind (bytes "$") rest refl h whole)) (λ n rest whole.
      produces_after _ (produces_expect (bytes ")") rest refl whole) (λ _ rest whole.
      produces_succeed (fixed_filler i n) rest whole (λ _ l s h.
      let below = string-below e placed i h.0 h.1 h.3 in
      subst (λ s. OnePattern K e z at (fixed_filler i n) (join s no_view)) (sym h.2) (
        refl,
        refl,
        ap length (sym (fixed_literal i n)),
        (h.0, h.1, h.3, refl),
        fixed_holds e z.strings z.numbers z.steps i n ∙ both_pass below l,
      )))))
      (λ _. produces_after _ (produces_expect (bytes ")") rest refl whole) (λ _ rest whole.
      produces_succeed (free_filler i) rest whole (λ _ s h.
      subst (λ s. OnePattern K e z at (free_filler i) (join s no_view)) (sym h.2)
      (refl, refl, refl, (h.0, h.1, h.3, refl), string-below e placed i h.0 h.1 h.3)))))

  -- an element of a pattern
  produces_pattern_element : (bs : List ℕ) → LiteralsWhole bs → Produces K (OnePattern K e z at) (pattern_element e at bs)
  unfolding pattern_element pattern_holds element_holds bytes all quote
  produces_pattern_element bs whole =
      produces_if (begins (bytes "(") bs) _ _ (λ h. produces_filler_at (drop 1 bs) (whole-behind (bytes "(") bs refl h whole))
      (λ _. produces_next _ (produces_element sought_role bs whole) (λ x rest whole.
      produces_succeed (value x) rest whole (λ s h. (
        omega arith,
        omega arith,
        omega arith,
        subst (Played K at sought_role x) (sym (append-nil s.roles)) h.3,
        h.4,
      ))))

  -- a pattern
  pub produces_pattern : (bs : List ℕ) → LiteralsWhole bs → Produces K (PatternRow K e z at) (pattern e at bs)
  unfolding pattern Each all all_literals
  produces_pattern =
      produces_row {One = OnePattern K e z at} {Many = Patterns K e z at} (refl, refl, refl, refl, refl)
      (λ x xs s t h g. (
        omega arith,
        omega arith,
        omega (arith, length-append (literal_in x) (all_literals xs)),
        (s.roles, t.roles, ap (λ rs. s.roles ++ rs) (append-nil t.roles), h.3, g.3),
        both_pass h.4 g.4,
      ))
      (pattern_element e at) produces_pattern_element {Row = PatternRow K e z at} (refl, refl, refl, refl, refl, refl)
      (λ xs s few h. (
        omega arith,
        omega arith,
        omega arith,
        subst (AllPlay K at xs) (sym (append-nil s.roles)) h.3,
        le-leb (length xs) Limits.row_elements few,
        h.4,
      ))

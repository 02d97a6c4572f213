-- The laws of a class of kinds: what is spelled is read back, what is read is spelled the same. Proved for any class, and of each class kind by
-- kind. Assumes nothing.
use Rattle.std.specs.Prelude.{Bool, true, false, ◌≡◌, ℕ, ◌<◌, ltb}
use Rattle.std.proofs.Math.Bool.{cond}
use Rattle.std.proofs.lemmas.Bool.{false≢true}
use mathlib.Core.List.{List, [], ◌∷◌, map}
use Rattle.std.proofs.Math.Option.{Option, none, some}
use Rattle.std.proofs.Math.Path.{refl, ap, subst}
use Rattle.std.proofs.Common.{◌∙◌, arith}
use Rattle.std.proofs.Math.Dec.{eqb}
use borrow.Author.Tests.{ltb-true, eqb-true}
use Rattle.base.specs.Choice.{test_cases, both_true}
use Rattle.base.specs.Lists.{all}
use Rattle.syntax.specs.Program.{
  constantly,
  numbered,
  Part,
  whole,
  first,
  Operand,
  constant,
  variable,
  length_of,
  number_of,
  plus,
  minus,
  times,
  over,
  positive,
  negative,
  Item,
  operand,
  operator,
  sign,
  Element,
  literal,
  part,
  string_call,
  PatternElement,
  value,
  free_filler,
  fixed_filler,
  is_null,
  is_numeric,
  compares,
  Statement,
  set_number,
  set_string,
  goto,
  finish,
  if_test,
  scan,
  read,
  write,
  execute,
  return,
}
use Rattle.encoding.specs.Kinds.{Valuing, no_value, natural, signed, placed, spelt}
use Rattle.encoding.specs.Kinds.{Counting, no_place, of_string, of_number, Payload, CellKind, under, Spelled, spelled}
use Rattle.encoding.specs.Kinds.{part_kinds, operand_kinds, item_kinds, element_kinds, pattern_kinds, parts}
use Rattle.encoding.specs.Kinds.{spell_part, spell_operand, spell_item, spell_element, spell_pattern, operator_number, sign_number}
use Rattle.encoding.specs.Kinds.{FlagOf, StepsOf, LeftOf, RightOf, RowKind, row_kinds, SpelledRow, spelled_row, spell_statement}
use Rattle.encoding.specs.Table.{Cell, literal_of, Row}
use Rattle.encoding.specs.TableReading.{payload_in, read_cell, flag_in, steps_in, left_in, right_in, read_row}

-- the kind with a number
unfoldable pub kind_in : {A : Type 0} → List (CellKind A) → ℕ → Option (CellKind A)
kind_in [] n = none
kind_in (k ∷ ks) n = cond (eqb n k.number) (some k) (kind_in ks n)

-- the place that is written, 0 where it counts nothing
unfoldable pub place_for : Counting → ℕ → ℕ
place_for no_place p = 0
place_for of_string p = p
place_for of_number p = p

-- x is spelled by one of the kinds, which makes it of the place and the value
pub record SpelledBy {A : Type 0} (ks : List (CellKind A)) (s : Spelled A) (x : A) : Type 0 where
  pub finds : kind_in ks s.kind.number ≡ some s.kind
  pub makes : s.kind.make s.place s.payload ≡ x

-- what each of the kinds makes is spelled by it
abbrev pub Respells : {A : Type 0} → (A → Spelled A) → List (CellKind A) → Type 0
Respells spell [] = Unit {0}
Respells spell (k ∷ ks) =
    ((p : ℕ) (v : Payload k.valuing) → spell (k.make p v) ≡ spelled k (place_for k.counting p) v) × Respells spell ks

-- A class: kinds with a spelling, one to one.
pub record KindClass {A : Type 0} (ks : List (CellKind A)) (spell : A → Spelled A) : Type 0 where
  pub spells : (x : A) → SpelledBy ks (spell x) x
  pub respells : Respells spell ks
  pub small : all (λ k. ltb k.number 256) ks ≡ true

-- a kind that has no literal bytes
unfoldable pub has_none : Valuing → Bool
has_none no_value = true
has_none natural = true
has_none signed = true
has_none placed = true
has_none spelt = false

no_literal : (v : Valuing) (w : Payload v) → has_none v ≡ true → literal_of v w ≡ []
unfolding has_none literal_of
no_literal no_value w h = refl
no_literal natural w h = refl
no_literal signed w h = refl
no_literal placed w h = refl
no_literal spelt w h = absurd (false≢true h)

-- nothing is something, or something something else
none_some : {A : Type 0} {k : A} → none ≡ some k → ⊥
none_some {A} e = subst (λ (o : Option A). elim o as (λ _. Type 0) [ none ↦ Unit {0} | some x ↦ ⊥ ]) e tt

some_same : {A : Type 0} {k l : A} → some l ≡ some k → l ≡ k
some_same {A} {k} {l} e = ap (λ (o : Option A). elim o [ none ↦ l | some x ↦ x ]) e

module _ {A : Type 0} where
  -- a cell whose kind is found is read by it
  pub read_found : (other : A) (ks : List (CellKind A)) (k : CellKind A) (t : List ℕ) (c : Cell) → kind_in ks c.kind ≡ some k
      → read_cell other ks t c ≡ k.make c.place (payload_in t k.valuing c.value)
  unfolding kind_in read_cell
  read_found other [] k t c h = absurd (none_some h)
  read_found other (l ∷ ks) k t c h =
      test_cases
      (λ b. cond b (some l) (kind_in ks c.kind) ≡ some k
      → cond b (l.make c.place (payload_in t l.valuing c.value)) (read_cell other ks t c)
      ≡ k.make c.place (payload_in t k.valuing c.value))
      (eqb c.kind l.number)
      (λ _ e. ap (λ (m : CellKind A). m.make c.place (payload_in t m.valuing c.value)) (some_same e))
      (λ _ e. read_found other ks k t c e) h

  -- what kinds under f are read as is f of what the kinds are read as
  pub read_under : {B : Type 0} (f : A → B) (other : A) (ks : List (CellKind A)) (t : List ℕ) (c : Cell)
      → read_cell (f other) (map (under f) ks) t c ≡ f (read_cell other ks t c)
  unfolding read_cell
  read_under f other [] t c = refl
  read_under {B} f other (k ∷ ks) t c =
      let made = k.make c.place (payload_in t k.valuing c.value) in
      test_cases (λ b. cond b (f made) (read_cell (f other) (map (under f) ks) t c) ≡ f (cond b made (read_cell other ks t c)))
      (eqb c.kind k.number) (λ _. refl) (λ _. read_under f other ks t c)

  -- a kind that is found passes a test that all pass
  pub found-passes : (f : CellKind A → Bool) (ks : List (CellKind A)) (n : ℕ) (k : CellKind A) → all f ks ≡ true → kind_in ks n ≡ some k → f k ≡ true
  unfolding kind_in all
  found-passes f [] n k h e = absurd (none_some e)
  found-passes f (l ∷ ks) n k h e =
      let both = both_true (f l) (all f ks) h in
      test_cases (λ b. cond b (some l) (kind_in ks n) ≡ some k → f k ≡ true) (eqb n l.number)
      (λ _ g. subst (λ (m : CellKind A). f m ≡ true) (some_same g) both.0) (λ _ g. found-passes f ks n k both.1 g) e

  -- and has the number by which it is found
  pub found_number : (ks : List (CellKind A)) (n : ℕ) (k : CellKind A) → kind_in ks n ≡ some k → n ≡ k.number
  unfolding kind_in
  found_number [] n k e = absurd (none_some e)
  found_number (l ∷ ks) n k e =
      test_cases (λ b. eqb n l.number ≡ b → cond b (some l) (kind_in ks n) ≡ some k → n ≡ k.number) (eqb n l.number)
      (λ _ h g. eqb-true n l.number h ∙ ap (λ (m : CellKind A). m.number) (some_same g)) (λ _ h g. found_number ks n k g) refl e

  -- and what it makes is spelled by it
  pub found_respells : (spell : A → Spelled A) (ks : List (CellKind A)) (n : ℕ) (k : CellKind A) → Respells spell ks → kind_in ks n ≡ some k
      → (p : ℕ) (v : Payload k.valuing) → spell (k.make p v) ≡ spelled k (place_for k.counting p) v
  unfolding kind_in
  found_respells spell [] n k r e = absurd (none_some e)
  found_respells spell (l ∷ ks) n k r e =
      test_cases
      (λ b. cond b (some l) (kind_in ks n) ≡ some k
      → (p : ℕ) (v : Payload k.valuing) → spell (k.make p v) ≡ spelled k (place_for k.counting p) v)
      (eqb n l.number)
      (λ _ g.
      subst (λ (m : CellKind A). (p : ℕ) (v : Payload m.valuing) → spell (m.make p v) ≡ spelled m (place_for m.counting p) v) (some_same g) r.0)
      (λ _ g. found_respells spell ks n k r.1 g) e

  pub found_small : (ks : List (CellKind A)) (n : ℕ) (k : CellKind A) → all (λ k. ltb k.number 256) ks ≡ true → kind_in ks n ≡ some k
      → k.number < 256
  found_small ks n k h e = ltb-true k.number 256 (found-passes (λ k. ltb k.number 256) ks n k h e)

  -- none of the kinds has literal bytes
  unfoldable pub all_plain : List (CellKind A) → Bool
  all_plain ks = all (λ k. has_none k.valuing) ks

  pub found_none : (ks : List (CellKind A)) (n : ℕ) (k : CellKind A) → all_plain ks ≡ true → kind_in ks n ≡ some k → has_none k.valuing ≡ true
  unfolding all_plain
  found_none ks n k h e = found-passes (λ k. has_none k.valuing) ks n k h e

  pub found_plain : (ks : List (CellKind A)) (n : ℕ) (k : CellKind A) → all_plain ks ≡ true → kind_in ks n ≡ some k → (w : Payload k.valuing)
      → literal_of k.valuing w ≡ []
  found_plain ks n k h e w = no_literal k.valuing w (found_none ks n k h e)

-- each class, kind by kind
pub part_class : KindClass (part_kinds parts) (spell_part parts)
unfolding part_kinds spell_part kind_in place_for all
part_class = record { spells = spells; respells = (λ p v. refl, (λ p v. refl, (λ p v. refl, tt))); small = refl }
  where
    spells : (p : Part) → SpelledBy (part_kinds parts) (spell_part parts p) p
    spells (whole s) = record { finds = refl; makes = refl }
    spells (first s (constantly z)) = record { finds = refl; makes = refl }
    spells (first s (numbered i)) = record { finds = refl; makes = refl }

pub operand_class : KindClass operand_kinds spell_operand
unfolding part_kinds spell_part operand_kinds spell_operand kind_in place_for all
operand_class = record { spells = spells; respells = (λ p v. refl, (λ p v. refl, (λ p v. refl, (λ p v. refl, (λ p v. refl, (λ p v. refl, tt)))))); small = refl }
  where
    spells : (a : Operand) → SpelledBy operand_kinds (spell_operand a) a
    spells (constant z) = record { finds = refl; makes = refl }
    spells (variable i) = record { finds = refl; makes = refl }
    spells (length_of s) = record { finds = refl; makes = refl }
    spells (number_of (whole s)) = record { finds = refl; makes = refl }
    spells (number_of (first s (constantly z))) = record { finds = refl; makes = refl }
    spells (number_of (first s (numbered i))) = record { finds = refl; makes = refl }

pub item_class : KindClass item_kinds spell_item
unfolding part_kinds spell_part operand_kinds spell_operand item_kinds spell_item operator_number sign_number kind_in place_for all
item_class = record { spells = spells; respells = (λ p v. refl, (λ p v. refl, (λ p v. refl, (λ p v. refl, (λ p v. refl, (λ p v. refl, (λ p v. refl, (λ p v. refl, (λ p v. refl, (λ p v. refl, (λ p v. refl, (λ p v. refl, tt)))))))))))); small = refl }
  where
    spells : (x : Item) → SpelledBy item_kinds (spell_item x) x
    spells (operator plus) = record { finds = refl; makes = refl }
    spells (operator minus) = record { finds = refl; makes = refl }
    spells (operator times) = record { finds = refl; makes = refl }
    spells (operator over) = record { finds = refl; makes = refl }
    spells (sign positive) = record { finds = refl; makes = refl }
    spells (sign negative) = record { finds = refl; makes = refl }
    spells (operand (constant z)) = record { finds = refl; makes = refl }
    spells (operand (variable i)) = record { finds = refl; makes = refl }
    spells (operand (length_of s)) = record { finds = refl; makes = refl }
    spells (operand (number_of (whole s))) = record { finds = refl; makes = refl }
    spells (operand (number_of (first s (constantly z)))) = record { finds = refl; makes = refl }
    spells (operand (number_of (first s (numbered i)))) = record { finds = refl; makes = refl }

pub element_class : KindClass element_kinds spell_element
unfolding part_kinds spell_part element_kinds spell_element kind_in place_for all
element_class = record { spells = spells; respells = (λ p v. refl, (λ p v. refl, (λ p v. refl, (λ p v. refl, (λ p v. refl, (λ p v. refl, tt)))))); small = refl }
  where
    spells : (x : Element) → SpelledBy element_kinds (spell_element x) x
    spells (literal w) = record { finds = refl; makes = refl }
    spells (string_call (constantly z) m) = record { finds = refl; makes = refl }
    spells (string_call (numbered i) m) = record { finds = refl; makes = refl }
    spells (part (whole s)) = record { finds = refl; makes = refl }
    spells (part (first s (constantly z))) = record { finds = refl; makes = refl }
    spells (part (first s (numbered i))) = record { finds = refl; makes = refl }

pub pattern_class : KindClass pattern_kinds spell_pattern
unfolding part_kinds spell_part element_kinds spell_element pattern_kinds spell_pattern kind_in place_for all
pattern_class = record { spells = spells; respells = (λ p v. refl, (λ p v. refl, (λ p v. refl, (λ p v. refl, (λ p v. refl, (λ p v. refl, (λ p v. refl, (λ p v. refl, (λ p v. refl, tt))))))))); small = refl }
  where
    spells : (x : PatternElement) → SpelledBy pattern_kinds (spell_pattern x) x
    spells (free_filler s) = record { finds = refl; makes = refl }
    spells (fixed_filler s (constantly z)) = record { finds = refl; makes = refl }
    spells (fixed_filler s (numbered i)) = record { finds = refl; makes = refl }
    spells (value (literal w)) = record { finds = refl; makes = refl }
    spells (value (string_call (constantly z) m)) = record { finds = refl; makes = refl }
    spells (value (string_call (numbered i) m)) = record { finds = refl; makes = refl }
    spells (value (part (whole s))) = record { finds = refl; makes = refl }
    spells (value (part (first s (constantly z)))) = record { finds = refl; makes = refl }
    spells (value (part (first s (numbered i)))) = record { finds = refl; makes = refl }

-- the kind of row with a number
unfoldable pub row_in : List RowKind → ℕ → Option RowKind
row_in [] n = none
row_in (k ∷ ks) n = cond (eqb n k.number) (some k) (row_in ks n)

-- a statement is spelled by one of the kinds, which makes it of its fields
pub record RowSpells (s : SpelledRow) (x : Statement) : Type 0 where
  pub finds : row_in row_kinds s.kind.number ≡ some s.kind
  pub makes : s.kind.make s.flag s.steps s.left s.right ≡ x

-- a row whose kind is found is read by it
abbrev pub row_by : RowKind → List ℕ → Row → Statement
row_by k t r = k.make (flag_in k.flagging r.flag) (steps_in k.stepping r) (left_in k.lefting r.left) (right_in t k.righting r.right)

pub row-found : (ks : List RowKind) (k : RowKind) (t : List ℕ) (r : Row) → row_in ks r.kind ≡ some k → read_row ks t r ≡ row_by k t r
unfolding row_in read_row
row-found [] k t r h = absurd (none_some h)
row-found (l ∷ ks) k t r h =
    test_cases (λ b. cond b (some l) (row_in ks r.kind) ≡ some k → cond b (row_by l t r) (read_row ks t r) ≡ row_by k t r)
    (eqb r.kind l.number) (λ _ e. ap (λ (m : RowKind). row_by m t r) (some_same e)) (λ _ e. row-found ks k t r e) h

-- statements, kind by kind
pub row_spells : (x : Statement) → RowSpells (spell_statement x) x
unfolding spell_statement row_kinds row_in
row_spells (set_number i x) = record { finds = refl; makes = refl }
row_spells (set_string p xs) = record { finds = refl; makes = refl }
row_spells (goto k) = record { finds = refl; makes = refl }
row_spells finish = record { finds = refl; makes = refl }
row_spells (if_test (is_null s) b) = record { finds = refl; makes = refl }
row_spells (if_test (is_numeric p) b) = record { finds = refl; makes = refl }
row_spells (if_test (compares x c y) b) = record { finds = refl; makes = refl }
row_spells (scan d p xs none b) = record { finds = refl; makes = refl }
row_spells (scan d p xs (some ys) b) = record { finds = refl; makes = refl }
row_spells (read p b) = record { finds = refl; makes = refl }
row_spells (write xs) = record { finds = refl; makes = refl }
row_spells (execute k) = record { finds = refl; makes = refl }
row_spells return = record { finds = refl; makes = refl }

-- their numbers go up to 81
pub row_small : (x : Statement) → (spell_statement x).kind.number < 82
unfolding spell_statement
row_small (set_number i x) = omega arith
row_small (set_string p xs) = omega arith
row_small (goto k) = omega arith
row_small finish = omega arith
row_small (if_test (is_null s) b) = omega arith
row_small (if_test (is_numeric p) b) = omega arith
row_small (if_test (compares x c y) b) = omega arith
row_small (scan d p xs none b) = omega arith
row_small (scan d p xs (some ys) b) = omega arith
row_small (read p b) = omega arith
row_small (write xs) = omega arith
row_small (execute k) = omega arith
row_small return = omega arith

-- what each kind makes of its fields is spelled by it
abbrev pub RowsRespell : List RowKind → Type 0
RowsRespell [] = Unit {0}
RowsRespell (k ∷ ks) =
    ((f : FlagOf k.flagging) (s : StepsOf k.stepping) (l : LeftOf k.lefting) (r : RightOf k.righting)
    → spell_statement (k.make f s l r) ≡ spelled_row k f s l r)
    × RowsRespell ks

pub row_respells : (ks : List RowKind) (n : ℕ) (k : RowKind) → RowsRespell ks → row_in ks n ≡ some k
    → (f : FlagOf k.flagging) (s : StepsOf k.stepping) (l : LeftOf k.lefting) (r : RightOf k.righting)
    → spell_statement (k.make f s l r) ≡ spelled_row k f s l r
unfolding row_in
row_respells [] n k g e = absurd (none_some e)
row_respells (m ∷ ks) n k g e =
    test_cases
    (λ b. cond b (some m) (row_in ks n) ≡ some k
    → (f : FlagOf k.flagging) (s : StepsOf k.stepping) (l : LeftOf k.lefting) (r : RightOf k.righting)
    → spell_statement (k.make f s l r) ≡ spelled_row k f s l r)
    (eqb n m.number)
    (λ _ h.
    subst
    (λ (k : RowKind). (f : FlagOf k.flagging) (s : StepsOf k.stepping) (l : LeftOf k.lefting) (r : RightOf k.righting)
    → spell_statement (k.make f s l r) ≡ spelled_row k f s l r)
    (some_same h) g.0)
    (λ _ h. row_respells ks n k g.1 h) e

-- a kind of row that is found has the number by which it is found
pub row_number : (ks : List RowKind) (n : ℕ) (k : RowKind) → row_in ks n ≡ some k → n ≡ k.number
unfolding row_in
row_number [] n k e = absurd (none_some e)
row_number (m ∷ ks) n k e =
    test_cases (λ b. eqb n m.number ≡ b → cond b (some m) (row_in ks n) ≡ some k → n ≡ k.number) (eqb n m.number)
    (λ _ h g. eqb-true n m.number h ∙ ap (λ (l : RowKind). l.number) (some_same g)) (λ _ h g. row_number ks n k g) refl e

pub rows_respell : RowsRespell row_kinds
unfolding spell_statement row_kinds
rows_respell = (λ f s l r. refl, (λ f s l r. refl, (λ f s l r. refl, (λ f s l r. refl, (λ f s l r. refl, (λ f s l r. refl, (λ f s l r. refl, (λ f s l r. refl, (λ f s l r. refl, (λ f s l r. refl, (λ f s l r. refl, (λ f s l r. refl, (λ f s l r. refl, tt)))))))))))))

-- classes without literal bytes
pub part_plain : all_plain (part_kinds parts) ≡ true
unfolding all_plain all has_none part_kinds
part_plain = refl

pub operand_plain : all_plain operand_kinds ≡ true
unfolding all_plain all has_none part_kinds operand_kinds
operand_plain = refl

pub item_plain : all_plain item_kinds ≡ true
unfolding all_plain all has_none part_kinds operand_kinds item_kinds
item_plain = refl

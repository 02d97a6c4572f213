-- How STRING calls and fillers are put together from names, constants and marks. Assumes nothing.
use Rattle.std.specs.Prelude.{Option, Some, Bool, true, false, ◌||◌, ◌≡◌, refl, ℤ, pos, drop, get_or}
use mathlib.Core.List.{List, [], ◌∷◌}
use Rattle.std.proofs.Math.Path.{sym, ap}
use Rattle.std.proofs.Common.{◌∙◌}
use Prim.Native.Nat.{ℕ}
use Rattle.base.specs.Current.{current}
use Rattle.base.specs.Lists.{begins}
use Rattle.base.specs.Text.{bytes}
use Rattle.encoding.specs.Kinds.{text_kind, text_by_kind, free_kind, fixed_kind}
use Rattle.encoding.specs.Numerals.{bias, biased}
use Rattle.encoding.specs.Table as Table
use Rattle.encoding.specs.Table.{pattern_cell, literal_in}
use Rattle.cards.specs.Bytes.{is_digit}
use Rattle.syntax.specs.Program as Program
use Rattle.syntax.specs.Program.{Part, whole, first, Length, constantly, numbered, Element, PatternElement, free_filler, fixed_filler}
use Rattle.syntax.specs.Parsing.{Role, Mentions, Parsed, got, broken, ◌>>=◌, mentioning, succeed, expect}
use Rattle.syntax.specs.Strings.{text_call, filler_at}
use Rattle.syntax.specs.Lexemes.{Resolution, signed, is_sign, number_name, bound, string_name, part_name}
use Rattle.symbols.specs.Entries.{role_of, mentions_in}
use Rattle.symbols.specs.ParsingLaws.{expect_then, expect_broken}
use Rattle.symbols.specs.declared.Cursor.{Cursor}
use Rattle.symbols.specs.declared.Mentioned.{Mentioned}
use Rattle.symbols.specs.declared.tags.Role.TheVariants.{Filler}
use Rattle.encoding.specs.Meaning.{cell_meaning}
use Rattle.encoding.specs.declared.cells.Cell.{Cell}
use Rattle.numeric_parser.specs.OperandLaws.{skipped, drop-moved, then_broken, cell_same, place-cell, cell_skip, cell_then, chosen, closed_cell}
use Rattle.numeric_parser.specs.Operands.{cursor_moved, Gets, OperandRead, PlaceRead, length_cell, placed_in, behind_parenthesis}
use Rattle.string_parser.specs.Cells.{bare_cell, number_end, number_follows, constant_call, number_or_end, number_call, LengthCell}

-- two ways to go on are the same where they are the same behind a reading
module _ {A B C : Type 0} {f : A → C} {v : C} {text : List ℕ} {m : Mentioned} {c : Cursor} {x : Parsed A} {m₁ : Mentioned} {d : Cursor}
    (r : Gets f v text m c x m₁ d) where
  pub then_same : (next next' : A × List ℕ → Parsed B) → next (r.value, drop d.at text) ≡ next' (r.value, drop d.at text)
      → x >>= next ≡ x >>= next'
  unfolding ◌>>=◌ mentioning
  then_same next next' e =
      ap (λ (y : Parsed A). y >>= next) r.is
      ∙ ap (mentioning (mentions_in r.entries 0 [] 0)) e
      ∙ sym (ap (λ (y : Parsed A). y >>= next') r.is)

module _ (p : Resolution) {text : List ℕ} {m : Mentioned} {c : Cursor} where
  -- the m of STRING with its `)`
  pub number_ends : (kind v : ℕ) (q : Option (ℕ × Cursor)) {m₁ : Mentioned} → PlaceRead text m c (number_name current p (drop c.at text)) q m₁
      → (n : Length) → LengthCell n kind v
      → OperandRead bare_cell text m c (number_end p n (drop c.at text)) (behind_parenthesis text (placed_in kind v q)) m₁
  number_ends kind v q a n same =
      closed_cell (Program.string_call n) bare_cell same (placed_in kind v q) (place-cell kind v q a)

  -- behind a comma
  pub number_follows_lem : (kind v : ℕ) (q : Option (Cell × Cursor)) {d : Cursor} {m₁ : Mentioned} → d ≡ cursor_moved c 1
      → begins (44 ∷ []) (drop c.at text) ≡ true
      → ((n : Length) → LengthCell n kind v → OperandRead bare_cell text m d (number_end p n (drop d.at text)) q m₁) → (n : Length)
      → LengthCell n kind v → OperandRead bare_cell text m c (number_follows p n (drop c.at text)) q m₁
  unfolding bytes
  number_follows_lem kind v q s e a n same =
      cell_same
      (expect_then (44 ∷ []) (drop c.at text) (λ (_, rest). number_end p n rest) e ∙ ap (number_end p n) (sym (drop-moved text c 1 s)))
      (cell_skip 1 q (skipped c 1 s) (a n same))

pub number_alone : (p : Resolution) (bs : List ℕ) → begins (44 ∷ []) bs ≡ false → (n : Length) → number_follows p n bs ≡ broken
unfolding bytes
number_alone p bs e n = expect_broken (44 ∷ []) bs (λ (_, rest). number_end p n rest) e

-- a kind of its own for each n
pub standing_constant : (z : ℤ) {v : ℕ} → v ≡ biased z → LengthCell (constantly z) text_kind.number v
unfolding pattern_cell
standing_constant z e m = ap (Table.cell text_kind.number m) (sym e)

pub standing_number : (i : ℕ) → LengthCell (numbered i) text_by_kind.number i
unfolding pattern_cell
standing_number i m = refl

-- STRING with a constant
pub constant_called : (p : Resolution) {text : List ℕ} {m : Mentioned} {c : Cursor} (n : Cell) {m₁ : Mentioned} {d : Cursor}
    → Gets (λ z. Table.cell text_kind.number 0 (biased z)) (cell_meaning n) text m c (signed current (drop c.at text)) m₁ d
    → (q : Option (Cell × Cursor)) {m₂ : Mentioned}
    → ((k : Length) → LengthCell k text_kind.number n.value → OperandRead bare_cell text m₁ d (number_follows p k (drop d.at text)) q m₂)
    → OperandRead bare_cell text m c (constant_call p (drop c.at text)) q m₂
constant_called p n a q b =
    cell_then a (λ (z, rest). number_follows p (constantly z) rest) bare_cell q
    (b (constantly a.value) (standing_constant a.value (sym (ap (λ (v : Table.Cell). v.value) a.made))))

-- a fixed filler as a cell with a length
filler-length : (s : ℕ) (n : Length) → pattern_cell 0 (fixed_filler s n) ≡ length_cell fixed_kind.number s n
unfolding pattern_cell length_cell
filler-length s (constantly z) = refl
filler-length s (numbered i) = refl

module _ (p : Resolution) {text : List ℕ} {m : Mentioned} {c : Cursor} {place : ℕ} {m₁ : Mentioned} {d : Cursor} where
  -- STRING with a number n, and with m alone
  module _ (a : Gets (λ j. j) place text m c (number_name current p (drop c.at text)) m₁ d) where
    pub number_comma : (q : Option (Cell × Cursor)) {e : Cursor} {m₂ : Mentioned} → e ≡ cursor_moved d 1 → begins (44 ∷ []) (drop d.at text) ≡ true
        → ((n : Length) → LengthCell n text_by_kind.number place → OperandRead bare_cell text m₁ e (number_end p n (drop e.at text)) q m₂)
        → OperandRead bare_cell text m c (number_call p (drop c.at text)) q m₂
    unfolding bytes
    number_comma q s comma b =
        let standing : LengthCell (numbered a.value) text_by_kind.number place =
        λ m. standing_number a.value m ∙ ap (Table.cell text_by_kind.number m) a.made in
        cell_then a (λ (i, rest). number_or_end p i rest) bare_cell q
        (cell_same (chosen _ _ comma ∙ ap (number_end p (numbered a.value)) (sym (drop-moved text d 1 s)))
        (cell_skip 1 q (skipped d 1 s) (b (numbered a.value) standing)))

    pub number_only : begins (44 ∷ []) (drop d.at text) ≡ false
        → OperandRead bare_cell text m c (number_call p (drop c.at text))
        (behind_parenthesis text (Some ((record { kind = text_kind.number; place = place; value = 140_737_488_355_328 }), d))) m₁
    unfolding bytes pattern_cell biased bias
    number_only none =
        let v : Option (Cell × Cursor) = Some ((record { kind = text_kind.number; place = place; value = 140_737_488_355_328 }), d) in
        let only : ℕ × List ℕ → Parsed Element =
        λ (i, rest). expect (bytes ")") rest >>= λ (_, rest). succeed (Program.string_call (constantly (pos 0)) i) rest in
        cell_same (then_same a (λ (i, rest). number_or_end p i rest) only (chosen _ _ none))
        (closed_cell (Program.string_call (constantly (pos 0))) bare_cell (λ _. refl) v
        (place-cell text_kind.number 140_737_488_355_328 (Some (place, d)) (record { answer = a })))

  -- a filler: fixed where `$` and a length follow
  module _ (a : Gets (λ j. j) place text m c (string_name current p (role_of (Some Filler)) (drop c.at text)) m₁ d) where
    pub filler_fixed : (q : Option (Cell × Cursor)) {e : Cursor} {m₂ : Mentioned} → e ≡ cursor_moved d 1 → begins (36 ∷ []) (drop d.at text) ≡ true
        → OperandRead (length_cell fixed_kind.number place) text m₁ e (bound current p (drop e.at text)) q m₂
        → OperandRead (pattern_cell 0) text m c (filler_at current p (drop c.at text)) (behind_parenthesis text q) m₂
    unfolding bytes filler_at role_of
    filler_fixed q s dollar b =
        let closes : List ℕ → Parsed PatternElement =
        λ l. bound current p l >>= λ (n, rest). expect (bytes ")") rest >>= λ (_, rest). succeed (fixed_filler a.value n) rest in
        cell_then a _ (pattern_cell 0) (behind_parenthesis text q)
        (cell_same (chosen _ _ dollar ∙ ap closes (sym (drop-moved text d 1 s)))
        (closed_cell (fixed_filler a.value) (pattern_cell 0)
        (λ n. filler-length a.value n ∙ ap (λ j. length_cell fixed_kind.number j n) a.made) q
        (cell_skip 1 q (skipped d 1 s) b)))

    pub filler_free : begins (36 ∷ []) (drop d.at text) ≡ false
        → OperandRead (pattern_cell 0) text m c (filler_at current p (drop c.at text))
        (behind_parenthesis text (Some ((record { kind = free_kind.number; place = place; value = 0 }), d))) m₁
    unfolding bytes pattern_cell filler_at role_of
    filler_free none =
        let v : Option (Cell × Cursor) = Some ((record { kind = free_kind.number; place = place; value = 0 }), d) in
        let free : ℕ × List ℕ → Parsed PatternElement =
        λ (s, rest). expect (bytes ")") rest >>= λ (_, rest). succeed (free_filler s) rest in
        cell_same (then_same a _ free (chosen _ _ none))
        (closed_cell free_filler (pattern_cell 0) (λ _. refl) v
        (place-cell free_kind.number 0 (Some (place, d)) (record { answer = a })))

pub filler_broken : (p : Resolution) (bs : List ℕ) → string_name current p (role_of (Some Filler)) bs ≡ broken → filler_at current p bs ≡ broken
unfolding filler_at role_of
filler_broken p bs e = then_broken _ e

-- a STRING call by its first byte
module _ (p : Resolution) {text : List ℕ} {m : Mentioned} {c : Cursor} {q : Option (Cell × Cursor)} {m₁ : Mentioned} where
  pub text_constant : (is_digit (get_or (drop c.at text) 0 0) || is_sign (drop c.at text)) ≡ true
      → OperandRead bare_cell text m c (constant_call p (drop c.at text)) q m₁
      → OperandRead bare_cell text m c (text_call current p (drop c.at text)) q m₁
  unfolding text_call
  text_constant e a = cell_same (chosen _ _ e) a

  pub text_number : (is_digit (get_or (drop c.at text) 0 0) || is_sign (drop c.at text)) ≡ false
      → OperandRead bare_cell text m c (number_call p (drop c.at text)) q m₁
      → OperandRead bare_cell text m c (text_call current p (drop c.at text)) q m₁
  unfolding text_call
  text_number e a = cell_same (chosen _ _ e) a

-- an element with no literal bytes, whose cell doesn't depend on those before
pub record Bare (x : PatternElement) : Type 0 where
  pub none : literal_in x ≡ []
  pub same : (l : ℕ) → pattern_cell l x ≡ pattern_cell 0 x

bare_text : (n : Length) (m : ℕ) → Bare (Program.value (Program.string_call n m))
unfolding literal_in pattern_cell
bare_text (constantly z) m = record { none = refl; same = λ _. refl }
bare_text (numbered i) m = record { none = refl; same = λ _. refl }

bare_part : (x : Part) → Bare (Program.value (Program.part x))
unfolding literal_in pattern_cell
bare_part (whole s) = record { none = refl; same = λ _. refl }
bare_part (first s (constantly z)) = record { none = refl; same = λ _. refl }
bare_part (first s (numbered i)) = record { none = refl; same = λ _. refl }

bare_free : (s : ℕ) → Bare (free_filler s)
unfolding literal_in pattern_cell
bare_free s = record { none = refl; same = λ _. refl }

bare_fixed : (s : ℕ) (n : Length) → Bare (fixed_filler s n)
unfolding literal_in pattern_cell
bare_fixed s (constantly z) = record { none = refl; same = λ _. refl }
bare_fixed s (numbered i) = record { none = refl; same = λ _. refl }

-- whatever is read is so
pub data Always {A : Type 0} (P : A → Type 0) : Parsed A → Type 0 where
  so : {a : A} {m : Mentions} {rest : List ℕ} → P a → Always P (got a m rest)
  never : Always P broken

always_mentioning : {B : Type 0} (P : B → Type 0) (m : Mentions) (x : Parsed B) → Always P x → Always P (mentioning m x)
unfolding mentioning
always_mentioning P m (got b n rest) (so h) = so h
always_mentioning P m broken never = never

always_then : {A B : Type 0} (P : B → Type 0) (x : Parsed A) (next : A × List ℕ → Parsed B)
    → ((a : A) (rest : List ℕ) → Always P (next (a, rest))) → Always P (x >>= next)
unfolding ◌>>=◌
always_then P (got a m rest) next h = always_mentioning P m (next (a, rest)) (h a rest)
always_then P broken next h = never

always_chosen : {A : Type 0} (P : A → Type 0) (test : Bool) (x y : Parsed A) → Always P x → Always P y
    → Always P (elim test [ true ↦ x | false ↦ y ])
always_chosen P true x y h g = h
always_chosen P false x y h g = g

-- so is the value that was read
pub always_got : {A : Type 0} {P : A → Type 0} {a : A} {m : Mentions} {rest : List ℕ} → Always P (got a m rest) → P a
always_got (so h) = h

module _ (p : Resolution) where
  abbrev BareElement : Element → Type 0
  BareElement x = Bare (Program.value x)

  end_bare : (n : Length) (bs : List ℕ) → Always BareElement (number_end p n bs)
  unfolding succeed
  end_bare n bs = always_then BareElement _ _ (λ m rest. always_then BareElement _ _ (λ _ rest. so (bare_text n m)))

  pub text_bare : (bs : List ℕ) → Always BareElement (text_call current p bs)
  unfolding text_call succeed
  text_bare bs =
      let constants : Always BareElement (constant_call p bs) =
      always_then BareElement _ _ (λ n rest. always_then BareElement _ _ (λ _ rest. end_bare (constantly n) rest)) in
      let alone : (i : ℕ) (rest : List ℕ)
      → Always BareElement (expect (bytes ")") rest >>= λ (_, rest). succeed (Program.string_call (constantly (pos 0)) i) rest) =
      λ i rest. always_then BareElement _ _ (λ _ rest. so (bare_text (constantly (pos 0)) i)) in
      let numbers : Always BareElement (number_call p bs) =
      always_then BareElement _ _ (λ i rest.
      always_chosen BareElement (begins (bytes ",") rest) _ _ (end_bare (numbered i) (drop 1 rest)) (alone i rest)) in
      always_chosen BareElement (is_digit (get_or bs 0 0) || is_sign bs) (constant_call p bs) (number_call p bs) constants numbers

  pub part_bare : (roles : List ℕ → List Role) (bs : List ℕ)
      → Always BareElement (part_name current p roles bs >>= λ (x, rest). succeed (Program.part x) rest)
  unfolding succeed
  part_bare roles bs = always_then BareElement _ _ (λ x rest. so (bare_part x))

  pub filler-bare : (bs : List ℕ) → Always Bare (filler_at current p bs)
  unfolding filler_at succeed
  filler-bare bs =
      let fixed : (s : ℕ) (rest : List ℕ)
      → Always Bare (bound current p rest >>= λ (n, rest). expect (bytes ")") rest >>= λ (_, rest). succeed (fixed_filler s n) rest) =
      λ s rest. always_then Bare _ _ (λ n rest. always_then Bare _ _ (λ _ rest. so (bare_fixed s n))) in
      let free : (s : ℕ) (rest : List ℕ) → Always Bare (expect (bytes ")") rest >>= λ (_, rest). succeed (free_filler s) rest) =
      λ s rest. always_then Bare _ _ (λ _ rest. so (bare_free s)) in
      always_then Bare _ _ (λ s rest. always_chosen Bare (begins (bytes "$") rest) _ _ (fixed s (drop 1 rest)) (free s rest))

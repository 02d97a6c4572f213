-- Each form by its parts. Assumes nothing.
use Rattle.std.specs.Prelude.{Some, None, List, [], ◌∷◌, ◌++◌, map, ◌≡◌, ℕ, ◌+◌, ◌-◌, drop}
use Rattle.std.proofs.Common.{append-nil, subst, add-zero}
use Rattle.std.proofs.Math.Option.{Option, none, some}
use Rattle.std.proofs.Math.Path.{refl, sym, ap}
use native.Mathlib.Omega.{arith}
use Rattle.std.proofs.Math.ListN.{length}
use Rattle.base.specs.Current.{current}
use Rattle.base.specs.Text.{bytes}
use Rattle.branch_parser.specs.BranchLaws.{target_then}
use Rattle.branch_parser.specs.Branches.{target_in, target_kind}
use Rattle.branch_parser.specs.Places.{is_number_known}
use Rattle.branch_parser.specs.Tests.{nowhere, test_alone}
use Rattle.branch_parser.specs.declared.Target.{Target}
use Rattle.branch_parser.specs.declared.Target.TheVariants.{Label, Entry, Exit}
use Rattle.encoding.specs.Kinds.{parts, set_string_kind, null_kind, scan_kind, replace_kind, read_kind, write_kind}
use Rattle.encoding.specs.RowLaws.{test-elements, test-items, scan-elements, scan-items}
use Rattle.encoding.specs.Table as Table
use Rattle.encoding.specs.Table.{part_cell, range_cell, statement_row, elements_of, items_of, replacement_of, direction_number, no_cell}
use Rattle.syntax.specs.Forms.{step_form, without_unit, branch, branch_if_any, if_form, replacement_if_any, scan_form, read_form, write_form}
use Rattle.syntax.specs.Forms.{label_name, goto_form, routine_form, execute_form}
use Rattle.syntax.specs.Numeric.{test}
use Rattle.syntax.specs.Program.{Part, Branch, Test, is_null, is_numeric, compares, Element, PatternElement, value, Direction, Statement}
use Rattle.syntax.specs.Program.{set_string, goto, if_test, scan, read, write, execute}
use Rattle.syntax.specs.Parsing.{Parsed, ◌>>=◌, expect}
use Rattle.syntax.specs.Strings.{string_expression, pattern}
use Rattle.syntax.specs.Lexemes.{no_role, part_name}
use Rattle.symbols.specs.Entries.{role_of}
use Rattle.symbols.specs.Environment.{places_in}
use Rattle.symbols.specs.declared.Cursor.{Cursor}
use Rattle.numeric_parser.specs.OperandLaws.{onward_none}
use Rattle.numeric_parser.specs.Operands.{ReaderReady, Skips}
use Rattle.statement_parser.specs.Drafts.{Draft}
use Rattle.statement_parser.specs.Ends.{ended_by}
use Rattle.statement_parser.specs.FormLaws.{going_start, going_more, going_ended}
use Rattle.statement_parser.specs.Rows.{begun_as, bare, with_steps, with_branch, with_left, with_range, with_replacement}
use Rattle.statement_parser.specs.StageLaws.{marked_stage}
use Rattle.statement_parser.specs.Stages.{marked_by, StageRead, NamesStage}
use Rattle.statement_parser.specs.Steps.{FormAt, TargetLeads, string_set}
use Rattle.symbols.specs.declared.known.Known.{Known}
use Rattle.symbols.specs.declared.Mentioned.{Mentioned}
use Rattle.symbols.specs.declared.tags.Role.TheVariants.{Reference}

-- a cursor that stays
pub stays : (c : Cursor) → Skips c 0 c
stays c = record { at = sym (add-zero c.at); goes = onward_none c }

-- a keyword alone
pub plain-read : (s : Statement) (kind : ℕ) {text table : List ℕ} {m : Mentioned} {c : Cursor} → ReaderReady text c
    → bare kind 0 ≡ statement_row c.elements c.items s → [] ≡ elements_of s → [] ≡ items_of s
    → FormAt (step_form s (drop c.at text)) text table m c (ended_by text (begun_as kind 0 c)) table m
plain-read s kind {c = c} ready makes same none' =
    going_ended {A = Unit {0}} (λ _. s) (λ _ _. refl) (λ _. makes) (λ _. same) (λ _. none') (begun_as kind 0 c)
    (going_start (step_form s) 0 (stays c) ready refl)

-- a form of one part
pub one_stage : {U : Type 0} (y : List ℕ → Parsed U) (puts : ℕ → U → Table.Row → Table.Row) (eu : U → List PatternElement) (step : U → Statement)
    (kind flag : ℕ) {form : Parsed (Option Statement)} {text table : List ℕ} {m : Mentioned} {c : Cursor} (n : ℕ) {d : Cursor} → Skips c n d
    → ReaderReady text d → form ≡ (y (drop d.at text) >>= λ (u, rest). step_form (step u) rest)
    → ((u : U) → puts c.elements u (bare kind flag) ≡ statement_row c.elements c.items (step u)) → ((u : U) → eu u ≡ elements_of (step u))
    → ((u : U) → [] ≡ items_of (step u)) → (q : Draft) {t : List ℕ} {m₁ : Mentioned} → StageRead y puts eu text table m (begun_as kind flag d) q t m₁
    → FormAt form text table m c (ended_by text q) t m₁
one_stage {U} y puts eu step kind flag {c = c} n {d} s ready is makes same none' q a =
    going_ended {A = Unit {0} × U} (λ (_, u). step u) (λ _ _. refl) (λ (_, u). makes u) (λ (_, u). same u) (λ (_, u). none' u) q
    (going_more y puts eu (λ (_, u) rest. step_form (step u) rest) (λ (_, u). puts c.elements u (bare kind flag)) (λ (_, u). eu u)
    (λ _ _. refl) (λ _ u. ap (λ i. puts i u (bare kind flag)) (add-zero c.elements)) (λ _ _. refl) (begun_as kind flag d) q
    (going_start (λ rest. y rest >>= λ (u, l). step_form (step u) l) n s ready is) a)

-- GOTO, ROUTINE and EXECUTE
pub target_read : (known : Known) (target : Target) {form : List ℕ → Parsed (Option Statement)} → TargetLeads known target form
    → {text table : List ℕ} {m : Mentioned} {c : Cursor} → ReaderReady text c → (q : Draft) {m₁ : Mentioned}
    → StageRead (target_in known target) (λ _ s. with_steps s 0) (λ _. []) text table m (begun_as (target_kind target) 0 c) q table m₁
    → FormAt (form (drop c.at text)) text table m c (ended_by text q) table m₁
target_read known target l {text} {c = c} ready q a =
    one_stage (target_in known target) (λ _ s. with_steps s 0) (λ _. []) l.statement (target_kind target) 0 0 (stays c) ready (l.is (drop c.at text))
    (l.row c.elements c.items) l.no_elements l.no_items q a

module _ (known : Known) where
  pub goto_leads : TargetLeads known Label (goto_form current (is_number_known known) (places_in known))
  unfolding goto_form label_name target_in statement_row elements_of items_of no_cell
  goto_leads =
      record { statement = goto; is = λ _. refl; row = λ _ _ _. refl; no_elements = λ _. refl; no_items = λ _. refl }

  pub routine_leads : TargetLeads known Exit (routine_form current (is_number_known known) (places_in known))
  unfolding routine_form statement_row elements_of items_of no_cell
  routine_leads =
      record {
        statement = goto;
        is = λ bs. sym (target_then known Exit bs (λ (s, rest). step_form (goto s) rest));
        row = λ _ _ _. refl;
        no_elements = λ _. refl;
        no_items = λ _. refl;
      }

  pub execute_leads : TargetLeads known Entry (execute_form current (is_number_known known) (places_in known))
  unfolding execute_form statement_row elements_of items_of no_cell
  execute_leads =
      record {
        statement = execute;
        is = λ bs. sym (target_then known Entry bs (λ (s, rest). step_form (execute s) rest));
        row = λ _ _ _. refl;
        no_elements = λ _. refl;
        no_items = λ _. refl;
      }

-- WRITE and PRINT
pub output_read : (known : Known) {text table : List ℕ} {m : Mentioned} {c : Cursor} (n : ℕ) {d : Cursor} → Skips c n d
    → ReaderReady text d → without_unit (bytes "(61)") (drop c.at text) ≡ drop d.at text → (q : Draft) {t : List ℕ} {m₁ : Mentioned}
    → StageRead (string_expression current (places_in known)) (λ n xs. with_range n xs) (map value) text table m
    (begun_as write_kind.number 0 d) q t m₁
    → FormAt (write_form current (is_number_known known) (places_in known) (drop c.at text)) text table m c (ended_by text q) t m₁
unfolding write_form statement_row elements_of items_of no_cell
output_read known n s ready is q a =
    one_stage (string_expression current (places_in known)) (λ n xs. with_range n xs) (map value) write write_kind.number 0 n s ready
    (ap (λ (l : List ℕ). string_expression current (places_in known) l >>= λ (xs, rest). step_form (write xs) rest) is) (λ _. refl) (λ _. refl)
    (λ _. refl) q a

-- READ
pub input_read : (known : Known) {text : List ℕ} (table : List ℕ) {m : Mentioned} {c : Cursor} (n : ℕ) {d : Cursor} → Skips c n d
    → ReaderReady text d → without_unit (bytes "(60)") (drop c.at text) ≡ drop d.at text → (q₁ q₂ : Draft)
    {m₁ m₂ : Mentioned}
    → NamesStage (part_name current (places_in known) (role_of None)) (λ p. with_left (part_cell parts p)) text m
    (begun_as read_kind.number 0 d) q₁ m₁
    → NamesStage (branch_if_any current (is_number_known known) (places_in known)) with_branch text m₁ q₁ q₂ m₂
    → FormAt (read_form current (is_number_known known) (places_in known) (drop c.at text)) text table m c (ended_by text q₂) table m₂
unfolding read_form statement_row elements_of items_of no_cell role_of no_role
input_read known table {c = c} n {d} s ready is q₁ q₂ a b =
    let p = places_in known in
    let any = branch_if_any current (is_number_known known) p in
    going_ended {A = (Unit {0} × Part) × Branch} (λ ((_, x), y). read x y) (λ _ _. refl) (λ _. refl) (λ _. refl) (λ _. refl) q₂
    (going_more any (λ _. with_branch) (λ _. []) (λ ((_, x), y) rest. step_form (read x y) rest)
    (λ ((_, x), y). Table.row_with read_kind.number 0 y.success y.failure (part_cell parts x) no_cell) (λ _. []) (λ _ _. refl)
    (λ _ _. refl) (λ _ _. refl) q₁ q₂
    (going_more (part_name current p (role_of None)) (λ _ x. with_left (part_cell parts x)) (λ _. [])
    (λ (_, x) rest. any rest >>= λ (y, l). step_form (read x y) l) (λ (_, x). Table.row_with read_kind.number 0 0 0 (part_cell parts x) no_cell)
    (λ _. []) (λ _ _. refl) (λ _ _. refl) (λ _ _. refl) (begun_as read_kind.number 0 d) q₁
    (going_start (λ rest. part_name current p (role_of None) rest >>= λ (x, l). any l >>= λ (y, l). step_form (read x y) l) n s ready
    (ap (λ (l : List ℕ). part_name current p (role_of None) l >>= λ (x, l). any l >>= λ (y, l). step_form (read x y) l) is)) (a table)) (b table))

-- a string is set
pub string-read : (known : Known) {text table : List ℕ} {m : Mentioned} {c : Cursor} → ReaderReady text c → (q₁ q₂ q₃ : Draft)
    {t : List ℕ} {m₁ m₂ : Mentioned}
    → NamesStage (part_name current (places_in known) (role_of None)) (λ p. with_left (part_cell parts p)) text m
    (begun_as set_string_kind.number 0 c) q₁ m₁ → q₂ ≡ marked_by text 61 q₁
    → StageRead (string_expression current (places_in known)) (λ n xs. with_range n xs) (map value) text table m₁ q₂ q₃ t m₂
    → FormAt (string_set known (drop c.at text)) text table m c (ended_by text q₃) t m₂
unfolding string_set statement_row elements_of items_of no_cell role_of no_role bytes
string-read known {text} {table} {m} {c} ready q₁ q₂ q₃ {t} {m₁} a e b =
    let p = places_in known in
    let strings = string_expression current p in
    let set_row : Part → Table.Cell → Table.Row = λ x right. Table.row_with set_string_kind.number 0 0 0 (part_cell parts x) right in
    let part = a table in
    let marked = subst (λ z. StageRead (expect (61 ∷ [])) (λ _ _ r. r) (λ _. []) text table m₁ q₁ z table m₁) (sym e)
    (marked_stage text 61 q₁ part.stands) in
    going_ended {A = ((Unit {0} × Part) × Unit {0}) × List Element} (λ (((_, x), _), xs). set_string x xs) (λ _ _. refl) (λ _. refl) (λ _. refl)
    (λ _. refl) q₃
    (going_more strings (λ n xs. with_range n xs) (map value) (λ (((_, x), _), xs) rest. step_form (set_string x xs) rest)
    (λ (((_, x), _), xs). set_row x (range_cell c.elements (length xs) 0)) (λ (_, xs). map value xs)
    (λ _ _. refl)
    (λ ((_, x), _) xs. ap (λ n. set_row x (range_cell n (length xs) 0)) (add-zero c.elements)) (λ _ _. refl) q₂ q₃
    (going_more (expect (61 ∷ [])) (λ _ _ r. r) (λ _. []) (λ ((_, x), _) rest. strings rest >>= λ (xs, l). step_form (set_string x xs) l)
    (λ ((_, x), _). set_row x no_cell) (λ _. []) (λ _ _. refl) (λ _ _. refl) (λ _ _. refl) q₁ q₂
    (going_more (part_name current p (role_of None)) (λ _ x. with_left (part_cell parts x)) (λ _. [])
    (λ (_, x) rest. expect (61 ∷ []) rest >>= λ (_, l). strings l >>= λ (xs, l). step_form (set_string x xs) l)
    (λ (_, x). set_row x no_cell) (λ _. []) (λ _ _. refl) (λ _ _. refl) (λ _ _. refl) (begun_as set_string_kind.number 0 c) q₁
    (going_start (string_set known) 0 (stays c) ready refl) part) marked) b)

-- a test with its branch
test-branch : (element item : ℕ) (t : Test) (b : Branch) → with_branch b (test_alone t) ≡ statement_row element item (if_test t b)
unfolding statement_row
test-branch element item (is_null s) b = refl
test-branch element item (is_numeric p) b = refl
test-branch element item (compares x c y) b = refl

-- IF
pub if_read : (known : Known) {text : List ℕ} (table : List ℕ) {m : Mentioned} {c : Cursor} → ReaderReady text c
    → (q₁ q₂ q₃ q₄ : Draft) {m₁ m₂ : Mentioned} → q₁ ≡ marked_by text 40 (begun_as null_kind.number 0 c)
    → NamesStage (test current (places_in known)) (λ t _. test_alone t) text m q₁ q₂ m₁ → q₃ ≡ marked_by text 41 q₂
    → NamesStage (branch current (is_number_known known) (places_in known)) with_branch text m₁ q₃ q₄ m₂
    → FormAt (if_form current (is_number_known known) (places_in known) (drop c.at text)) text table m c (ended_by text q₄) table m₂
unfolding if_form bytes
if_read known {text} table {m} {c} ready q₁ q₂ q₃ q₄ {m₁} e₁ a e₂ b =
    let p = places_in known in
    let tests = test current p in
    let field = branch current (is_number_known known) p in
    let begins = begun_as null_kind.number 0 c in
    let opened = subst (λ z. StageRead (expect (40 ∷ [])) (λ _ _ r. r) (λ _. []) text table m begins z table m) (sym e₁)
    (marked_stage text 40 begins ready) in
    let tested = a table in
    let closed = subst (λ z. StageRead (expect (41 ∷ [])) (λ _ _ r. r) (λ _. []) text table m₁ q₂ z table m₁) (sym e₂)
    (marked_stage text 41 q₂ tested.stands) in
    going_ended {A = (((Unit {0} × Unit {0}) × Test) × Unit {0}) × Branch} (λ (((_, t), _), y). if_test t y) (λ _ _. refl) (λ _. refl)
    (λ (((_, t), _), y). sym (test-elements t y)) (λ (((_, t), _), y). sym (test-items t y)) q₄
    (going_more field (λ _. with_branch) (λ _. []) (λ (((_, t), _), y) rest. step_form (if_test t y) rest)
    (λ (((_, t), _), y). statement_row c.elements c.items (if_test t y)) (λ _. []) (λ _ _. refl)
    (λ ((_, t), _) y. test-branch c.elements c.items t y) (λ _ _. refl) q₃ q₄
    (going_more (expect (41 ∷ [])) (λ _ _ r. r) (λ _. []) (λ ((_, t), _) rest. field rest >>= λ (y, l). step_form (if_test t y) l)
    (λ ((_, t), _). test_alone t) (λ _. []) (λ _ _. refl) (λ _ _. refl) (λ _ _. refl) q₂ q₃
    (going_more tests (λ _ t _. test_alone t) (λ _. [])
    (λ (_, t) rest. expect (41 ∷ []) rest >>= λ (_, l). field l >>= λ (y, l). step_form (if_test t y) l) (λ (_, t). test_alone t) (λ _. [])
    (λ _ _. refl) (λ _ _. refl) (λ _ _. refl) q₁ q₂
    (going_more (expect (40 ∷ [])) (λ _ _ r. r) (λ _. [])
    (λ _ rest. tests rest >>= λ (t, l). expect (41 ∷ []) l >>= λ (_, l). field l >>= λ (y, l). step_form (if_test t y) l)
    (λ _. bare null_kind.number 0) (λ _. []) (λ _ _. refl) (λ _ _. refl) (λ _ _. refl) begins q₁
    (going_start (if_form current (is_number_known known) p) 0 (stays c) ready refl) opened) tested) closed) (b table))

-- SCAN's row with its replacement, and with its branch
module _ (way : Direction) (element item : ℕ) (x : Part) (xs : List PatternElement) where
  replacement-row : (o : Option (List Element))
      → with_replacement element (element + length xs) o
      (Table.row_with scan_kind.number (direction_number way) 0 0 (part_cell parts x) (range_cell element (length xs) 0))
      ≡ statement_row element item (scan way x xs o nowhere)
  unfolding statement_row
  replacement-row none = refl
  replacement-row (some ys) =
      let count : element + length xs - element ≡ length xs = omega arith in
      ap (λ n. Table.row_with replace_kind.number (direction_number way) 0 0 (part_cell parts x) (range_cell element n (length ys))) count

  scan-branch : (o : Option (List Element)) (b : Branch)
      → with_branch b (statement_row element item (scan way x xs o nowhere)) ≡ statement_row element item (scan way x xs o b)
  unfolding statement_row
  scan-branch none b = refl
  scan-branch (some ys) b = refl

-- SCAN
pub scan-read : (known : Known) (way : Direction) {text table : List ℕ} {m : Mentioned} {c : Cursor} → ReaderReady text c
    → (q₁ q₂ q₃ q₄ q₅ q₆ : Draft) {t₃ t₅ : List ℕ} {m₁ m₃ m₅ m₆ : Mentioned}
    → NamesStage (part_name current (places_in known) (role_of (Some Reference))) (λ p. with_left (part_cell parts p)) text m
    (begun_as scan_kind.number (direction_number way) c) q₁ m₁ → q₂ ≡ marked_by text 91 q₁
    → StageRead (pattern current (places_in known)) (λ n xs. with_range n xs) (λ xs. xs) text table m₁ q₂ q₃ t₃ m₃ → q₄ ≡ marked_by text 93 q₃
    → StageRead (replacement_if_any current (is_number_known known) (places_in known)) (λ n o. with_replacement c.elements n o)
    (λ o. map value (replacement_of o)) text t₃ m₃ q₄ q₅ t₅ m₅
    → NamesStage (branch_if_any current (is_number_known known) (places_in known)) with_branch text m₅ q₅ q₆ m₆
    → FormAt (scan_form current (is_number_known known) (places_in known) way (drop c.at text)) text table m c (ended_by text q₆) t₅ m₆
unfolding scan_form no_cell role_of bytes
scan-read known way {text} {table} {m} {c} ready q₁ q₂ q₃ q₄ q₅ q₆ {t₃} {t₅} {m₁} {m₃} a e₁ b e₂ r f =
    let p = places_in known in
    let reference = part_name current p (role_of (Some Reference)) in
    let sought = pattern current p in
    let replacement = replacement_if_any current (is_number_known known) p in
    let any = branch_if_any current (is_number_known known) p in
    let flag = direction_number way in
    let element = c.elements in
    let item = c.items in
    let scan_row : Part → Table.Cell → Table.Row = λ x right. Table.row_with scan_kind.number flag 0 0 (part_cell parts x) right in
    let part = a table in
    let opened = subst (λ z. StageRead (expect (91 ∷ [])) (λ _ _ r. r) (λ _. []) text table m₁ q₁ z table m₁) (sym e₁)
    (marked_stage text 91 q₁ part.stands) in
    let closed = subst (λ z. StageRead (expect (93 ∷ [])) (λ _ _ r. r) (λ _. []) text t₃ m₃ q₃ z t₃ m₃) (sym e₂)
    (marked_stage text 93 q₃ b.stands) in
    going_ended {A = (((((Unit {0} × Part) × Unit {0}) × List PatternElement) × Unit {0}) × Option (List Element)) × Branch}
    (λ ((((((_, x), _), xs), _), o), y). scan way x xs o y) (λ _ _. refl) (λ _. refl)
    (λ ((((((_, x), _), xs), _), o), y). sym (scan-elements way x xs o y)) (λ ((((((_, x), _), xs), _), o), y). sym (scan-items way x xs o y)) q₆
    (going_more any (λ _. with_branch) (λ _. []) (λ ((((((_, x), _), xs), _), o), y) rest. step_form (scan way x xs o y) rest)
    (λ ((((((_, x), _), xs), _), o), y). statement_row element item (scan way x xs o y))
    (λ ((((_, xs), _), o), _). xs ++ map value (replacement_of o)) (λ _ _. refl)
    (λ (((((_, x), _), xs), _), o) y. scan-branch way element item x xs o y)
    (λ (((_, xs), _), o) _. append-nil (xs ++ map value (replacement_of o))) q₅ q₆
    (going_more replacement (λ n o. with_replacement element n o) (λ o. map value (replacement_of o))
    (λ (((((_, x), _), xs), _), o) rest. any rest >>= λ (y, l). step_form (scan way x xs o y) l)
    (λ (((((_, x), _), xs), _), o). statement_row element item (scan way x xs o nowhere))
    (λ (((_, xs), _), o). xs ++ map value (replacement_of o)) (λ _ _. refl)
    (λ ((((_, x), _), xs), _) o. replacement-row way element item x xs o) (λ _ _. refl) q₄ q₅
    (going_more (expect (93 ∷ [])) (λ _ _ r. r) (λ _. [])
    (λ ((((_, x), _), xs), _) rest. replacement rest >>= λ (o, l). any l >>= λ (y, l). step_form (scan way x xs o y) l)
    (λ ((((_, x), _), xs), _). scan_row x (range_cell element (length xs) 0)) (λ ((_, xs), _). xs)
    (λ _ _. refl) (λ _ _. refl) (λ (_, xs) _. append-nil xs) q₃ q₄
    (going_more sought (λ n xs. with_range n xs) (λ xs. xs)
    (λ (((_, x), _), xs) rest.
    expect (93 ∷ []) rest >>= λ (_, l). replacement l >>= λ (o, l). any l >>= λ (y, l). step_form (scan way x xs o y) l)
    (λ (((_, x), _), xs). scan_row x (range_cell element (length xs) 0)) (λ (_, xs). xs) (λ _ _. refl)
    (λ ((_, x), _) xs. ap (λ n. scan_row x (range_cell n (length xs) 0)) (add-zero c.elements)) (λ _ _. refl) q₂ q₃
    (going_more (expect (91 ∷ [])) (λ _ _ r. r) (λ _. [])
    (λ ((_, x), _) rest.
    sought rest
    >>= λ (xs, l). expect (93 ∷ []) l >>= λ (_, l). replacement l >>= λ (o, l). any l >>= λ (y, l). step_form (scan way x xs o y) l)
    (λ ((_, x), _). scan_row x no_cell) (λ _. []) (λ _ _. refl) (λ _ _. refl) (λ _ _. refl) q₁ q₂
    (going_more reference (λ _ x. with_left (part_cell parts x)) (λ _. [])
    (λ (_, x) rest.
    expect (91 ∷ []) rest
    >>= λ (_, l).
    sought l >>= λ (xs, l). expect (93 ∷ []) l >>= λ (_, l). replacement l >>= λ (o, l). any l >>= λ (y, l). step_form (scan way x xs o y) l)
    (λ (_, x). scan_row x no_cell) (λ _. []) (λ _ _. refl) (λ _ _. refl) (λ _ _. refl) (begun_as scan_kind.number flag c) q₁
    (going_start (scan_form current (is_number_known known) p way) 0 (stays c) ready refl) part) opened) b) closed) r) (f t₅))

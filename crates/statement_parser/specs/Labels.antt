-- A statement's label: it is a name or nothing, and is mentioned first. Assumes nothing.
use Rattle.std.specs.Prelude.{Bool, cond, ◌&&◌, ◌||◌, ◌≡◌, ℕ, zero, suc, ◌+◌, ◌*◌, ◌/◌, ◌%◌, ◌≤◌, eqb, leb, length, drop}
use Rattle.std.proofs.Math.Bool.{true, false, and-eq-true_iff}
use mathlib.Core.List.{List, [], ◌∷◌}
use Rattle.std.proofs.Math.Option.{Option}
use Rattle.std.proofs.Math.Path.{refl, sym, ap, ap₂}
use Rattle.std.proofs.Common.{◌∙◌, add-zero, eq-eqb, ne_eqb, le-leb, leb-true}
use native.Mathlib.Omega.{arith}
use Rattle.std.proofs.Math.Dec.{ltb, eqb-suc-suc}
use Rattle.std.proofs.lemmas.Bool.{eqb-false}
use Rattle.base.specs.Choice.{test_cases}
use Rattle.base.specs.Current.{current}
use Rattle.base.specs.Limits as Limits
use Rattle.base.specs.Lists.{all}
use Rattle.branch_parser.specs.Places.{is_number_known}
use Rattle.cards.specs.Bytes.{between, is_letter, is_digit, is_name_byte}
use Rattle.validation.specs.Refusals.{label_form, with_label, read_statement}
use Rattle.syntax.specs.Forms.{form_of, statement_form}
use Rattle.syntax.specs.Keywords as Keywords
use Rattle.syntax.specs.Keywords.{leading}
use Rattle.syntax.specs.Program.{Statement}
use Rattle.syntax.specs.Parsing.{for_label, declaring, Mentions, no_mentions, Parsed, got, broken, mentioning}
use Rattle.syntax.specs.Fuel.{run_within}
use Rattle.syntax.specs.Lexemes.{run_length, name_length}
use Rattle.symbols.specs.Clauses.{NameNoted}
use Rattle.symbols.specs.Entries.{entry, name_from, name_of, gather, mentions_in}
use Rattle.symbols.specs.EntryLaws.{name-key, label_declared}
use Rattle.symbols.specs.ParsingLaws.{mentioning_nothing}
use Rattle.symbols.specs.Environment.{places_in}
use Rattle.symbols.specs.declared.Cursor.{Cursor}
use Rattle.numeric_parser.specs.OperandLaws.{noting_none, ready_on}
use Rattle.numeric_parser.specs.Operands.{ReaderReady, cursor_moved}
use Rattle.card_reader.specs.Keys.{key_of, is_key_byte, LabelKey}
use Rattle.card_reader.specs.Letters.{letters}
use Rattle.lexer.specs.Kinds.{kind_of, leads}
use Rattle.lexer.specs.declared.keywords.Keyword.{Keyword}
use Rattle.statement_parser.specs.Drafts.{Form}
use Rattle.statement_parser.specs.BehindLaws.{form-noted, lead_fits, of_kind}
use Rattle.statement_parser.specs.StageLaws.{form-same}
use Rattle.statement_parser.specs.Steps.{FormAt}
use Rattle.statement_parser.specs.Clauses.{Starts, FormRead}
use Rattle.symbols.specs.declared.known.Known.{Known}
use Rattle.symbols.specs.declared.Mentioned.{Mentioned}
use Rattle.symbols.specs.declared.tags.Tag.TheVariants.{LabelDeclared}

-- ---- the bytes of a key, one by one
unfoldable pub name_shown : ℕ → Bool
name_shown key = is_letter (key % 256) && all is_name_byte (name_of (key / 256))

from-same : (m n k : ℕ) → k ≤ m → k ≤ n → name_from m k ≡ name_from n k
unfolding name_from
from-same zero zero k h g = refl
from-same zero (suc n) k h g = ap {B = List ℕ} (λ t. elim t [ true ↦ [] | false ↦ k % 256 ∷ name_from n (k / 256) ]) (sym (eq-eqb k 0 (omega arith)))
from-same (suc m) zero k h g = ap {B = List ℕ} (λ t. elim t [ true ↦ [] | false ↦ k % 256 ∷ name_from m (k / 256) ]) (eq-eqb k 0 (omega arith))
from-same (suc m) (suc n) k h g =
    test_cases
    (λ t.
    eqb k 0 ≡ t
    → ◌≡◌ {A = List ℕ} (elim t [ true ↦ [] | false ↦ k % 256 ∷ name_from m (k / 256) ])
    (elim t [ true ↦ [] | false ↦ k % 256 ∷ name_from n (k / 256) ]))
    (eqb k 0) (λ _ _. refl)
    (λ _ e.
    let some = eqb-false k 0 e in
    let small : k / 256 ≤ m = omega arith in
    let short : k / 256 ≤ n = omega arith in
    ap (λ (l : List ℕ). k % 256 ∷ l) (from-same m n (k / 256) small short))
    refl

name-more : (k : ℕ) → (k ≡ 0 → ⊥) → name_of k ≡ k % 256 ∷ name_of (k / 256)
unfolding name_of name_from
name-more zero h = absurd (h refl)
name-more (suc k) h =
    let small : suc k / 256 ≤ k = omega arith in
    ap {B = List ℕ} (λ t. elim t [ true ↦ [] | false ↦ suc k % 256 ∷ name_from k (suc k / 256) ]) (ne_eqb (suc k) 0 h)
    ∙ ap (λ (l : List ℕ). suc k % 256 ∷ l) (from-same k (suc k / 256) (suc k / 256) small (omega arith))

-- the bytes of rest are all that is left to be looked at
pub record Looked (key rest : ℕ) : Type 0 where
  pub letter : is_letter (key % 256) ≡ true
  pub left : all is_name_byte (name_of (key / 256)) ≡ all is_name_byte (name_of rest)

pub looked_start : (key : ℕ) → is_letter (key % 256) ≡ true → Looked key (key / 256)
looked_start key e = record { letter = e; left = refl }

module _ (key rest : ℕ) (a : Looked key rest) where
  looked_on : (rest ≡ 0 → ⊥) → all is_name_byte (name_of (key / 256)) ≡ (is_name_byte (rest % 256) && all is_name_byte (name_of (rest / 256)))
  unfolding all
  looked_on h = a.left ∙ ap (all is_name_byte) (name-more rest h)

  pub looked_more : (rest ≡ 0 → ⊥) → is_name_byte (rest % 256) ≡ true → Looked key (rest / 256)
  looked_more h e =
      record { letter = a.letter; left = looked_on h ∙ ap (λ b. b && all is_name_byte (name_of (rest / 256))) e }

  shown-is : (b : Bool) → all is_name_byte (name_of (key / 256)) ≡ b → name_shown key ≡ b
  unfolding name_shown
  shown-is b e = ap₂ (λ (x y : Bool). x && y) a.letter e

  pub looked_not : (rest ≡ 0 → ⊥) → is_name_byte (rest % 256) ≡ false → false ≡ name_shown key
  looked_not h e = sym (shown-is false (looked_on h ∙ ap (λ b. b && all is_name_byte (name_of (rest / 256))) e))

  pub looked_all : rest ≡ 0 → true ≡ name_shown key
  unfolding all name_of name_from
  looked_all h = sym (shown-is true (a.left ∙ ap (λ n. all is_name_byte (name_of n)) h))

pub shown_not : (key : ℕ) → is_letter (key % 256) ≡ false → false ≡ name_shown key
unfolding name_shown
shown_not key e = sym (ap (λ b. b && all is_name_byte (name_of (key / 256))) e)

-- ---- a label's form
run-whole : (f : ℕ → Bool) (bs : List ℕ) → eqb (run_length f bs) (length bs) ≡ all f bs
unfolding run_length all
run-whole f [] = refl
run-whole f (b ∷ bs) =
    test_cases (λ t. f b ≡ t → eqb (elim t [ true ↦ suc (run_length f bs) | false ↦ 0 ]) (suc (length bs)) ≡ (t && all f bs)) (f b)
    (λ _ _. eqb-suc-suc (run_length f bs) (length bs) ∙ run-whole f bs) (λ _ _. ne_eqb 0 (suc (length bs)) (λ h. omega arith)) refl

label_name_lem : (b : ℕ) (bs : List ℕ) → length (b ∷ bs) ≤ 8
    → eqb (name_length (b ∷ bs)) (length (b ∷ bs)) ≡ (is_letter b && all is_name_byte bs)
unfolding name_length run_length is_name_byte
label_name_lem b bs h =
    test_cases
    (λ t.
    is_letter b ≡ t
    → eqb
    (cond (t && leb (elim (t || is_digit b) [ true ↦ suc (run_length is_name_byte bs) | false ↦ 0 ]) 8)
    (elim (t || is_digit b) [ true ↦ suc (run_length is_name_byte bs) | false ↦ 0 ]) 0)
    (suc (length bs))
    ≡ (t && all is_name_byte bs))
    (is_letter b)
    (λ _ e.
    let few : suc (run_length is_name_byte bs) ≤ 8 = omega (arith, run_within is_name_byte bs) in
    ap (λ t. eqb (cond t (suc (run_length is_name_byte bs)) 0) (suc (length bs))) (le-leb (suc (run_length is_name_byte bs)) 8 few)
    ∙ eqb-suc-suc (run_length is_name_byte bs) (length bs)
    ∙ run-whole is_name_byte bs)
    (λ _ e. ne_eqb 0 (suc (length bs)) (λ z. omega arith))
    refl

-- a clean byte is none of zero
byte_some : (b : ℕ) (bs : List ℕ) → all is_key_byte (b ∷ bs) ≡ true → (1 ≤ b) × ((b ≤ 255) × (all is_key_byte bs ≡ true))
unfolding all is_key_byte between
byte_some b bs e =
    let parts = (and-eq-true_iff (is_key_byte b) (all is_key_byte bs)).0 e in
    let range = (and-eq-true_iff (leb 1 b) (leb b 255)).0 parts.0 in
    (leb-true 1 b range.0, (leb-true b 255 range.1, parts.1))

key_some : (b : ℕ) (bs : List ℕ) → 1 ≤ b → key_of (b ∷ bs) ≡ 0 → ⊥
unfolding key_of
key_some b bs h e = omega arith

shown-name : (b : ℕ) (bs : List ℕ) → all is_key_byte (b ∷ bs) ≡ true → length (b ∷ bs) ≤ 8
    → name_shown (key_of (b ∷ bs)) ≡ eqb (name_length (b ∷ bs)) (length (b ∷ bs))
unfolding name_shown key_of
shown-name b bs e h =
    let clean = byte_some b bs e in
    let low = clean.0 in
    let high = clean.1.0 in
    let first : (256 * key_of bs + b) % 256 ≡ b = omega arith in
    let behind : (256 * key_of bs + b) / 256 ≡ key_of bs = omega arith in
    ap₂ (λ (x : ℕ) (l : List ℕ). is_letter x && all is_name_byte l) first (ap name_of behind ∙ name-key bs clean.1.1)
    ∙ sym (label_name_lem b bs h)

-- ---- the whole statement
labelled_off : (x : Parsed (Unit {0})) (form : Parsed (Option Statement)) → with_label x false form ≡ broken
unfolding with_label
labelled_off (got u m rest) form = refl
labelled_off broken form = refl

abbrev pub form_in : (known : Known) (text : List ℕ) → Parsed (Option Statement)
form_in known text = statement_form current (is_number_known known) (places_in known) text

abbrev pub statement_in : (known : Known) (label_bytes : List ℕ) (whole : Bool) (text : List ℕ) → Parsed (Option Statement)
statement_in known label_bytes whole text = read_statement current (is_number_known known) (places_in known) label_bytes whole text

module _ (known : Known) (text : List ℕ) where
  -- literals that aren't whole
  pub statement_off : (label_bytes : List ℕ) {whole : Bool} → whole ≡ false → statement_in known label_bytes whole text ≡ broken
  unfolding read_statement
  statement_off label_bytes h =
      ap (λ b. with_label (label_form label_bytes) b (form_in known text)) h ∙ labelled_off (label_form label_bytes) (form_in known text)

  -- no label
  pub statement_plain : (label_bytes : List ℕ) {key : ℕ} {whole : Bool} → LabelKey label_bytes key → whole ≡ true → key ≡ 0
      → statement_in known label_bytes whole text ≡ form_in known text
  unfolding read_statement label_form with_label
  statement_plain [] w h e =
      ap {B = Parsed (Option Statement)} (λ b. elim b [ true ↦ mentioning no_mentions (form_in known text) | false ↦ broken ]) h
      ∙ mentioning_nothing (form_in known text)
  statement_plain (b ∷ bs) w h e = absurd (key_some b bs (byte_some b bs w.clean).0 (sym w.is ∙ e))

  -- whether a label is a name
  label_shown : (b : ℕ) (bs : List ℕ) {key : ℕ} → LabelKey (b ∷ bs) key → eqb (name_length (b ∷ bs)) (length (b ∷ bs)) ≡ name_shown key
  label_shown b bs w = sym (shown-name b bs w.clean w.short) ∙ ap name_shown (sym w.is)

  -- a label that is no name
  pub statement_unnamed : (label_bytes : List ℕ) (whole : Bool) {key : ℕ} → LabelKey label_bytes key → (key ≡ 0 → ⊥) → name_shown key ≡ false
      → statement_in known label_bytes whole text ≡ broken
  unfolding read_statement label_form with_label key_of
  statement_unnamed [] whole w z e = absurd (z w.is)
  statement_unnamed (b ∷ bs) whole w z e =
      ap
      (λ (t : Bool).
      with_label (elim t [ true ↦ got tt (declaring for_label (b ∷ bs)) [] | false ↦ broken ]) whole (form_in known text))
      (label_shown b bs w ∙ e)

  -- a label, and then the statement
  pub statement_named : (label_bytes : List ℕ) {key : ℕ} {whole : Bool} → LabelKey label_bytes key → whole ≡ true → (key ≡ 0 → ⊥)
      → name_shown key ≡ true
      → statement_in known label_bytes whole text ≡ mentioning (mentions_in (entry key LabelDeclared ∷ []) 0 [] 0) (form_in known text)
  unfolding read_statement label_form with_label key_of
  statement_named [] w h z e = absurd (z w.is)
  statement_named (b ∷ bs) {key} w h z e =
      ap₂
      (λ (t whole : Bool).
      with_label (elim t [ true ↦ got tt (declaring for_label (b ∷ bs)) [] | false ↦ broken ]) whole (form_in known text))
      (label_shown b bs w ∙ e) h
      ∙ ap (λ (z : Mentions). mentioning z (form_in known text))
      (sym (label_declared (b ∷ bs) w.clean) ∙ ap (λ j. mentions_in (entry j LabelDeclared ∷ []) 0 [] 0) (sym w.is))

-- ---- what is mentioned with the label
module _ {most : ℕ} {table t : List ℕ} {m m₂ : Mentioned} {c : Cursor} {x : Parsed (Option Statement)} where
  pub form-labelled : {key : ℕ} {m₁ : Mentioned} {d : Cursor} → NameNoted m c key LabelDeclared m₁ d → (q : Form) → FormRead most table m₁ d x q t m₂
      → FormRead (most + 1) table m c (mentioning (mentions_in (entry key LabelDeclared ∷ []) 0 [] 0) x) q t m₂
  unfolding entry
  form-labelled n q f =
      let fits : 1 + most ≤ most + 1 = omega arith in
      form-noted (record { keyed = n.keyed; tagged = n.tagged }) (ap (λ (z : Cursor). z.names) n.goes)
      (ap (λ (z : Cursor). z.items) n.goes) (ap (λ (z : Cursor). z.elements) n.goes) (ap (λ (z : Cursor). z.literals) n.goes)
      (ap (λ (z : Cursor). ltb Limits.row_elements z.longest) n.goes) fits q f

  -- and with no label
  pub form_unlabelled : (q : Form) → FormRead most table m c x q t m₂ → FormRead (most + 1) table m c x q t m₂
  unfolding no_mentions mentions_in gather
  form_unlabelled q f =
      let fits : 0 + most ≤ most + 1 = omega arith in
      form-same (sym (mentioning_nothing x))
      (form-noted {es = []} (noting_none c.names)
      (sym (add-zero c.names)) refl refl refl refl fits q f)

-- ---- before a statement the cursor is ready, and so it is behind its label
pub starts_ready : {text : List ℕ} {c : Cursor} → Starts text c → ReaderReady text c
starts_ready {text} s =
    record {
      text_size = s.text_size;
      inside = omega (arith, s.at);
      names = omega (arith, s.names, s.room, ap (λ i. letters (drop i text)) s.at);
      items = omega (arith, s.items);
      elements = omega (arith, s.elements);
      literals = omega (arith, s.literals);
    }

pub starts_labelled : {text : List ℕ} {m m₁ : Mentioned} {c d : Cursor} {key : ℕ} → Starts text c → c.names ≡ 0
    → NameNoted m c key LabelDeclared m₁ d → Starts text d
starts_labelled s first n =
    record {
      text_size = s.text_size;
      at = ap (λ (z : Cursor). z.at) n.goes ∙ s.at;
      names = omega (arith, ap (λ (z : Cursor). z.names) n.goes);
      room = s.room;
      items = omega (arith, s.items, ap (λ (z : Cursor). z.items) n.goes);
      elements = omega (arith, s.elements, ap (λ (z : Cursor). z.elements) n.goes);
      literals = omega (arith, s.literals, ap (λ (z : Cursor). z.literals) n.goes);
    }

-- behind the keyword
module _ {text : List ℕ} {c : Cursor} (lead : Keyword) {d : Cursor} (s : Starts text c) (is : leads lead ≡ leading text)
    (e : d ≡ cursor_moved c lead.size) where
  pub lead_ready : ReaderReady text d
  lead_ready = ready_on lead.size (starts_ready s) e (lead_fits text c lead is s.at)

  pub of_lead : (known : Known) {table t : List ℕ} {m m₁ : Mentioned} (kind : Keywords.StatementKind) → kind_of lead.kind ≡ kind → (q : Form)
      → FormAt (form_of current (is_number_known known) (places_in known) kind (drop d.at text)) text table m d q t m₁
      → FormRead (letters text) table m c (form_in known text) q t m₁
  of_lead known kind f q a = of_kind text c lead is s.at known kind f e lead_ready q a

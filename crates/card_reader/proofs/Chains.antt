-- Laws of joined lines: the definition goes from the right, the code from the left, and both make up the same.
-- Assumes nothing.
use mathlib.Core.Bool.{Bool, true, false, cond, not, ◌&&◌, ◌||◌, false≢true, and-eq-true_iff, and_assoc, and-false, and-true}
use mathlib.Core.List.{List, [], ◌∷◌, ◌++◌, append_assoc}
use mathlib.Core.Path.{◌≡◌, refl, ap, sym, subst, ◌∙◌}
use Prim.Native.Nat.{ℕ, suc, ◌+◌}
use native.Mathlib.Nat.{add-zero}
use native.Mathlib.Omega.{arith}
use lib.Dec.{eqb}
use borrow.Author.Tests.{eqb-true, ne_eqb}
use Rattle.base.specs.Current.{current}
use Rattle.cards.specs.Bytes.{is_blank, slash}
use Rattle.cards.specs.Cards.{
  Unpacked,
  skipped,
  statement,
  is_comment,
  is_blank_line,
  column9,
  sound_line,
  label_of,
  statement_text,
  joined,
  unpacked_from,
}
use Rattle.card_reader.specs.Joins.{StatementPart, add_line, break_off, join_line, lines_before, tell_lines, nothing_of}
use Rattle.card_reader.specs.Lines.{is_skipped, joins}

before-joined : (n : ℕ) (line : List ℕ) (rest : List Unpacked) →
    joined current n line rest ≡ lines_before n (sound_line line) (label_of current line) (statement_text current line) rest
unfolding joined lines_before
before-joined n line [] = refl
before-joined n line (skipped c s ∷ rest) = refl
before-joined n line (statement c s l t ∷ rest) = refl

-- what a line begins, by what it is: skipped, blank in column 9, or `/` there
unfoldable entry : ℕ → Bool → List ℕ → List ℕ → Bool → Bool → Bool → List Unpacked → List Unpacked
entry m sound label text skip blank over rest =
    cond skip (skipped m sound ∷ rest)
    (cond blank (statement m sound label text ∷ rest)
    (cond over (statement m false label text ∷ rest)
    (lines_before m sound label text rest)))

module _ (n m : ℕ) (s₁ s₂ : Bool) (label l raw t : List ℕ) where
  -- lines put before lines
  before-before : (rest : List Unpacked) → lines_before n s₁ label raw (lines_before m s₂ l t rest) ≡ lines_before n (s₁ && s₂) label (raw ++ t) rest
  unfolding lines_before
  before-before [] = ap (λ b. statement n b label (raw ++ t) ∷ []) (and-false s₁)
  before-before (skipped c s ∷ rest) = ap (λ b. statement n b label (raw ++ t) ∷ (skipped c s ∷ rest)) (and-false s₁)
  before-before (statement c s l' text ∷ rest) = rw (← and_assoc s₁ s₂ s, append_assoc raw t text)

  -- lines put before what a line begins
  before-entry : (skip blank over : Bool) → (blank ≡ true → over ≡ false) → (rest : List Unpacked) →
      lines_before n s₁ label raw (entry m s₂ l t skip blank over rest)
      ≡ cond skip (statement n false label raw ∷ entry m s₂ l t skip blank over rest)
      (cond (not blank && not over)
      (lines_before n (s₁ && (s₂ && not over)) label (raw ++ t) rest)
      (statement n (s₁ && (s₂ && not over)) label (raw ++ t) ∷ rest))
  unfolding entry lines_before
  before-entry true blank over h rest = refl
  before-entry false true true h rest = absurd (false≢true (sym (h refl)))
  before-entry false true false h rest = rw (and-true s₂)
  before-entry false false true h rest = rw (and-false s₂)
  before-entry false false false h rest = rw (and-true s₂) (before-before rest)

-- a statement's own first line, put before nothing
before-first : (n : ℕ) (sound : Bool) (label text : List ℕ) (blank over : Bool) (rest : List Unpacked) →
    lines_before n true label [] (entry n sound label text false blank over rest) ≡ entry n sound label text false blank over rest
unfolding entry lines_before
before-first n sound label text true over rest = refl
before-first n sound label text false true rest = refl
before-first n sound label text false false rest = before-before n n true sound label label [] text rest

module _ (line : List ℕ) where
  -- what the lines from one on make up, by what that line is
  from-line : (m : ℕ) (ls : List (List ℕ)) →
      unpacked_from current m (line ∷ ls)
      ≡ entry m (sound_line line) (label_of current line) (statement_text current line) (is_skipped line)
      (is_blank (column9 current line)) (eqb (column9 current line) slash) (unpacked_from current (suc m) ls)
  unfolding unpacked_from entry is_skipped
  from-line m ls =
      ap
      (λ (es : List Unpacked).
      cond (is_comment line || is_blank_line current line)
      (skipped m (sound_line line) ∷ unpacked_from current (suc m) ls)
      (cond (is_blank (column9 current line))
      (statement m (sound_line line) (label_of current line) (statement_text current line) ∷ unpacked_from current (suc m) ls)
      (cond (eqb (column9 current line) slash)
      (statement m false (label_of current line) (statement_text current line) ∷ unpacked_from current (suc m) ls)
      es)))
      (before-joined m line (unpacked_from current (suc m) ls))

  blank_only : is_blank (column9 current line) ≡ true → eqb (column9 current line) slash ≡ false
  unfolding is_blank slash
  blank_only e = ne_eqb _ _ (λ over.
      let blank : column9 current line ≡ 32 = eqb-true (column9 current line) 32 e in
      let slashed : column9 current line ≡ 47 = over in
      omega arith)

told_cond : (n : ℕ) (label : List ℕ) (t : Bool) (p q : StatementPart) → cond t (tell_lines n label p) (tell_lines n label q) ≡ tell_lines n label (cond t p q)
told_cond n label true p q = refl
told_cond n label false p q = refl

-- one line more from the left makes up the same
lines_told : (n : ℕ) (label : List ℕ) (p : StatementPart) (rest : List (List ℕ)) →
    lines_before n p.sound label p.raw (unpacked_from current (n + p.count) rest) ≡ tell_lines n label (join_line p rest)
unfolding tell_lines join_line break_off add_line lines_before unpacked_from joins
lines_told n label p [] = refl
lines_told n label p (line ∷ ls) =
    let m = n + p.count in
    let text = p.raw ++ statement_text current line in
    let whole = p.sound && (sound_line line && not (eqb (column9 current line) slash)) in
    let next : suc m ≡ n + (p.count + 1) = omega arith in
    ap (lines_before n p.sound label p.raw) (from-line line m ls)
    ∙ before-entry n m p.sound (sound_line line) label (label_of current line) p.raw (statement_text current line)
    (is_skipped line) (is_blank (column9 current line)) (eqb (column9 current line) slash) (blank_only line)
    (unpacked_from current (suc m) ls)
    ∙ ap
    (λ (es : List Unpacked).
    cond (is_skipped line) (statement n false label p.raw ∷ es)
    (cond (joins (column9 current line)) (lines_before n whole label text (unpacked_from current (suc m) ls))
    (statement n whole label text ∷ unpacked_from current (suc m) ls)))
    (sym (from-line line m ls))
    ∙ ap
    (λ (k : ℕ).
    cond (is_skipped line) (statement n false label p.raw ∷ unpacked_from current m (line ∷ ls))
    (cond (joins (column9 current line)) (lines_before n whole label text (unpacked_from current k ls))
    (statement n whole label text ∷ unpacked_from current k ls)))
    next
    ∙ told_cond n label (is_skipped line) (break_off p (line ∷ ls)) (add_line p line ls)

pub join_told : (n : ℕ) (label : List ℕ) (p : StatementPart) → p.more ≡ true → tell_lines n label p ≡ tell_lines n label (join_line p p.rest)
unfolding tell_lines
join_told n label p more =
    ap
    (λ t.
    cond t (lines_before n p.sound label p.raw (unpacked_from current (n + p.count) p.rest))
    (statement n p.sound label p.raw ∷ unpacked_from current (n + p.count) p.rest))
    more
    ∙ lines_told n label p p.rest

-- how a line is joined
pub joined_none : (p : StatementPart) (rest : List (List ℕ)) → [] ≡ rest → break_off p rest ≡ join_line p rest
unfolding join_line
joined_none p rest e = subst (λ (ls : List (List ℕ)). break_off p ls ≡ join_line p ls) e refl

pub joined_skipped : (p : StatementPart) (line : List ℕ) (ls rest : List (List ℕ)) → line ∷ ls ≡ rest → is_skipped line ≡ true →
    break_off p rest ≡ join_line p rest
unfolding join_line
joined_skipped p line ls rest e skip =
    subst (λ (ls : List (List ℕ)). break_off p ls ≡ join_line p ls) e
    (ap (λ t. cond t (break_off p (line ∷ ls)) (add_line p line ls)) (sym skip))

pub joined_line : (p : StatementPart) (line : List ℕ) (ls rest : List (List ℕ)) → line ∷ ls ≡ rest → is_skipped line ≡ false →
    add_line p line ls ≡ join_line p rest
unfolding join_line
joined_line p line ls rest e skip =
    subst (λ (rest : List (List ℕ)). add_line p line ls ≡ join_line p rest) e
    (ap (λ t. cond t (break_off p (line ∷ ls)) (add_line p line ls)) (sym skip))

-- a statement's first line from the left, and a line that is skipped
module _ (n : ℕ) (line : List ℕ) (ls : List (List ℕ)) where
  pub first_told : is_skipped line ≡ false →
      unpacked_from current n (line ∷ ls) ≡ tell_lines n (label_of current line) (add_line (nothing_of (line ∷ ls)) line ls)
  unfolding nothing_of
  first_told skip =
      let label = label_of current line in
      let blank = is_blank (column9 current line) in
      let over = eqb (column9 current line) slash in
      let rest = unpacked_from current (suc n) ls in
      let first : unpacked_from current n (line ∷ ls) ≡ entry n (sound_line line) label (statement_text current line) false blank over rest =
      from-line line n ls ∙ ap (λ t. entry n (sound_line line) label (statement_text current line) t blank over rest) skip in
      first
      ∙ sym (before-first n (sound_line line) label (statement_text current line) blank over rest)
      ∙ ap (lines_before n true label []) (sym first)
      ∙ ap (λ (k : ℕ). lines_before n true label [] (unpacked_from current k (line ∷ ls))) (sym (add-zero n))
      ∙ lines_told n label (nothing_of (line ∷ ls)) (line ∷ ls)
      ∙ ap (tell_lines n label) (sym (joined_line (nothing_of (line ∷ ls)) line ls (line ∷ ls) refl skip))

  pub skipped_told : is_skipped line ≡ true →
      unpacked_from current n (line ∷ ls) ≡ skipped n (sound_line line) ∷ unpacked_from current (n + 1) ls
  unfolding entry
  skipped_told skip =
      let next : suc n ≡ n + 1 = omega arith in
      from-line line n ls
      ∙ ap
      (λ t.
      entry n (sound_line line) (label_of current line) (statement_text current line) t (is_blank (column9 current line))
      (eqb (column9 current line) slash) (unpacked_from current (suc n) ls))
      skip
      ∙ ap (λ (k : ℕ). skipped n (sound_line line) ∷ unpacked_from current k ls) next

-- the first line of a sound statement is sound
entry_sound : (m n : ℕ) (sound : Bool) (l t label raw : List ℕ) (blank over : Bool) (rest others : List Unpacked) →
    entry m sound l t false blank over rest ≡ statement n true label raw ∷ others → sound ≡ true
unfolding entry lines_before
entry_sound m n sound l t label raw true over rest others e = cc
entry_sound m n sound l t label raw false true rest others e = absurd (false≢true (cc))
entry_sound m n sound l t label raw false false [] others e = absurd (false≢true (cc))
entry_sound m n sound l t label raw false false (skipped c s ∷ rest) others e = absurd (false≢true (cc))
entry_sound m n sound l t label raw false false (statement c s l' t' ∷ rest) others e =
    let sounds : (sound && s) ≡ true = cc in
    ((and-eq-true_iff sound s).0 sounds).0

pub first_sound : (n : ℕ) (line : List ℕ) (ls : List (List ℕ)) (label raw : List ℕ) (rest : List Unpacked) → is_skipped line ≡ false →
    unpacked_from current n (line ∷ ls) ≡ statement n true label raw ∷ rest → sound_line line ≡ true
first_sound n line ls label raw rest skip e =
    let blank = is_blank (column9 current line) in
    let over = eqb (column9 current line) slash in
    let behind = unpacked_from current (suc n) ls in
    entry_sound n n (sound_line line) (label_of current line) (statement_text current line) label raw blank over behind rest
    (ap (λ t. entry n (sound_line line) (label_of current line) (statement_text current line) t blank over behind) (sym skip)
    ∙ sym (from-line line n ls)
    ∙ e)

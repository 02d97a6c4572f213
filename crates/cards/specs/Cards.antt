-- Document 01, "Cards": lines, comments, blank lines, joins, labels. Assumes nothing.
use Rattle.std.specs.Prelude.{Bool, true, false, cond, not, ◌&&◌, ◌||◌, List, [], ◌∷◌, ◌++◌, ℕ, suc, leb, eqb, length, take, drop, get_or}
use Rattle.base.specs.Edition.{Edition}
use Rattle.base.specs.Limits as Limits
use Rattle.base.specs.Lists.{all, keep}
use Rattle.cards.specs.Bytes.{class_of, is_blank, is_refused, newline, star, slash}

-- a byte put in front of the first of some lines
unfoldable pub on_first : ℕ → List (List ℕ) → List (List ℕ)
on_first b [] = (b ∷ []) ∷ []
on_first b (line ∷ ls) = (b ∷ line) ∷ ls

-- C1 "A line ends at byte 10 or the end of the deck.": line and deck are document 01's words
unfoldable pub lines : List ℕ → List (List ℕ)
lines [] = []
lines (b ∷ deck) = elim (eqb b newline) [ true ↦ [] ∷ lines deck | false ↦ on_first b (lines deck) ]

-- What the lines make up before it is packed, each with its card, document 01's word for the number of its first line (D3), and whether 3 finds
-- it sound: a comment or blank line, or a statement with the bytes of its label and of all its columns 10-72.
pub data Unpacked : Type 0 where
  skipped : (card : ℕ) (sound : Bool) → Unpacked
  statement : (card : ℕ) (sound : Bool) (label text : List ℕ) → Unpacked

-- Q3 "A byte is refused, a line exceeds 80"
unfoldable pub sound_line : List ℕ → Bool
sound_line line = leb (length line) Limits.line_bytes && all (λ b. not (is_refused (class_of b))) line

-- C4 "`*` in column 1 makes the line a comment"
unfoldable pub is_comment : List ℕ → Bool
is_comment line = eqb (get_or line 0 32) star

-- C6 "Blanks outside literals don't count."
unfoldable pub without_blanks : List ℕ → List ℕ
without_blanks bs = keep (λ b. not (is_blank b)) bs

module _ (e : Edition) where
  -- C4 "one blank in 1-72 is skipped"
  unfoldable pub is_blank_line : List ℕ → Bool
  is_blank_line line = all is_blank (e.columns line)

  -- C5 "A byte other than blank in column 9 joins the next line"
  unfoldable pub column9 : List ℕ → ℕ
  column9 line = get_or (e.columns line) 8 32

  -- C2 "Columns 1-8 hold a label, 10-72 the statement, 73-80 nothing."
  unfoldable pub label_of : List ℕ → List ℕ
  label_of line = without_blanks (take 8 (e.columns line))

  unfoldable pub statement_text : List ℕ → List ℕ
  statement_text line = drop 9 (e.columns line)

  -- C5, Q3: a line in front of what the lines behind it make up: the deck is gone through from its last line back. The first statement there
  -- is taken in, and its label is ignored; it is unsound where "a joined line is a comment, blank or missing". A `/` line that is joined makes it
  -- unsound too, and joins no line itself: what comes behind it is a statement of its own.
  unfoldable pub joined : ℕ → List ℕ → List Unpacked → List Unpacked
  joined n line [] = statement n false (label_of line) (statement_text line) ∷ []
  joined n line (skipped c s ∷ rest) = statement n false (label_of line) (statement_text line) ∷ (skipped c s ∷ rest)
  joined n line (statement c s label text ∷ rest) =
      statement n (sound_line line && s) (label_of line) (statement_text line ++ text) ∷ rest

  -- the lines from number n on; Q3 "column 9 is `/` outside a comment"
  unfoldable pub unpacked_from : ℕ → List (List ℕ) → List Unpacked
  unpacked_from n [] = []
  unpacked_from n (line ∷ ls) =
      let rest = unpacked_from (suc n) ls in
      cond (is_comment line || is_blank_line line)
      (skipped n (sound_line line) ∷ rest)
      (cond (is_blank (column9 line))
      (statement n (sound_line line) (label_of line) (statement_text line) ∷ rest)
      (cond (eqb (column9 line) slash)
      (statement n false (label_of line) (statement_text line) ∷ rest)
      (joined n line rest)))

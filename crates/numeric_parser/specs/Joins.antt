-- Forms joined by operators, as terms and factors are: an operator, or the sign of the first, waits for the form behind it.
-- Assumes nothing.
use Rattle.std.specs.Prelude.{Option, true, false, is_some, List, [], ◌++◌, ◌≡◌, ℕ, ◌+◌, ◌≤◌, ◌<◌, length, drop}
use Rattle.syntax.specs.Fuel.{Reader, More}
use Rattle.syntax.specs.Program.{Item}
use Rattle.syntax.specs.Parsing.{succeed, mentioning, ◌>>=◌}
use Rattle.symbols.specs.Bounds.{far_enough}
use Rattle.symbols.specs.Entries.{mentions_in}
use Rattle.symbols.specs.declared.Cursor.{Cursor}
use Rattle.symbols.specs.declared.Mentioned.{Mentioned}
use Rattle.numeric_parser.specs.Operands.{cursor_moved, ReaderReady}
use Rattle.numeric_parser.specs.declared.Mark.{Mark}
use Rattle.numeric_parser.specs.Reads.{ItemsRead, waiting}

-- one form is read while ps wait, then ps stand behind it, and more is read
abbrev pub waited : (one : Reader) (more : More) (ps before : List Item) → Reader
waited one more ps before bs = mentioning (mentions_in [] (length ps) [] 0) (one bs >>= λ (u, rest). more (before ++ (u ++ ps)) rest)

-- what more is, by the operator at a place
pub record Joins (one : Reader) (more : More) (text : List ℕ) (at : ℕ) (mark : Option Mark) : Type 0 where
  pub ends : is_some mark ≡ false → (before : List Item) → more before (drop at text) ≡ succeed before (drop at text)
  pub goes : is_some mark ≡ true → (before : List Item)
      → more before (drop at text) ≡ waited one more (waiting mark) before (drop (at + length (waiting mark)) text)
  pub further : is_some mark ≡ true → at < length text

-- what is read from d on, while what the mark stands for has been passed and waits
abbrev pub WaitedRead : (one : Reader) (more : More) (text table : List ℕ) (m : Mentioned) (mark : Option Mark) (d : Cursor) → Option Cursor
    → (table' : List ℕ) (m' : Mentioned) → Type 0
WaitedRead one more text table m mark d r table' m' =
    (c : Cursor) → d ≡ cursor_moved c (length (waiting mark)) → (before : List Item)
    → ItemsRead before text table m c (waited one more (waiting mark) before (drop (c.at + length (waiting mark)) text)) r
    table' m'

-- what a loop over joined forms keeps: whatever is read from here on, with it all is read from the start on
pub record Joining (one : Reader) (more : More) (text table₀ : List ℕ) (m₀ : Mentioned) (mark₀ : Option Mark) (d₀ : Cursor) (table : List ℕ)
    (m : Mentioned) (mark : Option Mark) (d : Cursor) : Type 0 where
  pub later : d₀.at ≤ d.at
  pub ready : ReaderReady text d
  pub room : d.items + length (waiting mark) + length text ≤ far_enough + d.at
  pub goes : (r : Option Cursor) {t : List ℕ} {m' : Mentioned} → WaitedRead one more text table m mark d r t m'
      → WaitedRead one more text table₀ m₀ mark₀ d₀ r t m'

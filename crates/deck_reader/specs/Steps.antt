-- What the second pass does: each statement of an accepted deck is read again and its step written. Assumes nothing.
use Rattle.std.specs.Prelude as Std
use Rattle.std.specs.Prelude.{Some, None, List, [], ◌∷◌, map, ◌≡◌, ℕ, ◌+◌, ◌≤◌, ◌<◌, length, take, drop}
use Rattle.std.proofs.Math.Option.{Option, none, some}
use Rattle.base.specs.Current.{current}
use Rattle.branch_parser.specs.Places.{is_number_known}
use Rattle.encoding.specs.TableLaws.{ProgramInRange}
use Rattle.cards.specs.Cards as Cards
use Rattle.cards.specs.Entries.{Entry, entries_from, entries}
use Rattle.validation.specs.Deck.{program_steps, program_of}
use Rattle.validation.specs.Environment.{Environment, empty_environment, strings_of, numbers_of}
use Rattle.validation.specs.Placed.Again.{Again}
use Rattle.validation.specs.Refusals.{read_statement}
use Rattle.syntax.specs.Program.{Statement, Step}
use Rattle.syntax.specs.Parsing.{Mentions, got}
use Rattle.symbols.specs.Bounds.{far_enough}
use Rattle.symbols.specs.Clauses.{names_room, cursor_before_statement}
use Rattle.symbols.specs.Entries.{name_of}
use Rattle.symbols.specs.Environment.{string_keys, number_keys, labels_in, routines_in, places_in}
use Rattle.symbols.specs.declared.Cursor.{Cursor}
use Rattle.symbols.specs.declared.Mentioned.{Mentioned}
use Rattle.symbols.specs.declared.known.Known.{Known}
use Rattle.card_reader.specs.Keys.{LabelKey}
use Rattle.card_reader.specs.Letters.{letters}
use Rattle.card_reader.specs.Packs.{longest_text}
use Rattle.card_reader.specs.declared.Gathered.{Gathered}
use Rattle.card_reader.specs.declared.PackedStatement.{PackedStatement}
use Rattle.deck_reader.specs.Writing.{Written, with_steps}
use Rattle.deck_reader.specs.declared.steps.Progress.{Progress}

-- the cursor before a statement in the second pass
abbrev pub cursor_before : Progress → Cursor
cursor_before p = cursor_before_statement p.items p.elements p.literals

-- the counts are small: they are those of a program
pub record CountsSmall (p : Progress) : Type 0 where
  pub items : p.items ≤ 1024
  pub elements : p.elements ≤ 1024
  pub literals : p.literals ≤ 4096
  pub steps : p.steps ≤ 256
  pub card : p.card ≤ far_enough

-- what is written behind an entry
abbrev pub written_at : Progress → List ℕ → Written
written_at p t = record { table = t; steps = p.steps; elements = p.elements; items = p.items; literals = p.literals }

-- a statement is a step of the program, or none
abbrev pub statement_steps : ℕ → Option Statement → List Step
statement_steps card none = []
statement_steps card (some s) = record { card = card; statement = s } ∷ []

-- a statement is written; the pass still stands at it
pub record StepOrNoneWritten (v : Option Statement) (p : Progress) (t : List ℕ) (r : Progress) (t' : List ℕ) : Type 0 where
  pub written : written_at r t' ≡ with_steps (written_at p t) (statement_steps p.card v)
  pub from : r.from ≡ p.from
  pub card : r.card ≡ p.card

-- as its text says, whatever its label is
abbrev pub PackedWritten : (text : List ℕ) (known : Known) (q : PackedStatement) (p : Progress) (t : List ℕ) (r : Progress) (t' : List ℕ) → Type 0
PackedWritten text known q p t r t' =
    (label : List ℕ) → LabelKey label q.label → (v : Option Statement) (m : Mentions) (rest : List ℕ)
    → read_statement current (is_number_known known) (places_in known) label q.whole text ≡ got v m rest
    → StepOrNoneWritten v p t r t'

-- behind an entry that starts at p, with what is written at r
abbrev pub passed_by : (p : Progress) (e : Gathered) (r : Progress) → Progress
passed_by p e r =
    record {
      from = e.next;
      card = p.card + e.lines;
      steps = r.steps;
      elements = r.elements;
      items = r.items;
      literals = r.literals;
    }

-- behind a step, whose items, elements and literal bytes end at d
abbrev pub stepped_by : Progress → Cursor → Progress
stepped_by p d =
    record {
      from = p.from;
      card = p.card;
      steps = p.steps + 1;
      elements = d.elements;
      items = d.items;
      literals = d.literals;
    }

-- what is known, with another next step
abbrev pub next_at : Known → ℕ → Known
next_at known n =
    record {
      strings = known.strings;
      numbers = known.numbers;
      labels = known.labels;
      routines = known.routines;
      statements = known.statements;
      steps = known.steps;
      next = n;
      ended = known.ended;
      scope = known.scope;
      elements = known.elements;
      items = known.items;
      literals = known.literals;
    }

-- the text of a statement is at hand, and has room for its names
abbrev pub Writable : (text : List ℕ) → Std.Option PackedStatement → Type 0
Writable text x =
    (q : PackedStatement) → x ≡ Some q
    → (q.length ≤ longest_text) × (q.length ≤ length text) × (letters (take q.length text) < names_room)

-- the step of an entry is written, if it makes one
pub record GatheredWritten (text : List ℕ) (known : Known) (m : Mentioned) (x : Std.Option PackedStatement) (p : Progress) (t : List ℕ) (r : Progress)
    (known' : Known) (m' : Mentioned) (t' : List ℕ) : Type 0 where
  pub skips : x ≡ None → (r ≡ p) × (t' ≡ t) × (known' ≡ known) × (m' ≡ m)
  pub writes : (q : PackedStatement) → x ≡ Some q
      → (known' ≡ next_at known (p.steps + 1)) × PackedWritten (take q.length text) known' q p t r t'

-- the entries from here on, and the steps that they make
abbrev pub entries_left : List ℕ → Progress → List Entry
entries_left deck p = entries_from current p.card (Cards.lines (drop p.from deck))

abbrev pub steps_left : List ℕ → Environment → Progress → List Step
steps_left deck whole p = program_steps current whole p.steps (entries_left deck p)

-- what is written from p on is the same as what is written from r on
abbrev pub Continues : (deck : List ℕ) (whole : Environment) (p : Progress) (t : List ℕ) (r : Progress) (t' : List ℕ) → Type 0
Continues deck whole p t r t' =
    with_steps (written_at p t) (steps_left deck whole p) ≡ with_steps (written_at r t') (steps_left deck whole r)

-- the entries from here on are those of a deck that passed, read with the places of the whole deck
pub record Resumes (deck : List ℕ) (whole : Environment) (p : Progress) : Type 0 where
  pub run : Environment
  pub reads : Again current whole run (entries_left deck p)
  pub steps : run.steps ≡ p.steps

-- an entry is written
pub record EntryWritten (deck : List ℕ) (whole : Environment) (p : Progress) (t : List ℕ) (r : Progress) (t' : List ℕ) : Type 0 where
  pub onward : Continues deck whole p t r t'
  pub again : Resumes deck whole r
  pub further : p.from < r.from
  pub inside : r.from ≤ length deck + 1
  pub paced : p.from + r.card ≤ r.from + p.card

-- the names known are those of the whole deck
pub record NamesKnown (known : Known) (whole : Environment) : Type 0 where
  pub strings : map name_of (string_keys known) ≡ strings_of whole
  pub numbers : map name_of (number_keys known) ≡ numbers_of whole
  pub labels : labels_in known ≡ whole.labels
  pub routines : routines_in known ≡ whole.routines

-- an entry of an accepted deck is written; of what is known the next step alone is another
pub record StepWritten (deck : List ℕ) (known : Known) (p : Progress) (t : List ℕ) (r : Progress) (known' : Known) (t' : List ℕ) : Type 0 where
  pub kept : known' ≡ next_at known known'.next
  pub written : (whole : Environment) → NamesKnown known whole → Resumes deck whole p → EntryWritten deck whole p t r t'

-- a deck that was accepted, with all its names known
pub record DeckAccepted (deck : List ℕ) (known : Known) : Type 0 where
  pub whole : Environment
  pub names : NamesKnown known whole
  pub again : Again current whole empty_environment (entries current deck)
  pub fits : ProgramInRange current (program_of current whole (entries current deck))

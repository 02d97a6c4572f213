-- What the first pass does: each entry of the deck judged in its turn, and the whole deck. Assumes nothing.
use Rattle.std.specs.Prelude.{Some, None, Bool, true, false, cond, List, ◌≡◌, ℕ, ◌+◌, ◌≤◌, ◌<◌, eqb, length, take, drop}
use Rattle.base.specs.Current.{current}
use Rattle.cards.specs.Cards as Cards
use Rattle.cards.specs.Entries.{entries_from, entries}
use Rattle.link_checks.specs.Held.{held_in}
use Rattle.validation.specs.Deck as Deck
use Rattle.validation.specs.Deck.{Judgement, accepted, judge, is11, is12, judge_from, mentions_of, unresolved, program_of, passed}
use Rattle.validation.specs.Environment.{Environment, empty_environment, numbers_of, is_one_of, extend}
use Rattle.validation.specs.Refusals.{read_statement, statement_number}
use Rattle.validation.specs.Rules.{Judging}
use Rattle.syntax.specs.Keywords.{StatementKind, leading}
use Rattle.symbols.specs.Clauses.{names_room, cursor_before_statement}
use Rattle.symbols.specs.Holding.{SymbolsHold}
use Rattle.symbols.specs.declared.Cursor.{Cursor}
use Rattle.symbols.specs.declared.known.Known.{Known}
use Rattle.symbols.specs.declared.known.Symbols.{Symbols}
use Rattle.card_reader.specs.Keys.{LabelKey}
use Rattle.card_reader.specs.Letters.{letters}
use Rattle.card_reader.specs.Packs.{longest_text}
use Rattle.card_reader.specs.declared.Gathered.{Gathered}
use Rattle.card_reader.specs.declared.PackedStatement.{PackedStatement}
use Rattle.deck_reader.specs.Verdicts.{Verdict, of_deck}

-- the symbol table holds the environment of a deck of which so many bytes are taken
pub record Held (s : Symbols) (taken : ℕ) : Type 0 where
  pub known : Environment
  pub holds : SymbolsHold s taken known

-- there is a statement to be judged, with room for its names
pub record Readied (text : List ℕ) (q : PackedStatement) (s : Symbols) : Type 0 where
  pub label : List ℕ
  pub keyed : LabelKey label q.label
  pub taken : ℕ
  pub known : Environment
  pub holds : SymbolsHold s taken known
  pub small : length text ≤ longest_text
  pub room : taken + letters text < names_room

-- there is an entry to be judged: if it is a sound statement, by its packed text
abbrev pub Entered : (text : List ℕ) (e : Gathered) (s : Symbols) → Type 0
Entered text e s =
    (q : PackedStatement) → e.statement ≡ Some q → (q.length ≤ length text) × (e.sound ≡ true → Readied (take q.length text) q s)

-- the cursor before a statement
abbrev pub start_at : Known → Cursor
start_at known = cursor_before_statement known.items known.elements known.literals

-- the number of a statement, and what the symbol table holds behind it where it is 0; its names take a letter each, its label one more
pub record StatementNumbered (kind : StatementKind) (label : List ℕ) (whole : Bool) (text : List ℕ) (sound : Bool) (s : Symbols) (r : ℕ)
    (s' : Symbols) : Type 0 where
  pub number : (taken : ℕ) (k : Environment) → SymbolsHold s taken k
      → r ≡ statement_number k kind sound (read_statement current (is_one_of (numbers_of k)) unresolved label whole text)
  pub extended : r ≡ 0 → (taken : ℕ) (k : Environment) → SymbolsHold s taken k → (taken' : ℕ) → taken + letters text < taken'
      → SymbolsHold s' taken' (extend k kind (mentions_of (read_statement current (is_one_of (numbers_of k)) unresolved label whole text)))

-- the same of the text that is gathered, whatever label has its key
abbrev pub PackedNumbered : (text : List ℕ) (q : PackedStatement) (sound : Bool) (s : Symbols) (r : ℕ) (s' : Symbols) → Type 0
PackedNumbered text q sound s r s' =
    (label : List ℕ) → (sound ≡ true → LabelKey label q.label) → StatementNumbered (leading text).kind label q.whole text sound s r s'

-- the number of an entry; a comment or blank line changes nothing
pub record EntryNumbered (text : List ℕ) (e : Gathered) (s : Symbols) (r : ℕ) (s' : Symbols) : Type 0 where
  pub skips : e.statement ≡ None → (r ≡ cond e.sound 0 3) × (s' ≡ s)
  pub judges : (q : PackedStatement) → e.statement ≡ Some q → PackedNumbered (take q.length text) q e.sound s r s'

-- an entry of the deck is judged by its number: refused with its card, or the rest is judged from the environment behind it
pub record EntryGoing (deck : List ℕ) (from card : ℕ) (k : Environment) (e : Gathered) (r : ℕ) (s' : Symbols) : Type 0 where
  pub known : Environment
  pub holds : r ≡ 0 → SymbolsHold s' e.next known
  pub same : judge_from current k (entries_from current card (Cards.lines (drop from deck)))
      ≡ elim (eqb r 0) [
        | true ↦ judge_from current known (entries_from current (card + e.lines) (Cards.lines (drop e.next deck)))
        | false ↦ Deck.Judged.failed r card
      ]

pub record EntryJudged (deck : List ℕ) (from : ℕ) (e : Gathered) (s : Symbols) (r : ℕ) (s' : Symbols) : Type 0 where
  pub goes : (card : ℕ) (k : Environment) → SymbolsHold s from k → EntryGoing deck from card k e r s'
  pub paced : from + e.lines ≤ e.next
  pub inside : e.next ≤ length deck + 1

-- 4 behind the last line where END is missing
abbrev pub ended_in : Known → Verdict
ended_in known = cond known.ended (of_deck 0) (of_deck 4)

-- the statements of the deck are judged
pub record Passed (deck : List ℕ) (s : Symbols) : Type 0 where
  pub known : Environment
  pub taken : ℕ
  pub holds : SymbolsHold s taken known
  pub few : taken ≤ names_room
  pub is : judge_from current empty_environment (entries current deck) ≡ passed known

pub record StatementsJudged (deck : List ℕ) (r : Verdict) (s : Symbols) : Type 0 where
  pub refuses : (r.number ≡ 0 → ⊥) → judge_from current empty_environment (entries current deck) ≡ Deck.Judged.failed r.number r.card
  pub passes : r.number ≡ 0 → Passed deck s
  pub few : r.card ≤ length deck + 1

-- 11 and 12
abbrev pub link_verdict : Environment → Verdict
link_verdict k = cond (is11 k) (of_deck 11) (cond (is12 k) (of_deck 12) (of_deck 0))

-- the same by the symbol table, which can be asked
abbrev pub closed_in : Symbols → Verdict
closed_in s = link_verdict (held_in s)

-- the deck is judged
pub record Accepted (deck : List ℕ) (s : Symbols) : Type 0 where
  pub known : Environment
  pub taken : ℕ
  pub holds : SymbolsHold s taken known
  pub judging : Judging current empty_environment (entries current deck) (passed known)
  pub is : judge current deck ≡ accepted (program_of current known (entries current deck))

pub record DeckJudged (deck : List ℕ) (r : Verdict) (s : Symbols) : Type 0 where
  pub refuses : (r.number ≡ 0 → ⊥) → judge current deck ≡ Judgement.refused r.number r.card
  pub accepts : r.number ≡ 0 → Accepted deck s
  pub few : r.card ≤ length deck + 1
  pub without : r.number ≡ 0 → r.card ≡ 0

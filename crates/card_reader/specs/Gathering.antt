-- What the code holds of a statement while it joins lines, and what it says of an entry of the deck. Assumes nothing.
use Rattle.std.specs.Prelude as Std
use Rattle.std.specs.Prelude.{Some, None, Bool, true, false, not, ◌&&◌, List, ◌∷◌, ◌≡◌, ℕ, ◌+◌, ◌≤◌, ◌<◌, eqb, length, take, drop}
use Rattle.base.specs.Current.{current}
use Rattle.base.specs.Limits.{longest_deck}
use Rattle.cards.specs.Bytes.{slash}
use Rattle.cards.specs.Cards.{lines, sound_line, column9, statement_text}
use Rattle.cards.specs.Entries.{Entry, skipped, statement, entries_from}
use Rattle.cards.specs.Packing.{outside, packed}
use Rattle.card_reader.specs.declared.packed.Place.TheVariants.{Outside}
use Rattle.card_reader.specs.declared.Gathered.{Gathered}
use Rattle.card_reader.specs.declared.Joining.{Joining}
use Rattle.card_reader.specs.declared.PackedStatement.{PackedStatement}
use Rattle.card_reader.specs.Joins.{StatementPart, join_line, tell_lines}
use Rattle.card_reader.specs.Keys.{LabelKey}
use Rattle.card_reader.specs.Letters.{letters}
use Rattle.card_reader.specs.Lines.{joins}
use Rattle.card_reader.specs.Packs.{Packs, longest_text}
use Rattle.card_reader.specs.Places.{place_meaning, place_behind, unbroken}

-- the code's value and text hold a part of a statement of the deck
pub record StatementGathered (deck text : List ℕ) (s : Joining) (p : StatementPart) : Type 0 where
  pub sound : s.sound ≡ p.sound
  pub more : s.more ≡ p.more
  pub count : s.lines ≡ p.count
  pub rest : lines (drop s.next deck) ≡ p.rest
  pub bytes : take s.packing.length text ≡ packed p.raw
  pub place : place_meaning s.packing.place ≡ place_behind outside p.raw
  pub whole : s.packing.whole ≡ unbroken outside p.raw

-- the code's numbers lie within the deck, and text is as long as the longest deck
pub record DeckRoom (deck text : List ℕ) (s : Joining) : Type 0 where
  pub small : length deck ≤ longest_deck
  pub size : length text ≡ longest_text
  pub next : s.next ≤ length deck + 1
  pub lines : s.lines ≤ s.next
  pub bytes : s.packing.length ≤ s.next
  pub within : s.packing.length ≤ length deck

-- a line, with the place where the next one starts, can be added
pub record LineAddable (line : List ℕ) (next : ℕ) (text : List ℕ) (s : Joining) : Type 0 where
  pub small : next ≤ 32769
  pub size : length text ≡ longest_text
  pub lines : s.lines < next
  pub bytes : s.packing.length + length line < next

-- the line is added
pub record LineAdded (line : List ℕ) (next : ℕ) (text : List ℕ) (s : Joining) (text' : List ℕ) (r : Joining) : Type 0 where
  pub sound : r.sound ≡ s.sound && (sound_line line && not (eqb (column9 current line) slash))
  pub more : r.more ≡ joins (column9 current line)
  pub count : r.lines ≡ s.lines + 1
  pub behind : r.next ≡ next
  pub packs : Packs (statement_text current line) text s.packing text' r.packing

-- one line is joined; a line takes a byte of the deck at least, and as many as it adds letters to the packed text; if the next one is to be
-- joined, the code has gone on
pub record Joined (deck text : List ℕ) (s : Joining) (text' : List ℕ) (r : Joining) : Type 0 where
  pub room : DeckRoom deck text' r
  pub onward : s.next ≤ r.next
  pub paced : s.next + r.lines ≤ r.next + s.lines
  pub spare : s.next + letters (take r.packing.length text') ≤ r.next + letters (take s.packing.length text)
  pub further : r.more ≡ true → s.next < r.next
  pub holds : (p : StatementPart) → StatementGathered deck text s p → StatementGathered deck text' r (join_line p p.rest)

-- a statement that begins as p was joined whole
pub record Complete (deck text : List ℕ) (r : Joining) (p : StatementPart) : Type 0 where
  pub part : StatementPart
  pub holds : StatementGathered deck text r part
  pub same : (n : ℕ) (label : List ℕ) → tell_lines n label p ≡ tell_lines n label part

-- all lines are joined
pub record JoinedAll (deck text : List ℕ) (s : Joining) (text' : List ℕ) (r : Joining) : Type 0 where
  pub room : DeckRoom deck text' r
  pub onward : s.next ≤ r.next
  pub paced : s.next + r.lines ≤ r.next + s.lines
  pub spare : s.next + letters (take r.packing.length text') ≤ r.next + letters (take s.packing.length text)
  pub over : r.more ≡ false
  pub complete : (p : StatementPart) → StatementGathered deck text s p → Complete deck text' r p

-- the code's values
abbrev pub broken_off : Joining → Joining
broken_off s = record { sound = false; more = false; packing = s.packing; lines = s.lines; next = s.next }

abbrev pub nothing_from : ℕ → Joining
nothing_from from =
    record { sound = true; more = true; packing = record { place = Outside; whole = true; length = 0 }; lines = 0; next = from }

-- the entry that the code's value says, with its card and the bytes of its label; its packed text is the first bytes of a text
unfoldable pub entry_of : Std.Option PackedStatement → (card : ℕ) (sound : Bool) (label text : List ℕ) → Entry
entry_of None card sound label text = skipped card sound
entry_of (Some p) card sound label text = statement card sound label p.whole (take p.length text)

-- a deck with a line at from, and a text for the bytes of its statements
pub record Readable (deck : List ℕ) (from : ℕ) (text : List ℕ) : Type 0 where
  pub start : from < length deck
  pub small : length deck ≤ longest_deck
  pub size : length text ≡ longest_text

-- a statement's label is known by its key; its packed text has fewer letters than the statement takes bytes of the deck
pub record StatementPacked (from next : ℕ) (sound : Bool) (label text : List ℕ) (p : PackedStatement) : Type 0 where
  pub keyed : sound ≡ true → LabelKey label p.label
  pub fits : p.length ≤ longest_text
  pub spare : from + letters (take p.length text) < next

-- the entry that begins with the line at from, and those behind it
pub record Gathers (deck : List ℕ) (from : ℕ) (text : List ℕ) (r : Gathered) : Type 0 where
  pub label : List ℕ
  pub entry : (n : ℕ) →
      entries_from current n (lines (drop from deck))
      ≡ entry_of r.statement n r.sound label text ∷ entries_from current (n + r.lines) (lines (drop r.next deck))
  pub packs : (p : PackedStatement) → r.statement ≡ Some p → StatementPacked from r.next r.sound label text p
  pub onward : from < r.next
  pub paced : from + r.lines ≤ r.next
  pub inside : r.next ≤ length deck + 1
  pub size : length text ≡ longest_text

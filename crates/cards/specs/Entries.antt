-- Document 01, "Cards": the entries of a deck, each statement packed. A deck is judged by them alone. Assumes nothing.
use Rattle.std.specs.Prelude.{Bool, List, map, ℕ}
use Rattle.base.specs.Edition.{Edition}
use Rattle.cards.specs.Cards.{Unpacked, lines, unpacked_from}
use Rattle.cards.specs.Packing.{packed, literals_whole}

-- a comment or blank line, or a statement with the bytes of its label, whether its literals are whole, and its packed text
pub data Entry : Type 0 where
  skipped : (card : ℕ) (sound : Bool) → Entry
  statement : (card : ℕ) (sound : Bool) (label : List ℕ) (whole : Bool) (text : List ℕ) → Entry

unfoldable pub packed_entry : Unpacked → Entry
packed_entry (Unpacked.skipped card sound) = skipped card sound
packed_entry (Unpacked.statement card sound label text) = statement card sound label (literals_whole text) (packed text)

module _ (e : Edition) where
  -- those of the lines from number n on
  unfoldable pub entries_from : ℕ → List (List ℕ) → List Entry
  entries_from n ls = map packed_entry (unpacked_from e n ls)

  -- D3 "that line as the card, counted from 1"
  unfoldable pub entries : List ℕ → List Entry
  entries deck = entries_from 1 (lines deck)

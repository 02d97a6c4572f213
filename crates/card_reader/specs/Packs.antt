-- What packing some bytes behind others does. Assumes nothing.
use Rattle.std.specs.Prelude.{◌&&◌, List, ◌++◌, ◌≡◌, ℕ, ◌+◌, ◌≤◌, length, take}
use Rattle.base.specs.Limits as Limits
use Rattle.cards.specs.Packing.{pack_from, place_after}
use Rattle.card_reader.specs.declared.packed.Packing.{Packing}
use Rattle.card_reader.specs.Places.{kept_at, place_behind, place_meaning, stays_whole, unbroken}

-- the bytes that a packed statement may have: it has no more than its deck
abbrev pub longest_text : ℕ
longest_text = Limits.longest_deck

-- the packing s goes on over one byte
pub record PackingSteps (s : Packing) (b : ℕ) (r : Packing) : Type 0 where
  pub place : place_meaning r.place ≡ place_after (place_meaning s.place) b
  pub whole : r.whole ≡ s.whole && stays_whole (place_meaning s.place) b
  pub length : r.length ≡ s.length + kept_at (place_meaning s.place) b

-- there is room in text for some bytes more
pub record Packable (part text : List ℕ) (s : Packing) : Type 0 where
  pub size : length text ≡ longest_text
  pub room : s.length + length part ≤ longest_text

-- the packing s of text goes on over part: the bytes, the place, whether literals are whole, and room
pub record Packs (part text : List ℕ) (s : Packing) (text' : List ℕ) (r : Packing) : Type 0 where
  pub bytes : take r.length text' ≡ take s.length text ++ pack_from (place_meaning s.place) part
  pub place : place_meaning r.place ≡ place_behind (place_meaning s.place) part
  pub whole : r.whole ≡ s.whole && unbroken (place_meaning s.place) part
  pub room : r.length ≤ s.length + length part
  pub size : length text' ≡ length text

-- Packing and the literals byte by byte, from the left: what one byte adds, and the place behind some bytes. Assumes nothing.
use Rattle.std.specs.Prelude.{Bool, true, false, ◌&&◌, List, [], ◌∷◌, ℕ, eqb}
use Rattle.cards.specs.Bytes.{quote}
use Rattle.cards.specs.Packing.{Place, outside, opened, doubled, inside, place_after, is_dropped}
use Rattle.card_reader.specs.declared.packed.Place as Code
use Rattle.card_reader.specs.declared.packed.Place.TheVariants.{Outside, Opened, Doubled, Inside}

-- the place that the code's value says
abbrev pub place_meaning : Code.Place → Place
place_meaning Outside = outside
place_meaning Opened = opened
place_meaning Doubled = doubled
place_meaning Inside = inside

abbrev pub is_outside : Place → Bool
is_outside outside = true
is_outside opened = false
is_outside doubled = false
is_outside inside = false

-- how many bytes a byte adds to the packed text
unfoldable pub kept_at : Place → ℕ → ℕ
kept_at place b = elim (is_dropped place b) [ true ↦ 0 | false ↦ 1 ]

-- two quotes are followed by a third
abbrev pub stays_whole : Place → ℕ → Bool
stays_whole outside b = true
stays_whole opened b = true
stays_whole doubled b = eqb b quote
stays_whole inside b = true

-- the place behind some bytes
unfoldable pub place_behind : Place → List ℕ → Place
place_behind place [] = place
place_behind place (b ∷ bs) = place_behind (place_after place b) bs

-- no two quotes among some bytes are followed by another byte than a third
unfoldable pub unbroken : Place → List ℕ → Bool
unbroken place [] = true
unbroken place (b ∷ bs) = stays_whole place b && unbroken (place_after place b) bs

-- Document 01, "Cards": the packed statement, without the blanks outside literals. Assumes nothing.
use Rattle.std.specs.Prelude.{Bool, true, false, List, [], ◌∷◌, ℕ, eqb}
use Rattle.cards.specs.Bytes.{is_blank, quote}

-- where a byte stands: outside a literal, right behind the quote that opens one, right behind two quotes, further inside
pub data Place : Type 0 where
  outside opened doubled inside : Place

-- C9 "A literal is one or more bytes between quotes, without a quote; `"""` is the literal of one quote."
unfoldable pub place_after : Place → ℕ → Place
place_after outside b = elim (eqb b quote) [ true ↦ opened | false ↦ outside ]
place_after opened b = elim (eqb b quote) [ true ↦ doubled | false ↦ inside ]
place_after doubled b = outside
place_after inside b = elim (eqb b quote) [ true ↦ outside | false ↦ inside ]

-- C6 "Blanks outside literals don't count."
unfoldable pub is_dropped : Place → ℕ → Bool
is_dropped outside b = is_blank b
is_dropped opened b = false
is_dropped doubled b = false
is_dropped inside b = false

unfoldable pub pack_from : Place → List ℕ → List ℕ
pack_from place [] = []
pack_from place (b ∷ bs) =
    elim (is_dropped place b) [ true ↦ pack_from (place_after place b) bs | false ↦ b ∷ pack_from (place_after place b) bs ]

-- F4 "the packed statement": document 01's word
unfoldable pub packed : List ℕ → List ℕ
packed text = pack_from outside text

-- each literal is closed and has a byte, and two quotes side by side are followed by a third
unfoldable pub literals_from : Place → List ℕ → Bool
literals_from outside [] = true
literals_from opened [] = false
literals_from doubled [] = false
literals_from inside [] = false
literals_from outside (b ∷ bs) = literals_from (place_after outside b) bs
literals_from opened (b ∷ bs) = literals_from (place_after opened b) bs
literals_from doubled (b ∷ bs) = elim (eqb b quote) [ true ↦ literals_from outside bs | false ↦ false ]
literals_from inside (b ∷ bs) = literals_from (place_after inside b) bs

unfoldable pub literals_whole : List ℕ → Bool
literals_whole text = literals_from outside text

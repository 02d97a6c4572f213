-- Places that a string can't stand at: told by two of its bytes, and what that says of the whole string. Assumes nothing.
use Rattle.std.specs.Prelude.{true, false, Option, MatchOption, List, [], ◌∷◌, ◌≡◌, ℕ, suc, ◌+◌, ◌≤◌, ◌<◌, eqb, length, drop, get_or}
use Rattle.base.specs.Lists.{begins}

-- the first n bytes of a word stand at the start of rest, and the next one doesn't
pub record AgreesUntil (rest word : List ℕ) (n : ℕ) : Type 0 where
  pub inside : n ≤ length word
  pub same : (i : ℕ) → i < n → get_or rest i 0 ≡ get_or word i 0
  pub differ : n < length word → get_or rest n 0 ≡ get_or word n 0 → ⊥

-- the byte first stands at a place of a block and the byte second at the same place of another
abbrev pub Both : List ℕ → List ℕ → ℕ → ℕ → ℕ → Type 0
Both fronts backs first second j = (get_or fronts j 0 ≡ first) × (get_or backs j 0 ≡ second)

-- so many places of a text, each with span bytes behind it, to be searched from a place on
pub record PlacesSearchable (text : List ℕ) (span places from : ℕ) : Type 0 where
  pub room : places + span ≤ length text
  pub start : from ≤ places

-- at no place from one to another first stands and second stands span bytes behind it
pub record Without (text : List ℕ) (first second span places from to : ℕ) : Type 0 where
  pub low : from ≤ to
  pub high : to ≤ places
  pub differ : (j : ℕ) → from ≤ j → j < to → get_or text j 0 ≡ first → get_or text (j + span) 0 ≡ second → ⊥

-- a place that is passed up to, and both stand there
pub record PlaceFound (text : List ℕ) (first second span places from at : ℕ) : Type 0 where
  pub passed : Without text first second span places from at
  pub inside : at < places
  pub here : (get_or text at 0 ≡ first) × (get_or text (at + span) 0 ≡ second)

-- the next place from one on where first stands and second stands span bytes behind it, or none
abbrev pub NextPlace : (text : List ℕ) → (first second span places from : ℕ) → Option ℕ → Type 0
NextPlace text first second span places from found =
    MatchOption found (Without text first second span places from places) (PlaceFound text first second span places from)

-- the place where a byte stands next from one on, or the text's end
pub record NextByte (text : List ℕ) (byte from at : ℕ) : Type 0 where
  pub low : from ≤ at
  pub high : at ≤ length text
  pub none : (j : ℕ) → from ≤ j → j < at → get_or text j 0 ≡ byte → ⊥
  pub here : at < length text → get_or text at 0 ≡ byte

-- how many bytes stand before the first one of this value, or in all
unfoldable pub until : ℕ → List ℕ → ℕ
until byte [] = 0
until byte (b ∷ bs) = elim (eqb b byte) [ true ↦ 0 | false ↦ suc (until byte bs) ]

-- a word that a text has room for
pub record WordRoom (text word : List ℕ) : Type 0 where
  pub some : 0 < length word
  pub fits : length word ≤ length text

-- at each of the first k places there are enough bytes for the word, and other ones
pub record WordPasses (text word : List ℕ) (k : ℕ) : Type 0 where
  pub inside : k ≤ length text
  pub enough : (j : ℕ) → j < k → length word ≤ length (drop j text)
  pub differ : (j : ℕ) → j < k → begins word (drop j text) ≡ false

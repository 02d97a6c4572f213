-- Document 01, "Trade lines tried": P1 to P12 as one table. Assumes nothing.
use Rattle.std.specs.Prelude.{Bool, true, false, ◌&&◌, List, [], ◌∷◌, ◌≡◌, refl, ℕ, eqb, ℤ, pos, negsuc}
use Rattle.std.proofs.Math.Option.{Option, none, some}
use Prim.Native.String.{String}
use Rattle.base.specs.Current.{current}
use Rattle.base.specs.Lists.{same, all}
use Rattle.base.specs.Text.{bytes}
use Rattle.computing.specs.{everything}
use Rattle.syntax.specs.Program.{
  constantly,
  whole,
  Element,
  literal,
  part,
  PatternElement,
  value,
  free_filler,
  fixed_filler,
  Direction,
  forward,
  backward,
}
use Rattle.machine.specs.Scanning.{ScanLeft, scanning_in}
use Rattle.machine.specs.State.{string_at, with_string, fresh_memory}
use Rattle.scanning.specs.Splits.{Split}
use Rattle.values.specs.Conversion.{text_of, number_of}
use Rattle.values.specs.Result.{Result, done, stop}

-- A trade line and what is right of it: a SCAN or BACKSCAN of string 0, with the split, the trials where the paper gives them, and what
-- a string holds after it; STRING(n,m), with its text and notes; NUMBER of a text.
pub data Line : Type 0 where
  scans : Direction → String → List PatternElement → Option (List Element) → Option Split → Option ℕ → (string : ℕ) → String → Line
  writes : (n m : ℤ) → String → (notes : ℕ) → Line
  reads : String → ℤ → Line

-- elements as a deck writes them: a literal, a free filler and a fixed one with the place of its string
abbrev pub lit : String → PatternElement
lit w = value (literal (bytes w))

abbrev filler : ℕ → PatternElement
filler s = free_filler s

abbrev filler_of : ℕ → ℕ → PatternElement
filler_of s n = fixed_filler s (constantly (pos n))

-- a split: its start and its lengths
abbrev at : ℕ → List ℕ → Option Split
at start lengths = some (record { start = start; lengths = lengths })

-- "Trade lines tried", document 01's words: P1 to P12
pub lines : List Line
lines =
    -- P1 "ABCDEFGHIJKLMNOP" by (X$5),(Y),"K",(Z): start 0, lengths 5 5 1 5
    scans forward "ABCDEFGHIJKLMNOP" (filler_of 1 5 ∷ filler 2 ∷ lit "K" ∷ filler 3 ∷ []) none (at 0 (5 ∷ 5 ∷ 1 ∷ 5 ∷ [])) none 3 "LMNOP"
    -- P2 "123." by (A),(N$3),".": 0; 0 3 1
    ∷ scans forward "123." (filler 1 ∷ filler_of 2 3 ∷ lit "." ∷ []) none (at 0 (0 ∷ 3 ∷ 1 ∷ [])) none 2 "123"
    -- P3 "HOU" by (A),(B),(C): 0; 0 0 3
    ∷ scans forward "HOU" (filler 1 ∷ filler 2 ∷ filler 3 ∷ []) none (at 0 (0 ∷ 0 ∷ 3 ∷ [])) none 3 "HOU"
    -- P4 "ABCD" by (X$2),(Y$3): fails
    ∷ scans forward "ABCD" (filler_of 1 2 ∷ filler_of 2 3 ∷ []) none none none 1 ""
    -- P5 null by (F): 0; 0
    ∷ scans forward "" (filler 1 ∷ []) none (at 0 (0 ∷ [])) none 1 ""
    -- P6 "ABCDE" by "A",(F),"C",(F): 0; 1 1 1 2, F "DE"
    ∷ scans forward "ABCDE" (lit "A" ∷ filler 1 ∷ lit "C" ∷ filler 1 ∷ []) none (at 0 (1 ∷ 1 ∷ 1 ∷ 2 ∷ [])) none 1 "DE"
    -- P7 "AAB" by "AB": 1; 2; 2 trials
    ∷ scans forward "AAB" (lit "AB" ∷ []) none (at 1 (2 ∷ [])) (some 2) 0 "AAB"
    -- P8 "AB" by "B","C": fails, 3 trials
    ∷ scans forward "AB" (lit "B" ∷ lit "C" ∷ []) none none (some 3) 0 "AB"
    -- P9 BACKSCAN "ABC" by (X$1),(Y$2) = Y,X: "CAB"
    ∷ scans backward "ABC" (filler_of 1 1 ∷ filler_of 2 2 ∷ []) (some (part (whole 2) ∷ part (whole 1) ∷ [])) (at 0 (1 ∷ 2 ∷ [])) none 0 "CAB"
    -- P10 STRING(-4,-12): "- 12"
    ∷ writes (negsuc 3) (negsuc 11) "- 12" 0
    -- P11 STRING(2,-12): "-1", a note
    ∷ writes (pos 2) (negsuc 11) "-1" 1
    -- P12 NUMBER("3 "): 30
    ∷ reads "3 " (pos 30)
    ∷ []

same_integer : ℤ → ℤ → Bool
same_integer (pos a) (pos b) = eqb a b
same_integer (pos a) (negsuc b) = false
same_integer (negsuc a) (pos b) = false
same_integer (negsuc a) (negsuc b) = eqb a b

same_split : Option Split → Option Split → Bool
same_split none none = true
same_split none (some t) = false
same_split (some s) none = false
same_split (some s) (some t) = eqb s.start t.start && same s.lengths t.lengths

agrees_if_given : Option ℕ → ℕ → Bool
agrees_if_given none n = true
agrees_if_given (some m) n = eqb m n

leaves_right : Option Split → Option ℕ → ℕ → List ℕ → Result ScanLeft → Bool
leaves_right split trials s v (done left notes) =
    same_split split left.scanned.split
    && (agrees_if_given trials left.scanned.trials && same v (string_at left.memory s))
leaves_right split trials s v (stop n) = false

text_right : List ℕ → ℕ → Result (List ℕ) → Bool
text_right v notes (done w m) = same v w && eqb notes m
text_right v notes (stop n) = false

number_right : ℤ → Result ℤ → Bool
number_right z (done y notes) = same_integer z y && eqb notes 0
number_right z (stop n) = false

pub is_right : Line → Bool
is_right (scans d r p x split trials s v) =
    leaves_right split trials s (bytes v) (scanning_in current (with_string fresh_memory 0 (bytes r)) d (whole 0) p x)
is_right (writes n m v notes) = text_right (bytes v) notes (text_of n m)
is_right (reads v z) = number_right z (number_of current (bytes v))

-- E9 "P1 to P12 form one table whose correctness under those definitions is a single fact"
pub lines_right : all is_right lines ≡ true
unfolding lines same_integer same_split agrees_if_given leaves_right text_right number_right is_right everything
lines_right = refl

-- A deck's judgement and the first steps of its run, written as the vectors write them. Assumes nothing.
use Rattle.std.specs.Prelude.{Bool, true, false, cond, ◌&&◌, List, [], ◌∷◌, ◌++◌, map, reverse, ℕ, zero, suc, ◌+◌, ◌*◌, ◌-◌, ◌/◌, ◌%◌, leb, eqb, ℤ, nat_abs, length, drop, get_or}
use Rattle.std.proofs.Math.Option.{Option, none, some}
use Prim.Native.String.{String}
use Rattle.base.specs.Current.{current}
use Rattle.base.specs.Lists.{same, begins, all}
use Rattle.base.specs.Text.{bytes}
use Rattle.calls.specs.Strigol.{printed}
use Rattle.cards.specs.Cards.{lines}
use Rattle.cards.specs.Entries.{entries}
use Rattle.computing.specs.{everything}
use Rattle.validation.specs.Deck as Deck
use Rattle.validation.specs.Deck.{Judgement, accepted, Judged, passed, judge, judge_from}
use Rattle.validation.specs.Environment.{empty_environment, strings_of, numbers_of}
use Rattle.syntax.specs.Program.{Program}
use Rattle.machine.specs.State.{Status, running, finished, stopped, State, fresh}
use Rattle.machine.specs.Step.{Stepped, step}
use Rattle.scanning.specs.Splits.{Element, string, fixed, free, Split}
use Rattle.scanning.specs.Trials.{Scanned, scan}
use Rattle.values.specs.Conversion.{digits, sign_of, decimal}

unfoldable pub integer : ℤ → List ℕ
integer z = sign_of z ++ digits (nat_abs z)

-- texts parted by commas
unfoldable pub commas : List (List ℕ) → List ℕ
commas [] = []
commas (x ∷ []) = x
commas (x ∷ (y ∷ ys)) = x ++ (bytes "," ++ commas (y ∷ ys))

unfoldable pub hex_digit : ℕ → ℕ
hex_digit n = get_or (bytes "0123456789abcdef") n 0

unfoldable pub hex : List ℕ → List ℕ
hex [] = []
hex (b ∷ bs) = hex_digit (b / 16) ∷ (hex_digit (b % 16) ∷ hex bs)

unfoldable pub pairs : List (List ℕ) → List (List ℕ) → List (List ℕ)
pairs [] vs = []
pairs (n ∷ ns) [] = []
pairs (n ∷ ns) (v ∷ vs) = (n ++ (bytes ":" ++ v)) ∷ pairs ns vs

unfoldable pub split : Option Split → List ℕ
split none = bytes "-"
split (some s) = digits s.start ++ (bytes ";" ++ commas (map digits s.lengths))

unfoldable pub status : Status → List ℕ
status running = bytes "running"
status finished = bytes "finished"
status stopped = bytes "stopped"

unfoldable pub card_of : Program → ℕ → List ℕ
card_of p k = digits (get_or (map (λ s. s.card) p.steps) k 0)

-- a deck's names, its program, how many bytes its input has; returns are written oldest first
module _ (string_names number_names : List (List ℕ)) (p : Program) (size : ℕ) where
  unfoldable pub line : ℕ → Stepped → List ℕ
  line k s =
      let c = s.state in
      bytes "step "
      ++ (digits k
      ++ (bytes ": n="
      ++ (digits s.answer.number
      ++ (bytes " notes="
      ++ (digits s.answer.notes
      ++ (bytes " split="
      ++ (split s.answer.scanned.split
      ++ (bytes " trials="
      ++ (digits s.answer.scanned.trials
      ++ (bytes " in="
      ++ (digits (size - length c.input)
      ++ (bytes " out="
      ++ (digits (length c.output)
      ++ (bytes " state="
      ++ (status c.status
      ++ (bytes " next="
      ++ (card_of p c.next
      ++ (bytes " held=["
      ++ (commas (map (card_of p) (reverse c.returns))
      ++ (bytes "] numbers={"
      ++ (commas (pairs number_names (map integer c.memory.numbers))
      ++ (bytes "} strings={"
      ++ (commas (pairs string_names (map hex c.memory.strings))
      ++ bytes "}\n")))))))))))))))))))))))

  -- at most so many steps from number k on, up to the one that finishes or stops
  unfoldable pub steps : ℕ → ℕ → State → List ℕ
  steps zero k c = []
  steps (suc n) k c =
      let s = step current p 300 c in
      let rest = steps n (suc k) s.state in
      line k s ++ following s.state.status rest
    where
      following : Status → List ℕ → List ℕ
      following running rest = rest
      following finished rest = []
      following stopped rest = []

unfoldable pub string_names : Judged → List (List ℕ)
string_names (passed k) = strings_of k
string_names (Deck.Judged.failed n c) = []

unfoldable pub number_names : Judged → List (List ℕ)
number_names (passed k) = numbers_of k
number_names (Deck.Judged.failed n c) = []

unfoldable pub traced : Judged → List ℕ → Judgement → List ℕ
traced j input (Deck.Judgement.refused n c) = bytes "REFUSED " ++ (digits n ++ (bytes " " ++ (digits c ++ bytes "\n")))
traced j input (accepted p) = steps (string_names j) (number_names j) p (length input) 60 1 (fresh input)

unfoldable pub trace : (deck input : List ℕ) → List ℕ
trace deck input = traced (judge_from current empty_environment (entries current deck)) input (judge current deck)

-- a deck with its input gives this trace
unfoldable pub agrees : (deck input expected : String) → Bool
unfolding everything integer commas hex_digit hex pairs split status card_of line steps string_names number_names traced trace
agrees deck input expected = same (trace (bytes deck) (bytes input)) (bytes expected)

-- the same, and the program prints this
unfoldable pub agrees_whole : (deck input expected output : String) → Bool
unfolding everything agrees
agrees_whole deck input expected output =
    agrees deck input expected && same (printed current (bytes deck) (bytes input)) (bytes output)

-- The scans are lines `REFERENCE ELEMENT.. => answer`. A reference is in hex, `-` if null; `s:HEX` is a string, `f:N` a fixed filler, `x` a
-- free one; the answer is `start;lengths trials` or `FAIL trials`.
unfoldable pub hex_value : ℕ → ℕ
hex_value b = cond (leb 97 b) (b - 87) (b - 48)

unfoldable pub unhex : List ℕ → List ℕ
unhex [] = []
unhex (a ∷ []) = []
unhex (a ∷ (b ∷ bs)) = (16 * hex_value a + hex_value b) ∷ unhex bs

unfoldable pub element_of : List ℕ → Element
element_of w =
    cond (begins (bytes "s:") w) (string (unhex (drop 2 w)))
    (cond (begins (bytes "f:") w) (fixed (decimal 0 (drop 2 w)))
    free)

unfoldable pub answer_of : Scanned → List ℕ
answer_of a = fail_or_split a.split ++ (bytes " " ++ digits a.trials)
  where
    fail_or_split : Option Split → List ℕ
    fail_or_split none = bytes "FAIL"
    fail_or_split (some s) = split (some s)

-- the part of a line before a blank, and the part behind it
unfoldable pub word : List ℕ → List ℕ
word [] = []
word (b ∷ bs) = elim (eqb b 32) [ true ↦ [] | false ↦ b ∷ word bs ]

unfoldable pub behind_word : List ℕ → List ℕ
behind_word l = drop (length (word l) + 1) l

-- the elements up to `=>`, then what the answer must be
unfoldable pub scan_agrees : ℕ → List ℕ → List Element → List ℕ → Bool
scan_agrees zero r p l = false
scan_agrees (suc k) r p l = elim (begins (bytes "=>") l) [
  | true ↦ same (answer_of (scan (reverse p) r)) (drop 3 l)
  | false ↦ scan_agrees k r (element_of (word l) ∷ p) (behind_word l)
]

unfoldable pub line_agrees : List ℕ → Bool
line_agrees l = scan_agrees (length l) (cond (begins (bytes "-") l) [] (unhex (word l))) [] (behind_word l)

unfoldable pub scans_agree : String → Bool
unfolding everything split commas hex_value unhex element_of answer_of word behind_word scan_agrees line_agrees
scans_agree expected = all line_agrees (lines (bytes expected))

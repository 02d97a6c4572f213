-- W2.5, W4.3 and W10.3 to W10.6 as one claim about every list of calls from a register that isn't opened, the empty one or one of old lines: the
-- lines handed out by their places are the old ones and the accepted ones in order of arrival, each with its currency; a report prints just these,
-- and its totals are those of the records it prints, currency by currency. And the promises of the calls, which carry the claim. Assumes nothing.
use Rattle.std.specs.Prelude.{Bool, true, false, cond, List, [], ◌∷◌, ◌++◌, map, ◌≡◌, ℕ, eqb, take}
use Rattle.base.specs.Lists.{all, any, same}
use Rattle.cards.specs.Cards.{lines}
use Rattle.register.specs.Buffer.{register_size, register_in, buffer_keeps}
use Rattle.register.specs.Calls.{BufferCalled, open_call, offer_call, LineCalled, handing, line_call}
use Rattle.register.specs.Calls.{ReportCalled, put_report, putting_nothing, report_call}
use Rattle.register.specs.Line.{currency_of, is_currency}
use Rattle.register.specs.Register.{Lines, Register, is_open, with_line, offer_number, opened_with, line_at}
use Rattle.register.specs.Report.{totals_of, lines_of, printed_records, report}
use Rattle.register.specs.Report.{records_in, total_lines_in, is_total_line, currency_shown, totals_shown, is_one_word, in_order}

-- A call as it was observed: what it was given, and what came back.
pub data Observed : Type 0 where
  observed_open : (given currency : List ℕ) (back : BufferCalled) → Observed
  observed_offer : (given line : List ℕ) (back : BufferCalled) → Observed
  observed_line : (given : List ℕ) (place : ℕ) (back : LineCalled) → Observed
  observed_report : (given output : List ℕ) (back : ReportCalled) → Observed

-- each call was given the register that the last one left, the first one b's, and z's is left in the end; what lies behind the first 8,192 bytes
-- doesn't count. Each kept the equation of its promise. A buffer that is lent only to be read is left as it was given
unfoldable pub Linked : List ℕ → List Observed → List ℕ → Type 0
Linked b [] z = take register_size b ≡ take register_size z
Linked b (observed_open given currency back ∷ calls) z =
    (take register_size b ≡ take register_size given) × (back ≡ open_call given currency) × Linked back.left calls z
Linked b (observed_offer given line back ∷ calls) z =
    (take register_size b ≡ take register_size given) × (back ≡ offer_call given line) × Linked back.left calls z
Linked b (observed_line given place back ∷ calls) z =
    (take register_size b ≡ take register_size given) × (back ≡ line_call given place) × Linked given calls z
Linked b (observed_report given output back ∷ calls) z =
    (take register_size b ≡ take register_size given) × (back ≡ report_call given output) × Linked given calls z

-- a register that isn't opened: the empty one (CallLaws: zeros-hold, zeros-old), or one of lines of four fields, as wishes 2 and 4 left it
pub record Old (buffer : List ℕ) : Type 0 where
  pub keeps : buffer_keeps buffer ≡ true
  pub unopened : is_open (register_in buffer) ≡ false

-- whatever happened to a buffer since it held such a register
pub record History (buffer : List ℕ) : Type 0 where
  pub start : List ℕ
  pub old : Old start
  pub calls : List Observed
  pub linked : Linked start calls buffer

-- What the calls made of the register that was there at first, by the numbers that came back. An opening that got 0 told the register its house
-- currency, and the first one wrote it out behind old lines; an offer that got 0 put its line behind all others, a line of four fields with the house
-- currency of that time; any other leaves no trace.
unfoldable pub made_by_opening : Register → (currency : List ℕ) → BufferCalled → Register
made_by_opening made currency back = cond (eqb back.number 0) (opened_with made currency) made

unfoldable pub made_by_offer : Register → (line : List ℕ) → BufferCalled → Register
made_by_offer made line back = cond (eqb back.number 0) (with_line made line) made

-- W4.3 and W10.4 of the bytes that a report put, read back from them, with the lines held
pub record ReportAgrees (held : Lines) (put : List ℕ) : Type 0 where
  -- the records printed are the lines held, in order and byte for byte: "the declined ones counting nothing"
  pub records : records_in put ≡ held
  -- "printed above them": first the records, then the TOTAL lines; "all with byte 10"
  pub above : lines put ≡ records_in put ++ total_lines_in put
  pub ends : put ≡ printed_records (lines put)
  -- each of these is TOTAL, a currency and three numbers without leading zeros
  pub forms : all is_total_line (total_lines_in put) ≡ true
  -- "one TOTAL line for each currency held": a TOTAL line shows a currency exactly when a record printed has it; "in letter order", so each once
  pub each-held : (currency : List ℕ) → is_one_word currency (map currency_shown (total_lines_in put))
      ≡ any (λ line. same (currency_of line) currency) (records_in put)
  pub ordered : in_order (map currency_shown (total_lines_in put)) ≡ true
  -- "The three numbers equal those of the records printed above them", of those of its currency
  pub totals : map totals_shown (total_lines_in put) ≡ map (λ line. totals_of (lines_of (currency_shown line) (records_in put))) (total_lines_in put)
  -- so all that was put is made of the records in it
  pub whole : put ≡ report (records_in put)

-- a report, with the lines held before it: what comes back is theirs, put or 21; and what was put agrees with them and with itself
pub record ReportClaim (held : Lines) (output : List ℕ) (back : ReportCalled) : Type 0 where
  pub is : back ≡ put_report (report held) output
  pub agrees : back.number ≡ 0 → ReportAgrees held (take back.size back.left)

-- one of two claims, as the register is opened or not
unfoldable pub IfOpen : (is_opened : Bool) → Type 0 → Type 0 → Type 0
IfOpen true claim other = claim
IfOpen false claim other = other

-- Of each call, with the register that those before it made: an opening gets 0 or 29; until an opening got 0, every other call gets 14. Then an offer
-- gets the number that the paper gives for the lines held; a line handed out is the one of that place, or the empty line where there is none; a
-- report is that of these lines.
unfoldable pub ListClaim : (made : Register) → List Observed → Type 0
ListClaim made [] = Unit {0}
ListClaim made (observed_open given currency back ∷ calls) =
    (back.number ≡ cond (is_currency currency) 0 29) × ListClaim (made_by_opening made currency back) calls
ListClaim made (observed_offer given line back ∷ calls) =
    (back.number ≡ cond (is_open made) (offer_number made.lines line) 14) × ListClaim (made_by_offer made line back) calls
ListClaim made (observed_line given place back ∷ calls) =
    (back ≡ cond (is_open made) (handing 0 (line_at made.lines place)) (handing 14 [])) × ListClaim made calls
ListClaim made (observed_report given output back ∷ calls) =
    IfOpen (is_open made) (ReportClaim made.lines output back) (back ≡ putting_nothing 14 output) × ListClaim made calls

-- the claim about every list of calls that starts from a register that isn't opened and ends with this call
abbrev pub Carries : (buffer : List ℕ) → Observed → Type 0
Carries buffer call = (h : History buffer) → ListClaim (register_in h.start) (h.calls ++ (call ∷ []))

-- the opening call, given a buffer and a currency
pub record OpenPromise (buffer currency : List ℕ) (back : BufferCalled) : Type 0 where
  -- the number and every byte left
  pub does : back ≡ open_call buffer currency
  -- W2.6 "a call turned down leaves it unchanged"
  pub keeps : ¬ (back.number ≡ 0) → back.left ≡ buffer
  pub list : Carries buffer (observed_open buffer currency back)

-- the offering call, given a buffer and a line
pub record OfferPromise (buffer line : List ℕ) (back : BufferCalled) : Type 0 where
  pub does : back ≡ offer_call buffer line
  pub keeps : ¬ (back.number ≡ 0) → back.left ≡ buffer
  pub list : Carries buffer (observed_offer buffer line back)

-- the call for a line, given a buffer and a place
pub record LinePromise (buffer : List ℕ) (place : ℕ) (back : LineCalled) : Type 0 where
  pub does : back ≡ line_call buffer place
  pub list : Carries buffer (observed_line buffer place back)

-- the call for a report, given a buffer and an output
pub record ReportPromise (buffer output : List ℕ) (back : ReportCalled) : Type 0 where
  -- the number, every byte of the output and how many were put
  pub does : back ≡ report_call buffer output
  -- W4.5 "14 and 21 write nothing"
  pub keeps : ¬ (back.number ≡ 0) → (back.left ≡ output) × (back.size ≡ 0)
  pub list : Carries buffer (observed_report buffer output back)

-- what came back, by its parts
abbrev pub buffer_back : (number : ℕ) (left : List ℕ) → BufferCalled
buffer_back number left = record { number = number; left = left }

abbrev pub line_back : (number : ℕ) (line : List ℕ) (size : ℕ) → LineCalled
line_back number line size = record { number = number; line = line; size = size }

abbrev pub report_back : (number : ℕ) (left : List ℕ) (size : ℕ) → ReportCalled
report_back number left size = record { number = number; left = left; size = size }

-- What the register's calls give and leave, for every buffer, currency and line. Assumes nothing.
use Rattle.std.specs.Prelude.{Bool, cond, not, ◌&&◌, List, [], ◌++◌, ℕ, ◌-◌, leb, length, drop, replicate}
use Rattle.register.specs.Buffer.{register_size, register_image, register_in, buffer_keeps}
use Rattle.register.specs.Line.{is_currency}
use Rattle.register.specs.Register.{Register, is_open, offer_number, offered, opened_with, line_at}
use Rattle.register.specs.Report.{report}

-- what comes back of an opening and of an offer: the number, and the buffer as it is left
pub record BufferCalled : Type 0 where
  pub number : ℕ
  pub left : List ℕ

-- W2.6 "a call turned down leaves it unchanged"
unfoldable pub register_turned_down : (number : ℕ) (buffer : List ℕ) → BufferCalled
register_turned_down number buffer = record { number = number; left = buffer }

-- W2.5 the buffer with another register "in the first 8,192 bytes"; what stands behind them stays
unfoldable pub with_register : (buffer : List ℕ) → Register → List ℕ
with_register buffer register = register_image register ++ drop register_size buffer

-- W10.6 "29 when the house currency given isn't three letters A-Z, checked before all else on opening"; then 14
unfoldable pub open_call : (buffer currency : List ℕ) → BufferCalled
open_call buffer currency =
    cond (not (is_currency currency)) (register_turned_down 29 buffer)
    (cond (not (buffer_keeps buffer)) (register_turned_down 14 buffer)
    (record { number = 0; left = with_register buffer (opened_with (register_in buffer) currency) }))

-- W10.6 "until it is opened, every other call on a register gets 14"
unfoldable pub buffer_open : (buffer : List ℕ) → Bool
buffer_open buffer = buffer_keeps buffer && is_open (register_in buffer)

-- W2.1 "one a call, without byte 10"; W2.7 14 first, then what the register answers
unfoldable pub offer_call : (buffer line : List ℕ) → BufferCalled
offer_call buffer line =
    cond (buffer_open buffer)
    (record {
      number = offer_number (register_in buffer).lines line;
      left = with_register buffer (offered (register_in buffer) line);
    })
    (register_turned_down 14 buffer)

-- the bytes that a line is handed out in
abbrev pub line_size : ℕ
line_size = 32

-- what comes back of a line asked for: the number, the line with zeros behind it, and its length
pub record LineCalled : Type 0 where
  pub number : ℕ
  pub line : List ℕ
  pub size : ℕ

unfoldable pub handing : (number : ℕ) (line : List ℕ) → LineCalled
handing number line = record { number = number; line = line ++ replicate (line_size - length line) 0; size = length line }

-- W2.5 "an empty one where none stands or 14 is given"
unfoldable pub line_call : (buffer : List ℕ) (place : ℕ) → LineCalled
line_call buffer place = cond (buffer_open buffer) (handing 0 (line_at (register_in buffer).lines place)) (handing 14 [])

-- what comes back of a report: the number, the output as it is left, and how many bytes were put
pub record ReportCalled : Type 0 where
  pub number : ℕ
  pub left : List ℕ
  pub size : ℕ

-- W4.5 "14 and 21 write nothing"
unfoldable pub putting_nothing : (number : ℕ) (output : List ℕ) → ReportCalled
putting_nothing number output = record { number = number; left = output; size = 0 }

-- a report at the start of the output; what stands behind it stays. W4.5 "21 if the output can't hold it all"
unfoldable pub put_report : (put output : List ℕ) → ReportCalled
put_report put output =
    cond (leb (length put) (length output))
    (record { number = 0; left = put ++ drop (length put) output; size = length put })
    (putting_nothing 21 output)

-- W4.1 "At the close staff print the register."; D1 "A call gives the lowest number that applies": 14 before 21
unfoldable pub report_call : (buffer output : List ℕ) → ReportCalled
report_call buffer output = cond (buffer_open buffer) (put_report (report (register_in buffer).lines) output) (putting_nothing 14 output)

-- A script of the register as a list of commands, and what it answers, by the definitions on lists. Assumes nothing.
use Rattle.std.specs.Prelude.{cond, List, [], ◌∷◌, ◌++◌, map, ◌≡◌, ℕ, zero, suc, take, replicate}
use Rattle.register.specs.Calls.{ReportCalled, put_report, putting_nothing}
use Rattle.register.specs.Claims.{buffer_back, made_by_offer, made_by_opening}
use Rattle.register.specs.Line.{is_currency}
use Rattle.register.specs.Register.{Register, empty_register, is_open, line_at, old_lines, offer_number}
use Rattle.register.specs.Report as Report

-- the register opened with a currency, a line offered, a line asked for by its place, a report asked for with so many bytes of output; and two new
-- starts: with the register that was left of lines offered by wishes 2 to 9, and with the empty one
pub data Command : Type 0 where
  opening : (currency : List ℕ) → Command
  offer : (line : List ℕ) → Command
  get : (place : ℕ) → Command
  report : (size : ℕ) → Command
  old : (lines : List (List ℕ)) → Command
  reset : Command

-- a number, a number with the line handed out, or a number with the bytes put
pub data Answer : Type 0 where
  number : ℕ → Answer
  handed : ℕ → (line : List ℕ) → Answer
  reported : ℕ → (put : List ℕ) → Answer

-- what came back of a report: the number, and the bytes put at the start of the output
abbrev pub reported_by : ReportCalled → Answer
reported_by back = reported back.number (take back.size back.left)

-- The answers, with the register that the commands before made by their numbers, as in Claims: ListClaim. It is the register after them by CallLaws:
-- opening-is and offer-is; here it spares working out a number twice. W10.6 29 first on opening, and 14 for every other call until then.
unfoldable pub answers : Register → List Command → List Answer
answers register [] = []
answers register (opening currency ∷ rest) =
    let got : ℕ = cond (is_currency currency) 0 29 in
    number got ∷ answers (made_by_opening register currency (buffer_back got [])) rest
answers register (offer line ∷ rest) =
    let got : ℕ = cond (is_open register) (offer_number register.lines line) 14 in
    number got ∷ answers (made_by_offer register line (buffer_back got [])) rest
answers register (get place ∷ rest) = cond (is_open register) (handed 0 (line_at register.lines place)) (handed 14 []) ∷ answers register rest
answers register (report size ∷ rest) =
    reported_by
    (cond (is_open register) (put_report (Report.report register.lines) (replicate size 0)) (putting_nothing 14 (replicate size 0)))
    ∷ answers register rest
answers register (old offers ∷ rest) = number 0 ∷ answers (record { house = []; lines = old_lines [] offers }) rest
answers register (reset ∷ rest) = number 0 ∷ answers empty_register rest

-- Commands with answers: from the empty register the commands answer just those.
abbrev pub Answered : List (Command × Answer) → Type 0
Answered script = answers empty_register (map (λ entry. entry.0) script) ≡ map (λ entry. entry.1) script

-- so many times the same bytes
unfoldable pub times : (count : ℕ) → List ℕ → List ℕ
times zero piece = []
times (suc n) piece = piece ++ times n piece

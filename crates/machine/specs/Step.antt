-- Document 01, "Run": one step of each statement, and what it answers. Assumes nothing.
use Rattle.std.specs.Prelude.{Bool, true, false, cond, ◌||◌, List, [], ◌∷◌, ◌++◌, map, ℕ, suc, ◌+◌, min, leb, eqb, nat_abs, length, take, drop, get_or}
use Rattle.std.proofs.Math.Option.{Option, none, some}
use Rattle.base.specs.Edition.{Edition}
use Rattle.base.specs.Limits as Limits
use Rattle.base.specs.Lists.{is_nil}
use Rattle.cards.specs.Bytes.{newline}
use Rattle.syntax.specs.Program as Program
use Rattle.syntax.specs.Program.{
  Part,
  whole,
  first,
  Element,
  Branch,
  Statement,
  set_number,
  set_string,
  goto,
  finish,
  if_test,
  read,
  write,
  execute,
  return,
  Program,
}
use Rattle.scanning.specs.Splits.{Split}
use Rattle.scanning.specs.Trials.{Scanned}
use Rattle.values.specs.Conversion.{longest_string}
use Rattle.values.specs.Numbers.{is_negative}
use Rattle.values.specs.Result.{Result, done, stop, ◌>>=◌, pure}
use Rattle.machine.specs.Expressions.{length_in, numeric_in, string_in, test_in}
use Rattle.machine.specs.Scanning.{scanning_in, storing}
use Rattle.machine.specs.State.{
  finished,
  stopped,
  is_running,
  Memory,
  State,
  string_at,
  with_string,
  with_number,
  going_to,
  with_returns,
  with_input,
  with_output,
  with_status,
}

-- V12, V13, N14: the number (0 for none), the count of notes, the split and the trials
pub record Answer : Type 0 where
  pub number : ℕ
  pub notes : ℕ
  pub scanned : Scanned

-- V13 "no split and 0 trials"
unfoldable pub no_scan : Scanned
no_scan = record { split = none; trials = 0 }

-- what a statement's work comes to
pub record Done : Type 0 where
  pub state : State
  pub scanned : Scanned

unfoldable pub moving : State → Result Done
moving s = pure (record { state = s; scanned = no_scan })

-- the step of a branch field
unfoldable pub chosen : Bool → Branch → ℕ
chosen true b = b.success
chosen false b = b.failure

-- a scan takes the success branch where it found a split
unfoldable pub scanned_to : Option Split → Branch → ℕ
scanned_to none b = b.failure
scanned_to (some s) b = b.success

-- V6 "A replacement of `S$n` changes only those bytes; with negative n, seen before the expression, it gives a note and does nothing."
unfoldable pub set_string_in : Edition → Memory → Part → List Element → Result Memory
set_string_in e m (whole s) xs = do
  v ← string_in e m xs
  storing s v m
set_string_in e m (first s n) xs =
    let z = length_in m n in
    cond (is_negative z) (done m 1) (string_in e m xs >>= λ v. storing s (v ++ drop (nat_abs z) (string_at m s)) m)

-- R1 "the next record (to byte 10 or the end)": its length without byte 10
unfoldable pub record_length : List ℕ → ℕ
record_length [] = 0
record_length (b ∷ bs) = elim (eqb b newline) [ true ↦ 0 | false ↦ suc (record_length bs) ]

-- what taking a record gives: the state behind it, and W1.2 "the number of the record's bytes dropped"
pub record Taken : Type 0 where
  pub state : State
  pub dropped : ℕ

-- R2 "It keeps its first 1,024 bytes, or n if less for a substring, and replaces the whole string. n = 0 or no bytes left: branch f,
-- nothing taken or changed." W1.2 "past 1,024 or past a substring's n (0 if no record is taken)"
unfoldable pub take_record : ℕ → ℕ → Branch → State → Taken
take_record s most b c =
    let n = record_length c.input in
    let r = take n c.input in
    let room = min most longest_string in
    cond (eqb most 0 || is_nil c.input)
    (record { state = going_to b.failure c.memory c; dropped = 0 })
    (record {
      state = with_input (drop (n + 1) c.input) (going_to b.success (with_string c.memory s (take room r)) c);
      dropped = length (drop room r);
    })

-- W1.3 "READ adds one note to its step when that number isn't 0."
unfoldable pub cut_notes : ℕ → ℕ
cut_notes dropped = cond (eqb dropped 0) 0 1

-- what a READ comes to: the state behind the record, with that note
unfoldable pub cut_noted : Taken → Result Done
cut_noted t = done (record { state = t.state; scanned = no_scan }) (cut_notes t.dropped)

-- Q17 "The .. READ length is negative"
unfoldable pub reading : Part → Branch → State → Result Done
reading (whole s) b c = cut_noted (take_record s longest_string b c)
reading (first s n) b c =
    let z = length_in c.memory n in
    cond (is_negative z) (stop 17) (cut_noted (take_record s (nat_abs z) b c))

-- R3 "beyond 1,024 bytes the tail is dropped with a note"
unfoldable pub shortened : List ℕ → Result (List ℕ)
shortened v = cond (leb (length v) longest_string) (done v 0) (done (take longest_string v) 1)

-- R3 "WRITE and PRINT put the bytes and byte 10; a null expression does nothing"; Q21 "A record and its byte 10 exceed the output left."
unfoldable pub put_record : (lent : ℕ) → List ℕ → State → Result State
put_record lent v c =
    cond (is_nil v) (pure c)
    (cond (leb (length c.output + (length v + 1)) lent)
    (pure (with_output (c.output ++ (v ++ (newline ∷ []))) c))
    (stop 21))

-- the latest return, and the others
unfoldable pub returning : List ℕ → State → State
returning [] c = c
returning (k ∷ rs) c = with_returns rs (going_to k c.memory c)

-- N6 "All of it follows the deck's statement, starting from the strings and numbers that the step was given."
unfoldable pub execution : Edition → (lent : ℕ) → Statement → State → Result Done
execution e lent (set_number i x) c = do
  z ← numeric_in e c.memory x
  moving (going_to (suc c.next) (with_number c.memory i z) c)
execution e lent (set_string p xs) c = do
  m ← set_string_in e c.memory p xs
  moving (going_to (suc c.next) m c)
execution e lent (goto k) c = moving (going_to k c.memory c)
execution e lent finish c = moving (with_status finished c)
execution e lent (if_test t b) c = do
  r ← test_in e c.memory t
  moving (going_to (chosen r b) c.memory c)
execution e lent (Program.scan d p xs r b) c = do
  left ← scanning_in e c.memory d p xs r
  pure (record { state = going_to (scanned_to left.scanned.split b) left.memory c; scanned = left.scanned })
execution e lent (read p b) c = reading p b c
execution e lent (write xs) c = do
  v ← string_in e c.memory xs
  w ← shortened v
  c' ← put_record lent w c
  moving (going_to (suc c.next) c.memory c')
execution e lent (execute k) c = moving (with_returns (suc c.next ∷ c.returns) (going_to k c.memory c))
execution e lent return c = moving (returning c.returns c)

-- the statement of a step; behind the last one there is none, and a run never comes there
unfoldable pub statement_at : Program → ℕ → Statement
statement_at p k = get_or (map (λ s. s.statement) p.steps) k finish

-- Q15 "RETURN or ENDROUTINE comes next with no return held, or EXECUTE with 16 held"
unfoldable pub most_returns : ℕ
most_returns = Limits.returns

unfoldable pub lacks_return : Statement → List ℕ → Bool
lacks_return (set_number i x) rs = false
lacks_return (set_string p xs) rs = false
lacks_return (goto k) rs = false
lacks_return finish rs = false
lacks_return (if_test t b) rs = false
lacks_return (Program.scan d p xs r b) rs = false
lacks_return (read p b) rs = false
lacks_return (write xs) rs = false
lacks_return (execute k) rs = leb most_returns (length rs)
lacks_return return rs = is_nil rs

-- 15 or 16 where the machine turns a step down, else 0; what else 15 says is of a state in numbers, where it can be out of range
unfoldable pub turned_down_by : Program → State → ℕ
turned_down_by p c =
    cond (lacks_return (statement_at p c.next) c.returns) 15
    (cond (is_running c.status) 0
    16)

-- a step: what it answers, and the state it leaves
pub record Stepped : Type 0 where
  pub answer : Answer
  pub state : State

-- Q17 "17 to 21 mark the state stopped, no more"; V12 "0 if stopped"
unfoldable pub concluded : State → Result Done → Stepped
concluded c (done d notes) =
    record { answer = record { number = 0; notes = notes; scanned = d.scanned }; state = d.state }
concluded c (stop n) =
    record { answer = record { number = n; notes = 0; scanned = no_scan }; state = with_status stopped c }

-- a step, document 01's word (R4, R5); D5 "A step turned down by .. hands its state back unchanged"
unfoldable pub step : Edition → Program → (lent : ℕ) → State → Stepped
step e p lent c =
    let n = turned_down_by p c in
    let carried = concluded c (execution e lent (statement_at p c.next) c) in
    cond (eqb n 0) carried
    (record { answer = record { number = n; notes = 0; scanned = no_scan }; state = c })

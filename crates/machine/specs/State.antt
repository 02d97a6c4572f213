-- What the machine holds between two steps: document 01's state (R13), with its strings and numbers. Assumes nothing.
use Rattle.std.specs.Prelude.{Bool, true, false, List, [], ℕ, ℤ, pos, get_or, set, replicate}
use Rattle.base.specs.Limits as Limits

-- R4, R5, Q17: running, or finished or stopped, document 01's words
pub data Status : Type 0 where
  running finished stopped : Status

unfoldable pub is_running : Status → Bool
is_running running = true
is_running finished = false
is_running stopped = false

-- strings by their place, in order of first appearance; numbers by theirs, in order of declaration
pub record Memory : Type 0 where
  pub strings : List (List ℕ)
  pub numbers : List ℤ

pub record State : Type 0 where
  pub status : Status
  -- the step that comes next; of a run that has finished or stopped, the one that did it
  pub next : ℕ
  -- the steps to return to, the latest first
  pub returns : List ℕ
  pub memory : Memory
  -- the bytes of the input not taken yet
  pub input : List ℕ
  -- the bytes put into the output
  pub output : List ℕ

unfoldable pub string_at : Memory → ℕ → List ℕ
string_at m s = get_or m.strings s []

unfoldable pub number_at : Memory → ℕ → ℤ
number_at m i = get_or m.numbers i (pos 0)

unfoldable pub with_string : Memory → ℕ → List ℕ → Memory
with_string m s v = record { strings = set m.strings s v; numbers = m.numbers }

unfoldable pub with_number : Memory → ℕ → ℤ → Memory
with_number m i z = record { strings = m.strings; numbers = set m.numbers i z }

-- Q10 "32 strings, 32 numbers": a memory has all of them, whether a program names them or not
unfoldable pub most_strings : ℕ
most_strings = Limits.strings

unfoldable pub most_numbers : ℕ
most_numbers = Limits.numbers

-- V1 numbers "start at 0", strings "start null"
unfoldable pub fresh_memory : Memory
fresh_memory = record { strings = replicate most_strings []; numbers = replicate most_numbers (pos 0) }

-- R7 the state before the first step
unfoldable pub fresh : (input : List ℕ) → State
fresh input =
    record { status = running; next = 0; returns = []; memory = fresh_memory; input = input; output = [] }

-- the state moved on to a step, with this memory
unfoldable pub going_to : ℕ → Memory → State → State
going_to k m s =
    record {
      status = s.status;
      next = k;
      returns = s.returns;
      memory = m;
      input = s.input;
      output = s.output;
    }

unfoldable pub with_returns : List ℕ → State → State
with_returns rs s =
    record {
      status = s.status;
      next = s.next;
      returns = rs;
      memory = s.memory;
      input = s.input;
      output = s.output;
    }

unfoldable pub with_input : List ℕ → State → State
with_input i s =
    record {
      status = s.status;
      next = s.next;
      returns = s.returns;
      memory = s.memory;
      input = i;
      output = s.output;
    }

unfoldable pub with_output : List ℕ → State → State
with_output o s =
    record {
      status = s.status;
      next = s.next;
      returns = s.returns;
      memory = s.memory;
      input = s.input;
      output = o;
    }

unfoldable pub with_status : Status → State → State
with_status x s =
    record {
      status = x;
      next = s.next;
      returns = s.returns;
      memory = s.memory;
      input = s.input;
      output = s.output;
    }

-- Document 02, wish 8, of the calls: the size of the scan that a step holds, told by the buffers that it is given, and the trials of many steps.
-- Assumes nothing.
use Rattle.std.specs.Prelude.{List, ℕ, zero, suc, ◌+◌, ◌*◌, get_or}
use Rattle.std.proofs.Math.Option.{Option}
use Rattle.base.specs.Edition.{Edition}
use Rattle.base.specs.Limits as Limits
use Rattle.machine.specs.Costs.{scan_size_in}
use Rattle.machine.specs.Step.{statement_at}
use Rattle.scanning.specs.Call.{trials_in}
use Rattle.scanning.specs.Costs.{ScanSize}
use Rattle.encoding.specs.TableReading.{program_in}
use Rattle.calls.specs.Calls.{Buffers, given_in, step_call}

-- the size of k steps together, whatever they are given: that of a scan with the elements of k longest patterns in a longest string. The most
-- trials of that size are k × 20 × 1,025.
unfoldable pub steps_size : ℕ → ScanSize
steps_size k = record { n = Limits.string_bytes; m = k * Limits.row_elements }

module _ (e : Edition) (table input : List ℕ) where
  -- the size of the scan that a step given these buffers holds: of the table's statement at the state's next step, with the store's strings and
  -- the state's numbers
  unfoldable pub size_given : Buffers → Option ScanSize
  size_given b = scan_size_in (given_in e table input b).memory (statement_at (program_in table) (get_or b.state 1 0))

  -- the trials of k steps together, each given what the last one left
  unfoldable pub trials_after : ℕ → Buffers → ℕ
  trials_after zero b = 0
  trials_after (suc k) b = let s = step_call e table input b in trials_in s.answer + trials_after k s.left

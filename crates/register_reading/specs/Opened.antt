-- What the code says of an opened register, or of a buffer that has none. Assumes nothing.
use Rattle.std.specs.Prelude.{false, List, ◌≡◌, ℕ, Result, Ok, Err}
use Rattle.register.specs.Calls.{buffer_open}
use Rattle.register.specs.declared.Refusal.{Refusal}
use Rattle.register.specs.declared.Refusal.TheVariants.{BadBuffer}
use Rattle.register_reading.specs.declared.opened.Opened.{Opened}

unfoldable pub OpenedReads : (buffer : List ℕ) → Result Opened Refusal → Type 0
OpenedReads buffer (Ok register) = register.buffer.now ≡ buffer
OpenedReads buffer (Err refusal) = (refusal ≡ BadBuffer) × (buffer_open buffer ≡ false)

pub record OpenedRead (buffer : List ℕ) (r : Result Opened Refusal) : Type 0 where
  pub finds : OpenedReads buffer r

-- `search::passed` passes only places where the word does not stand.
use Rattle.search.proofs.Laws.{passes_none, passes-byte}
use native.Mathlib.Omega.{arith}
use Rattle.search.proofs.passed.Goals as goal

pub returns-then-n-eq1 : goal.returns-then-n-eq1
returns-then-n-eq1 c =
    passes-byte (omega arith) c.next_byte.ensures

pub returns-then-n-eq0 : goal.returns-then-n-eq0
returns-then-n-eq0 c = passes_none

pub returns-then-text-n : goal.returns-then-text-n
returns-then-text-n c = passes_none

-- `symbols::Mentioned::note` notes a name behind those mentioned before.
use native.Mathlib.Omega.{arith}
use Rattle.symbols.proofs.Putting.{noted}
use Rattle.symbols.proofs.Mentioned.note.Goals as goal

pub returns : goal.returns
returns c =
    let a = c.args in
    noted a.self.now a.c a.key a.tag (omega arith) (omega arith)

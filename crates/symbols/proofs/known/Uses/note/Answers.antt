-- `symbols::known::Uses::note` notes a use behind those noted before.
use native.Mathlib.Omega.{arith}
use Rattle.symbols.proofs.Noting.{use_noted}
use Rattle.symbols.proofs.known.Uses.note.Goals as goal

pub returns : goal.returns
returns c =
    let a = c.args in
    use_noted a.self.now a.key a.scope a.purpose (omega arith) (omega arith) (omega arith)

-- `numbers::unsigned_part` meets its contract. The first byte tells.
use mathlib.Core.Path.{◌≡◌, refl}
use mathlib.Core.Bool.{cond}
use Rattle.values.specs.Conversion.{is_signed}
use Rattle.numbers.proofs.Reading.{sign_told, sign_dropped}
use Rattle.numbers.proofs.unsigned_part.Goals.{After-from, then-starts_with, else-starts_with}
use Rattle.numbers.proofs.unsigned_part.Goals as goal

-- how many bytes are cut
cut : (c : After-from) → c.from.result ≡ cond (is_signed c.args.s.now) 1 0
cut c =
    sign_told c.args.s.now
    (elim c.if-starts_with.branch [
      | then-starts_with w ↦ rw (w.signed-is, ← c.starts_with.ensures.value, w.if-starts_with.true) refl
      | else-starts_with w ↦ rw (w.signed-is, ← c.starts_with.ensures.value, w.if-starts_with.false) w.starts_with-signed.ensures.value
    ])
    c.from.ensures

pub returns : goal.returns
returns c = sign_dropped c.args.s.now (cut (goal.at.returns c).After-from)

-- `register_report::code_at` meets its contract: each byte is below 256.
use Rattle.std.proofs.Common.{◌∙◌, arith}
use Rattle.register_report.specs.FieldLaws.{code_three}
use Rattle.register_report.proofs.code_at.Goals as goal

pub returns : goal.returns
returns c =
    (omega (arith, c.from_be_bytes.ensures)) ∙ code_three c.args.line.now c.args.at c.requires

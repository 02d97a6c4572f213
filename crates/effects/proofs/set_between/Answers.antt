-- `effects::set_between` meets its contract: the new string is too long, or it is stored.
use Rattle.std.proofs.Common.{refl, arith}
use Rattle.effects.specs.Laws.{sets_none, sets_some}
use Rattle.effects.proofs.set_between.Goals as goal

pub returns-then-kept-length : goal.returns-then-kept-length
returns-then-kept-length c =
    let a = c.args in
    λ value numbers p. (
      refl,
      sets_none a.store.now a.at.place a.at.from a.at.to a.v.now c.requires a.length.value a.length.notes value numbers p
          (omega (arith, c.if-kept-length.true, c.string_length.ensures.0)),
    )

pub returns : goal.returns
returns c =
    let a = c.args in
    λ value numbers p.
    sets_some a.store.now a.at.place a.at.from a.at.to a.v.now c.requires a.length.value a.length.notes value numbers p
    (omega (arith, c.if-kept-length.false, c.string_length.ensures.0))
    c.replace.new.store c.replace.ensures

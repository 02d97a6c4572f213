-- `register_calls::open` meets its contract: the currency's form first, then what was read.
use Rattle.std.proofs.Common.{Some, Result, true, ◌≡◌, sym, ap, subst, ok_or, ◌∙◌, arith, rules}
use Rattle.std.proofs.lemmas.Result.{err_from_is_err_and}
use Rattle.register.specs.BufferLaws.{sound_size}
use Rattle.register.specs.Line.{is_currency}
use Rattle.register.specs.LineLaws.{currency_size}
use Rattle.register.specs.Claims.{buffer_back}
use Rattle.register.specs.Refusals.{number_of}
use Rattle.register.specs.declared.Refusal.{Refusal}
use Rattle.register.specs.declared.Refusal.TheVariants.{BadBuffer}
use Rattle.register_lines.specs.declared.Fields.{Fields}
use Rattle.register_lines.specs.declared.Fields.TheVariants.{Four, Five}
use Rattle.register_reading.specs.Reading.{RegisterRead, Unopened}
use Rattle.register_reading.specs.ReadLaws.{held_old, held_opened, is_broken, read_known}
use Rattle.register_calls.specs.OpenLaws.{open_bad_gets, open_broken_gets, opened_again_gets}
use Rattle.register_calls.proofs.open.Goals as goal

pub returns-then-not-is_currency : goal.returns-then-not-is_currency
returns-then-not-is_currency c =
    let a = c.args in
    open_bad_gets a.buffer.now a.currency.now (sym c.is_currency.ensures ∙ c.if-not-is_currency.true)

pub returns-in_err-ok_or : goal.returns-in_err-ok_or
returns-in_err-ok_or c =
    let a = c.args in
    let is : is_currency a.currency.now ≡ true = sym c.is_currency.ensures ∙ search rules in
    let e = c.in_err-ok_or.ensures in
    let read = c.read_register in
    let keys = read.new.keys.items in
    let p = err_from_is_err_and c.from_residual.result c.from_residual.ensures.1 in
    rw (p.1, p.2)
    (ap (λ (r : Result Fields Refusal). buffer_back (number_of r) a.buffer.now) (e.value ∙ ap (λ h. ok_or h BadBuffer) e.ok_part)
    ∙ open_broken_gets a.buffer.now a.currency.now is
    (is_broken a.buffer.now keys (subst (RegisterRead a.buffer.now keys) e.ok_part read.ensures)))

pub tell_house-requires : goal.tell_house-requires
tell_house-requires c =
    let a = c.args in
    let is : is_currency a.currency.now ≡ true = sym c.is_currency.ensures ∙ search rules in
    let keys = c.read_register.new.keys.items in
    let read = subst (RegisterRead a.buffer.now keys) (c.in_ok-ok_or.ensures.ok_part ∙ ap Some c.in-Five.is) c.read_register.ensures in
    let keeps = (read_known a.buffer.now keys Five read).keeps in
    (currency_size a.currency.now is, omega (arith, sound_size a.buffer.now keeps))

pub open_old-requires : goal.open_old-requires
open_old-requires c =
    let a = c.args in
    let is : is_currency a.currency.now ≡ true = sym c.is_currency.ensures ∙ search rules in
    let keys = c.read_register.new.keys.items in
    let read = subst (RegisterRead a.buffer.now keys) (c.in_ok-ok_or.ensures.ok_part ∙ ap Some c.in-Four.is) c.read_register.ensures in
    let old = held_old a.buffer.now keys (read_known a.buffer.now keys Four read) in
    (subst (Unopened a.buffer.now) (sym c.len.ensures.value) old, is)

pub returns-in-Five : goal.returns-in-Five
returns-in-Five c =
    let a = c.args in
    let is : is_currency a.currency.now ≡ true = sym c.is_currency.ensures ∙ search rules in
    let keys = c.read_register.new.keys.items in
    let read = subst (RegisterRead a.buffer.now keys) (c.in_ok-ok_or.ensures.ok_part ∙ ap Some c.in-Five.is) c.read_register.ensures in
    opened_again_gets a.buffer.now a.currency.now is keys
    c.tell_house.new.buffer (held_opened a.buffer.now keys (read_known a.buffer.now keys Five read)) c.tell_house.ensures

-- `declaring::is_declared` looks a name up where its purpose has it.
use Rattle.std.proofs.Common.{rules, tests, ◌∙◌, ⊎_elim, sym, eqb}
use Rattle.std.proofs.lemmas.Iterator.{YieldsList-from_slice}
use Rattle.std.proofs.lemmas.Iterator.Search.{any_from_yields_List}
use Rattle.symbols.specs.declared.known.Label as Listed
use Rattle.symbols.specs.declared.known.Routine as Opened
use Rattle.name_checks.specs.DeclaringLaws.{declared_key, declared_is}
use Rattle.name_checks.proofs.Comparing.{key_listed}
use Rattle.name_checks.proofs.declaring.is_declared.Goals as goal

pub returns-in-Label : goal.returns-in-Label
unfolding declared_key
returns-in-Label c =
    let a = c.args in
    let known = a.known.now in
    let test = λ (l : Listed.Label). eqb l.key a.key in
    any_from_yields_List test _ _ c.any.result c.any.ensures.ran (YieldsList-from_slice known.labels.items (cc))
    (λ x b q k. search (rules, tests))
    ∙ key_listed (λ (l : Listed.Label). l.key) a.key known.labels.items
    ∙ sym (declared_is known a.key a.purpose ∙ rw c.in-Label.is)

pub returns-in-Routine : goal.returns-in-Routine
unfolding declared_key
returns-in-Routine c =
    let a = c.args in
    let known = a.known.now in
    c.has_routine.ensures
    ∙ key_listed (λ (r : Opened.Routine). r.key) a.key known.routines.items
    ∙ sym (declared_is known a.key a.purpose ∙ rw c.in-Routine.is)

pub returns-in-Number : goal.returns-in-Number
unfolding declared_key
returns-in-Number c =
    let a = c.args in
    c.has_number.ensures ∙ sym (declared_is a.known.now a.key a.purpose ∙ rw c.in-Number.is)

pub returns-in-Program : goal.returns-in-Program
unfolding declared_key
returns-in-Program c =
    let a = c.args in
    sym (declared_is a.known.now a.key a.purpose ∙ ⊎_elim (λ e. rw e) (λ e. rw e) c.in-Program.is)

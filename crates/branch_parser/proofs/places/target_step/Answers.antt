-- `branch_parser::places::target_step` goes by the target.
use Rattle.std.proofs.Common.{Option, Some, None, ◌≡◌, ℕ, MatchOption, sym, ap, ◌∙◌, rules}
use Rattle.symbols.specs.Entries.{name_of}
use Rattle.branch_parser.specs.Places.{step_to, step_found, entry_found, exit_found, label_leads, entry_leads, exit_leads}
use Rattle.branch_parser.specs.declared.Target.{Target}
use Rattle.branch_parser.proofs.places.target_step.Goals as goal

-- what `map_or` gives, from what it gives for one found
given : {X : Type 0} (f : Option X → ℕ) {r : ℕ} (o : Option X) {P : X → Type 0} → MatchOption o (r ≡ f None) P → ((x : X) → P x → r ≡ f (Some x))
    → r ≡ f o
given f None e g = e
given f (Some x) p g = g x p

pub returns-in-Label : goal.returns-in-Label
returns-in-Label c =
    let a = c.args in
    given step_found c.label_found.result c.map_or.ensures (λ x p. search rules)
    ∙ ap step_found c.label_found.ensures
    ∙ label_leads a.known.now a.key
    ∙ ap (λ (t : Target). step_to a.known.now t (name_of a.key)) (sym c.in-Label.is)

pub returns-in-Entry : goal.returns-in-Entry
returns-in-Entry c =
    let a = c.args in
    given entry_found c.routine_found.result c.map_or-in-Entry.ensures (λ x p. search rules)
    ∙ ap entry_found c.routine_found.ensures
    ∙ entry_leads a.known.now a.key
    ∙ ap (λ (t : Target). step_to a.known.now t (name_of a.key)) (sym c.in-Entry.is)

pub returns-in-Exit : goal.returns-in-Exit
returns-in-Exit c =
    let a = c.args in
    given exit_found c.routine_found-in-Exit.result c.map_or-in-Exit.ensures (λ x p. search rules)
    ∙ ap exit_found c.routine_found-in-Exit.ensures
    ∙ exit_leads a.known.now a.key
    ∙ ap (λ (t : Target). step_to a.known.now t (name_of a.key)) (sym c.in-Exit.is)

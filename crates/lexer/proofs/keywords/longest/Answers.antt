-- `lexer::keywords::longest` takes the keywords one after the other.
use Rattle.std.proofs.Common.{rules}
use Rattle.std.proofs.lemmas.Fn.{fold_over, fronts, slice_gives}
use Rattle.syntax.specs.Keywords.{longest, keywords, StatementKind}
use Rattle.lexer.specs.Kinds.{leads}
use Rattle.lexer.specs.declared.keywords.Kind.{Kind}
use Rattle.lexer.proofs.Forms.{entry, longest_more}
use denote.Ref.{Bor}
use mathlib.Core.List.{List, map}
use mathlib.Core.Path.{◌≡◌, refl, ap, ◌∙◌}
use Prim.Native.Nat.{ℕ}
use Rattle.base.specs.Text.{bytes}
use Rattle.lexer.proofs.keywords.longest.Goals.{After-iter}
use Rattle.lexer.proofs.keywords.longest.Goals as goal

-- the table is that of the definition
table : (c : After-iter) → map entry c.iter.result.rest.now ≡ keywords
unfolding keywords bytes
table c = ap (λ (ks : List (Bor (List ℕ) × Kind)). map entry ks) c.iter.ensures.rest

pub returns : goal.returns
unfolding longest
returns c =
    let text = c.args.text.now in
    let best = c.args.best in
    fold_over fronts (λ y. y.now) _ (λ ks s. leads s ≡ longest (map entry ks) text (leads best)) _
    (λ ks s k t f' e h. let more = longest_more ks k.now text best s t e in search rules) _ _ _ _ (slice_gives c.iter.result) refl c.fold.ensures.ran
    ∙ ap (λ (ks : List (List ℕ × StatementKind)). longest ks text (leads best)) (table (goal.at.returns c).After-iter)

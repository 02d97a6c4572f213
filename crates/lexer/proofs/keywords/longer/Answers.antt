-- `lexer::keywords::longer` meets its contract.
use mathlib.Core.Path.{◌≡◌, sym, ◌∙◌}
use borrow.Author.Tests.{not-true}
use Rattle.base.specs.Lists.{begins}
use Rattle.lexer.specs.Kinds.{kind_of, leads}
use Rattle.lexer.proofs.Forms.{longest-other, longest_kept, longest_new, longest_old}
use Rattle.lexer.proofs.Starts.{firsts_differ, starts_begins}
use Rattle.lexer.proofs.keywords.longer.Goals.{
  After-starts_with,
  else-starts_with-via-then-starts_with+else-best-word,
  else-starts_with-via-else-starts_with,
}
use Rattle.lexer.proofs.keywords.longer.Goals as goal

begun : (c : After-starts_with) → begins c.args.word.now c.args.text.now ≡ c.starts_with.result
begun c = sym (c.starts_with.ensures.value ∙ starts_begins c.args.word.now c.args.text.now)

pub returns-then-ne : goal.returns-then-ne
returns-then-ne c =
    let a = c.args in
    longest_kept a.word.now (kind_of a.kind) a.text.now (leads a.best)
    (firsts_differ a.best.size a.text.now a.word.now c.first.result c.first-2.result c.first.ensures.value c.first-2.ensures.value
    (not-true _ (sym c.ne.ensures ∙ c.if-ne.true)))

pub returns-then-best-word : goal.returns-then-best-word
returns-then-best-word c =
    let a = c.args in
    let b = begun (goal.at.returns-then-best-word c).After-starts_with in
    longest_new a.word.now (kind_of a.kind) a.text.now (leads a.best) (b ∙ c.if-starts_with.true) c.if-best-word.true

pub returns : goal.returns
returns c =
    let a = c.args in
    let b = begun (goal.at.returns c).After-starts_with in
    elim c.else-starts_with.branch [
      | else-starts_with-via-then-starts_with+else-best-word w ↦
          longest_old a.word.now (kind_of a.kind) a.text.now (leads a.best) (b ∙ w.if-starts_with.true) w.if-best-word.false
      | else-starts_with-via-else-starts_with w ↦
          longest-other a.word.now (kind_of a.kind) a.text.now (leads a.best) (b ∙ w.if-starts_with.false)
    ]

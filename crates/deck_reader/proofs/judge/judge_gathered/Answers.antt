-- `deck_reader::judge::judge_gathered`: 3, or the number of a statement.
use mathlib.Core.Path.{sym}
use lib.Seq.{length-take-le}
use borrow.Author.Tests.{not-true, not-false}
use Rattle.deck_reader.specs.EntryLaws.{unsound_numbered, skipped_numbered, packed_numbered}
use Rattle.deck_reader.proofs.judge.judge_gathered.Goals as goal

pub returns-then-not-e : goal.returns-then-not-e
returns-then-not-e c = unsound_numbered (not-true _ c.if-not-e.true)

pub returns-in-None : goal.returns-in-None
returns-in-None c = skipped_numbered (not-false _ c.if-not-e.false) c.in-None.is

pub slice_bounds-judge_packed-end : goal.slice_bounds-judge_packed-end
slice_bounds-judge_packed-end c =
    let q = c.in-Some.packed in sym (length-take-le q.length c.args.text.now (c.requires.entered q c.in-Some.is).0)

pub judge_packed-requires-clause-readied : goal.judge_packed-requires-clause-readied
judge_packed-requires-clause-readied c = (c.requires.entered c.in-Some.packed c.in-Some.is).1 (not-false _ c.if-not-e.false)

pub returns-in-Some : goal.returns-in-Some
returns-in-Some c = packed_numbered (not-false _ c.if-not-e.false) c.in-Some.is c.judge_packed.ensures

-- `search::begins_with` answers whether all of the word's bytes agree.
use Rattle.search.proofs.Laws.{agrees-begins}
use Rattle.search.proofs.begins_with.Goals as goal

pub returns : goal.returns
returns c = let a = c.args in agrees-begins a.rest.now a.word.now c.same_until.result c.requires c.same_until.ensures

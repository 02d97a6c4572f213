-- `listing::list_names` notes names one by one. The invariant: those passed are noted.
use Rattle.symbols.specs.Entries.{purpose_meaning}
use Rattle.statement_checks.specs.Listing.{ShowsNames}
use Rattle.statement_checks.proofs.listing.list_names.Given as goal

abbrev pub invariant-loop-i : goal.invariant-loop-i
invariant-loop-i g l = ShowsNames g.row.MOST l.names l.i (purpose_meaning l.purpose) l.keys.items

-- What callers know of a symbol table that holds the environment: 11 and 12 may be asked, and their answers are those of the
-- environment. Assumes nothing.
use Rattle.std.specs.Prelude.{◌≡◌, ℕ, ◌≤◌}
use Rattle.std.proofs.Common.{arith}
use Rattle.validation.specs.Deck.{is11, is12}
use Rattle.validation.specs.Environment.{Environment}
use Rattle.symbols.specs.Clauses.{names_room}
use Rattle.symbols.specs.Holding.{SymbolsHold}
use Rattle.symbols.specs.declared.known.Symbols.{Symbols}
use Rattle.link_checks.specs.Held.{Closable, held_in}

module _ (s : Symbols) (taken : ℕ) (k : Environment) (h : SymbolsHold s taken k) where
  pub closable : taken ≤ names_room → Closable s
  closable few = record { uses = let u = h.few_uses in omega arith }

  pub held_11 : is11 (held_in s) ≡ is11 k
  unfolding is11 held_in
  held_11 = rw (← h.labels, ← h.routines, ← h.branches, ← h.executes)

  pub held_12 : is12 (held_in s) ≡ is12 k
  unfolding is12 held_in
  held_12 = rw (← h.routines, ← h.executes)

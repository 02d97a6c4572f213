-- Behind the end of a deck there is no line and no entry. Assumes nothing.
use Rattle.std.specs.Prelude.{List, [], ◌≡◌, ℕ, ◌≤◌, length, drop}
use Rattle.std.proofs.Math.Path.{ap}
use Rattle.std.proofs.Common.{sym, drop_of_length-le}
use Rattle.base.specs.Current.{current}
use Rattle.cards.specs.Cards.{lines, unpacked_from}
use Rattle.cards.specs.Entries.{entries_from}

module _ (deck : List ℕ) (i : ℕ) (over : length deck ≤ i) where
  pub lines-behind : [] ≡ lines (drop i deck)
  unfolding lines
  lines-behind = rw (drop_of_length-le deck over)

  pub entries-behind : (n : ℕ) → entries_from current n (lines (drop i deck)) ≡ []
  unfolding entries_from unpacked_from
  entries-behind n = ap (entries_from current n) (sym lines-behind)

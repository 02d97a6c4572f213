-- `card_reader::line::in_range` answers whether all bytes are from 32 to 126.
use Rattle.std.proofs.Common.{rules}
use Rattle.std.proofs.lemmas.Fn.{fold_over, fronts, slice_gives}
use Rattle.base.specs.Lists.{all}
use Rattle.cards.specs.Bytes.{between}
use Rattle.card_reader.proofs.Lines.{within_more}
use mathlib.Core.List.{List}
use mathlib.Core.Path.{◌≡◌, refl, subst}
use Prim.Native.Nat.{ℕ}
use Rattle.card_reader.proofs.line.in_range.Goals as goal

pub returns : goal.returns
unfolding between all
returns c =
    subst (λ (l : List ℕ). c.fold.result ≡ all (between 32 126) l) c.iter.ensures.rest
    (fold_over fronts (λ y. y.now) _ (λ xs t. t ≡ all (between 32 126) xs) _
    (λ xs a x b f' e k. let more = within_more xs x.now a e in search rules) _ _ _ _ (slice_gives c.iter.result) refl c.fold.ensures.ran)

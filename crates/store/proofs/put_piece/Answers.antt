-- `store::put_piece` meets its contract: the piece is moved over the string, and that is ended anew.
use mathlib.Core.List.{List}
use mathlib.Core.Path.{ap, ap₂, ◌∙◌}
use Prim.Native.Nat.{ℕ, ◌+◌, ◌*◌}
use lib.ListN.{take, drop}
use native.Mathlib.Omega.{arith}
use Rattle.encoding.specs.Splices.{splice}
use Rattle.store.specs.CellLaws.{piece_fits, piece_written}
use Rattle.store.specs.Clauses.{ended_anew}
use Rattle.store.proofs.put_piece.Goals as goal

pub overflow_add-string_start : goal.overflow_add-string_start
overflow_add-string_start c =
    let a = c.args in
    record { fits = omega (arith, c.string_start.ensures, c.requires.known, c.requires.source, piece_fits a.store.now a.place a.of a.from a.n c.requires) }

pub slide-requires : goal.slide-requires
slide-requires c =
    let a = c.args in
    let q = c.requires in
    let fits = piece_fits a.store.now a.place a.of a.from a.n q in (
      omega (arith, fits),
      (
        omega (arith, c.string_start.ensures, fits, q.known, q.source, q.good.size),
        omega (arith, c.string_start-2.ensures, fits, q.known, q.source, q.good.size),
      ),
    )

pub set_end-requires-clause-place_bound : goal.set_end-requires-clause-place_bound
set_end-requires-clause-place_bound c =
    let a = c.args in
    (c.requires.known, (c.string_length-old.ensures.1, omega (arith, piece_fits a.store.now a.place a.of a.from a.n c.requires)))

pub returns : goal.returns
returns c =
    let a = c.args in
    let left : ℕ → ℕ → ℕ → List ℕ = λ i k o. ended_anew (splice a.store.now i (take a.n (drop (k + a.from) a.store.now))) a.place o a.n in
    c.set_end.ensures
    ∙ ap (λ (l : List ℕ). ended_anew l a.place c.string_length-old.result a.n) c.slide.ensures
    ∙ ap (λ (k : ℕ). left c.string_start-2.result k c.string_length-old.result) c.string_start.ensures
    ∙ ap₂ (λ (i o : ℕ). left i (1026 * a.of + 2) o) c.string_start-2.ensures c.string_length-old.ensures.0
    ∙ piece_written a.store.now a.place a.of a.from a.n c.requires

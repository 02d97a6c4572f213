-- Quotes and other bytes, and places where nothing stands. Assumes nothing.
use mathlib.Core.Bool.{true, false, not, ◌||◌}
use mathlib.Core.List.{List, [], ◌∷◌}
use mathlib.Core.Path.{◌≡◌, refl, sym, ap, ◌∙◌}
use Prim.Native.Nat.{ℕ, suc, ◌-◌}
use native.Mathlib.Omega.{arith}
use Rattle.std.proofs.Common.{leb-true, leb-false}
use lib.Dec.{eqb, leb}
use lib.ListN.{length, drop, drop_of_length-le}
use lib.Seq.{drop-cons}
use Rattle.base.specs.Choice.{test_cases}
use Rattle.base.specs.Lists.{begins}
use Rattle.base.specs.Text.{bytes}
use Rattle.cards.specs.Bytes.{quote}
use Rattle.syntax.specs.Strings.{nothing_here}
use Rattle.syntax.specs.Lexemes.{run_length}
use Rattle.search.specs.NextLaws.{next-until}
use Rattle.search.specs.Passing.{NextByte, until}
use Rattle.lexer.specs.Places.{CountedBytes}

-- the bytes before the next quote
quotes_until : (bs : List ℕ) → run_length (λ b. not (eqb b quote)) bs ≡ until 34 bs
unfolding run_length until quote
quotes_until [] = refl
quotes_until (b ∷ bs) =
    test_cases
    (λ t.
    ◌≡◌ {A = ℕ} (elim (not t) [ true ↦ suc (run_length (λ b. not (eqb b quote)) bs) | false ↦ 0 ])
    (elim t [ true ↦ 0 | false ↦ suc (until 34 bs) ]))
    (eqb b 34) (λ _. refl) (λ _. ap suc (quotes_until bs))

pub quotes_next : (text : List ℕ) (at next : ℕ) → NextByte text 34 at next
    → CountedBytes text at (run_length (λ b. not (eqb b quote)) (drop at text)) (next - at)
quotes_next text at next n =
    record { is = omega (arith, next-until text 34 at next n, quotes_until (drop at text)); inside = omega (arith, n.high) }

-- the end, `/` or `]`
pub nothing_at : (text : List ℕ) (at : ℕ)
    → nothing_here (drop at text) ≡ (leb (length text) at || (begins (47 ∷ []) (drop at text) || begins (93 ∷ []) (drop at text)))
unfolding nothing_here bytes
nothing_at text at =
    test_cases
    (λ t. leb (length text) at ≡ t → nothing_here (drop at text) ≡ (t || (begins (47 ∷ []) (drop at text) || begins (93 ∷ []) (drop at text))))
    (leb (length text) at) (λ _ e. ap nothing_here (drop_of_length-le text (leb-true (length text) at e)))
    (λ _ e.
    let front = drop-cons text at 0 (omega (arith, leb-false (length text) at e)) in
    ap nothing_here front ∙ sym (ap (λ (bs : List ℕ). begins (47 ∷ []) bs || begins (93 ∷ []) bs) front)) refl

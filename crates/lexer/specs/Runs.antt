-- Bytes at a place of a text that pass a test, counted by the library. Assumes nothing.
use Rattle.std.specs.Prelude.{Bool, true, false, cond, List, [], ◌∷◌, ◌≡◌, ℕ, suc, ◌+◌, drop}
use Rattle.std.specs.List.{prefix_len}
use Rattle.std.proofs.Math.Path.{refl}
use Rattle.std.proofs.Common.{◌∙◌, arith, length-drop}
use Rattle.base.specs.Choice.{test_cases}
use Rattle.syntax.specs.Fuel.{run_within}
use Rattle.syntax.specs.Lexemes.{run_length}
use Rattle.lexer.specs.Places.{CountedBytes}

module _ (f : ℕ → Bool) where
  -- how many bytes at the front pass, in the library's words
  run-prefix : (bs : List ℕ) → prefix_len f bs ≡ run_length f bs
  unfolding run_length
  run-prefix [] = refl
  run-prefix (b ∷ bs) =
      let rest = run-prefix bs in
      test_cases (λ t. cond t (1 + prefix_len f bs) 0 ≡ elim t [ true ↦ suc (run_length f bs) | false ↦ 0 ]) (f b)
      (λ _. omega (arith, rest)) (λ _. refl)

  pub counted : (text : List ℕ) (at n : ℕ) → n ≡ prefix_len f (drop at text) → CountedBytes text at (run_length f (drop at text)) n
  counted text at n e =
      let same = run-prefix (drop at text) in
      record { is = e ∙ same; inside = omega (arith, run_within f (drop at text), length-drop at text) }

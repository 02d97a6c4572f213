-- The literal bytes of elements that stand one behind the other. Assumes nothing.
use Rattle.std.specs.Prelude.{List, [], ◌∷◌, ◌++◌, ◌≡◌, refl}
use Rattle.std.proofs.Common.{append_assoc, sym, ap, ◌∙◌}
use Rattle.syntax.specs.Program.{PatternElement}
use Rattle.encoding.specs.Table.{literal_in, all_literals}

-- the literal bytes of two rows
pub all-literals-append : (xs ys : List PatternElement) → all_literals (xs ++ ys) ≡ all_literals xs ++ all_literals ys
unfolding all_literals
all-literals-append [] ys = refl
all-literals-append (x ∷ xs) ys =
    ap (λ bs. literal_in x ++ bs) (all-literals-append xs ys) ∙ sym (append_assoc (literal_in x) (all_literals xs) (all_literals ys))

-- A pattern with a row more: its elements, and that its rows are good. Assumes nothing.
use mathlib.Core.List.{List, [], ◌∷◌, ◌++◌}
use Rattle.std.specs.Prelude.{◌≡◌, refl, length}
use Rattle.std.proofs.Common.{sym, ◌∙◌, subst, below_more}
use Rattle.std.proofs.Math.Path.{ap}
use Prim.Native.Nat.{ℕ, zero, suc, ◌+◌, ◌*◌, ◌<◌}
use native.Mathlib.Omega.{arith}
use Rattle.scanning.specs.Splits as Splits
use Rattle.scan.specs.Rows.{row_element, scan_element, scan_elements, pattern_of, RowGood, GoodRows}
use Rattle.scan.specs.declared.Element.{Element}
use Rattle.scan.proofs.Calls.{elements-more}
use Rattle.scan_statement.specs.Putting.{PutRow}

-- rows that are the same elements
elements_same : (values rows rows' : List ℕ) (n i : ℕ) → ((j : ℕ) → j < i + n → row_element rows' j ≡ row_element rows j)
    → scan_elements values rows' n i ≡ scan_elements values rows n i
unfolding scan_elements
elements_same values rows rows' zero i h = refl
elements_same values rows rows' (suc n) i h =
    ap (λ (e : Element). scan_element values e ∷ scan_elements values rows' n (i + 1)) (h i (omega arith))
    ∙ ap (λ (p : List Splits.Element). scan_element values (row_element rows i) ∷ p)
    (elements_same values rows rows' n (i + 1) (λ j l. h j (omega arith)))

module _ (values old new : List ℕ) (n : ℕ) (x : Element) (p : PutRow old new n x) where
  -- the pattern ends with the row's element
  pub pattern-put : pattern_of values new (n + 1) ≡ pattern_of values old n ++ (scan_element values x ∷ [])
  unfolding pattern_of
  pattern-put =
      let one : n + 1 ≡ suc n = omega arith in
      let row : row_element new (0 + n) ≡ x = ap (row_element new) (omega arith) ∙ p.here in
      ap (λ (k : ℕ). scan_elements values new k 0) one
      ∙ elements-more values new n 0
      ∙ ap (λ (q : List Splits.Element). q ++ (scan_element values (row_element new (0 + n)) ∷ []))
      (elements_same values old new n 0 (λ j h. p.kept j (omega arith)))
      ∙ ap (λ (e : Element). scan_elements values old n 0 ++ (scan_element values e ∷ [])) row

  -- its rows are good where this one is
  pub good_put : n < 20 → 12 * n + 11 < length old → RowGood values x → GoodRows values old n → GoodRows values new (n + 1)
  good_put few room good g =
      record {
        few = omega arith;
        room = omega (arith, p.size);
        good =
            below_more (λ j. RowGood values (row_element new j)) n (λ j h. subst (RowGood values) (sym (p.kept j h)) (g.good j h))
            (subst (RowGood values) (sym p.here) good);
      }

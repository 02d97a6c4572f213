-- Four bytes written one after the other, and a row of a kind and two numbers. Assumes nothing.
use mathlib.Core.List.{List, [], ◌∷◌, ◌++◌}
use mathlib.Core.Logic.{inl, ⊎_elim}
use mathlib.Core.Path.{◌≡◌, ap, sym, ◌∙◌}
use Prim.Native.Nat.{ℕ, ◌+◌, ◌*◌, ◌≤◌, ◌<◌}
use native.Mathlib.Omega.{arith}
use lib.ListN.{length, drop, get_or, set, length-set}
use Rattle.std.proofs.Common.{add-zero}
use Rattle.std.proofs.lemmas.List.{get_or-drop}
use Rattle.encoding.specs.Splices.{splice, drop-splice, get_or-splice-before, get_or-splice-behind, length-splice}
use lib.Seq.{get_or-set_same, get_or-set_other}
use Rattle.scanning.specs.Call.{number4}
use Rattle.scan.specs.Rows.{scan_row, scan_row_at, row_element}
use Rattle.scan_statement.specs.Putting.{Put4, PutRow}

-- four bytes written among others, and the number that they make up
pub put-bytes : (old : List ℕ) (at w x y z n : ℕ) → at + 3 < length old → w + 256 * (x + 256 * (y + 256 * z)) ≡ n
    → Put4 old (splice old at (w ∷ x ∷ y ∷ z ∷ [])) at n
unfolding number4
put-bytes old at w x y z n room e =
    let v : List ℕ = w ∷ x ∷ y ∷ z ∷ [] in
    let there : (j : ℕ) → get_or (splice old at v) (at + j) 0 ≡ get_or (v ++ drop (at + length v) old) j 0 =
    λ j. sym (get_or-drop at (splice old at v) j 0) ∙ ap (λ (l : List ℕ). get_or l j 0) (drop-splice old at v (omega arith)) in
    let first : get_or (splice old at v) at 0 ≡ w = ap (λ (i : ℕ). get_or (splice old at v) i 0) (sym (add-zero at)) ∙ there 0 in
    record {
      size = length-splice old at v (omega arith);
      here = rw (first, there 1, there 2, there 3) e;
      other =
          λ m h.
          ⊎_elim (λ (l : m < at). get_or-splice-before old at v m 0 (omega arith) l)
          (λ (l : at + 4 ≤ m). get_or-splice-behind old at v m 0 (omega arith) l) h;
    }

-- a number that no byte of has changed
number_kept : (old new : List ℕ) (at : ℕ) → ((m : ℕ) → at ≤ m → m < at + 4 → get_or new m 0 ≡ get_or old m 0) → number4 new at ≡ number4 old at
unfolding number4
number_kept old new at h =
    rw (h at (omega arith) (omega arith), h (at + 1) (omega arith) (omega arith), h (at + 2) (omega arith) (omega arith), h (at + 3) (omega arith) (omega arith))

-- a row of a kind, then a number, then another
pub put_rows : (old : List ℕ) (i kind a b : ℕ) (mid new : List ℕ) → 12 * i + 11 < length old
    → Put4 (set old (12 * i) kind) mid (12 * i + 4) a → Put4 mid new (12 * i + 8) b → PutRow old new i (scan_row kind a b)
unfolding row_element scan_row_at
put_rows old i kind a b mid new room p q =
    let back : (m : ℕ) → (m < 12 * i) → get_or new m 0 ≡ get_or old m 0 =
    λ m h.
    q.other m (inl (omega arith)) ∙ p.other m (inl (omega arith)) ∙ get_or-set_other old (12 * i) m kind 0 (λ e. omega arith) in
    let first : get_or new (12 * i) 0 ≡ kind =
    q.other (12 * i) (inl (omega arith))
    ∙ p.other (12 * i) (inl (omega arith))
    ∙ get_or-set_same old (12 * i) kind 0 (omega arith) in
    let second : number4 new (12 * i + 4) ≡ a =
    number_kept mid new (12 * i + 4) (λ m l h. q.other m (inl (omega arith))) ∙ p.here in
    record {
      size = q.size ∙ p.size ∙ simp length-set;
      here = rw (first, second, q.here);
      kept =
          λ j h.
          rw (
            back (12 * j) (omega arith),
            number_kept old new (12 * j + 4) (λ m l g. back m (omega arith)),
            number_kept old new (12 * j + 8) (λ m l g. back m (omega arith)),
          );
    }

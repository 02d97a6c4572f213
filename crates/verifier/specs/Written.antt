-- What is read at a place, written again, is the bytes that stand there. Assumes nothing.
use Rattle.std.specs.Prelude.{List, ◌∷◌, ◌++◌, ◌≡◌, length, take, drop}
use Rattle.std.proofs.Common.{sym, ◌∙◌, ap, ap₂, take-append-drop, drop-drop, take-add}
use Prim.Native.Nat.{ℕ, suc, ◌+◌, ◌≤◌, ◌<◌}
use native.Mathlib.Omega.{arith}
use Rattle.std.proofs.Math.ListN.{get_or}
use Rattle.base.specs.ListLaws.{drop-next}
use Rattle.encoding.specs.NumeralLaws.{BytesStand, number_written}
use Rattle.encoding.specs.Numerals.{numeral_at}
use Rattle.encoding.specs.Table.{cell_bytes, row_bytes}
use Rattle.encoding.specs.TableReading.{cell_at, read_row_at}

-- so many bytes from a place on
abbrev pub piece : List ℕ → ℕ → ℕ → List ℕ
piece t at n = take n (drop at t)

-- a piece is made of two
pub piece_add : (t : List ℕ) (at n m : ℕ) → piece t at (n + m) ≡ piece t at n ++ piece t (at + n) m
piece_add t at n m = take-add n m (drop at t) ∙ ap (λ l. piece t at n ++ take m l) (drop-drop n at t)

-- a piece, and the bytes behind it
pub piece-more : (t : List ℕ) (at w next n size : ℕ) {own rest : List ℕ} → own ≡ piece t at w → rest ≡ piece t next n → next ≡ at + w
    → w + n ≡ size → own ++ rest ≡ piece t at size
piece-more t at w next n size one two place sum =
    ap₂ {C = List ℕ} ◌++◌ one (two ∙ ap (λ (p : ℕ). piece t p n) place) ∙ sym (piece_add t at w n) ∙ ap (piece t at) sum

-- a piece stands at its place
pub piece_stands : (t : List ℕ) (at n : ℕ) {bs : List ℕ} → bs ≡ piece t at n → BytesStand t at bs
piece_stands t at n e =
    record {
      behind = drop n (drop at t);
      here = sym (take-append-drop n (drop at t)) ∙ ap (λ (l : List ℕ). l ++ drop n (drop at t)) (sym e);
    }

-- a list of bytes
module _ (t : List ℕ) (bytes : (i : ℕ) → get_or t i 0 < 256) where
  -- the first byte of a piece
  pub piece-first : (at n : ℕ) → at < length t → piece t at (suc n) ≡ get_or t at 0 ∷ piece t (at + 1) n
  piece-first at n h = ap (take (suc n)) (drop-next t at 0 h)

  pub cell-written : (at : ℕ) → at + 8 ≤ length t → cell_bytes (cell_at t at) ≡ piece t at 8
  unfolding cell_bytes cell_at
  cell-written at h =
      let two : at + 1 + 1 ≡ at + 2 = omega arith in
      rw (piece-first at 7 (omega arith), piece-first (at + 1) 6 (omega arith), two)
      (ap (λ l. get_or t at 0 ∷ (get_or t (at + 1) 0 ∷ l)) (number_written t bytes 6 (at + 2) (omega arith)))

  pub row_written : (at : ℕ) → at + 24 ≤ length t → row_bytes (numeral_at 2 t (at + 2)) (read_row_at t at) ≡ piece t at 24
  unfolding row_bytes read_row_at
  row_written at h =
      let card = number_written t bytes 2 (at + 2) (omega arith) in
      let success = number_written t bytes 2 (at + 4) (omega arith) in
      let failure = number_written t bytes 2 (at + 6) (omega arith) in
      let left = cell-written (at + 8) (omega arith) in
      let right = cell-written (at + 16) (omega arith) in
      let two : at + 1 + 1 ≡ at + 2 = omega arith in
      let four : at + 2 + 2 ≡ at + 4 = omega arith in
      let six : at + 4 + 2 ≡ at + 6 = omega arith in
      let eight : at + 6 + 2 ≡ at + 8 = omega arith in
      let sixteen : at + 8 + 8 ≡ at + 16 = omega arith in
      rw (
        piece-first at 23 (omega arith),
        piece-first (at + 1) 22 (omega arith),
        two,
        piece_add t (at + 2) 2 20,
        four,
        piece_add t (at + 4) 2 18,
        six,
        piece_add t (at + 6) 2 16,
        eight,
        piece_add t (at + 8) 8 8,
        sixteen,
        card,
        success,
        failure,
        left,
        right,
      )

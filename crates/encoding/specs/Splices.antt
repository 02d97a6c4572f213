-- A list written over a part of another, the one way in which stores and states change, with its laws. Assumes nothing.
use mathlib.Core.List.{List, [], ◌∷◌, ◌++◌, append_assoc}
use Rattle.std.specs.Prelude.{◌≡◌, ℕ, ◌+◌, ◌-◌, ◌≤◌, ◌<◌, get_or, set}
use Rattle.std.proofs.Math.Path.{refl, sym, ap, ap₂}
use Rattle.std.proofs.Common.{◌∙◌, add-zero, add-one, arith, get_or-drop, get_or-take}
use Rattle.std.proofs.Math.Nat.{add_assoc}
use Rattle.std.proofs.Math.ListN.{length, take, drop, length-append, length-drop, take-append-drop}
use Rattle.std.proofs.Math.Seq.{take_at, drop_at, drop-append-add, drop-append-le, drop-drop, length-take-le, paste, set_split, take-add, take-append-add, take-take}
use Rattle.std.proofs.lemmas.List.{take-append-le}

-- d with v over its elements from a place on
unfoldable pub splice : {A : Type 0} → List A → ℕ → List A → List A
splice d at v = take at d ++ (v ++ drop (at + length v) d)

module _ {A : Type 0} where
  -- where the list is cut at that part, the part is changed
  pub splice_seam : (p x q v : List A) (at : ℕ) → length p ≡ at → length x ≡ length v
      → splice (p ++ (x ++ q)) at v ≡ p ++ (v ++ q)
  unfolding splice
  splice_seam p x q v at e f =
      let behind : drop (at + length v) (p ++ (x ++ q)) ≡ q =
      sym (drop-drop (length v) at (p ++ (x ++ q))) ∙ ap (drop (length v)) (drop_at p (x ++ q) at e) ∙ drop_at x q (length v) f in
      rw (take_at p (x ++ q) at e, behind)

  pub splice_nil : (d : List A) (at : ℕ) → splice d at [] ≡ d
  unfolding splice
  splice_nil d at = ap (λ (n : ℕ). take at d ++ drop n d) (add-zero at) ∙ take-append-drop at d

  pub length-splice : (d : List A) (at : ℕ) (v : List A) → at + length v ≤ length d → length (splice d at v) ≡ length d
  unfolding splice
  length-splice d at v h = simp (length-append, length-take-le at d (omega arith), length-drop) (omega arith)

  -- what lies in front stays
  pub take-splice : (d : List A) (at : ℕ) (v : List A) → at ≤ length d → take at (splice d at v) ≡ take at d
  unfolding splice
  take-splice d at v h = take_at (take at d) (v ++ drop (at + length v) d) at (length-take-le at d h)

  pub drop-splice : (d : List A) (at : ℕ) (v : List A) → at ≤ length d → drop at (splice d at v) ≡ v ++ drop (at + length v) d
  unfolding splice
  drop-splice d at v h = drop_at (take at d) (v ++ drop (at + length v) d) at (length-take-le at d h)

  pub get_or-splice-before : (d : List A) (at : ℕ) (v : List A) (i : ℕ) (z : A) → at ≤ length d → i < at
      → get_or (splice d at v) i z ≡ get_or d i z
  get_or-splice-before d at v i z h k =
      sym (get_or-take at (splice d at v) i z k) ∙ ap (λ (l : List A). get_or l i z) (take-splice d at v h) ∙ get_or-take at d i z k

  -- what lies behind stays
  pub behind-splice : (d : List A) (at : ℕ) (v : List A) → at ≤ length d → drop (at + length v) (splice d at v) ≡ drop (at + length v) d
  behind-splice d at v h =
      sym (drop-drop (length v) at (splice d at v))
      ∙ ap (drop (length v)) (drop-splice d at v h)
      ∙ drop_at v (drop (at + length v) d) (length v) refl

  pub get_or-splice-behind : (d : List A) (at : ℕ) (v : List A) (i : ℕ) (z : A) → at ≤ length d → at + length v ≤ i
      → get_or (splice d at v) i z ≡ get_or d i z
  get_or-splice-behind d at v i z h k =
      let e : at + length v + (i - (at + length v)) ≡ i = omega arith in
      ap (λ (n : ℕ). get_or (splice d at v) n z) (sym e)
      ∙ sym (get_or-drop (at + length v) (splice d at v) (i - (at + length v)) z)
      ∙ ap (λ (l : List A). get_or l (i - (at + length v)) z) (behind-splice d at v h)
      ∙ get_or-drop (at + length v) d (i - (at + length v)) z
      ∙ ap (λ (n : ℕ). get_or d n z) e

  -- the elements up to the end of what was written
  pub take-written : (d : List A) (at : ℕ) (v : List A) → at ≤ length d → take (at + length v) (splice d at v) ≡ take at d ++ v
  take-written d at v h =
      take-add at (length v) (splice d at v)
      ∙ ap₂ {C = List A} ◌++◌ (take-splice d at v h)
      (ap (take (length v)) (drop-splice d at v h) ∙ take_at v (drop (at + length v) d) (length v) refl)

  pub take-front : (d v : List A) → take (length v) (splice d 0 v) ≡ v
  unfolding splice
  take-front d v = take_at v (drop (0 + length v) d) (length v) refl

  -- one splice behind another, and one in front of another, are one splice
  pub splice-behind : (d : List A) (at : ℕ) (v w : List A) → at ≤ length d
      → splice (splice d at v) (at + length v) w ≡ splice d at (v ++ w)
  unfolding splice
  splice-behind d at v w h =
      let after : drop (at + length v + length w) (splice d at v) ≡ drop (at + length v + length w) d =
      sym (drop-drop (length w) (at + length v) (splice d at v))
      ∙ ap (drop (length w)) (behind-splice d at v h)
      ∙ drop-drop (length w) (at + length v) d in
      ap₂ (λ (x y : List A). x ++ (w ++ y)) (take-written d at v h) after ∙ simp (append_assoc, length-append, add_assoc)

  pub splice-before : (d : List A) (at : ℕ) (v w : List A) → at + length w ≤ length d
      → splice (splice d (at + length w) v) at w ≡ splice d at (w ++ v)
  unfolding splice
  splice-before d at v w h =
      let before : take at (splice d (at + length w) v) ≡ take at d =
      sym (take-take at (at + length w) (splice d (at + length w) v) (omega arith))
      ∙ ap (take at) (take-splice d (at + length w) v h)
      ∙ take-take at (at + length w) d (omega arith) in
      ap₂ (λ (x y : List A). x ++ (w ++ y)) before (drop-splice d (at + length w) v h)
      ∙ simp (append_assoc, length-append, add_assoc)

  -- what is there already need not be written
  pub splice-same-behind : (d : List A) (at : ℕ) (v w : List A) → take (length w) (drop (at + length v) d) ≡ w
      → splice d at (v ++ w) ≡ splice d at v
  unfolding splice
  splice-same-behind d at v w e =
      let behind : drop (at + length v) d ≡ w ++ drop (at + length v + length w) d =
      sym (take-append-drop (length w) (drop (at + length v) d)) ∙ ap₂ {C = List A} ◌++◌ e (drop-drop (length w) (at + length v) d) in
      simp (append_assoc, length-append, behind, ← add_assoc)

  pub splice-same-before : (d : List A) (at : ℕ) (v w : List A) → take (length w) (drop at d) ≡ w
      → splice d at (w ++ v) ≡ splice d (at + length w) v
  unfolding splice
  splice-same-before d at v w e =
      let front : take (at + length w) d ≡ take at d ++ w = take-add at (length w) d ∙ ap (λ (x : List A). take at d ++ x) e in
      simp (front, append_assoc, length-append, add_assoc)

  pub splice_self : (d : List A) (at n : ℕ) → at + n ≤ length d → splice d at (take n (drop at d)) ≡ d
  unfolding splice
  splice_self d at n h =
      let size : length (take n (drop at d)) ≡ n = length-take-le n (drop at d) (simp length-drop (omega arith)) in
      ap (λ (j : ℕ). take at d ++ (take n (drop at d) ++ drop (at + j) d)) size
      ∙ ap (λ (l : List A). take at d ++ (take n (drop at d) ++ l)) (sym (drop-drop n at d))
      ∙ ap (λ (l : List A). take at d ++ l) (take-append-drop n (drop at d))
      ∙ take-append-drop at d

  -- a splice within the first of two lists
  pub splice-append : (d r : List A) (at : ℕ) (v : List A) → at + length v ≤ length d → splice (d ++ r) at v ≡ splice d at v ++ r
  unfolding splice
  splice-append d r at v h =
      rw (take-append-le at d r (omega arith), drop-append-le (at + length v) d r h) (simp append_assoc)

  -- a splice within the second of two lists
  pub append-splice : (p d : List A) (at : ℕ) (v : List A) → splice (p ++ d) (length p + at) v ≡ p ++ splice d at v
  unfolding splice
  append-splice p d at v =
      rw (take-append-add p d at, add_assoc (length p) at (length v), drop-append-add p d (at + length v)) (simp append_assoc)

  -- one element set, and the elements of a list set one by one
  pub set-splice : (d : List A) (i : ℕ) (a : A) → i < length d → set d i a ≡ splice d i (a ∷ [])
  unfolding splice
  set-splice d i a h = set_split d i a h ∙ ap (λ (n : ℕ). take i d ++ (a ∷ drop n d)) (sym (add-one i))

  pub paste_splice : (d : List A) (at : ℕ) (v : List A) (n : ℕ) → n ≤ length v → paste d at v n ≡ splice d at (take n v)
  unfolding splice
  paste_splice d at v n h = rw (length-take-le n v h) (simp append_assoc)

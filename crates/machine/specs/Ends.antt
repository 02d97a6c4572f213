-- How work ends: done with a value of which something holds, or stopped by a number that stops a step. Assumes nothing.
use Rattle.std.specs.Prelude.{true, ◌≡◌, ℕ}
use Rattle.std.proofs.Math.Path.{refl}
use Rattle.std.proofs.Common.{arith}
use Rattle.values.specs.Result.{stops_step, Result, done, stop, with_notes, ◌>>=◌}

-- P holds of the value, or the work stopped by one of the numbers that stop a step
pub data Ending {A : Type 0} (P : A → Type 0) : Result A → Type 0 where
  ends : {a : A} {n : ℕ} → P a → Ending P (done a n)
  stops : {k : ℕ} → stops_step k ≡ true → Ending P (stop k)

-- every value will do
abbrev pub AnyValue : {A : Type 0} → A → Type 0
AnyValue a = Unit {0}

module _ {A : Type 0} {P : A → Type 0} where
  ends_notes : (n : ℕ) {w : Result A} → Ending P w → Ending P (with_notes n w)
  unfolding with_notes
  ends_notes n (ends h) = ends h
  ends_notes n (stops h) = stops h

module _ {A B : Type 0} {P : A → Type 0} {Q : B → Type 0} where
  -- work behind work that ends so
  pub ends_bind : {w : Result A} {f : A → Result B} → Ending P w → ((a : A) → P a → Ending Q (f a)) → Ending Q (w >>= f)
  unfolding ◌>>=◌
  ends_bind {f} (ends {a} {n} h) g = ends_notes n (g a h)
  ends_bind (stops h) g = stops h

-- work in two parts that comes to b: what the part in front and the part behind come to
pub record BothDone {A B : Type 0} (w : Result A) (f : A → Result B) (b : B) : Type 0 where
  pub front : A
  pub front_notes : ℕ
  pub is_front : w ≡ done front front_notes
  pub notes : ℕ
  pub is_behind : f front ≡ done b notes

-- work that is done in two ways has one value
pub done_value : {A : Type 0} {a b : A} {n k : ℕ} → done a n ≡ done b k → a ≡ b
done_value h = cc

-- work that stopped is not done
pub stop_not_done : {A : Type 0} (k : ℕ) (a : A) (n : ℕ) → ¬ (stop k ≡ done a n)
stop_not_done k a n e = let z : ◌≡◌ {A = ℕ} 0 1 = cc in omega arith

module _ {A B : Type 0} where
  -- the two parts, each done
  pub both-done : (w : Result A) (f : A → Result B) (b : B) (n : ℕ) → (w >>= f) ≡ done b n → BothDone w f b
  unfolding ◌>>=◌ with_notes
  both-done (done a k) f b n e = behind (f a) refl e
    where
      behind : (v : Result B) → f a ≡ v → with_notes k v ≡ done b n → BothDone (done a k) f b
      behind (done c j) q h =
          let same : c ≡ b = cc in
          record { front = a; front_notes = k; is_front = refl; notes = j; is_behind = cc }
      behind (stop j) q h = absurd (stop_not_done j b n h)
  both-done (stop k) f b n e = absurd (stop_not_done k b n e)

-- Laws of work: notes on top of others, work behind work, a number that stops. Assumes nothing.
use Rattle.std.specs.Prelude.{true, false, ◌≡◌, ℕ, ◌+◌}
use Rattle.std.proofs.Common.{true≢false, sym, ◌∙◌, add_assoc, add-zero, zero-add}
use Rattle.std.proofs.Math.Path.{refl, ap}
use Rattle.values.specs.Result.{stops_step, Result, done, stop, with_notes, pure, ◌>>=◌}

-- notes on top of others
module _ {A : Type 0} where
  pub notes_none : (w : Result A) → with_notes 0 w ≡ w
  unfolding with_notes
  notes_none (done a n) = ap (done a) (zero-add n)
  notes_none (stop k) = refl

  pub notes_more : (n more : ℕ) (w : Result A) → with_notes n (with_notes more w) ≡ with_notes (n + more) w
  unfolding with_notes
  notes_more n more (done a k) = ap (done a) (sym (add_assoc n more k))
  notes_more n more (stop k) = refl

pub bind_notes : {A B : Type 0} (n : ℕ) (w : Result A) (f : A → Result B) → (with_notes n w >>= f) ≡ with_notes n (w >>= f)
unfolding with_notes ◌>>=◌
bind_notes n (done a k) f = sym (notes_more n k (f a))
bind_notes n (stop k) f = refl

-- a value passed on
pub pure-done : {A : Type 0} (w : Result A) → (w >>= λ a. pure a) ≡ w
unfolding ◌>>=◌ with_notes pure
pure-done (done a n) = ap (done a) (add-zero n)
pure-done (stop k) = refl

-- work on a value that is known
pub bound : {A B : Type 0} (w : Result A) (f : A → Result B) (a : A) (n : ℕ) (b : B) → w ≡ done a n → f a ≡ done b 0 → (w >>= f) ≡ done b n
unfolding ◌>>=◌ with_notes
bound w f a n b e h = ap (λ x. x >>= f) e ∙ ap (with_notes n) h ∙ ap (λ (k : ℕ). done b k) (add-zero n)

-- work that is stopped stops what would follow
pub stopped : {A B : Type 0} (w : Result A) (f : A → Result B) (k : ℕ) → w ≡ stop k → (w >>= f) ≡ stop k
unfolding ◌>>=◌
stopped w f k e = ap (λ x. x >>= f) e

-- three works one behind the other
pub bound-twice : {A B C : Type 0} (w : Result A) (f : A → Result B) (g : B → Result C) → (w >>= λ a. f a >>= g) ≡ (w >>= f >>= g)
unfolding ◌>>=◌
bound-twice (done a n) f g = sym (bind_notes n (f a) g)
bound-twice (stop k) f g = refl

-- 0 stops nothing, and what stops is not 0
pub zero_unstopped : {n : ℕ} → n ≡ 0 → stops_step n ≡ false
unfolding stops_step
zero_unstopped none = ap stops_step none

pub stops_some : {n : ℕ} → stops_step n ≡ true → ¬ (n ≡ 0)
stops_some h none = true≢false (sym h ∙ zero_unstopped none)

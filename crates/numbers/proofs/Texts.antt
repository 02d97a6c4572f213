-- The text of STRING(n,m), way by way. Assumes nothing.
use mathlib.Core.Bool.{true, false, cond}
use mathlib.Core.List.{List, [], ◌∷◌}
use mathlib.Core.Path.{◌≡◌, sym, ap, ◌∙◌}
use Prim.Native.Nat.{ℕ, ◌+◌, ◌-◌, ◌≤◌, ◌<◌}
use native.Mathlib.Omega.{arith}
use lib.IntN.{ℤ, nat_abs}
use lib.ListN.{length, take, length-append, length-replicate}
use lib.Seq.{take-length}
use borrow.Author.Tests.{eq-eqb, ne_eqb, lt-ltb, le-ltb, le-leb, lt-leb}
use Rattle.base.specs.Choice.{cond_cases}
use Rattle.base.specs.Current.{limit}
use Rattle.base.specs.Text.{bytes}
use Rattle.values.specs.Conversion.{sign_of, digits, filled, text_of}
use Rattle.values.specs.Laws.{digits-length}
use Rattle.values.specs.Numbers.{is_negative}
use Rattle.values.specs.Result.{done, stop}
use Rattle.numbers.specs.Laws.{longest-is}
use Rattle.numbers.specs.Numbers.{IntInRange}
use Rattle.numbers.specs.Text.{longest_text, filled_text, TextRoom, DigitsStored, TextWritten}
use Rattle.numbers.specs.declared.Int.{Int}
use Rattle.std.specs.Prelude.{Ok}
use Rattle.numbers.proofs.Stores.{take_some, length-stored}

-- ---- its parts

pub sign_below : (m : ℤ) → is_negative m ≡ true → sign_of m ≡ 45 ∷ []
unfolding sign_of bytes
sign_below m e = rw e

pub sign_from : (m : ℤ) → is_negative m ≡ false → sign_of m ≡ []
unfolding sign_of
sign_from m e = rw e

-- a number in range has at most 7 digits
pub few_digits : (m : ℤ) → nat_abs m ≤ limit → length (digits (nat_abs m)) ≤ 7
few_digits m h = digits-length 6 (nat_abs m) (omega arith)

pub text_size_lem : (m : ℤ) (b k : ℕ) → length (filled_text m b k) ≡ length (sign_of m) + (k + length (digits (nat_abs m)))
unfolding filled_text
text_size_lem m b k = simp (length-append, length-replicate)

pub short_sign : (m : ℤ) → length (sign_of m) ≤ 1
unfolding sign_of bytes
short_sign m = cond_cases (λ (s : List ℕ). length s ≤ 1) (is_negative m) (λ e. omega arith) (λ e. omega arith)

-- STRING(m) has room
pub plain_room : (m : Int) → IntInRange m → TextRoom m 48 0
plain_room m h =
    let z = m.value in
    record { number = h; room = omega (arith, text_size_lem z 48 0, short_sign z, few_digits z h) }

-- ---- the ways it may go

pub text_plain : (n m : ℤ) → nat_abs n ≡ 0 → text_of n m ≡ done (filled_text m 48 0) 0
unfolding text_of filled_text
text_plain n m zero = rw (eq-eqb (nat_abs n) 0 zero)

module _ (n m : ℤ) (nonzero : nat_abs n ≡ 0 → ⊥) where
  pub text_stops : longest_text < nat_abs n → text_of n m ≡ stop 20
  unfolding text_of
  text_stops h = rw (ne_eqb (nat_abs n) 0 nonzero, longest-is, lt-ltb longest_text (nat_abs n) h)

  abbrev plain : ℕ
  plain = length (sign_of m) + length (digits (nat_abs m))

  pub text_fills : nat_abs n ≤ longest_text → (k : ℕ) → plain ≤ nat_abs n → k ≡ nat_abs n - plain
      → text_of n m ≡ done (filled_text m (cond (is_negative n) 32 48) k) 0
  unfolding text_of filled filled_text
  text_fills h k fits e =
      rw (ne_eqb (nat_abs n) 0 nonzero, longest-is, le-ltb longest_text (nat_abs n) h, le-leb plain (nat_abs n) fits, e)

  pub text_cut : nat_abs n ≤ longest_text → nat_abs n < plain → text_of n m ≡ done (take (nat_abs n) (filled_text m 48 0)) 1
  unfolding text_of filled filled_text
  text_cut h short =
      rw (ne_eqb (nat_abs n) 0 nonzero, longest-is, le-ltb longest_text (nat_abs n) h, lt-leb plain (nat_abs n) short)

-- ---- what was stored, read back

-- as far as asked
pub written_part : {n m : ℤ} {l after t : List ℕ} {end k notes : ℕ} → DigitsStored l after 0 t end → length l ≡ longest_text → length t ≤ longest_text
    → k ≤ length t → text_of n m ≡ done (take k t) notes → TextWritten n m (Ok (record { value = k; notes = notes })) l after
written_part {k = k} {notes = notes} stored full room short is =
    record {
      text = ap (λ (x : List ℕ). done x notes) (take_some stored (omega arith) k short) ∙ sym is;
      settled = omega arith;
      room = length-stored stored (omega arith) ∙ full;
    }

-- all of it
pub written-whole : {n m : ℤ} {l after t : List ℕ} {end k notes : ℕ} → DigitsStored l after 0 t end → length l ≡ longest_text → length t ≤ longest_text
    → k ≡ length t → text_of n m ≡ done t notes → TextWritten n m (Ok (record { value = k; notes = notes })) l after
written-whole {t = t} {notes = notes} stored full room e is =
    written_part stored full room (omega arith) (is ∙ ap (λ (x : List ℕ). done x notes) (sym (ap (λ (j : ℕ). take j t) e ∙ take-length t)))

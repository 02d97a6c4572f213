-- What comes behind a value that took no bytes, behind bytes that stand here, and behind those that don't; readings one behind the other.
-- Assumes nothing.
use Rattle.std.proofs.Math.Bool.{true, false}
use Rattle.std.specs.Prelude.{List, ◌≡◌, refl, ℕ, length, drop}
use Rattle.std.proofs.Common.{append_assoc, sym, ◌∙◌, zero-add, add_assoc}
use Rattle.std.proofs.Math.Path.{ap}
use Rattle.base.specs.Lists.{begins}
use Rattle.syntax.specs.Parsing.{Mentions, no_mentions, merge_mentions, Parsed, got, broken, ◌>>=◌, mentioning, succeed, expect}

-- nothing was mentioned before
pub nothing_mentioned : (m : Mentions) → merge_mentions no_mentions m ≡ m
unfolding merge_mentions no_mentions
nothing_mentioned m =
    λ t.
    record {
      declared = m.declared;
      used = m.used;
      items = zero-add m.items t;
      rows = m.rows;
      literals = zero-add m.literals t;
      roles = m.roles;
    }

pub mentioning_nothing : {A : Type 0} (x : Parsed A) → mentioning no_mentions x ≡ x
unfolding mentioning
mentioning_nothing (got a m rest) = ap (λ (n : Mentions). got a n rest) (nothing_mentioned m)
mentioning_nothing broken = refl

-- a value that took no bytes
pub succeed_then : {A B : Type 0} (a : A) (rest : List ℕ) (next : A × List ℕ → Parsed B) → (succeed a rest >>= next) ≡ next (a, rest)
unfolding ◌>>=◌ succeed
succeed_then a rest next = mentioning_nothing (next (a, rest))

-- bytes that stand here, and others
module _ {A : Type 0} (w bs : List ℕ) (next : Unit {0} × List ℕ → Parsed A) where
  pub expect_then : begins w bs ≡ true → (expect w bs >>= next) ≡ next (tt, drop (length w) bs)
  unfolding expect
  expect_then e =
      ap {B = Parsed A} (λ t. elim t [ true ↦ succeed tt (drop (length w) bs) | false ↦ broken ] >>= next) e
      ∙ succeed_then tt (drop (length w) bs) next

  pub expect_broken : begins w bs ≡ false → (expect w bs >>= next) ≡ broken
  unfolding expect ◌>>=◌
  expect_broken e = ap {B = Parsed A} (λ t. elim t [ true ↦ succeed tt (drop (length w) bs) | false ↦ broken ] >>= next) e

-- a reading whose next is broken
pub got_broken : {A B : Type 0} {x : Parsed A} {a : A} {m : Mentions} {rest : List ℕ} (next : A × List ℕ → Parsed B) → x ≡ got a m rest
    → next (a, rest) ≡ broken → x >>= next ≡ broken
unfolding ◌>>=◌ mentioning
got_broken {A} {m = m} next is e = ap (λ (y : Parsed A). y >>= next) is ∙ ap (mentioning m) e

-- three readings one behind the other, and two that go on in the same way
both_assoc : (m n k : Mentions) → merge_mentions m (merge_mentions n k) ≡ merge_mentions (merge_mentions m n) k
unfolding merge_mentions
both_assoc m n k =
    λ t.
    record {
      declared = sym (append_assoc m.declared n.declared k.declared) t;
      used = sym (append_assoc m.used n.used k.used) t;
      items = sym (add_assoc m.items n.items k.items) t;
      rows = sym (append_assoc m.rows n.rows k.rows) t;
      literals = sym (add_assoc m.literals n.literals k.literals) t;
      roles = sym (append_assoc m.roles n.roles k.roles) t;
    }

mentioning-both : {A : Type 0} (m n : Mentions) (x : Parsed A) → mentioning m (mentioning n x) ≡ mentioning (merge_mentions m n) x
unfolding mentioning
mentioning-both m n (got a k rest) = ap (λ (z : Mentions). got a z rest) (both_assoc m n k)
mentioning-both m n broken = refl

mentioning_then : {A B : Type 0} (m : Mentions) (x : Parsed A) (next : A × List ℕ → Parsed B) → (mentioning m x >>= next) ≡ mentioning m (x >>= next)
unfolding mentioning ◌>>=◌
mentioning_then m (got a n rest) next = sym (mentioning-both m n (next (a, rest)))
mentioning_then m broken next = refl

pub bind_assoc : {A B C : Type 0} (x : Parsed A) (f : A × List ℕ → Parsed B) (g : B × List ℕ → Parsed C) → (x >>= f >>= g) ≡ (x >>= λ p. f p >>= g)
unfolding ◌>>=◌
bind_assoc (got a m rest) f g = mentioning_then m (f (a, rest)) g
bind_assoc broken f g = refl

pub bind_same : {A B : Type 0} (x : Parsed A) (f g : A × List ℕ → Parsed B) → ((a : A) (rest : List ℕ) → f (a, rest) ≡ g (a, rest))
    → (x >>= f) ≡ (x >>= g)
unfolding ◌>>=◌
bind_same (got a m rest) f g h = ap (mentioning m) (h a rest)
bind_same broken f g h = refl

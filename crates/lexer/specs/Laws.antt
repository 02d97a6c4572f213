-- What the answers of the code tell: the name that so many bytes are, names and their keys, and a constant once its case is known.
-- Assumes nothing.
use Rattle.std.specs.Prelude.{
  Bool,
  true,
  false,
  ◌&&◌,
  List,
  [],
  ◌∷◌,
  ◌≡◌,
  refl,
  ℕ,
  suc,
  ◌≤◌,
  ◌<◌,
  leb,
  Option,
  Some,
  None,
  length,
  take,
  drop,
  get_or,
}
use Rattle.std.specs.Option.{unwrap_or}
use Rattle.std.proofs.Math.Bool.{and-eq-true_iff}
use Rattle.std.proofs.Common.{sym, ap, subst, ◌∙◌, arith}
use borrow.Author.Tests.{leb-true, le-leb, lt-leb}
use Rattle.base.specs.Choice.{test_cases, cond_cases}
use Rattle.base.specs.Current.{current, limit}
use Rattle.base.specs.Lists.{all}
use Rattle.cards.specs.Bytes.{is_letter, is_name_byte}
use Rattle.numbers.specs.Numbers.{IntInRange}
use Rattle.numbers.specs.declared.Int.{Int}
use Rattle.syntax.specs.Parsing.{broken, succeed}
use Rattle.syntax.specs.Lexemes.{run_length, name_length, name, unsigned, signed}
use Rattle.card_reader.specs.KeyLaws.{name-bytes}
use Rattle.card_reader.specs.Keys.{is_key_byte}
use Rattle.lexer.specs.Constants.{InLimit, ConstantEnds, read_as, ConstantRead, SignedInRange, ReadsSigned}
use Rattle.lexer.specs.Places.{NameAt, NameFound}
use Rattle.lexer.specs.declared.constants.Constant.{Constant}

-- n bytes are the name in front, and 0 are none
module _ (bs : List ℕ) (n : ℕ) (is : n ≡ name_length bs) where
  pub name-is : 1 ≤ n → name bs ≡ succeed (take n bs) (drop n bs)
  unfolding name
  name-is h = rw (name, ← is, le-leb 1 n h) (rw (sym is))

  pub name_broken : n < 1 → name bs ≡ broken
  unfolding name
  name_broken h = rw (name, ← is, lt-leb 1 n h)

-- of a name found or not: where there is none it has 0 bytes
pub name_counted : {text : List ℕ} {at : ℕ} (r : Option ℕ) → NameFound text at r → NameAt text at (unwrap_or r 0)
name_counted (Some n) a = a.0
name_counted None a = a

-- a name has at most 8 bytes
pub name_short : (bs : List ℕ) → name_length bs ≤ 8
unfolding name_length
name_short bs =
    cond_cases (λ n. n ≤ 8) (is_letter (get_or bs 0 0) && leb (run_length is_name_byte bs) 8)
    (λ e. leb-true (run_length is_name_byte bs) 8 ((and-eq-true_iff (is_letter (get_or bs 0 0)) (leb (run_length is_name_byte bs) 8)).0 e).1) (λ _. omega arith)

-- a name begins with a letter
pub name-first : (bs : List ℕ) → 1 ≤ name_length bs → is_letter (get_or bs 0 0) ≡ true
unfolding name_length
name-first bs =
    cond_cases (λ n. 1 ≤ n → is_letter (get_or bs 0 0) ≡ true) (is_letter (get_or bs 0 0) && leb (run_length is_name_byte bs) 8)
    (λ e _. ((and-eq-true_iff (is_letter (get_or bs 0 0)) (leb (run_length is_name_byte bs) 8)).0 e).0) (λ _ h. absurd (omega arith))

-- the bytes of a run pass its test
run-all : (f : ℕ → Bool) (bs : List ℕ) → all f (take (run_length f bs) bs) ≡ true
unfolding run_length all
run-all f [] = refl
run-all f (b ∷ bs) =
    test_cases (λ t. f b ≡ t → all f (take (elim t [ true ↦ suc (run_length f bs) | false ↦ 0 ]) (b ∷ bs)) ≡ true) (f b)
    (λ _ e. (and-eq-true_iff (f b) (all f (take (run_length f bs) bs))).1 (e, run-all f bs)) (λ _ e. refl) refl

-- a name is letters and digits
pub name-letters : (bs : List ℕ) → all is_name_byte (take (name_length bs) bs) ≡ true
unfolding name_length all
name-letters bs =
    cond_cases (λ n. all is_name_byte (take n bs) ≡ true) (is_letter (get_or bs 0 0) && leb (run_length is_name_byte bs) 8)
    (λ _. run-all is_name_byte bs) (λ _. refl)

-- so that its key shows it
pub name_keys_lem : (bs : List ℕ) → all is_key_byte (take (name_length bs) bs) ≡ true
name_keys_lem bs = name-bytes (take (name_length bs) bs) (name-letters bs)

-- the constant at a place
module _ {text : List ℕ} {at : ℕ} {r : Option (Constant ℕ)} (a : ConstantRead text at r) where
  module _ {c : Constant ℕ} (e : r ≡ Some c) where
    pub constant_is : unsigned current (drop at text) ≡ succeed c.value (drop c.next text)
    constant_is = sym a.read ∙ ap (read_as (λ (v : ℕ). v) text) e

    pub constant_range : c.value ≤ limit
    constant_range = subst InLimit e a.range

    pub constant_ends : (at < c.next) × (c.next ≤ length text)
    constant_ends = subst (ConstantEnds text at) e a.ends

-- the same of one that may have a sign
module _ {text : List ℕ} {at : ℕ} {r : Option (Constant Int)} (a : ReadsSigned text at r) where
  module _ {c : Constant Int} (e : r ≡ Some c) where
    pub signed_is : signed current (drop at text) ≡ succeed c.value.value (drop c.next text)
    signed_is = sym a.read ∙ ap (read_as (λ (z : Int). z.value) text) e

    pub signed_range : IntInRange c.value
    signed_range = subst SignedInRange e a.range

    pub signed_ends : (at < c.next) × (c.next ≤ length text)
    signed_ends = subst (ConstantEnds text at) e a.ends

  pub signed_broken : r ≡ None → signed current (drop at text) ≡ broken
  signed_broken e = sym a.read ∙ ap (read_as (λ (z : Int). z.value) text) e

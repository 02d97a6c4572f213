-- Contracts as keys: a key shows its contract, so keys are compared for contracts; marks tell which keys can't be held. Assumes nothing.
use Rattle.std.specs.Prelude.{Bool, true, false, not, ◌||◌, List, [], ◌∷◌, ◌++◌, ◌≡◌, refl, ℕ, ◌+◌, ◌*◌, ◌%◌, ◌≤◌, eqb, length, take, get_or, set}
use Rattle.std.proofs.lemmas.Bool.{false≢true, eqb-false}
use Rattle.std.proofs.Common.{sym, ap, ap₂, ◌∙◌, arith, length-set, take_all, get_or-set_same, get_or-set_other, eqb-true, eq-eqb, ne_eqb}
use Rattle.std.proofs.Math.Bool.{or-false}
use Rattle.std.specs.Prelude.{nat_eq}
use Rattle.std.specs.List.{fold, list_any}
use Rattle.base.specs.Choice.{both_true, same_truth, test_cases}
use Rattle.base.specs.Lists.{all, among, any, same}
use Rattle.base.specs.ListLaws.{same_true, same_iff}
use Rattle.cards.specs.ByteLaws.{within}
use Rattle.cards.specs.Cards.{without_blanks}
use Rattle.card_reader.specs.Keys.{key_of, is_key_byte}
use Rattle.card_reader.specs.KeyLaws.{name-bytes, name-whole}
use Rattle.register.specs.Line.{contract_of, has_form}
use Rattle.register.specs.LineLaws.{contract_form, contract_front}
use Rattle.register.specs.Register.{Lines, is_held}
use Rattle.register_reading.specs.Reading.{key_in, keys_of, mark_count, Marked, KeyNoted}

among-append : (x : ℕ) (xs ys : List ℕ) → among x (xs ++ ys) ≡ (among x xs || among x ys)
unfolding among
among-append x [] ys = refl
among-append x (y ∷ xs) ys =
    test_cases (λ t. (t || among x (xs ++ ys)) ≡ ((t || among x xs) || among x ys)) (eqb x y) (λ _. refl) (λ _. among-append x xs ys)

eqb_turned : (a b : ℕ) → eqb a b ≡ eqb b a
eqb_turned a b = same_truth (eqb a b) (eqb b a) (λ e. eq-eqb b a (sym (eqb-true a b e))) (λ e. eq-eqb a b (sym (eqb-true b a e)))

-- whether one of the keys is this one, as the library looks for it
pub among-any : (key : ℕ) (keys : List ℕ) → list_any (λ k. nat_eq k key) keys ≡ among key keys
unfolding among
among-any key [] = refl
among-any key (k ∷ keys) = ap₂ {C = Bool} ◌||◌ (eqb_turned k key) (among-any key keys)

-- and as the code does, which compares it with all
folded : (key : ℕ) (found : Bool) (keys : List ℕ) → fold (λ f k. f || nat_eq k key) found keys ≡ (found || among key keys)
unfolding among
folded key true [] = refl
folded key false [] = refl
folded key true (k ∷ keys) = folded key true keys
folded key false (k ∷ keys) = folded key (nat_eq k key) keys ∙ ap (λ b. b || among key keys) (eqb_turned k key)

pub among-fold : (key : ℕ) (keys : List ℕ) → fold (λ found k. found || nat_eq k key) false keys ≡ among key keys
among-fold key keys = folded key false keys

-- a key shows the bytes of its name
key-byte : (b : ℕ) → is_key_byte b ≡ true → (1 ≤ b) × (b ≤ 255)
unfolding is_key_byte
key-byte b = within 1 255 b

key-same : (a b : List ℕ) → all is_key_byte a ≡ true → all is_key_byte b ≡ true → key_of a ≡ key_of b → a ≡ b
unfolding key_of all
key-same [] [] p q e = refl
key-same [] (y ∷ b) p q e = let range = key-byte y (both_true (is_key_byte y) (all is_key_byte b) q).0 in absurd (omega arith)
key-same (x ∷ a) [] p q e = let range = key-byte x (both_true (is_key_byte x) (all is_key_byte a) p).0 in absurd (omega arith)
key-same (x ∷ a) (y ∷ b) p q e =
    let first = both_true (is_key_byte x) (all is_key_byte a) p in
    let second = both_true (is_key_byte y) (all is_key_byte b) q in
    let low = key-byte x first.0 in
    let high = key-byte y second.0 in
    let whole : 256 * key_of a + x ≡ 256 * key_of b + y = e in
    let byte : x ≡ y = omega arith in
    let rest : key_of a ≡ key_of b = omega arith in
    ap₂ {C = List ℕ} ◌∷◌ byte (key-same a b first.1 second.1 rest)

contract_bytes : (line : List ℕ) → has_form line ≡ true → all is_key_byte (contract_of line) ≡ true
contract_bytes line e = name-bytes (contract_of line) (contract_form line e).names

nil : all is_key_byte [] ≡ true
unfolding all
nil = refl

-- the key of a line isn't 0
pub key_some : (line : List ℕ) → has_form line ≡ true → ¬ (key_in line ≡ 0)
unfolding key_in key_of
key_some line e z =
    let none : contract_of line ≡ [] = key-same (contract_of line) [] (contract_bytes line e) nil z in
    let some = (contract_form line e).some in
    omega (arith, ap length none)

-- contracts are compared by their keys
contract_key : (line other : List ℕ) → has_form line ≡ true → has_form other ≡ true
    → eqb (key_in line) (key_in other) ≡ same (contract_of other) (contract_of line)
unfolding key_in
contract_key line other e f =
    same_truth (eqb (key_in line) (key_in other)) (same (contract_of other) (contract_of line))
    (λ k. (same_iff (contract_of other) (contract_of line)).1 (sym
    (key-same (contract_of line) (contract_of other) (contract_bytes line e) (contract_bytes other f) (eqb-true (key_in line) (key_in other) k))))
    (λ s. eq-eqb (key_in line) (key_in other) (sym (ap key_of (same_true (contract_of other) (contract_of line) s))))

pub keys_hold : (held : Lines) (line : List ℕ) → all has_form held ≡ true → has_form line ≡ true
    → among (key_in line) (keys_of held) ≡ is_held held (contract_of line)
unfolding among is_held any all
keys_hold [] line a e = refl
keys_hold (l ∷ held) line a e =
    let parts = both_true (has_form l) (all has_form held) a in
    ap₂ {C = Bool} ◌||◌ (contract_key line l e parts.0) (keys_hold held line parts.1 e)

-- the key of a line, by the bytes of its contract
pub key-read : (line : List ℕ) (n : ℕ) → has_form line ≡ true → n ≡ length (contract_of line)
    → key_of (without_blanks (take 8 (take n line))) ≡ key_in line
unfolding key_in
key-read line n e size =
    let c = contract_form line e in
    let front : take n line ≡ contract_of line = ap (λ k. take k line) size ∙ contract_front line in
    ap (λ l. key_of (without_blanks (take 8 l))) front
    ∙ ap (λ l. key_of (without_blanks l)) (take_all 8 (contract_of line) c.short)
    ∙ ap key_of (name-whole (contract_of line) c.names)

-- Marks. No key is marked at first; a key whose place has no mark is none of those marked; and one more is marked.
pub none_marked : (keys : List ℕ) (marks : List Bool) → keys ≡ [] → length marks ≡ mark_count → Marked keys marks
unfolding among
none_marked keys marks none e = record { size = e; each = λ key is. absurd (false≢true (sym (ap (among key) none) ∙ is)) }

pub unmarked : (keys : List ℕ) (marks : List Bool) (key : ℕ) → Marked keys marks → get_or marks (key % mark_count) false ≡ false
    → among key keys ≡ false
unmarked keys marks key m e =
    test_cases (λ t. t ≡ false) (among key keys) (λ is. absurd (false≢true (sym e ∙ m.each key is))) (λ _. refl)

module _ (keys : List ℕ) (marks : List Bool) (key : ℕ) (m : Marked keys marks) where
  abbrev place : ℕ
  place = key % mark_count

  marked-here : get_or (set marks place true) place false ≡ true
  marked-here = get_or-set_same marks place true false (omega (arith, m.size))

  -- the key just noted, and those before it
  mark-kept : (x : ℕ) → (among x keys || among x (key ∷ [])) ≡ true → get_or (set marks place true) (x % mark_count) false ≡ true
  unfolding among
  mark-kept x is =
      let own = x % mark_count in
      test_cases (λ _. get_or (set marks place true) own false ≡ true) (eqb own place)
      (λ e. ap (λ n. get_or (set marks place true) n false) (eqb-true own place e) ∙ marked-here)
      (λ e. get_or-set_other marks place own true false (eqb-false own place e) ∙ m.each x (before (eqb-false own place e) is))
    where
      before : ¬ (x % mark_count ≡ place) → (among x keys || among x (key ∷ [])) ≡ true → among x keys ≡ true
      before other is =
          let apart : eqb x key ≡ false = ne_eqb x key (λ e. other (ap (λ n. n % mark_count) e)) in
          sym (or-false (among x keys)) ∙ ap (λ t. among x keys || (t || false)) (sym apart) ∙ is

  pub noted : (keys' : List ℕ) → keys' ≡ keys ++ key ∷ [] → among key keys ≡ false → KeyNoted keys key true keys' (set marks place true)
  noted keys' pushed e =
      record {
        new = ap not (sym e);
        kept = λ _. pushed;
        marked =
            λ _.
            record {
              size = length-set marks place true ∙ m.size;
              each = λ x is. mark-kept x (sym (ap (among x) pushed ∙ among-append x keys (key ∷ [])) ∙ is);
            };
      }

pub declined : (keys : List ℕ) (key : ℕ) (keys' : List ℕ) (marks' : List Bool) → among key keys ≡ true → KeyNoted keys key false keys' marks'
declined keys key keys' marks' e =
    record { new = ap not (sym e); kept = λ f. absurd (false≢true f); marked = λ f. absurd (false≢true f) }

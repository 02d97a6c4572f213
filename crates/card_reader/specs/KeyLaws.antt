-- Bytes that a key shows: those of names, and those of the label of a sound line. Assumes nothing.
use Rattle.std.specs.Prelude.{Bool, true, false, cond, not, List, [], ◌∷◌, ◌≡◌, refl, ℕ, ◌≤◌, leb, length, take}
use Rattle.std.proofs.lemmas.Bool.{false≢true}
use Rattle.std.proofs.Math.Bool.{and-eq-true_iff}
use Rattle.std.proofs.Common.{ap, ◌∙◌, arith, eqb-true, ne_eqb}
use Rattle.base.specs.Current.{current}
use Rattle.base.specs.ListLaws.{all_among, all_imply, all_keep, all_take}
use Rattle.base.specs.Lists.{all, among, keep}
use Rattle.base.specs.Text.{bytes}
use Rattle.cards.specs.ByteLaws.{in_between, name-byte, within}
use Rattle.cards.specs.Bytes.{letter, digit, blank, mark, other_byte, refused_byte, between, class_of, is_blank, is_digit, is_letter, is_name_byte, is_refused, marks}
use Rattle.cards.specs.Cards.{label_of, sound_line, without_blanks}
use Rattle.card_reader.specs.Keys.{is_key_byte}

key-byte : (b : ℕ) → 1 ≤ b → b ≤ 255 → is_key_byte b ≡ true
unfolding is_key_byte
key-byte b = in_between 1 255 b

-- a name of letters and digits has no blank, and its key shows it
pub name-bytes : (xs : List ℕ) → all is_name_byte xs ≡ true → all is_key_byte xs ≡ true
name-bytes = all_imply is_name_byte is_key_byte (λ b e. let range = name-byte b e in key-byte b (omega arith) (omega arith))

pub name-whole : (xs : List ℕ) → all is_name_byte xs ≡ true → without_blanks xs ≡ xs
unfolding without_blanks keep all is_blank
name-whole [] a = refl
name-whole (x ∷ xs) a =
    let parts = (and-eq-true_iff (is_name_byte x) (all is_name_byte xs)).0 a in
    let range = name-byte x parts.0 in
    ap {B = List ℕ} (λ t. elim (not t) [ true ↦ x ∷ without_blanks xs | false ↦ without_blanks xs ]) (ne_eqb x 32 (λ e. omega arith))
    ∙ ap (λ (l : List ℕ). x ∷ l) (name-whole xs parts.1)

-- a byte that is not refused is in one of the other classes
not_refused : (k t₁ t₂ t₃ t₄ t₅ : Bool) →
    (t₁ ≡ true → k ≡ true) → (t₂ ≡ true → k ≡ true) → (t₃ ≡ true → k ≡ true) → (t₄ ≡ true → k ≡ true) → (t₅ ≡ true → k ≡ true) →
    not (is_refused (cond t₁ letter (cond t₂ digit (cond t₃ blank (cond t₄ mark (cond t₅ other_byte refused_byte)))))) ≡ true → k ≡ true
unfolding is_refused
not_refused k true t₂ t₃ t₄ t₅ f₁ f₂ f₃ f₄ f₅ e = f₁ refl
not_refused k false true t₃ t₄ t₅ f₁ f₂ f₃ f₄ f₅ e = f₂ refl
not_refused k false false true t₄ t₅ f₁ f₂ f₃ f₄ f₅ e = f₃ refl
not_refused k false false false true t₅ f₁ f₂ f₃ f₄ f₅ e = f₄ refl
not_refused k false false false false true f₁ f₂ f₃ f₄ f₅ e = f₅ refl
not_refused k false false false false false f₁ f₂ f₃ f₄ f₅ e = absurd (false≢true e)

-- and from 32 to 126
pub data_only : (b : ℕ) → not (is_refused (class_of b)) ≡ true → between 32 126 b ≡ true
unfolding class_of is_letter is_digit is_blank marks bytes between all
data_only b =
    let ranged : (low high : ℕ) → 32 ≤ low → high ≤ 126 → between low high b ≡ true → between 32 126 b ≡ true =
    λ low high l h e. let range = within low high b e in in_between 32 126 b (omega arith) (omega arith) in
    not_refused (between 32 126 b) (is_letter b) (is_digit b) (is_blank b) (among b marks) (between 32 126 b)
    (ranged 65 90 (omega arith) (omega arith))
    (ranged 48 57 (omega arith) (omega arith))
    (λ e. let same = eqb-true b 32 e in in_between 32 126 b (omega arith) (omega arith))
    (all_among (between 32 126) b marks refl)
    (λ e. e)

data_byte : (b : ℕ) → not (is_refused (class_of b)) ≡ true → is_key_byte b ≡ true
data_byte b e = let range = within 32 126 b (data_only b e) in key-byte b (omega arith) (omega arith)

-- the key of a sound line's label shows it
pub sound_label : (line : List ℕ) → sound_line line ≡ true → all is_key_byte (label_of current line) ≡ true
unfolding sound_line label_of without_blanks current
sound_label line e =
    all_keep is_key_byte (λ b. not (is_blank b)) (take 8 (take 72 line))
    (all_take is_key_byte 8 (take 72 line)
    (all_take is_key_byte 72 line
    (all_imply (λ b. not (is_refused (class_of b))) is_key_byte data_byte line ((and-eq-true_iff (leb (length line) 80) _).0 e).1)))

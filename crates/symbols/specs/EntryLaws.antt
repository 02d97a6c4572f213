-- What was mentioned goes through `++`; names and keys are each other's; what one name mentioned is. Assumes nothing.
use Rattle.std.specs.Prelude.{Option, Some, None, true, false, ◌≡◌, refl, ℕ, zero, suc, ◌+◌, ◌*◌, ◌/◌, ◌%◌, ◌≤◌, eqb, leb}
use Rattle.std.proofs.Math.Bool.{and-eq-true_iff}
use mathlib.Core.List.{List, [], ◌∷◌, ◌++◌, map, append_assoc, append-nil}
use Rattle.std.proofs.Common.{sym, ap, ap₂, ◌∙◌, eqb-true, eq-eqb, ne_eqb, leb-true}
use native.Mathlib.Omega.{arith}
use Rattle.std.proofs.lemmas.Bool.{eqb-false}
use Rattle.base.specs.Choice.{test_cases, same_truth}
use Rattle.base.specs.Lists.{all, same}
use Rattle.base.specs.ListLaws.{same_true, same_refl}
use Rattle.cards.specs.Bytes.{between}
use Rattle.validation.specs.Deck.{index_of}
use Rattle.syntax.specs.Parsing.{
  for_program,
  for_label,
  for_routine,
  for_number,
  for_string,
  merge_mentions,
  declaring,
  usage,
}
use Rattle.card_reader.specs.Keys.{key_of, is_key_byte}
use Rattle.symbols.specs.declared.known.Known.{Known}
use Rattle.symbols.specs.declared.tags.Role as Held
use Rattle.symbols.specs.declared.tags.Role.TheVariants.{Reference, Sought, Filler}
use Rattle.symbols.specs.declared.tags.Tag.{Tag}
use Rattle.symbols.specs.declared.tags.Tag.TheVariants.{
  ProgramDeclared,
  LabelDeclared,
  RoutineDeclared,
  NumberDeclared,
  LabelUsed,
  RoutineUsed,
  NumberUsed,
  StringUsed,
  ReferenceUsed,
  SoughtUsed,
  FillerUsed,
}
use Rattle.symbols.specs.Environment.{string_keys, number_keys, key_place, places_in}
use Rattle.symbols.specs.Entries.{
  NameEntry,
  entry,
  name_from,
  name_of,
  purpose_meaning,
  tag_purpose,
  tag_declares,
  tag_roles,
  string_tag,
  role_of,
  mention_of,
  declares_name,
  gather,
  declared_by,
  used_by,
  roles_by,
  mentions_in,
}

pub gather_append : {A : Type 0} (f : NameEntry → List A) (xs ys : List NameEntry) → gather f (xs ++ ys) ≡ gather f xs ++ gather f ys
unfolding gather
gather_append f [] ys = refl
gather_append f (x ∷ xs) ys = rw (gather_append f xs ys) (sym (append_assoc (f x) (gather f xs) (gather f ys)))

-- what was mentioned, and then more
pub mentions_both : (es fs : List NameEntry) (i j : ℕ) (r q : List ℕ) (l k : ℕ)
    → merge_mentions (mentions_in es i r l) (mentions_in fs j q k) ≡ mentions_in (es ++ fs) (i + j) (r ++ q) (l + k)
unfolding merge_mentions mentions_in
mentions_both es fs i j r q l k =
    λ t.
    record {
      declared = sym (gather_append declared_by es fs) t;
      used = sym (gather_append used_by es fs) t;
      items = i + j;
      rows = r ++ q;
      literals = l + k;
      roles = sym (gather_append roles_by es fs) t;
    }

-- and then no more names
pub mentions_more : (es : List NameEntry) (i j : ℕ) (r q : List ℕ) (l k : ℕ)
    → merge_mentions (mentions_in es i r l) (mentions_in [] j q k) ≡ mentions_in es (i + j) (r ++ q) (l + k)
mentions_more es i j r q l k = mentions_both es [] i j r q l k ∙ ap (λ (fs : List NameEntry). mentions_in fs (i + j) (r ++ q) (l + k)) (append-nil es)

-- the key of the name that a key shows
key-from : (m k : ℕ) → k ≤ m → key_of (name_from m k) ≡ k
unfolding name_from key_of
key-from zero k h = omega arith
key-from (suc m) k h =
    test_cases (λ t. key_of (elim t [ true ↦ [] | false ↦ k % 256 ∷ name_from m (k / 256) ]) ≡ k) (eqb k 0)
    (λ e. omega (arith, eqb-true k 0 e))
    (λ e.
    let some = eqb-false k 0 e in
    let below : k / 256 ≤ m = omega arith in
    let rest = key-from m (k / 256) below in
    omega arith)

pub key-name : (k : ℕ) → key_of (name_of k) ≡ k
unfolding name_of
key-name k = key-from k k (omega arith)

-- the name that the key of a name shows
name-from : (m : ℕ) (n : List ℕ) → all is_key_byte n ≡ true → key_of n ≤ m → name_from m (key_of n) ≡ n
unfolding name_from key_of all is_key_byte between
name-from zero [] a h = refl
name-from (suc m) [] a h = refl
name-from m (b ∷ bs) a h =
    let parts = (and-eq-true_iff (is_key_byte b) (all is_key_byte bs)).0 a in
    let range = (and-eq-true_iff (leb 1 b) (leb b 255)).0 parts.0 in
    let low = leb-true 1 b range.0 in
    let high = leb-true b 255 range.1 in
    name-more m b bs low high h (λ k l. name-from k bs parts.1 l)
  where
    name-more : (m b : ℕ) (bs : List ℕ) → 1 ≤ b → b ≤ 255 → key_of (b ∷ bs) ≤ m
        → ((k : ℕ) → key_of bs ≤ k → name_from k (key_of bs) ≡ bs) → name_from m (key_of (b ∷ bs)) ≡ b ∷ bs
    name-more zero b bs low high h rest = absurd (omega arith)
    name-more (suc m) b bs low high h rest =
        let first : (256 * key_of bs + b) % 256 ≡ b = omega arith in
        let behind : (256 * key_of bs + b) / 256 ≡ key_of bs = omega arith in
        ap {B = List ℕ}
        (λ t. elim t [ true ↦ [] | false ↦ (256 * key_of bs + b) % 256 ∷ name_from m ((256 * key_of bs + b) / 256) ])
        (ne_eqb (256 * key_of bs + b) 0 (λ e. omega arith))
        ∙ ap₂ {C = List ℕ} ◌∷◌ first (ap (name_from m) behind ∙ rest m (omega arith))

pub name-key : (n : List ℕ) → all is_key_byte n ≡ true → name_of (key_of n) ≡ n
unfolding name_of
name-key n a = name-from (key_of n) n a (omega arith)

-- a name is compared by its key
pub same_by_key : (n : List ℕ) (k : ℕ) → name_of (key_of n) ≡ n → same n (name_of k) ≡ eqb (key_of n) k
same_by_key n k is =
    same_truth (same n (name_of k)) (eqb (key_of n) k) (λ e. eq-eqb (key_of n) k (ap key_of (same_true n (name_of k) e) ∙ key-name k))
    (λ e. ap (λ j. same n (name_of j)) (sym (eqb-true (key_of n) k e)) ∙ ap (same n) is ∙ same_refl n)

pub same_key : (n : List ℕ) (k : ℕ) → all is_key_byte n ≡ true → same n (name_of k) ≡ eqb (key_of n) k
same_key n k a = same_by_key n k (name-key n a)

-- so is it found among others
pub place-name : (n : List ℕ) (ks : List ℕ) → all is_key_byte n ≡ true → index_of n (map name_of ks) ≡ key_place (key_of n) ks
unfolding index_of key_place
place-name n [] a = refl
place-name n (k ∷ ks) a =
    ap₂ {C = ℕ} (λ t j. elim t [ true ↦ 0 | false ↦ suc j ]) (same_key n k a) (place-name n ks a)

-- the places of a name that is known by its key
module _ (known : Known) (n : List ℕ) (a : all is_key_byte n ≡ true) where
  pub string_placed : (places_in known).string n ≡ key_place (key_of n) (string_keys known)
  unfolding places_in
  string_placed = place-name n (string_keys known) a

  pub number_placed : (places_in known).number n ≡ key_place (key_of n) (number_keys known)
  unfolding places_in
  number_placed = place-name n (number_keys known) a

-- what one name mentioned is: used, with the roles that its tag says, or declared
module _ (n : List ℕ) (a : all is_key_byte n ≡ true) where
  used_as : (t : Tag) → tag_declares t ≡ false
      → mentions_in (entry (key_of n) t ∷ []) 0 [] 0 ≡ usage (purpose_meaning (tag_purpose t)) (tag_roles t n) n
  unfolding mentions_in gather declared_by used_by roles_by declares_name mention_of entry usage
  used_as t used = rw (used, name-key n a, append-nil (tag_roles t n))

  declared_as : (t : Tag) → tag_declares t ≡ true → tag_roles t n ≡ []
      → mentions_in (entry (key_of n) t ∷ []) 0 [] 0 ≡ declaring (purpose_meaning (tag_purpose t)) n
  unfolding mentions_in gather declared_by used_by roles_by declares_name mention_of entry declaring
  declared_as t declared none = rw (declared, name-key n a, none)

  pub label_used : mentions_in (entry (key_of n) LabelUsed ∷ []) 0 [] 0 ≡ usage for_label [] n
  unfolding tag_declares tag_purpose tag_roles purpose_meaning
  label_used = used_as LabelUsed refl

  pub routine_used : mentions_in (entry (key_of n) RoutineUsed ∷ []) 0 [] 0 ≡ usage for_routine [] n
  unfolding tag_declares tag_purpose tag_roles purpose_meaning
  routine_used = used_as RoutineUsed refl

  pub number_used : mentions_in (entry (key_of n) NumberUsed ∷ []) 0 [] 0 ≡ usage for_number [] n
  unfolding tag_declares tag_purpose tag_roles purpose_meaning
  number_used = used_as NumberUsed refl

  pub program_declared : mentions_in (entry (key_of n) ProgramDeclared ∷ []) 0 [] 0 ≡ declaring for_program n
  unfolding tag_declares tag_purpose tag_roles purpose_meaning
  program_declared = declared_as ProgramDeclared refl refl

  pub label_declared : mentions_in (entry (key_of n) LabelDeclared ∷ []) 0 [] 0 ≡ declaring for_label n
  unfolding tag_declares tag_purpose tag_roles purpose_meaning
  label_declared = declared_as LabelDeclared refl refl

  pub routine_declared : mentions_in (entry (key_of n) RoutineDeclared ∷ []) 0 [] 0 ≡ declaring for_routine n
  unfolding tag_declares tag_purpose tag_roles purpose_meaning
  routine_declared = declared_as RoutineDeclared refl refl

  pub number_declared : mentions_in (entry (key_of n) NumberDeclared ∷ []) 0 [] 0 ≡ declaring for_number n
  unfolding tag_declares tag_purpose tag_roles purpose_meaning
  number_declared = declared_as NumberDeclared refl refl

  -- a string by its role
  pub role_mentioned : (r : Option Held.Role) → mentions_in (entry (key_of n) (string_tag r) ∷ []) 0 [] 0 ≡ usage for_string (role_of r n) n
  unfolding tag_declares tag_purpose tag_roles purpose_meaning string_tag role_of
  role_mentioned None = used_as StringUsed refl
  role_mentioned (Some Reference) = used_as ReferenceUsed refl
  role_mentioned (Some Sought) = used_as SoughtUsed refl
  role_mentioned (Some Filler) = used_as FillerUsed refl

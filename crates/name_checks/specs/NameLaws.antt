-- Where each name known has one purpose, names mentioned one by one are judged and entered as document 01 has it. Assumes nothing.
use Rattle.std.specs.Prelude.{Bool, true, false, cond, not, ◌&&◌, ◌⊎◌, ◌≡◌, refl, ℕ}
use Rattle.std.proofs.Math.Bool.{◌||◌, or_assoc, or-false, and-false}
use Rattle.std.proofs.lemmas.Bool.{false≢true}
use Rattle.std.proofs.Common.{true≢false, inl, inr, ⊎_elim, ◌∙◌, ap, subst, eqb-true, eq-eqb}
use mathlib.Core.List.{List, [], ◌∷◌, ◌++◌, append_assoc}
use Rattle.std.proofs.Math.Path.{sym, ap₂}
use Rattle.std.proofs.Math.Dec.{eqb}
use Rattle.base.specs.Choice.{test_cases, cond_cases, neither_true, either_true, same_truth, or_pairs}
use Rattle.base.specs.Lists.{same, any}
use Rattle.base.specs.ListLaws.{same_true, same_refl}
use Rattle.validation.specs.Environment.{same_mention, with_names}
use Rattle.validation.specs.Names.{any_append, same_mention_lem}
use Rattle.validation.specs.Refusals.{has_other_purpose}
use Rattle.syntax.specs.Laws.{same_purpose_refl}
use Rattle.syntax.specs.Parsing.{purpose_number, same_purpose, Mention}
use Rattle.name_checks.specs.Names.{Single, standing, meet, enters, conflicts}

pub eqb_sym : (a b : ℕ) → eqb a b ≡ eqb b a
eqb_sym a b = same_truth (eqb a b) (eqb b a) (λ e. eq-eqb b a (sym (eqb-true a b e))) (λ e. eq-eqb a b (sym (eqb-true b a e)))

same_sym : (xs ys : List ℕ) → same xs ys ≡ same ys xs
same_sym xs ys =
    same_truth (same xs ys) (same ys xs)
    (λ e. subst (λ (z : List ℕ). same z xs ≡ true) (same_true xs ys e) (same_refl xs))
    (λ e. subst (λ (z : List ℕ). same z ys ≡ true) (same_true ys xs e) (same_refl ys))

-- two names are the same with other purposes
abbrev other : Mention → Mention → Bool
other n m = same n.name m.name && not (same_purpose n.purpose m.purpose)

other_sym : (x y : Mention) → other x y ≡ other y x
unfolding same_purpose
other_sym x y =
    ap₂ {C = Bool} (λ a b. a && not b) (same_sym x.name y.name) (eqb_sym (purpose_number x.purpose) (purpose_number y.purpose))

other_self : (x : Mention) → other x x ≡ false
other_self x = rw (same_refl x.name, same_purpose_refl x.purpose)

-- a test that none in a list passes is failed by each in it
none_passes : (f : Mention → Bool) (x : Mention) (ns : List Mention) → any f ns ≡ false → any (same_mention x) ns ≡ true → f x ≡ false
unfolding any
none_passes f x [] h g = absurd (false≢true g)
none_passes f x (n ∷ ns) h g =
    let fails = neither_true (f n) (any f ns) h in
    ⊎_elim (λ s. ap f (same_mention_lem x n s) ∙ fails.0) (none_passes f x ns fails.1)
    (either_true (same_mention x n) (any (same_mention x) ns) g)

any_cong : (f g : Mention → Bool) (xs : List Mention) → ((x : Mention) → f x ≡ g x) → any f xs ≡ any g xs
unfolding any
any_cong f g [] h = refl
any_cong f g (x ∷ xs) h = ap₂ {C = Bool} ◌||◌ (h x) (any_cong f g xs h)

-- names that have another purpose in two lists have one in either
other-append : (ns ms xs : List Mention) → any (has_other_purpose (ns ++ ms)) xs ≡ (any (has_other_purpose ns) xs || any (has_other_purpose ms) xs)
unfolding any has_other_purpose
other-append ns ms [] = refl
other-append ns ms (x ∷ xs) =
    ap₂ {C = Bool} ◌||◌ (any_append (other x) ns ms) (other-append ns ms xs)
    ∙ or_pairs (has_other_purpose ns x) (has_other_purpose ms x) (any (has_other_purpose ns) xs) (any (has_other_purpose ms) xs)

-- the names that x gives another purpose are those that give x one
other-one : (x : Mention) (xs : List Mention) → any (has_other_purpose (x ∷ [])) xs ≡ has_other_purpose xs x
unfolding any has_other_purpose
other-one x [] = refl
other-one x (y ∷ xs) = ap₂ {C = Bool} ◌||◌ (or-false (other y x) ∙ other_sym y x) (other-one x xs)

-- a name put behind the names known, where it is none of them
abbrev added : List Mention → Mention → List Mention
added ns x = cond (any (same_mention x) ns) ns (ns ++ (x ∷ []))

other-added : (ns : List Mention) (x m : Mention) → has_other_purpose (added ns x) m ≡ has_other_purpose (ns ++ (x ∷ [])) m
unfolding any has_other_purpose
other-added ns x m =
    cond_cases (λ l. has_other_purpose l m ≡ has_other_purpose (ns ++ (x ∷ [])) m) (any (same_mention x) ns)
    (λ has. test_cases (λ t. has_other_purpose ns m ≡ t → t ≡ (t || (other m x || false))) (has_other_purpose ns m)
    (λ _ _. refl)
    (λ _ e. sym (or-false (other m x) ∙ none_passes (other m) x ns e has)) refl
    ∙ sym (any_append (other m) ns (x ∷ [])))
    (λ _. refl)

-- names that have two purposes, put behind those known one by one
unfoldable conflict : List Mention → List Mention → Bool
conflict ns [] = false
conflict ns (x ∷ xs) = has_other_purpose ns x || conflict (added ns x) xs

absorbs : (h a b : Bool) → (h || (a || (h || b))) ≡ (a || (h || b))
absorbs true true b = refl
absorbs true false b = refl
absorbs false a b = refl

conflict-is : (ns xs : List Mention) → conflict ns xs ≡ any (has_other_purpose (ns ++ xs)) xs
unfolding conflict any has_other_purpose
conflict-is ns [] = refl
conflict-is ns (x ∷ xs) =
    let behind = any (has_other_purpose (ns ++ (x ∷ xs))) xs in
    let one : List Mention = x ∷ [] in
    let rest : conflict (added ns x) xs ≡ behind =
    conflict-is (added ns x) xs
    ∙ other-append (added ns x) xs xs
    ∙ ap (λ b. b || any (has_other_purpose xs) xs) (any_cong (has_other_purpose (added ns x)) (has_other_purpose (ns ++ one)) xs (other-added ns x))
    ∙ sym (other-append (ns ++ one) xs xs)
    ∙ ap (λ (l : List Mention). any (has_other_purpose l) xs) (append_assoc ns one xs)
    in
    let parts : behind ≡ (any (has_other_purpose ns) xs || (has_other_purpose xs x || any (has_other_purpose xs) xs)) =
    other-append ns (x ∷ xs) xs
    ∙ ap (λ b. any (has_other_purpose ns) xs || b) (other-append one xs xs ∙ ap (λ b. b || any (has_other_purpose xs) xs) (other-one x xs))
    in
    let here : has_other_purpose (ns ++ (x ∷ xs)) x ≡ (has_other_purpose ns x || has_other_purpose xs x) =
    any_append (other x) ns (x ∷ xs) ∙ ap (λ b. has_other_purpose ns x || (b || has_other_purpose xs x)) (other_self x)
    in
    ap (λ b. has_other_purpose ns x || b) rest
    ∙ ap (λ b. has_other_purpose ns x || b)
    (parts ∙ sym (absorbs (has_other_purpose xs x) (any (has_other_purpose ns) xs) (any (has_other_purpose xs) xs))
    ∙ ap (λ b. has_other_purpose xs x || b) (sym parts))
    ∙ sym (or_assoc (has_other_purpose ns x) (has_other_purpose xs x) behind)
    ∙ ap (λ b. b || behind) (sym here)

single_rest : (n : Mention) (ns : List Mention) → Single (n ∷ ns) → (has_other_purpose (n ∷ ns) n ≡ false) × Single ns
unfolding any
single_rest n ns h =
    let parts = neither_true (has_other_purpose (n ∷ ns) n) (any (has_other_purpose (n ∷ ns)) ns) h in
    let split = neither_true (any (has_other_purpose (n ∷ [])) ns) (any (has_other_purpose ns) ns) (sym (other-append (n ∷ []) ns ns) ∙ parts.1) in
    (parts.0, split.1)

-- there are three ways to stand
pub standing_few : (ns : List Mention) (x : Mention) → (standing ns x ≡ 0) ⊎ ((standing ns x ≡ 1) ⊎ (standing ns x ≡ 2))
unfolding standing
standing_few [] x = inl refl
standing_few (n ∷ ns) x =
    let Few : ℕ → Type 0 = λ s. (s ≡ 0) ⊎ ((s ≡ 1) ⊎ (s ≡ 2)) in
    cond_cases Few (same x.name n.name)
    (λ _. cond_cases Few (same_purpose x.purpose n.purpose) (λ _. inr (inl refl)) (λ _. inr (inr refl))) (λ _. standing_few ns x)

-- how a name stands tells whether it has another purpose, and whether it is known
pub record MentionStands (ns : List Mention) (x : Mention) : Type 0 where
  pub others : has_other_purpose ns x ≡ eqb (standing ns x) 2
  pub knows : any (same_mention x) ns ≡ eqb (standing ns x) 1

-- a name that has the name of the first
stands_first : (n : Mention) (ns : List Mention) (x : Mention) → has_other_purpose (n ∷ ns) n ≡ false → same x.name n.name ≡ true
    → MentionStands (n ∷ ns) x
unfolding standing any has_other_purpose same_mention
stands_first n ns x alone name =
    test_cases (λ t. same_purpose x.purpose n.purpose ≡ t → MentionStands (n ∷ ns) x) (same_purpose x.purpose n.purpose)
    (λ _ p.
    let first : same_mention x n ≡ true = rw (name, p) in
    let is = same_mention_lem x n first in
    let at : standing (n ∷ ns) x ≡ 1 = rw (name, p) in
    record {
      others = ap (has_other_purpose (n ∷ ns)) is ∙ alone ∙ ap (λ s. eqb s 2) (sym at);
      knows = ap (λ b. b || any (same_mention x) ns) first ∙ ap (λ s. eqb s 1) (sym at);
    })
    (λ _ p.
    let at : standing (n ∷ ns) x ≡ 2 = rw (name, p) in
    let clash : other x n ≡ true = rw (name, p) in
    let first : same_mention x n ≡ false = rw (name, p) in
    let differs : other n x ≡ true = other_sym n x ∙ clash in
    let behind = (neither_true (other n n) (any (other n) ns) alone).1 in
    let unknown : any (same_mention x) ns ≡ false =
    test_cases (λ t. any (same_mention x) ns ≡ t → t ≡ false) (any (same_mention x) ns)
    (λ _ has. absurd (true≢false (sym differs ∙ none_passes (other n) x ns behind has))) (λ _ _. refl) refl
    in
    record {
      others = ap (λ b. b || any (other x) ns) clash ∙ ap (λ s. eqb s 2) (sym at);
      knows = ap (λ b. b || any (same_mention x) ns) first ∙ unknown ∙ ap (λ s. eqb s 1) (sym at);
    }) refl

pub stands : (ns : List Mention) (x : Mention) → Single ns → MentionStands ns x
unfolding standing any has_other_purpose same_mention
stands [] x h = record { others = refl; knows = refl }
stands (n ∷ ns) x h =
    let parts = single_rest n ns h in
    test_cases (λ t. same x.name n.name ≡ t → MentionStands (n ∷ ns) x) (same x.name n.name)
    (λ _ name. stands_first n ns x parts.0 name)
    (λ _ name.
    let rest = stands ns x parts.1 in
    let at : standing (n ∷ ns) x ≡ standing ns x = rw name in
    let first : same_mention x n ≡ false = rw name (and-false (same_purpose x.purpose n.purpose)) in
    let clash : other x n ≡ false = rw name in
    record {
      others = ap (λ b. b || any (other x) ns) clash ∙ rest.others ∙ ap (λ s. eqb s 2) (sym at);
      knows = ap (λ b. b || any (same_mention x) ns) first ∙ rest.knows ∙ ap (λ s. eqb s 1) (sym at);
    }) refl

-- a name with no other purpose goes behind those known as one that is put there, and names keep one purpose
module _ (ns : List Mention) (x : Mention) (single : Single ns) (alone : has_other_purpose ns x ≡ false) where
  meet-added : meet ns x ≡ added ns x
  unfolding meet
  meet-added =
      let s = stands ns x single in
      rw s.knows
      (⊎_elim (λ e. rw e) (⊎_elim (λ e. rw e) (λ e. absurd (true≢false (sym (ap (λ n. eqb n 2) e) ∙ sym s.others ∙ alone)))) (standing_few ns x))

  added_single : Single (added ns x)
  unfolding any has_other_purpose
  added_single =
      cond_cases Single (any (same_mention x) ns) (λ _. single)
      (λ _.
      let one : List Mention = x ∷ [] in
      any_append (has_other_purpose (ns ++ one)) ns one
      ∙ ap₂ {C = Bool} ◌||◌
      (other-append ns one ns ∙ ap₂ {C = Bool} ◌||◌ single (other-one x ns ∙ alone))
      (or-false (has_other_purpose (ns ++ one) x) ∙ any_append (other x) ns one ∙ ap₂ {C = Bool} ◌||◌ alone (or-false (other x x) ∙ other_self x)))

-- so names mentioned one by one have two purposes where document 01 says so
one_by_one : (ns xs : List Mention) → Single ns → conflicts ns xs ≡ conflict ns xs
unfolding conflicts conflict
one_by_one ns [] h = refl
one_by_one ns (x ∷ xs) h =
    let s = stands ns x h in
    test_cases
    (λ t. has_other_purpose ns x ≡ t → (eqb (standing ns x) 2 || conflicts (meet ns x) xs) ≡ (t || conflict (added ns x) xs))
    (has_other_purpose ns x)
    (λ _ e. ap (λ b. b || conflicts (meet ns x) xs) (sym s.others ∙ e))
    (λ _ e.
    ap (λ b. b || conflicts (meet ns x) xs) (sym s.others ∙ e)
    ∙ ap (λ l. conflicts l xs) (meet-added ns x h e)
    ∙ one_by_one (added ns x) xs (added_single ns x h e)) refl

pub conflicts-is : (ns xs : List Mention) → Single ns → conflicts ns xs ≡ any (has_other_purpose (ns ++ xs)) xs
conflicts-is ns xs h = one_by_one ns xs h ∙ conflict-is ns xs

-- and where none has, those are known that document 01 says, each with one purpose
pub mentions_known : (ns xs : List Mention) → Single ns → conflicts ns xs ≡ false → (enters ns xs ≡ with_names ns xs) × Single (enters ns xs)
unfolding enters with_names conflicts
mentions_known ns [] h g = (refl, h)
mentions_known ns (x ∷ xs) h g =
    let s = stands ns x h in
    let parts = neither_true (eqb (standing ns x) 2) (conflicts (meet ns x) xs) g in
    let alone = s.others ∙ parts.0 in
    let is = meet-added ns x h alone in
    let rest = mentions_known (meet ns x) xs (subst Single (sym is) (added_single ns x h alone)) parts.1 in
    (rest.0 ∙ ap (λ l. with_names l xs) is, rest.1)

-- names mentioned, and then more
pub enters-append : (ns xs ys : List Mention) → enters ns (xs ++ ys) ≡ enters (enters ns xs) ys
unfolding enters
enters-append ns [] ys = refl
enters-append ns (x ∷ xs) ys = enters-append (meet ns x) xs ys

pub conflicts-append : (ns xs ys : List Mention) → conflicts ns (xs ++ ys) ≡ (conflicts ns xs || conflicts (enters ns xs) ys)
unfolding enters conflicts
conflicts-append ns [] ys = refl
conflicts-append ns (x ∷ xs) ys =
    ap (λ b. eqb (standing ns x) 2 || b) (conflicts-append (meet ns x) xs ys)
    ∙ sym (or_assoc (eqb (standing ns x) 2) (conflicts (meet ns x) xs) (conflicts (enters (meet ns x) xs) ys))

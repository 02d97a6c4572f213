-- What the tests on lists tell of the lists, what is kept of a list, and stretches of one. Assumes nothing.
use Rattle.std.specs.Prelude.{Bool, true, false, ◌&&◌, ◌||◌, List, [], ◌∷◌, ◌++◌, ◌↔◌, ◌≡◌, refl, ℕ, zero, suc, ◌+◌, ◌-◌, ◌≤◌, ◌<◌, eqb, take, length, drop, get_or, replicate}
use Rattle.std.proofs.lemmas.Bool.{false≢true}
use Rattle.std.proofs.Math.Bool.{and-eq-true_iff, and_assoc}
use Rattle.std.proofs.Common.{ap₂, subst, sym, ◌∙◌, ap, add-one, arith, length-take, length-drop, drop_of_length-le, take-append-drop, length-take-le, take_all, take-take, get_or-take, get_or-drop, drop-drop, drop-cons, eqb-true, eq-eqb, ne_eqb}
use Rattle.std.proofs.Math.Nat.{min-le_left, min-le_right}
use Rattle.base.specs.Choice.{both_pass, both_true, test_cases}
use Rattle.base.specs.Lists.{same, begins, is_zero, all, among, is_nil, keep}

-- lists that pass the test are equal
pub same_true : (xs ys : List ℕ) → same xs ys ≡ true → xs ≡ ys
unfolding same
same_true [] [] e = refl
same_true [] (y ∷ ys) e = absurd (false≢true e)
same_true (x ∷ xs) [] e = absurd (false≢true e)
same_true (x ∷ xs) (y ∷ ys) e =
    let both = (and-eq-true_iff (eqb x y) (same xs ys)).0 e in
    ap₂ {C = List ℕ} ◌∷◌ (eqb-true x y both.0) (same_true xs ys both.1)

-- a list passes the test with itself
pub same_refl : (xs : List ℕ) → same xs xs ≡ true
unfolding same
same_refl [] = refl
same_refl (x ∷ xs) = rw (eq-eqb x x refl, same_refl xs)

-- the test passes exactly for equal lists
pub same_iff : (xs ys : List ℕ) → (same xs ys ≡ true) ↔ (xs ≡ ys)
same_iff xs ys = (same_true xs ys, λ e. subst (λ (zs : List ℕ). same xs zs ≡ true) e (same_refl xs))

-- the list ys begins with w exactly when its first bytes are w
pub begins_iff : (w ys : List ℕ) → (begins w ys ≡ true) ↔ (take (length w) ys ≡ w)
unfolding begins
begins_iff w ys = same_iff (take (length w) ys) w

-- a list has room for what it begins with
pub begins_room : (w ys : List ℕ) → begins w ys ≡ true → length w ≤ length ys
begins_room w ys e =
    let same : length (take (length w) ys) ≡ length w = ap length ((begins_iff w ys).0 e) in
    omega (arith, simp length-take at same)

-- a word that stands at a place of a list lies inside
pub begins_inside : (w : ℕ) (ws l : List ℕ) (at : ℕ) → begins (w ∷ ws) (drop at l) ≡ true → at + length (w ∷ ws) ≤ length l
begins_inside w ws l at e = omega (arith, begins_room (w ∷ ws) (drop at l) e, length-drop at l)

-- the list with no elements
pub nil_length : {A : Type 0} (l : List A) → is_nil l ≡ eqb (length l) 0
unfolding is_nil
nil_length [] = refl
nil_length (x ∷ l) = sym (ne_eqb (suc (length l)) 0 (λ e. omega arith))

pub not_nil : {A : Type 0} (l : List A) → 0 < length l → is_nil l ≡ false
not_nil l h = nil_length l ∙ ne_eqb (length l) 0 (λ e. omega arith)

-- the element at a place and what lies behind it
pub drop-next : {A : Type 0} (l : List A) (i : ℕ) (d : A) → i < length l → drop i l ≡ get_or l i d ∷ drop (i + 1) l
drop-next l i d h = drop-cons l i d h ∙ ap (λ (k : ℕ). get_or l i d ∷ drop k l) (sym (add-one i))

-- a test on all elements from a place on: on that one and all behind it, and where none is left
pub all-next : (f : ℕ → Bool) (l : List ℕ) (i : ℕ) → i < length l → all f (drop i l) ≡ (f (get_or l i 0) && all f (drop (i + 1) l))
unfolding all
all-next f l i h = ap (all f) (drop-next l i 0 h)

pub all_end : (f : ℕ → Bool) (l : List ℕ) (i : ℕ) → length l ≤ i → all f (drop i l) ≡ true
unfolding all
all_end f l i h = ap (all f) (drop_of_length-le l h)

-- a test of two lists, one behind the other, is a test of both
pub all_both : {A : Type 0} (f : A → Bool) (xs ys : List A) → all f (xs ++ ys) ≡ (all f xs && all f ys)
unfolding all
all_both f [] ys = refl
all_both f (x ∷ xs) ys = ap (λ t. f x && t) (all_both f xs ys) ∙ sym (and_assoc (f x) (all f xs) (all f ys))

pub all_append : {A : Type 0} (f : A → Bool) (xs ys : List A) → all f xs ≡ true → all f ys ≡ true → all f (xs ++ ys) ≡ true
all_append f xs ys h g = all_both f xs ys ∙ both_pass h g

pub all_behind : {A : Type 0} (f : A → Bool) (xs ys : List A) → all f (xs ++ ys) ≡ true → all f ys ≡ true
all_behind f xs ys e = (both_true (all f xs) (all f ys) (sym (all_both f xs ys) ∙ e)).1

-- what passes a test passes one that follows from it
pub all_imply : {A : Type 0} (f g : A → Bool) → ((x : A) → f x ≡ true → g x ≡ true) → (xs : List A) → all f xs ≡ true → all g xs ≡ true
unfolding all
all_imply f g h [] a = refl
all_imply f g h (x ∷ xs) a =
    let both = (and-eq-true_iff (f x) (all f xs)).0 a in
    both_pass (h x both.0) (all_imply f g h xs both.1)

-- what passes as a whole passes in part: the first elements, those from a place on, those kept by another test, and each one among them
pub all_take : {A : Type 0} (f : A → Bool) (n : ℕ) (xs : List A) → all f xs ≡ true → all f (take n xs) ≡ true
unfolding all
all_take f zero xs a = refl
all_take f (suc n) [] a = refl
all_take f (suc n) (x ∷ xs) a =
    let both = (and-eq-true_iff (f x) (all f xs)).0 a in
    both_pass both.0 (all_take f n xs both.1)

pub all_drop : {A : Type 0} (f : A → Bool) (n : ℕ) (xs : List A) → all f xs ≡ true → all f (drop n xs) ≡ true
unfolding all
all_drop f zero xs a = a
all_drop f (suc n) [] a = refl
all_drop f (suc n) (x ∷ xs) a = all_drop f n xs ((and-eq-true_iff (f x) (all f xs)).0 a).1

pub all_keep : {A : Type 0} (f g : A → Bool) (xs : List A) → all f xs ≡ true → all f (keep g xs) ≡ true
unfolding all keep
all_keep f g [] a = refl
all_keep {A} f g (x ∷ xs) a =
    let both = (and-eq-true_iff (f x) (all f xs)).0 a in
    let rest = all_keep f g xs both.1 in
    test_cases (λ t. all f (elim t as (λ _. List A) [ true ↦ x ∷ keep g xs | false ↦ keep g xs ]) ≡ true) (g x) (λ _. both_pass both.0 rest) (λ _. rest)

pub all_among : (f : ℕ → Bool) (b : ℕ) (xs : List ℕ) → all f xs ≡ true → among b xs ≡ true → f b ≡ true
unfolding all among
all_among f b [] a e = absurd (false≢true e)
all_among f b (x ∷ xs) a e =
    let both = (and-eq-true_iff (f x) (all f xs)).0 a in
    test_cases (λ t. eqb b x ≡ t → (t || among b xs) ≡ true → f b ≡ true) (eqb b x)
    (λ is _ _. ap f (eqb-true b x is) ∙ both.0)
    (λ _ _ rest. all_among f b xs both.1 rest) refl e

-- what is kept of two lists, and of one whose elements all pass
pub keep_append : {A : Type 0} (f : A → Bool) (xs ys : List A) → keep f (xs ++ ys) ≡ keep f xs ++ keep f ys
unfolding keep
keep_append f [] ys = refl
keep_append {A} f (x ∷ xs) ys =
    let rest = keep_append f xs ys in
    test_cases
    (λ t.
    ◌≡◌ {A = List A} (elim t [ true ↦ x ∷ keep f (xs ++ ys) | false ↦ keep f (xs ++ ys) ])
    (elim t [ true ↦ x ∷ keep f xs | false ↦ keep f xs ] ++ keep f ys))
    (f x) (λ _. ap (λ (l : List A). x ∷ l) rest) (λ _. rest)

pub keep_all : {A : Type 0} (f : A → Bool) (xs : List A) → all f xs ≡ true → keep f xs ≡ xs
unfolding keep all
keep_all f [] a = refl
keep_all {A} f (x ∷ xs) a =
    let both = (and-eq-true_iff (f x) (all f xs)).0 a in
    rw (keep, both.0) (ap (λ (l : List A). x ∷ l) (keep_all f xs both.1))

-- where all pass a test, each place inside does; and so does any place where what is read behind the last passes too
pub all_inside : {A : Type 0} (f : A → Bool) (l : List A) (d : A) → all f l ≡ true → (i : ℕ) → i < length l → f (get_or l i d) ≡ true
unfolding all
all_inside f [] d a i h = absurd (omega arith)
all_inside f (x ∷ l) d a zero h = ((and-eq-true_iff (f x) (all f l)).0 a).0
all_inside f (x ∷ l) d a (suc i) h = all_inside f l d ((and-eq-true_iff (f x) (all f l)).0 a).1 i (omega arith)

pub all-at : {A : Type 0} (f : A → Bool) (l : List A) (d : A) → f d ≡ true → all f l ≡ true → (i : ℕ) → f (get_or l i d) ≡ true
unfolding all
all-at f [] d last h i = last
all-at f (x ∷ l) d last h zero = ((and-eq-true_iff (f x) (all f l)).0 h).0
all-at f (x ∷ l) d last h (suc i) = all-at f l d last ((and-eq-true_iff (f x) (all f l)).0 h).1 i

-- a stretch of a list has the size asked for, and its elements
pub length_stretch : (l : List ℕ) (at n : ℕ) → at + n ≤ length l → length (take n (drop at l)) ≡ n
length_stretch l at n h = length-take-le n (drop at l) (omega (arith, length-drop at l))

pub get_or_stretch : (l : List ℕ) (at n i : ℕ) → i < n → get_or (take n (drop at l)) i 0 ≡ get_or l (at + i) 0
get_or_stretch l at n i h = get_or-take n (drop at l) i 0 h ∙ get_or-drop at l i 0

-- it is no longer than asked for, nor than the list
pub stretch_few : (l : List ℕ) (at n : ℕ) → length (take n (drop at l)) ≤ n
stretch_few l at n = omega (arith, length-take n (drop at l), min-le_left n (length (drop at l)))

pub stretch_within : (l : List ℕ) (at n : ℕ) → length (take n (drop at l)) ≤ length l
stretch_within l at n = omega (arith, length-take n (drop at l), min-le_right n (length (drop at l)), length-drop at l)

-- a stretch by the place where it ends
pub stretch_cut : (l : List ℕ) (at n : ℕ) → take (at + n - at) (drop at l) ≡ take n (drop at l)
stretch_cut l at n =
    let size : at + n - at ≡ n = omega arith in
    ap (λ (k : ℕ). take k (drop at l)) size

-- a stretch up to the end
pub stretch_end : (l : List ℕ) (at n : ℕ) → n ≡ length l - at → take n (drop at l) ≡ drop at l
stretch_end l at n e = take_all n (drop at l) (omega (arith, length-drop at l))

-- a stretch, and what lies behind it
pub stretch_behind : (l : List ℕ) (at n next : ℕ) → at + n ≡ next → take n (drop at l) ++ drop next l ≡ drop at l
stretch_behind l at n next e =
    ap (λ r. take n (drop at l) ++ r) (ap (λ k. drop k l) (sym e) ∙ sym (drop-drop n at l)) ∙ take-append-drop n (drop at l)

-- a stretch of the first m elements is one of the list
pub stretch_front : (n k m : ℕ) (l : List ℕ) → k + n ≤ m → take n (drop k (take m l)) ≡ take n (drop k l)
stretch_front n zero m l h = take-take n m l (omega arith)
stretch_front n (suc k) zero l h = absurd (omega arith)
stretch_front n (suc k) (suc m) [] h = refl
stretch_front n (suc k) (suc m) (x ∷ l) h = stretch_front n k m l (omega arith)

-- a list of zeros alone
pub zeros_are : (l : List ℕ) → all is_zero l ≡ true → l ≡ replicate (length l) 0
unfolding all
zeros_are [] e = refl
zeros_are (x ∷ xs) e =
    let h = (and-eq-true_iff (is_zero x) (all is_zero xs)).0 e in
    ap₂ {C = List ℕ} ◌∷◌ (eqb-true x 0 h.0) (zeros_are xs h.1)

pub all-zeros : (n : ℕ) → all is_zero (replicate n 0) ≡ true
unfolding all
all-zeros zero = refl
all-zeros (suc n) = all-zeros n

pub drop-zeros : (k m : ℕ) → drop {A = ℕ} k (replicate m 0) ≡ replicate (m - k) 0
drop-zeros zero m = let none : m ≡ m - 0 = omega arith in ap (λ n. replicate n 0) none
drop-zeros (suc k) zero = let none : 0 ≡ 0 - suc k = omega arith in ap {B = List ℕ} (λ n. replicate n 0) none
drop-zeros (suc k) (suc m) = let less : m - k ≡ suc m - suc k = omega arith in drop-zeros k m ∙ ap (λ n. replicate n 0) less

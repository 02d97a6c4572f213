-- Lists that are cut at a size. Assumes nothing.
use Rattle.std.specs.Prelude.{◌≡◌, refl, ℕ, zero, suc, ◌<◌, ltb}
use mathlib.Core.List.{List, [], ◌∷◌, ◌++◌, map, map-append}
use Rattle.std.proofs.Math.Path.{ap}
use Rattle.std.proofs.Math.ListN.{length, take}
use Rattle.std.proofs.Common.{sym, ◌∙◌, arith, take_all}
use Rattle.std.proofs.lemmas.List.{length-take, take-map}
use borrow.Author.Tests.{ltb-true, ltb-false, lt-ltb, le-ltb}
use Rattle.base.specs.Choice.{test_cases}

-- what goes behind a list that is cut, and is cut again
pub cut_again : {A : Type 0} (cap : ℕ) (xs ys : List A) → take cap (take cap xs ++ ys) ≡ take cap (xs ++ ys)
cut_again zero xs ys = refl
cut_again (suc cap) [] ys = refl
cut_again (suc cap) (x ∷ xs) ys = ap (λ l. x ∷ l) (cut_again cap xs ys)

-- one more behind a list that is cut, seen as what it stands for
pub cut_next : {A B : Type 0} (cap : ℕ) (f : A → B) (xs xs' : List A) (all : List B) (x : A) → map f xs ≡ take cap all
    → xs' ≡ take cap (xs ++ (x ∷ [])) → map f xs' ≡ take cap (all ++ (f x ∷ []))
cut_next cap f xs xs' all x before is =
    ap (map f) is
    ∙ sym (take-map f cap (xs ++ (x ∷ [])))
    ∙ ap (take cap) (map-append f xs (x ∷ []) ∙ ap (λ l. l ++ (f x ∷ [])) before)
    ∙ cut_again cap all (f x ∷ [])

-- a list that is cut and not full is whole
pub cut_whole : {A : Type 0} (cap : ℕ) (l : List A) → length (take cap l) < cap → take cap l ≡ l
cut_whole cap l h = take_all cap l (omega (arith, length-take cap l))

-- one that is cut one behind a size passes the size where it does
pub cut_over : {A : Type 0} (cap : ℕ) (l : List A) → ltb cap (length (take (suc cap) l)) ≡ ltb cap (length l)
cut_over cap l =
    test_cases (λ t. ltb cap (length l) ≡ t → ltb cap (length (take (suc cap) l)) ≡ t) (ltb cap (length l))
    (λ _ h.
    let long = ltb-true cap (length l) h in
    lt-ltb cap (length (take (suc cap) l)) (omega (arith, length-take (suc cap) l)))
    (λ _ h.
    let short = ltb-false cap (length l) h in
    le-ltb cap (length (take (suc cap) l)) (omega (arith, length-take (suc cap) l))) refl

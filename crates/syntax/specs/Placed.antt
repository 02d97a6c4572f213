-- Lists of which each element is so; places of names that are below the counts of a program. Assumes nothing.
use mathlib.Core.List.{List, [], ◌∷◌, ◌++◌}
use Rattle.std.specs.Prelude.{ℕ, ◌<◌}
use Rattle.syntax.specs.Parsing.{Mention, for_number, for_string}
use Rattle.syntax.specs.Lexemes.{Resolution}

module _ {A : Type 0} where
  -- every element of a list is so
  unfoldable pub Each : (A → Type 0) → List A → Type 0
  Each P [] = Unit
  Each P (x ∷ xs) = P x × Each P xs

module _ {A : Type 0} {P Q : A → Type 0} where
  -- what follows for each element holds of each
  pub each_map : ((x : A) → P x → Q x) → (xs : List A) → Each P xs → Each Q xs
  unfolding Each
  each_map f [] h = tt
  each_map f (x ∷ xs) h = (f x h.0, each_map f xs h.1)

module _ {A : Type 0} (P : A → Type 0) where
  -- what holds of each of two lists holds of one behind the other
  pub each-join : (xs ys : List A) → Each P xs → Each P ys → Each P (xs ++ ys)
  unfolding Each
  each-join [] ys h g = g
  each-join (x ∷ xs) ys h g = (h.0, each-join xs ys h.1 g)

  -- and the other way round
  pub each_part : (xs ys : List A) → Each P (xs ++ ys) → Each P xs × Each P ys
  unfolding Each
  each_part [] ys h = (tt, h)
  each_part (x ∷ xs) ys h =
      let parts = each_part xs ys h.1 in
      ((h.0, parts.0), parts.1)

-- counts that places stay below
pub record Sizes : Type 0 where
  pub strings : ℕ
  pub numbers : ℕ
  pub steps : ℕ

-- a name has a place below the counts where it is known; every step named is one of the steps
pub record PlacedBy (K : Mention → Type 0) (z : Sizes) (at : Resolution) : Type 0 where
  pub string : (n : List ℕ) → K (record { purpose = for_string; name = n }) → at.string n < z.strings
  pub number : (n : List ℕ) → K (record { purpose = for_number; name = n }) → at.number n < z.numbers
  pub label : (n : List ℕ) → at.label n < z.steps
  pub entry : (n : List ℕ) → at.entry n < z.steps
  pub exit : (n : List ℕ) → at.exit n < z.steps

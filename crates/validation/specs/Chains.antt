-- Document 01, 12 "A routine executes itself, directly or through others.", said of chains of EXECUTEs. Assumes nothing.
use Rattle.std.specs.Prelude.{Bool, true, false, ◌&&◌, List, [], ◌∷◌, ◌≡◌, ℕ}
use Rattle.base.specs.Lists.{same, any}
use Rattle.validation.specs.Environment.{Use, Environment, is_one_of}

-- a routine of this name is declared
abbrev pub Declared : Environment → List ℕ → Type 0
Declared k n = any (λ r. same n r.name) k.routines ≡ true

-- one routine executes another: in the first stands an EXECUTE of the second; the empty name stands for outside all routines
abbrev pub executes : List Use → (first second : List ℕ) → Bool
executes us a b = any (λ u. same a u.scope && same b u.name) us

abbrev pub Executes : List Use → (first second : List ℕ) → Type 0
Executes us a b = executes us a b ≡ true

-- one routine executes another, directly or through others
pub data Chain (us : List Use) (a : List ℕ) : List ℕ → Type 0 where
  direct : {b : List ℕ} → Executes us a b → Chain us a b
  through : {b c : List ℕ} → Chain us a b → Executes us b c → Chain us a c

-- some routine executes itself, directly or through others
abbrev pub ExecutesItself : Environment → Type 0
ExecutesItself k = (n : List ℕ) × Declared k n × Chain k.executes n n

-- routines in a row, of which each executes the next
unfoldable pub Chained : List Use → List (List ℕ) → Type 0
Chained us [] = Unit
Chained us (a ∷ []) = Unit
Chained us (a ∷ (b ∷ ns)) = Executes us a b × Chained us (b ∷ ns)

-- names of which none comes twice
abbrev pub Different : List (List ℕ) → Type 0
Different [] = Unit
Different (n ∷ ns) = (is_one_of ns n ≡ false) × Different ns

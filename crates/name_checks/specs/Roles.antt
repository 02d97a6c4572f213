-- The roles of names in a SCAN, by key and tag. Assumes nothing.
use Rattle.std.specs.Prelude.{Bool, true, false, cond, ◌&&◌, ◌||◌, List, [], ◌∷◌, ◌≡◌, ℕ, zero, suc, ◌<◌, eqb}
use Rattle.name_checks.specs.declared.entries.Entries.{Entries}
use Rattle.symbols.specs.declared.tags.Tag.{Tag}
use Rattle.symbols.specs.declared.tags.Tag.TheVariants.{ReferenceUsed, SoughtUsed, FillerUsed}
use Rattle.symbols.specs.Entries.{name_of}
use Rattle.name_checks.specs.Shown.{key_in, tag_in}

-- a name is mentioned as a filler
unfoldable pub is_filler : Tag → Bool
is_filler FillerUsed = true
is_filler _ = false

-- the fillers before place n, the latest first
unfoldable pub fillers_before : Entries → ℕ → List (List ℕ)
fillers_before m zero = []
fillers_before m (suc n) = cond (is_filler (tag_in m n)) (name_of (key_in m n) ∷ fillers_before m n) (fillers_before m n)

-- one of them has this key
unfoldable pub fillers_have : Entries → (n key : ℕ) → Bool
fillers_have m zero key = false
fillers_have m (suc n) key = (is_filler (tag_in m n) && eqb (key_in m n) key) || fillers_have m n key

-- no string before place n has the name of a filler left of it
abbrev pub Unclashed : Entries → ℕ → Type 0
Unclashed m n = (j : ℕ) → j < n → tag_in m j ≡ SoughtUsed → fillers_have m j (key_in m j) ≡ false

-- a role clashes: a string of the pattern that is a filler, a filler that is the reference
unfoldable pub clash_of : Tag → (filler searched : Bool) → Bool
clash_of SoughtUsed f s = f
clash_of FillerUsed f s = s
clash_of _ f s = false

-- the role at a place clashes with those before it
unfoldable pub clash_at : Entries → (i searched : ℕ) → Bool
clash_at m i searched = clash_of (tag_in m i) (fillers_have m i (key_in m i)) (eqb searched (key_in m i))

-- the key of the reference behind a name
unfoldable pub searched_behind : (key : ℕ) → Tag → (searched : ℕ) → ℕ
searched_behind key ReferenceUsed searched = key
searched_behind key _ searched = searched

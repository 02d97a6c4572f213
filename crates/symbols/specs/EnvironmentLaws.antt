-- Names and keys among those known: a key is found where its name is. Assumes nothing.
use Rattle.std.specs.Prelude.{Bool, ◌≡◌}
use Rattle.std.proofs.Math.Bool.{◌||◌, or_comm, or-false}
use mathlib.Core.List.{List, [], ◌∷◌, ◌++◌, map}
use Rattle.std.proofs.Math.Path.{refl, ap, ap₂}
use Rattle.std.proofs.Common.{◌∙◌, arith, length-append}
use Prim.Native.Nat.{ℕ, ◌+◌}
use Rattle.std.proofs.Math.Dec.{eqb}
use Rattle.std.proofs.Math.ListN.{length}
use Rattle.base.specs.Lists.{same, any}
use Rattle.validation.specs.Environment.{Label, Routine, is_one_of}
use Rattle.validation.specs.Names.{any_append}
use Rattle.symbols.specs.declared.known.Label as Listed
use Rattle.symbols.specs.declared.known.Routine as Opened
use Rattle.symbols.specs.Entries.{name_of}
use Rattle.symbols.specs.EntryLaws.{key-name, same_by_key}
use Rattle.symbols.specs.Environment.{keys_have, label_meaning, routine_meaning, latest_first}

-- names are the same exactly where their keys are
pub name-same : (j k : ℕ) → same (name_of j) (name_of k) ≡ eqb j k
name-same j k = same_by_key (name_of j) k (ap name_of (key-name j)) ∙ ap (λ i. eqb i k) (key-name j)

pub length-routines : (rs : List Opened.Routine) → length (latest_first rs) ≡ length rs
unfolding latest_first
length-routines [] = refl
length-routines (r ∷ rs) =
    length-append (latest_first rs) (routine_meaning r ∷ []) ∙ ap (λ n. n + 1) (length-routines rs) ∙ omega arith

-- a routine behind the others is the first of the latest
pub latest_more : (rs : List Opened.Routine) (r : Opened.Routine) → latest_first (rs ++ (r ∷ [])) ≡ routine_meaning r ∷ latest_first rs
unfolding latest_first
latest_more [] r = refl
latest_more (q ∷ rs) r = ap (λ (l : List Routine). l ++ (routine_meaning q ∷ [])) (latest_more rs r)

module _ (key : ℕ) where
  -- a name is among names, labels and routines by its key
  pub names_have : (ks : List ℕ) → is_one_of (map name_of ks) (name_of key) ≡ keys_have key ks
  unfolding any keys_have is_one_of
  names_have [] = refl
  names_have (k ∷ ks) = ap₂ {C = Bool} ◌||◌ (name-same key k) (names_have ks)

  pub labels_have : (ls : List Listed.Label)
      → any (λ (l : Label). same (name_of key) l.name) (map label_meaning ls) ≡ keys_have key (map (λ l. l.key) ls)
  unfolding any keys_have label_meaning
  labels_have [] = refl
  labels_have (l ∷ ls) = ap₂ {C = Bool} ◌||◌ (name-same key l.key) (labels_have ls)

  pub routines_have : (rs : List Opened.Routine)
      → any (λ (r : Routine). same (name_of key) r.name) (latest_first rs) ≡ keys_have key (map (λ r. r.key) rs)
  unfolding any keys_have latest_first routine_meaning
  routines_have [] = refl
  routines_have (r ∷ rs) =
      let test : Routine → Bool = λ q. same (name_of key) q.name in
      any_append test (latest_first rs) (routine_meaning r ∷ [])
      ∙ ap₂ {C = Bool} ◌||◌ (routines_have rs) (or-false (same (name_of key) (name_of r.key)) ∙ name-same key r.key)
      ∙ or_comm (keys_have key (map (λ q. q.key) rs)) (eqb key r.key)

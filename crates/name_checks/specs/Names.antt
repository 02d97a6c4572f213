-- How names are put behind those known one by one, and what tells that one has two purposes. Assumes nothing.
use Rattle.std.specs.Prelude.{Bool, false, cond, ◌||◌, List, [], ◌∷◌, ◌++◌, ◌≡◌, ℕ, ◌+◌, ◌≤◌, ◌<◌, eqb, length, get_or, Result}
use Rattle.std.specs.Bool.{beq}
use Rattle.base.specs.Lists.{same, any}
use Rattle.validation.specs.RefusalNumbers.{judged_number}
use Rattle.validation.specs.Refusals.{has_other_purpose}
use Rattle.validation.specs.declared.Refusal.{Refusal}
use Rattle.syntax.specs.Parsing.{same_purpose, Mention}
use Rattle.symbols.specs.declared.known.Names.{Names}
use Rattle.symbols.specs.declared.tags.Purpose.{Purpose}
use Rattle.symbols.specs.declared.tags.Purpose.TheVariants.{Program}
use Rattle.symbols.specs.Entries.{NameEntry, name_of, purpose_meaning, mention_of, declares_name, gather}
use Rattle.symbols.specs.Holding.{names_in}

-- a name by key and purpose
abbrev pub key_mention : (key : ℕ) (purpose : Purpose) → Mention
key_mention key p = record { purpose = purpose_meaning p; name = name_of key }

-- each name has one purpose
abbrev pub Single : List Mention → Type 0
Single ns = any (has_other_purpose ns) ns ≡ false

-- how a name stands among others: 0 not at all, 1 with its purpose, 2 with another, by the first that has the name
unfoldable pub standing : List Mention → Mention → ℕ
standing [] x = 0
standing (n ∷ ns) x = cond (same x.name n.name) (cond (same_purpose x.purpose n.purpose) 1 2) (standing ns x)

-- a name goes behind the others if none has it
unfoldable pub meet : List Mention → Mention → List Mention
meet ns x = cond (eqb (standing ns x) 0) (ns ++ (x ∷ [])) ns

unfoldable pub enters : List Mention → List Mention → List Mention
enters ns [] = ns
enters ns (x ∷ xs) = enters (meet ns x) xs

-- one of them stands with another purpose
unfoldable pub conflicts : List Mention → List Mention → Bool
conflicts ns [] = false
conflicts ns (x ∷ xs) = eqb (standing ns x) 2 || conflicts (meet ns x) xs

-- the names declared or used by entries
unfoldable pub chosen_by : (declared : Bool) → NameEntry → List Mention
chosen_by declared x = cond (beq (declares_name x) declared) (mention_of x ∷ []) []

abbrev pub chosen_in : (declared : Bool) → List NameEntry → List Mention
chosen_in declared = gather (chosen_by declared)

-- The names xs were put behind those known, which stay. Where one of them stands with another purpose it is told as 6, and the others are put.
pub record Enters (names : Names) (xs : List Mention) (names' : Names) (r : Result (Unit {0}) Refusal) : Type 0 where
  pub clash : judged_number r ≡ cond (conflicts (names_in names) xs) 6 0
  pub so : names_in names' ≡ enters (names_in names) xs
  pub few : names'.count ≤ names.count + length xs
  pub more : names.count ≤ names'.count
  pub keys_kept : (i : ℕ) → i < names.count → get_or names'.keys i 0 ≡ get_or names.keys i 0
  pub purposes_kept : (i : ℕ) → i < names.count → get_or names'.purposes i Program ≡ get_or names.purposes i Program

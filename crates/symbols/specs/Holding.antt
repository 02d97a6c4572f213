-- The symbol table as the environment behind some statements: the names each once with its purpose, and the labels and routines used, each with
-- the routine it is used in. Assumes nothing.
use Rattle.std.specs.Prelude.{false, cond, List, [], ◌∷◌, ◌++◌, map, ◌≡◌, ℕ, zero, suc, ◌+◌, ◌≤◌, length, get_or}
use Rattle.base.specs.Limits as Limits
use Rattle.base.specs.Lists.{any}
use Rattle.validation.specs.Environment as Environment
use Rattle.validation.specs.Environment.{Environment, Use}
use Rattle.validation.specs.Refusals.{has_other_purpose}
use Rattle.syntax.specs.Parsing.{Purpose, for_label, for_routine, same_purpose, Mention}
use Rattle.symbols.specs.declared.known.Names.{Names}
use Rattle.symbols.specs.declared.known.Symbols.{Symbols}
use Rattle.symbols.specs.declared.known.Uses.{Uses}
use Rattle.symbols.specs.declared.tags.Purpose as Kept
use Rattle.symbols.specs.declared.tags.Purpose.TheVariants.{Program}
use Rattle.symbols.specs.Entries.{name_of, purpose_meaning}
use Rattle.symbols.specs.From.{values_from}
use Rattle.symbols.specs.Environment.{string_keys, number_keys, labels_in, routines_in}

-- name i, and n names from i on
unfoldable pub mention_in : (keys : List ℕ) (purposes : List Kept.Purpose) → ℕ → Mention
mention_in keys purposes i = record { purpose = purpose_meaning (get_or purposes i Program); name = name_of (get_or keys i 0) }

abbrev pub names_from : (keys : List ℕ) (purposes : List Kept.Purpose) → (i n : ℕ) → List Mention
names_from keys purposes = values_from (mention_in keys purposes)

unfoldable pub names_in : Names → List Mention
names_in ns = names_from ns.keys ns.purposes 0 ns.count

-- a use by keys and purpose, if it has this purpose
abbrev pub use_with : (purpose : Purpose) → (key scope : ℕ) → Kept.Purpose → List Use
use_with p key scope q = cond (same_purpose p (purpose_meaning q)) (record { name = name_of key; scope = name_of scope } ∷ []) []

-- the uses of one purpose, n of them from i on
unfoldable pub uses_from : (purpose : Purpose) → (keys scopes : List ℕ) (purposes : List Kept.Purpose) → (i n : ℕ) → List Use
uses_from p keys scopes purposes i zero = []
uses_from p keys scopes purposes i (suc n) =
    use_with p (get_or keys i 0) (get_or scopes i 0) (get_or purposes i Program)
    ++ uses_from p keys scopes purposes (suc i) n

unfoldable pub uses_in : Purpose → Uses → List Use
uses_in p us = uses_from p us.keys us.scopes us.purposes 0 us.count

-- a use was noted behind those there
pub record UseNoted (us : Uses) (key scope : ℕ) (q : Kept.Purpose) (us' : Uses) : Type 0 where
  pub few : us'.count ≡ us.count + 1
  pub so : (p : Purpose) → uses_in p us' ≡ uses_in p us ++ use_with p key scope q

-- The table holds k, of which no count passes what 10 allows. There are no more names and uses than bytes of the deck taken.
pub record SymbolsHold (s : Symbols) (taken : ℕ) (k : Environment) : Type 0 where
  pub few_names : s.names.count ≤ taken
  pub few_uses : s.uses.count ≤ taken
  pub few_statements : s.known.statements ≤ Limits.statements
  pub few_steps : s.known.steps ≤ s.known.statements
  pub few_strings : length (string_keys s.known) ≤ Limits.strings
  pub few_numbers : length (number_keys s.known) ≤ Limits.numbers
  pub few_labels : length s.known.labels.items ≤ Limits.labels
  pub few_routines : length s.known.routines.items ≤ Limits.routines
  pub few_elements : s.known.elements ≤ Limits.elements
  pub few_items : s.known.items ≤ Limits.items
  pub few_literals : s.known.literals ≤ Limits.literals
  pub statements : s.known.statements ≡ k.statements
  pub steps : s.known.steps ≡ k.steps
  pub ended : s.known.ended ≡ k.ended
  pub scope : name_of s.known.scope ≡ k.scope
  pub strings : map name_of (string_keys s.known) ≡ Environment.strings_of k
  pub numbers : map name_of (number_keys s.known) ≡ Environment.numbers_of k
  pub names : names_in s.names ≡ k.names
  pub labels : labels_in s.known ≡ k.labels
  pub routines : routines_in s.known ≡ k.routines
  pub branches : uses_in for_label s.uses ≡ k.branches
  pub executes : uses_in for_routine s.uses ≡ k.executes
  pub elements : s.known.elements ≡ k.elements
  pub items : s.known.items ≡ k.items
  pub literals : s.known.literals ≡ k.literals
  -- each name has one purpose
  pub single : any (has_other_purpose k.names) k.names ≡ false

-- What the symbol table shows behind some statements of a deck: the keys of strings and numbers by their places, the labels and routines declared,
-- and the places of the names known. Assumes nothing.
use Rattle.std.specs.List.{list_any}
use Rattle.std.specs.Prelude.{Bool, true, false, ◌||◌, ◌==◌, List, [], ◌∷◌, ◌++◌, map, ℕ, suc, eqb}
use Rattle.validation.specs.Deck.{index_of, step_of, routine_named}
use Rattle.validation.specs.Environment.{Label, Routine}
use Rattle.syntax.specs.Lexemes.{Resolution}
use Rattle.symbols.specs.declared.known.Known.{Known}
use Rattle.symbols.specs.declared.known.Label as Listed
use Rattle.symbols.specs.declared.known.Routine as Opened
use Rattle.symbols.specs.Entries.{name_of}

-- one more of each than 10 allows, so that it can be found
abbrev pub most : ℕ
most = 33

abbrev pub most_labels : ℕ
most_labels = 65

-- the table before the first statement
abbrev pub nothing_known : Known
nothing_known =
    record {
      strings = record { items = [] };
      numbers = record { items = [] };
      labels = record { items = [] };
      routines = record { items = [] };
      statements = 0;
      steps = 0;
      next = 0;
      ended = false;
      scope = 0;
      elements = 0;
      items = 0;
      literals = 0;
    }

abbrev pub string_keys : Known → List ℕ
string_keys known = known.strings.items

abbrev pub number_keys : Known → List ℕ
number_keys known = known.numbers.items

-- the place of a key, how many there are if it is none of them
unfoldable pub key_place : ℕ → List ℕ → ℕ
key_place k [] = 0
key_place k (j ∷ js) = elim (eqb k j) [ true ↦ 0 | false ↦ suc (key_place k js) ]

-- a key is one of others
unfoldable pub keys_have : ℕ → List ℕ → Bool
keys_have k [] = false
keys_have k (j ∷ js) = eqb k j || keys_have k js

-- a routine with this key is declared
abbrev pub has_routine : (known : Known) → (key : ℕ) → Bool
has_routine known key = list_any (λ r. r.key == key) known.routines.items

-- the labels declared
unfoldable pub label_meaning : Listed.Label → Label
label_meaning l = record { name = name_of l.key; step = l.step; scope = name_of l.scope }

unfoldable pub labels_in : Known → List Label
labels_in known = map label_meaning known.labels.items

-- the routines declared, the latest first
unfoldable pub routine_meaning : Opened.Routine → Routine
routine_meaning r = record { name = name_of r.key; entry = r.entry; exit = r.exit }

unfoldable pub latest_first : List Opened.Routine → List Routine
latest_first [] = []
latest_first (r ∷ rs) = latest_first rs ++ (routine_meaning r ∷ [])

unfoldable pub routines_in : Known → List Routine
routines_in known = latest_first known.routines.items

-- the places of the names known
unfoldable pub places_in : Known → Resolution
places_in known =
    record {
      string = λ n. index_of n (map name_of (string_keys known));
      number = λ n. index_of n (map name_of (number_keys known));
      label = step_of (labels_in known);
      entry = λ n. (routine_named (routines_in known) n).entry;
      exit = λ n. (routine_named (routines_in known) n).exit;
      next = known.next;
    }

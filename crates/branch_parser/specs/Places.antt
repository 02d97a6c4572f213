-- Labels and routines found by their keys, and the steps that they lead to. Assumes nothing.
use Rattle.std.specs.Prelude.{Option, Some, None, Bool, true, false, cond, ◌==◌, List, [], ◌∷◌, ◌++◌, map, reverse, ◌≡◌, refl, ℕ}
use Rattle.std.specs.List.{find}
use mathlib.Core.List.{map-append, reverse-append}
use Rattle.std.proofs.Common.{sym, ◌∙◌, ap, arith}
use Rattle.std.proofs.lemmas.Bool.Decides.{nat_tests}
use Rattle.base.specs.Choice.{test_cases}
use Rattle.base.specs.Lists.{same}
use Rattle.validation.specs.Deck.{step_of, routine_named}
use Rattle.validation.specs.Environment as Environment
use Rattle.validation.specs.Environment.{is_one_of}
use Rattle.symbols.specs.Entries.{name_of}
use Rattle.symbols.specs.Environment.{number_keys, label_meaning, labels_in, routine_meaning, latest_first, routines_in, places_in}
use Rattle.symbols.specs.EnvironmentLaws.{name-same}
use Rattle.symbols.specs.declared.known.Known.{Known}
use Rattle.symbols.specs.declared.known.Label as Listed
use Rattle.symbols.specs.declared.known.Routine as Opened
use Rattle.branch_parser.specs.declared.Target.{Target}
use Rattle.branch_parser.specs.declared.Target.TheVariants.{Label, Entry, Exit}

-- whether a name is one of the numbers known
abbrev pub is_number_known : Known → List ℕ → Bool
is_number_known known = is_one_of (map name_of (number_keys known))

-- the step that a name leads to: a label's, behind the ROUTINE of a routine that is executed, behind the ENDROUTINE of one declared
abbrev pub step_to : Known → Target → List ℕ → ℕ
step_to known Label = (places_in known).label
step_to known Entry = (places_in known).entry
step_to known Exit = (places_in known).exit

-- the steps of what is found, 0 for none
abbrev pub step_found : Option Listed.Label → ℕ
step_found (Some l) = l.step
step_found None = 0

abbrev pub entry_found : Option Opened.Routine → ℕ
entry_found (Some r) = r.entry
entry_found None = 0

abbrev pub exit_found : Option Opened.Routine → ℕ
exit_found (Some r) = r.exit
exit_found None = 0

-- the routine found, with nothing but its name for none
abbrev routine_or_none : List ℕ → Option Opened.Routine → Environment.Routine
routine_or_none n (Some r) = routine_meaning r
routine_or_none n None = record { name = n; entry = 0; exit = 0 }

-- the routines, the latest first
latest_is : (rs : List Opened.Routine) → latest_first rs ≡ map routine_meaning (reverse rs)
unfolding latest_first
latest_is [] = refl
latest_is (r ∷ rs) =
    ap (λ (l : List Environment.Routine). l ++ (routine_meaning r ∷ [])) (latest_is rs)
    ∙ sym (ap (map routine_meaning) (reverse-append (r ∷ []) rs) ∙ map-append routine_meaning (reverse rs) (r ∷ []))

module _ (known : Known) (key : ℕ) where
  -- a name is tested by its key
  tested : (k : ℕ) → same (name_of key) (name_of k) ≡ (k == key)
  tested k = name-same key k ∙ grind (arith, nat_tests)

  pub label_place : (ls : List Listed.Label) → step_of (map label_meaning ls) (name_of key) ≡ step_found (find (λ l. l.key == key) ls)
  unfolding step_of label_meaning
  label_place [] = refl
  label_place (l ∷ ls) =
      let other = step_of (map label_meaning ls) (name_of key) in
      ap {B = ℕ} (λ t. elim t [ true ↦ l.step | false ↦ other ]) (tested l.key)
      ∙ test_cases
      (λ t. ◌≡◌ {A = ℕ} (elim t [ true ↦ l.step | false ↦ other ]) (step_found (cond t (Some l) (find (λ l. l.key == key) ls)))) (l.key == key)
      (λ _. refl) (λ _. label_place ls)

  routine_place : (rs : List Opened.Routine)
      → routine_named (map routine_meaning rs) (name_of key) ≡ routine_or_none (name_of key) (find (λ r. r.key == key) rs)
  unfolding routine_named routine_meaning
  routine_place [] = refl
  routine_place (r ∷ rs) =
      let other = routine_named (map routine_meaning rs) (name_of key) in
      ap {B = Environment.Routine} (λ t. elim t [ true ↦ routine_meaning r | false ↦ other ]) (tested r.key)
      ∙ test_cases
      (λ t.
      ◌≡◌ {A = Environment.Routine} (elim t [ true ↦ routine_meaning r | false ↦ other ])
      (routine_or_none (name_of key) (cond t (Some r) (find (λ r. r.key == key) rs))))
      (r.key == key) (λ _. refl) (λ _. routine_place rs)

  latest_named : routine_named (routines_in known) (name_of key)
      ≡ routine_or_none (name_of key) (find (λ r. r.key == key) (reverse known.routines.items))
  unfolding routines_in
  latest_named =
      ap (λ (l : List Environment.Routine). routine_named l (name_of key)) (latest_is known.routines.items)
      ∙ routine_place (reverse known.routines.items)

  -- the step of the label found, and those of the routine found
  pub label_leads : step_found (find (λ l. l.key == key) known.labels.items) ≡ step_to known Label (name_of key)
  unfolding places_in labels_in
  label_leads = sym (label_place known.labels.items)

  abbrev latest : Option Opened.Routine
  latest = find (λ r. r.key == key) (reverse known.routines.items)

  entry_is : (r : Option Opened.Routine) → entry_found r ≡ (routine_or_none (name_of key) r).entry
  unfolding routine_meaning
  entry_is (Some r) = refl
  entry_is None = refl

  exit_is : (r : Option Opened.Routine) → exit_found r ≡ (routine_or_none (name_of key) r).exit
  unfolding routine_meaning
  exit_is (Some r) = refl
  exit_is None = refl

  pub entry_leads : entry_found latest ≡ step_to known Entry (name_of key)
  unfolding places_in
  entry_leads = entry_is latest ∙ ap (λ (q : Environment.Routine). q.entry) (sym latest_named)

  pub exit_leads : exit_found latest ≡ step_to known Exit (name_of key)
  unfolding places_in
  exit_leads = exit_is latest ∙ ap (λ (q : Environment.Routine). q.exit) (sym latest_named)

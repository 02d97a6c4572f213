-- What the readers of labels, routines and branch fields do. Assumes nothing.
use Rattle.encoding.specs.Kinds.{goto_kind, execute_kind}
use Rattle.encoding.specs.Meaning.{branch_meaning}
use Rattle.std.specs.Prelude.{Option, Some, None, true, false, List, [], ◌≡◌, ℕ, drop}
use Rattle.base.specs.Current.{current}
use Rattle.base.specs.Lists.{begins}
use Rattle.base.specs.Text.{bytes}
use Rattle.syntax.specs.Forms.{branch}
use Rattle.syntax.specs.Program as Program
use Rattle.syntax.specs.Parsing.{for_label, for_routine, declaring, usage, Mentions, Parsed, broken, ◌>>=◌, succeed}
use Rattle.syntax.specs.Lexemes.{name_as}
use Rattle.symbols.specs.Environment.{places_in}
use Rattle.symbols.specs.declared.Cursor.{Cursor}
use Rattle.symbols.specs.declared.Mentioned.{Mentioned}
use Rattle.symbols.specs.declared.known.Known.{Known}
use Rattle.symbols.specs.declared.tags.Tag.{Tag}
use Rattle.symbols.specs.declared.tags.Tag.TheVariants.{LabelUsed, RoutineUsed, RoutineDeclared}
use Rattle.numeric_parser.specs.Operands.{Gets}
use Rattle.branch_parser.specs.Places.{is_number_known, step_to}
use Rattle.encoding.specs.declared.cells.Branch.{Branch}
use Rattle.branch_parser.specs.declared.Target.{Target}
use Rattle.branch_parser.specs.declared.Target.TheVariants.{Label, Entry, Exit}

-- a name that leads to a step: its tag, the kind of the row of a step that goes there, and what it is mentioned as
abbrev pub target_tag : Target → Tag
target_tag Label = LabelUsed
target_tag Entry = RoutineUsed
target_tag Exit = RoutineDeclared

abbrev pub target_kind : Target → ℕ
target_kind Label = goto_kind.number
target_kind Entry = execute_kind.number
target_kind Exit = goto_kind.number

abbrev pub met_as : Target → List ℕ → Mentions
met_as Label = usage for_label []
met_as Entry = usage for_routine []
met_as Exit = declaring for_routine

-- such a name by the step it leads to, with the places of these names
unfoldable pub target_in : (known : Known) → Target → List ℕ → Parsed ℕ
target_in known target bs = do
  (n, rest) ← name_as (met_as target) bs
  succeed (step_to known target n) rest

-- a reading answered by a step
abbrev pub TargetAnswer : (text : List ℕ) (m : Mentioned) (c : Cursor) → Parsed ℕ → Option (ℕ × Cursor) → (m' : Mentioned) → Type 0
TargetAnswer text m c x (Some (step, d)) m' = Gets (λ n. n) step text m c x m' d
TargetAnswer text m c x None m' = x ≡ broken

pub record TargetRead (text : List ℕ) (known : Known) (m : Mentioned) (c : Cursor) (target : Target) (r : Option (ℕ × Cursor)) (m' : Mentioned)
    : Type 0 where
  pub answer : TargetAnswer text m c (target_in known target (drop c.at text)) r m'

abbrev pub BranchAnswer : (text : List ℕ) (m : Mentioned) (c : Cursor) → Parsed Program.Branch → Option (Branch × Cursor) → (m' : Mentioned) → Type 0
BranchAnswer text m c x (Some (b, d)) m' = Gets (λ z. z) (branch_meaning b) text m c x m' d
BranchAnswer text m c x None m' = x ≡ broken

pub record BranchingRead (text : List ℕ) (m : Mentioned) (c : Cursor) (x : Parsed Program.Branch) (r : Option (Branch × Cursor)) (m' : Mentioned)
    : Type 0 where
  pub answer : BranchAnswer text m c x r m'

-- a label that is used
abbrev pub label_parser : Known → List ℕ → Parsed ℕ
label_parser known = target_in known Label

-- a label on failure beside a step on success
unfoldable pub failing_to : (known : Known) (success : ℕ) → List ℕ → Parsed Program.Branch
failing_to known s bs = do
  (f, rest) ← label_parser known bs
  succeed (record { success = s; failure = f }) rest

-- a branch field behind its `/`
unfoldable pub targets : (known : Known) → List ℕ → Parsed Program.Branch
targets known bs = elim (begins (bytes ",") bs) [
  | true ↦ failing_to known known.next (drop 1 bs)
  | false ↦ do
    (s, rest) ← label_parser known bs
    elim (begins (bytes ",") rest) as (λ _. Parsed Program.Branch) [
      | true ↦ failing_to known s (drop 1 rest)
      | false ↦ succeed (record { success = s; failure = known.next }) rest
    ]
]

-- each reader of a branch field at the cursor
abbrev pub FailureRead : (text : List ℕ) (known : Known) (m : Mentioned) (c : Cursor) (success : ℕ) → Option (Branch × Cursor)
    → (m' : Mentioned) → Type 0
FailureRead text known m c s = BranchingRead text m c (failing_to known s (drop c.at text))

abbrev pub TargetsRead : (text : List ℕ) (known : Known) (m : Mentioned) (c : Cursor) → Option (Branch × Cursor) → (m' : Mentioned) → Type 0
TargetsRead text known m c = BranchingRead text m c (targets known (drop c.at text))

abbrev pub BranchRead : (text : List ℕ) (known : Known) (m : Mentioned) (c : Cursor) → Option (Branch × Cursor) → (m' : Mentioned) → Type 0
BranchRead text known m c =
    BranchingRead text m c (branch current (is_number_known known) (places_in known) (drop c.at text))

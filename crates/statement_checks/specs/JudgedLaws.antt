-- The number that the code finds and the environment that it leaves are what document 01 says. Assumes nothing.
use Rattle.std.specs.Prelude.{Bool, true, false, ◌&&◌, ◌||◌, ◌≡◌, refl, ℕ, suc, ◌+◌, ◌≤◌, Option, Some, None, Ok}
use Rattle.std.proofs.Math.Bool.{cond, not, or-false}
use Rattle.std.specs.Bool.{beq}
use mathlib.Core.List.{List, [], ◌∷◌, ◌++◌, map}
use Rattle.std.proofs.Math.Path.{sym, ap, ap₂, subst}
use Rattle.std.proofs.Common.{◌∙◌, arith}
use Rattle.std.proofs.Math.Dec.{eqb, ltb}
use Rattle.std.proofs.Math.ListN.{length, take}
use Rattle.std.proofs.lemmas.List.{length-map}
use borrow.Author.Tests.{ltb-false}
use Rattle.base.specs.Choice.{neither_true}
use Rattle.base.specs.Limits as Limits
use Rattle.base.specs.Lists.{same, any}
use Rattle.validation.specs.Environment as Environment
use Rattle.validation.specs.Environment.{
  Environment,
  Label,
  Routine,
  names_for,
  is_one_of,
  with_names,
  labels_at,
  uses_at,
  open_routine,
  close_routine,
  scope_after,
  is_step,
  extend,
}
use Rattle.validation.specs.Refusals.{
  is_declared_before,
  has_other_purpose,
  has_duplicate,
  clashes,
  is6,
  is7,
  is8,
  is9,
  is10,
  mentions_number,
  is_misplaced,
}
use Rattle.syntax.specs.Keywords.{statement_kind_number, same_kind, PROGRAM, END, ROUTINE, ENDROUTINE, RETURN}
use Rattle.lexer.specs.Kinds.{kind_of}
use Rattle.lexer.specs.declared.keywords.Kind.{Kind}
use Rattle.lexer.specs.declared.keywords.Kind.TheVariants.{Number, Program, End, Routine as RoutineKind, EndRoutine, Return}
use Rattle.syntax.specs.Parsing.{for_label, for_routine, for_number, for_string, same_purpose, Mention, Mentions}
use Rattle.symbols.specs.Entries.{NameEntry, name_of, name_from, gather, declared_by, used_by, roles_by, mentions_in}
use Rattle.symbols.specs.From.{length_from}
use Rattle.symbols.specs.Holding.{SymbolsHold, names_in, uses_in}
use Rattle.symbols.specs.Environment.{most, most_labels, string_keys, number_keys, label_meaning, labels_in, routines_in}
use Rattle.symbols.specs.EnvironmentLaws.{name-same, length-routines}
use Rattle.symbols.specs.declared.Cursor.{Cursor}
use Rattle.symbols.specs.declared.Mentioned.{Mentioned}
use Rattle.symbols.specs.declared.known.Known.{Known}
use Rattle.symbols.specs.declared.known.Names.{Names}
use Rattle.symbols.specs.declared.known.Symbols.{Symbols}
use Rattle.name_checks.specs.Shown.{entry_at, entries_from}
use Rattle.name_checks.specs.Declaring.{declared_in, undeclared_in}
use Rattle.name_checks.specs.Judged.{names_of, names_number, NamesEntered}
use Rattle.statement_checks.specs.Counts.{steps_behind, ended_behind, is_over}
use Rattle.statement_checks.specs.Cuts.{cut_whole, cut_over}
use Rattle.statement_checks.specs.Judged.{Tallied}
use Rattle.statement_checks.specs.Labels.{labels_by}
use Rattle.statement_checks.specs.Extending.{wrong_in, Extended}
use Rattle.statement_checks.specs.Routines.{routine_names, Opens, with_opened, routines_behind, scope_behind}
use Rattle.statement_checks.specs.Uses.{uses_by}

-- 6, 7 or 8 with what comes behind them
pick_some : (a b c : Bool) (rest n : ℕ) → n ≡ cond a 6 (cond b 7 (cond c 8 0)) → (n ≡ 0 → ⊥) → n ≡ cond a 6 (cond b 7 (cond c 8 rest))
pick_some true b c rest n e f = e
pick_some false true c rest n e f = e
pick_some false false true rest n e f = e
pick_some false false false rest n e f = absurd (f e)

pick_none : (a b c : Bool) (rest n : ℕ) → n ≡ cond a 6 (cond b 7 (cond c 8 0)) → n ≡ 0 → rest ≡ cond a 6 (cond b 7 (cond c 8 rest))
pick_none true b c rest n e f = absurd (omega arith)
pick_none false true c rest n e f = absurd (omega arith)
pick_none false false true rest n e f = absurd (omega arith)
pick_none false false false rest n e f = refl

-- what is declared, of lists of labels, routines and numbers
abbrev declared_with : List Label → List Routine → List (List ℕ) → Mention → Bool
declared_with ls rs ns n =
    (same_purpose n.purpose for_label && any (λ (l : Label). same n.name l.name) ls)
    || ((same_purpose n.purpose for_routine && any (λ (r : Routine). same n.name r.name) rs)
    || (same_purpose n.purpose for_number && is_one_of ns n.name))

-- the routines, the scope, the steps and END behind a statement of a kind
module _ (k : Environment) (names : List (List ℕ)) where
  next : k.steps + 1 ≡ suc k.steps
  next = omega arith

  opened_is : (o : Option ℕ) → Opens names o → with_opened k.steps k.routines o ≡ open_routine k names
  unfolding open_routine
  opened_is None p = sym (ap (open_routine k) p.is)
  opened_is (Some key) p =
      ap (λ n. record { name = name_of key; entry = n; exit = 0 } ∷ k.routines) next ∙ sym (ap (open_routine k) p.is)

  routines-are : (o : Option ℕ) (kind : Kind) → Opens names o
      → routines_behind k.steps k.routines o kind
      ≡ cond (same_kind (kind_of kind) ENDROUTINE) (close_routine (suc k.steps) k.routines) (open_routine k names)
  unfolding routines_behind same_kind statement_kind_number
  routines-are o EndRoutine p = ap (λ n. close_routine n k.routines) next
  routines-are o _ p = opened_is o p

  scope-is : (s : ℕ) (o : Option ℕ) (kind : Kind) → Opens names o → name_of (scope_behind s o kind) ≡ scope_after (kind_of kind) names (name_of s)
  unfolding scope_after scope_behind same_kind statement_kind_number name_of name_from
  scope-is s (Some key) kind p = sym (ap (λ l. scope_after (kind_of kind) l (name_of s)) p.is)
  scope-is s None EndRoutine p = sym (ap (λ l. scope_after ENDROUTINE l (name_of s)) p.is)
  scope-is s None kind p = sym (ap (λ l. scope_after (kind_of kind) l (name_of s)) p.is)

steps-is : (s : ℕ) (kind : Kind) → steps_behind s kind ≡ cond (is_step (kind_of kind)) (suc s) s
unfolding steps_behind is_step same_kind statement_kind_number
steps-is s Program = refl
steps-is s Number = refl
steps-is s _ = omega arith

steps_few : (s : ℕ) (kind : Kind) → steps_behind s kind ≤ s + 1
unfolding steps_behind
steps_few s Program = omega arith
steps_few s Number = omega arith
steps_few s _ = omega arith

ended_is : (kind : Kind) → ended_behind kind ≡ same_kind (kind_of kind) END
unfolding ended_behind same_kind statement_kind_number
ended_is End = refl
ended_is _ = refl

-- 9, by whether the scope is empty
wrong_is : (kind : Kind) (scope : ℕ)
    → (((same_kind (kind_of kind) ROUTINE || same_kind (kind_of kind) END) && not (eqb scope 0))
    || ((same_kind (kind_of kind) RETURN || same_kind (kind_of kind) ENDROUTINE) && eqb scope 0))
    ≡ wrong_in kind scope
unfolding wrong_in same_kind statement_kind_number
wrong_is RoutineKind scope = or-false (not (eqb scope 0))
wrong_is End scope = or-false (not (eqb scope 0))
wrong_is Return scope = refl
wrong_is EndRoutine scope = refl
wrong_is _ scope = refl

module _ (s : Symbols) (taken : ℕ) (k : Environment) (h : SymbolsHold s taken k) (kind : Kind) where
  abbrev known : Known
  known = s.known

  -- 4 and 9
  pub misplaced : is_misplaced k (kind_of kind) ≡ (not (beq (eqb known.statements 0) (same_kind (kind_of kind) PROGRAM)) || known.ended)
  unfolding is_misplaced
  misplaced = sym (ap₂ {C = Bool} (λ n e. not (beq (eqb n 0) (same_kind (kind_of kind) PROGRAM)) || e) h.statements h.ended)

  pub wrong : is9 k (kind_of kind) ≡ wrong_in kind known.scope
  unfolding is9 name_of name_from
  wrong =
      let named = kind_of kind in
      let outside : same k.scope [] ≡ eqb known.scope 0 = ap (λ (s : List ℕ). same s []) (sym h.scope) ∙ name-same known.scope 0 in
      ap
      (λ b.
      ((same_kind named ROUTINE || same_kind named END) && not b) || ((same_kind named RETURN || same_kind named ENDROUTINE) && b)) outside
      ∙ wrong_is kind known.scope

  -- 6, 7 and 8
  module _ (es : List NameEntry) (items : ℕ) (rows : List ℕ) (literals : ℕ) where
    abbrev m : Mentions
    m = mentions_in es items rows literals

    names_number_lem : names_number known (names_in s.names) es ≡ cond (is6 k m) 6 (cond (is7 k m) 7 (cond (is8 m) 8 0))
    unfolding names_number is6 is7 is8 is_declared_before declared_in undeclared_in mentions_in
    names_number_lem =
        λ t.
        let new = names_of es in
        let ns = h.numbers t in
        cond
        (any (has_other_purpose (h.names t ++ new)) new
        || (any (declared_with (h.labels t) (h.routines t) ns) (gather declared_by es) || has_duplicate (gather declared_by es)))
        6
        (cond (any (λ (n : Mention). same_purpose n.purpose for_number && not (is_one_of ns n.name)) (gather used_by es)) 7
        (cond (clashes [] [] (gather roles_by es)) 8 0))

    -- 10 of the environment behind the statement
    abbrev ten : ℕ
    ten = cond (is10 (extend k (kind_of kind) m) m) 10 0

    abbrev rest : ℕ
    rest = cond (is9 k (kind_of kind)) 9 ten

    module _ (n : ℕ) (names : n ≡ names_number known (names_in s.names) es) where
      pub number_some : (n ≡ 0 → ⊥) → n ≡ mentions_number k (kind_of kind) m
      unfolding mentions_number
      number_some f = pick_some (is6 k m) (is7 k m) (is8 m) rest n (names ∙ names_number_lem) f

      number_none : n ≡ 0 → rest ≡ mentions_number k (kind_of kind) m
      unfolding mentions_number
      number_none f = pick_none (is6 k m) (is7 k m) (is8 m) rest n (names ∙ names_number_lem) f

      pub number_nine : n ≡ 0 → wrong_in kind known.scope ≡ true → 9 ≡ mentions_number k (kind_of kind) m
      number_nine f w = ap (λ t. cond t 9 ten) (sym (wrong ∙ w)) ∙ number_none f

      pub number_rest : n ≡ 0 → wrong_in kind known.scope ≡ false → ten ≡ mentions_number k (kind_of kind) m
      number_rest f w = ap (λ t. cond t 9 ten) (sym (wrong ∙ w)) ∙ number_none f

-- the table with the names of a statement
abbrev pub with_names_of : Symbols → Names → Symbols
with_names_of s names = record { known = s.known; names = names; uses = s.uses }

-- behind a statement by which the environment is extended
module _ (s : Symbols) (taken : ℕ) (k : Environment) (h : SymbolsHold s taken k) (kind : Kind) (m : Mentioned) (c : Cursor)
    (items : ℕ) (rows : List ℕ) (literals : ℕ) (counts : Tallied k c items rows literals) (names' : Names)
    (names : NamesEntered s.known s.names (entries_from m 0 c.names) names' (Ok tt))
    (s' : Symbols) (l : Extended (with_names_of s names') (entries_from m 0 c.names) c kind s') where
  abbrev known' : Known
  known' = s'.known

  abbrev es : List NameEntry
  es = entries_from m 0 c.names

  abbrev met : Mentions
  met = mentions_in es items rows literals

  abbrev behind : Environment
  behind = extend k (kind_of kind) met

  names_are : names_in names' ≡ behind.names
  unfolding extend mentions_in
  names_are = names.extended ∙ ap (λ l. with_names l (names_of es)) h.names

  labels_are : labels_in s.known ++ labels_by s.known.steps (name_of s.known.scope) es ≡ behind.labels
  unfolding extend mentions_in labels_at labels_by
  labels_are =
      λ t.
      h.labels t
      ++ map (λ (n : List ℕ). record { name = n; step = h.steps t; scope = h.scope t }) (names_for for_label (gather declared_by es))

  routines_are : routines_in known' ≡ behind.routines
  unfolding extend mentions_in routine_names
  routines_are =
      l.routines
      ∙ ap₂ {C = List Routine} (λ n (rs : List Routine). routines_behind n rs l.opened kind) h.steps h.routines
      ∙ routines-are k (routine_names es) l.opened kind l.opens

  uses_are : (uses_in for_label s'.uses ≡ behind.branches) × (uses_in for_routine s'.uses ≡ behind.executes)
  unfolding extend mentions_in uses_at uses_by
  uses_are = (
    l.used.branches
        ∙ (λ t. h.branches t ++ map (λ (n : List ℕ). record { name = n; scope = h.scope t }) (names_for for_label (gather used_by es))),
    l.used.executes
        ∙ (λ t. h.executes t ++ map (λ (n : List ℕ). record { name = n; scope = h.scope t }) (names_for for_routine (gather used_by es))),
  )

  statements_are : known'.statements ≡ behind.statements
  unfolding extend
  statements_are = omega (arith, l.statements, h.statements)

  elements_are : known'.elements ≡ behind.elements
  unfolding extend mentions_in
  elements_are = l.elements ∙ counts.element_count

  items_are : known'.items ≡ behind.items
  unfolding extend mentions_in
  items_are = l.items ∙ counts.item_count

  literals_are : known'.literals ≡ behind.literals
  unfolding extend mentions_in
  literals_are = l.literals ∙ counts.literal_count

  -- names, and labels, are cut one behind what 10 allows
  strings_cut : map name_of (string_keys known') ≡ take most (Environment.strings_of behind)
  unfolding Environment.strings_of names_in
  strings_cut = l.strings ∙ ap (λ ns. take most (names_for for_string ns)) names_are

  numbers_cut : map name_of (number_keys known') ≡ take most (Environment.numbers_of behind)
  unfolding Environment.numbers_of names_in
  numbers_cut = l.numbers ∙ ap (λ ns. take most (names_for for_number ns)) names_are

  labels_cut : labels_in known' ≡ take most_labels behind.labels
  labels_cut = l.labels ∙ ap (take most_labels) labels_are

  string-count : length (string_keys known') ≡ length (take most (Environment.strings_of behind))
  string-count = sym (length-map (string_keys known') name_of) ∙ ap length strings_cut

  number-count : length (number_keys known') ≡ length (take most (Environment.numbers_of behind))
  number-count = sym (length-map (number_keys known') name_of) ∙ ap length numbers_cut

  label-count : length known'.labels.items ≡ length (take most_labels behind.labels)
  unfolding labels_in
  label-count = sym (length-map known'.labels.items label_meaning) ∙ ap length labels_cut

  routine-count : length known'.routines.items ≡ length behind.routines
  unfolding routines_in
  routine-count = sym (length-routines known'.routines.items) ∙ ap length routines_are

  -- 10
  pub over_is : is_over known' c.longest ≡ is10 behind met
  unfolding is_over is10 mentions_in
  over_is =
      let ss = ap (ltb Limits.strings) string-count ∙ cut_over Limits.strings (Environment.strings_of behind) in
      let ns = ap (ltb Limits.numbers) number-count ∙ cut_over Limits.numbers (Environment.numbers_of behind) in
      let ls = ap (ltb Limits.labels) label-count ∙ cut_over Limits.labels behind.labels in
      λ t.
      ltb Limits.statements (statements_are t)
      || (ss t
      || (ns t
      || (ls t
      || (ltb Limits.routines (routine-count t)
      || (counts.longest_row t
      || (ltb Limits.elements (elements_are t) || (ltb Limits.items (items_are t) || ltb Limits.literals (literals_are t))))))))

  scope_names : scope_after (kind_of kind) (routine_names es) (name_of s.known.scope) ≡ behind.scope
  unfolding extend mentions_in routine_names
  scope_names = ap (scope_after (kind_of kind) (names_for for_routine (gather declared_by es))) h.scope

  -- where 10 does not apply the table holds the environment behind the statement
  pub extended_holds : is_over known' c.longest ≡ false → (taken' : ℕ) → taken + c.names ≤ taken' → SymbolsHold s' taken' behind
  unfolding is_over extend mentions_in
  extended_holds none taken' room =
      let p₁ = neither_true (ltb Limits.statements known'.statements) _ none in
      let p₂ = neither_true (ltb Limits.strings (length (string_keys known'))) _ p₁.1 in
      let p₃ = neither_true (ltb Limits.numbers (length (number_keys known'))) _ p₂.1 in
      let p₄ = neither_true (ltb Limits.labels (length known'.labels.items)) _ p₃.1 in
      let p₅ = neither_true (ltb Limits.routines (length known'.routines.items)) _ p₄.1 in
      let p₆ = neither_true (ltb Limits.row_elements c.longest) _ p₅.1 in
      let p₇ = neither_true (ltb Limits.elements known'.elements) _ p₆.1 in
      let p₈ = neither_true (ltb Limits.items known'.items) _ p₇.1 in
      let entry_size = length_from (entry_at m.keys m.tags) 0 c.names in
      let strings = ltb-false Limits.strings (length (string_keys known')) p₂.0 in
      let numbers = ltb-false Limits.numbers (length (number_keys known')) p₃.0 in
      let labels = ltb-false Limits.labels (length known'.labels.items) p₄.0 in
      record {
        few_names = omega (arith, ap (λ (n : Names). n.count) l.names, names.few, h.few_names, entry_size);
        few_uses = omega (arith, l.used.few, h.few_uses, entry_size);
        few_statements = ltb-false Limits.statements known'.statements p₁.0;
        few_steps = omega (arith, l.steps, l.statements, steps_few s.known.steps kind, h.few_steps);
        few_strings = strings;
        few_numbers = numbers;
        few_labels = labels;
        few_routines = ltb-false Limits.routines (length known'.routines.items) p₅.0;
        few_elements = ltb-false Limits.elements known'.elements p₇.0;
        few_items = ltb-false Limits.items known'.items p₈.0;
        few_literals = ltb-false Limits.literals known'.literals p₈.1;
        statements = statements_are;
        steps = l.steps ∙ steps-is s.known.steps kind ∙ ap (λ n. cond (is_step (kind_of kind)) (suc n) n) h.steps;
        ended = l.ended ∙ ended_is kind;
        scope = ap name_of l.scope ∙ scope-is k (routine_names es) s.known.scope l.opened kind l.opens ∙ scope_names;
        strings = strings_cut ∙ cut_whole most (Environment.strings_of behind) (omega (arith, string-count));
        numbers = numbers_cut ∙ cut_whole most (Environment.numbers_of behind) (omega (arith, number-count));
        names = ap names_in l.names ∙ names_are;
        labels = labels_cut ∙ cut_whole most_labels behind.labels (omega (arith, label-count));
        routines = routines_are;
        branches = uses_are.0;
        executes = uses_are.1;
        elements = elements_are;
        items = items_are;
        literals = literals_are;
        single = subst (λ ns. any (has_other_purpose ns) ns ≡ false) names_are names.single;
      }

-- What the symbol table holds is what it shows; before the first statement that is nothing; entries noted stand among the names mentioned.
-- Assumes nothing.
use Rattle.std.specs.Prelude.{List, [], ◌∷◌, ◌++◌, map, ◌≡◌, refl, ℕ, ◌≤◌, length}
use Rattle.std.proofs.Common.{sym, ap, ap₂, ◌∙◌, arith}
use Rattle.base.specs.Lists.{any, keep}
use Rattle.encoding.specs.Splices.{splice}
use Rattle.validation.specs.Environment as Environment
use Rattle.validation.specs.Environment.{Environment, empty_environment, names_for}
use Rattle.validation.specs.Refusals.{has_other_purpose}
use Rattle.symbols.specs.declared.Mentioned.{Mentioned}
use Rattle.symbols.specs.declared.known.Known.{Known}
use Rattle.symbols.specs.declared.known.Symbols.{Symbols}
use Rattle.symbols.specs.declared.tags.Tag.{Tag}
use Rattle.symbols.specs.Entries.{NameEntry, entry, name_of, name_from}
use Rattle.symbols.specs.From.{values_from}
use Rattle.symbols.specs.Holding.{SymbolsHold, names_in, uses_in, uses_from}
use Rattle.symbols.specs.Environment.{nothing_known, labels_in, routines_in, latest_first}
use Rattle.name_checks.specs.Shown.{environment_in, entry_at, entries_from}
use Rattle.name_checks.specs.ShownLaws.{from-behind}

-- what is held is what is shown
pub held-shown : (s : Symbols) (taken : ℕ) (k : Environment) → SymbolsHold s taken k → environment_in s ≡ k
unfolding environment_in
held-shown s taken k h =
    λ t.
    record {
      statements = h.statements t;
      steps = h.steps t;
      ended = h.ended t;
      scope = h.scope t;
      names = h.names t;
      labels = h.labels t;
      routines = h.routines t;
      branches = h.branches t;
      executes = h.executes t;
      elements = h.elements t;
      items = h.items t;
      literals = h.literals t;
    }

-- so what is shown is held, and with more bytes taken
pub shown-held : (s : Symbols) (taken more : ℕ) (k : Environment) → taken ≤ more → SymbolsHold s taken k → SymbolsHold s more (environment_in s)
shown-held s taken more k le h =
    let is = sym (held-shown s taken k h) in
    record {
      few_names = omega (arith, h.few_names);
      few_uses = omega (arith, h.few_uses);
      few_statements = h.few_statements;
      few_steps = h.few_steps;
      few_strings = h.few_strings;
      few_numbers = h.few_numbers;
      few_labels = h.few_labels;
      few_routines = h.few_routines;
      few_elements = h.few_elements;
      few_items = h.few_items;
      few_literals = h.few_literals;
      statements = h.statements ∙ ap (λ (k : Environment). k.statements) is;
      steps = h.steps ∙ ap (λ (k : Environment). k.steps) is;
      ended = h.ended ∙ ap (λ (k : Environment). k.ended) is;
      scope = h.scope ∙ ap (λ (k : Environment). k.scope) is;
      strings = h.strings ∙ ap Environment.strings_of is;
      numbers = h.numbers ∙ ap Environment.numbers_of is;
      names = h.names ∙ ap (λ (k : Environment). k.names) is;
      labels = h.labels ∙ ap (λ (k : Environment). k.labels) is;
      routines = h.routines ∙ ap (λ (k : Environment). k.routines) is;
      branches = h.branches ∙ ap (λ (k : Environment). k.branches) is;
      executes = h.executes ∙ ap (λ (k : Environment). k.executes) is;
      elements = h.elements ∙ ap (λ (k : Environment). k.elements) is;
      items = h.items ∙ ap (λ (k : Environment). k.items) is;
      literals = h.literals ∙ ap (λ (k : Environment). k.literals) is;
      single = ap (λ (k : Environment). any (has_other_purpose k.names) k.names) (sym is) ∙ h.single;
    }

-- before the first statement nothing is held
pub nothing_held : (s : Symbols) → s.known ≡ nothing_known → s.names.count ≡ 0 → s.uses.count ≡ 0 → SymbolsHold s 0 empty_environment
unfolding empty_environment names_in uses_in values_from uses_from labels_in routines_in latest_first name_of name_from Environment.strings_of
    Environment.numbers_of names_for keep any
nothing_held s known names uses =
    let count = λ (f : Known → ℕ). ap f known in
    record {
      few_names = omega (arith, names);
      few_uses = omega (arith, uses);
      few_statements = omega (arith, count (λ k. k.statements));
      few_steps = omega (arith, count (λ k. k.steps));
      few_strings = omega (arith, count (λ k. length k.strings.items));
      few_numbers = omega (arith, count (λ k. length k.numbers.items));
      few_labels = omega (arith, count (λ k. length k.labels.items));
      few_routines = omega (arith, count (λ k. length k.routines.items));
      few_elements = omega (arith, count (λ k. k.elements));
      few_items = omega (arith, count (λ k. k.items));
      few_literals = omega (arith, count (λ k. k.literals));
      statements = count (λ k. k.statements);
      steps = count (λ k. k.steps);
      ended = ap (λ (k : Known). k.ended) known;
      scope = ap (λ (k : Known). name_of k.scope) known;
      strings = ap (λ (k : Known). map name_of k.strings.items) known;
      numbers = ap (λ (k : Known). map name_of k.numbers.items) known;
      names = rw names;
      labels = ap labels_in known;
      routines = ap routines_in known;
      branches = rw uses;
      executes = rw uses;
      elements = count (λ k. k.elements);
      items = count (λ k. k.items);
      literals = count (λ k. k.literals);
      single = refl;
    }

-- entries that stand first are those there
entries-first : (es : List NameEntry) (keys : List ℕ) (tags : List Tag)
    → entries_from (record { keys = map (λ x. x.key) es ++ keys; tags = map (λ x. x.tag) es ++ tags }) 0 (length es) ≡ es
unfolding values_from entry
entries-first [] keys tags = refl
entries-first (e ∷ es) keys tags =
    ap (λ (fs : List NameEntry). e ∷ fs)
    (from-behind (entry_at (map (λ x. x.key) (e ∷ es) ++ keys) (map (λ x. x.tag) (e ∷ es) ++ tags))
    (entry_at (map (λ x. x.key) es ++ keys) (map (λ x. x.tag) es ++ tags)) 0 (length es) (λ j. refl)
    ∙ entries-first es keys tags)

-- entries noted from the beginning on are those there
pub entries-noted : (m m' : Mentioned) (es : List NameEntry) → m'.keys ≡ splice m.keys 0 (map (λ x. x.key) es)
    → m'.tags ≡ splice m.tags 0 (map (λ x. x.tag) es) → entries_from m' 0 (length es) ≡ es
unfolding splice
entries-noted m m' es p q =
    ap₂ (λ (ks : List ℕ) (ts : List Tag). entries_from (record { keys = ks; tags = ts }) 0 (length es)) p q ∙ entries-first es _ _

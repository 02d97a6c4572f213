-- Labels noted one by one. Assumes nothing.
use Rattle.std.specs.Prelude.{◌≡◌, ℕ, ◌+◌, ◌≤◌}
use mathlib.Core.List.{List, [], ◌∷◌, ◌++◌, map, append-nil, append_assoc}
use Rattle.std.proofs.Math.Path.{ap}
use Rattle.std.proofs.Math.ListN.{length, take}
use Rattle.std.proofs.Common.{sym, ◌∙◌, arith, take_all}
use Rattle.std.proofs.lemmas.List.{length-map}
use Rattle.base.specs.Lists.{keep}
use Rattle.validation.specs.Environment.{Label, names_for}
use Rattle.syntax.specs.Parsing.{for_label}
use Rattle.symbols.specs.Entries.{NameEntry, name_of, gather, declared_by}
use Rattle.symbols.specs.From.{values_from, from_last}
use Rattle.symbols.specs.Environment.{label_meaning, most_labels}
use Rattle.symbols.specs.declared.known.Label as Listed
use Rattle.name_checks.specs.declared.entries.Entries.{Entries}
use Rattle.name_checks.specs.Shown.{entry_in, entries_to}
use Rattle.statement_checks.specs.Cuts.{cut_next}
use Rattle.statement_checks.specs.Labels.{labels_by, Labelled}
use Rattle.statement_checks.specs.NamesFor.{made_append}

labels_append : (step : ℕ) (scope : List ℕ) (es fs : List NameEntry)
    → labels_by step scope (es ++ fs) ≡ labels_by step scope es ++ labels_by step scope fs
unfolding labels_by
labels_append step scope es fs = made_append (λ n. record { name = n; step = step; scope = scope }) declared_by for_label es fs

module _ (ls : List Listed.Label) (step scope : ℕ) (m : Entries) where
  abbrev labels_to : ℕ → List Label
  labels_to i = map label_meaning ls ++ labels_by step (name_of scope) (entries_to m i)

  pub labels_none : length ls ≤ most_labels → Labelled ls step scope (entries_to m 0) ls
  unfolding labels_by gather names_for keep values_from
  labels_none few =
      let before = map label_meaning ls in
      sym (ap (take most_labels) (append-nil before) ∙ take_all most_labels before (omega (arith, length-map ls label_meaning)))

  -- the entry that comes at place i declares a label, or none
  module _ (i : ℕ) (x : NameEntry) (at : x ≡ entry_in m i) (ls₁ : List Listed.Label) (noted : Labelled ls step scope (entries_to m i) ls₁) where
    abbrev here : List Label
    here = labels_by step (name_of scope) (x ∷ [])

    next : labels_to (i + 1) ≡ labels_to i ++ here
    next =
        let before = map label_meaning ls in
        let by = labels_by step (name_of scope) in
        let es = entries_to m i in
        ap (λ fs. before ++ by fs) (from_last (entry_in m) i ∙ ap (λ (y : NameEntry). es ++ (y ∷ [])) (sym at))
        ∙ ap (λ l. before ++ l) (labels_append step (name_of scope) es (x ∷ []))
        ∙ sym (append_assoc before (by es) here)

    pub labels_more : (l : Listed.Label) (ls₂ : List Listed.Label) → here ≡ label_meaning l ∷ [] → ls₂ ≡ take most_labels (ls₁ ++ (l ∷ []))
        → Labelled ls step scope (entries_to m (i + 1)) ls₂
    labels_more l ls₂ one is =
        cut_next most_labels label_meaning ls₁ ls₂ (labels_to i) l noted is
        ∙ ap (take most_labels) (ap (λ r. labels_to i ++ r) (sym one) ∙ sym next)

    pub labels_same : here ≡ [] → Labelled ls step scope (entries_to m (i + 1)) ls₁
    labels_same none = noted ∙ ap (take most_labels) (sym (next ∙ ap (λ r. labels_to i ++ r) none ∙ append-nil (labels_to i)))

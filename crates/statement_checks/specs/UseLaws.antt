-- Uses noted one by one. Assumes nothing.
use Rattle.std.specs.Prelude.{List, [], ◌∷◌, ◌++◌, ◌≡◌, refl, ℕ, ◌+◌, ◌⊎◌}
use Rattle.std.proofs.Common.{append-nil, append_assoc, arith, length-append}
use Rattle.std.proofs.Common.{◌∙◌, ap, subst, inl, inr}
use Rattle.std.proofs.Math.Path.{sym}
use Rattle.base.specs.Lists.{keep}
use Rattle.validation.specs.Environment.{Use, names_for}
use Rattle.syntax.specs.Parsing.{Purpose, for_label, for_routine, purpose_number, same_purpose}
use Rattle.symbols.specs.Entries.{NameEntry, entry, name_of, purpose_meaning, tag_purpose, tag_declares, declares_name, mention_of, gather, used_by}
use Rattle.symbols.specs.From.{values_from, from_last}
use Rattle.symbols.specs.Holding.{use_with, uses_in, UseNoted}
use Rattle.symbols.specs.declared.known.Uses.{Uses}
use Rattle.symbols.specs.declared.tags.Purpose as Kept
use Rattle.symbols.specs.declared.tags.Tag.{Tag}
use Rattle.symbols.specs.declared.tags.Tag.TheVariants.{LabelUsed, RoutineUsed}
use Rattle.name_checks.specs.declared.entries.Entries.{Entries}
use Rattle.name_checks.specs.Shown.{entry_in, entries_to}
use Rattle.statement_checks.specs.NamesFor.{made_append}
use Rattle.statement_checks.specs.Uses.{uses_by, Used}

-- what is noted of a use, by its tag
module _ (us us' : Uses) (key scope : ℕ) (q : Kept.Purpose) (n : UseNoted us key scope q us') where
  tagged : (tag : Tag) → (tag ≡ LabelUsed) ⊎ (tag ≡ RoutineUsed)
      → (use_with for_label key scope (tag_purpose tag) ≡ uses_by (name_of scope) for_label (entry key tag ∷ []))
      × (use_with for_routine key scope (tag_purpose tag) ≡ uses_by (name_of scope) for_routine (entry key tag ∷ []))
  unfolding uses_by gather used_by declares_name mention_of entry tag_declares tag_purpose purpose_meaning names_for keep same_purpose purpose_number
  tagged tag (inl e) = rw e (refl, refl)
  tagged tag (inr e) = rw e (refl, refl)

  pub used_one : (tag : Tag) → q ≡ tag_purpose tag → (tag ≡ LabelUsed) ⊎ (tag ≡ RoutineUsed) → Used us scope (entry key tag ∷ []) us'
  used_one tag is on =
      let by = tagged tag on in
      record {
        few = omega (arith, n.few);
        branches = n.so for_label ∙ ap (λ l. uses_in for_label us ++ l) (ap (use_with for_label key scope) is ∙ by.0);
        executes = n.so for_routine ∙ ap (λ l. uses_in for_routine us ++ l) (ap (use_with for_routine key scope) is ∙ by.1);
      }

-- a name that is no label or routine used
uses_none : (key scope : ℕ) (tag : Tag) → (tag ≡ LabelUsed → ⊥) → (tag ≡ RoutineUsed → ⊥)
    → (uses_by (name_of scope) for_label (entry key tag ∷ []) ≡ []) × (uses_by (name_of scope) for_routine (entry key tag ∷ []) ≡ [])
unfolding uses_by gather used_by declares_name mention_of entry tag_declares tag_purpose purpose_meaning names_for keep same_purpose purpose_number
uses_none key scope LabelUsed e f = absurd (e refl)
uses_none key scope RoutineUsed e f = absurd (f refl)
uses_none key scope _ e f = (refl, refl)

pub used_none : (us : Uses) (key scope : ℕ) (tag : Tag) → (tag ≡ LabelUsed → ⊥) → (tag ≡ RoutineUsed → ⊥) → Used us scope (entry key tag ∷ []) us
used_none us key scope tag e f =
    let none = uses_none key scope tag e f in
    record {
      few = omega arith;
      branches = sym (ap (λ l. uses_in for_label us ++ l) none.0 ∙ append-nil (uses_in for_label us));
      executes = sym (ap (λ l. uses_in for_routine us ++ l) none.1 ∙ append-nil (uses_in for_routine us));
    }

uses_append : (scope : List ℕ) (p : Purpose) (es fs : List NameEntry) → uses_by scope p (es ++ fs) ≡ uses_by scope p es ++ uses_by scope p fs
unfolding uses_by
uses_append scope p es fs = made_append (λ n. record { name = n; scope = scope }) used_by p es fs

-- the entries one by one
module _ (us : Uses) (scope : ℕ) (m : Entries) where
  pub uses_start : Used us scope (entries_to m 0) us
  unfolding values_from uses_by gather names_for keep
  uses_start =
      record {
        few = omega arith;
        branches = sym (append-nil (uses_in for_label us));
        executes = sym (append-nil (uses_in for_routine us));
      }

  -- behind the entry that comes at place i
  pub uses_next : (i : ℕ) (x : NameEntry) → x ≡ entry_in m i → (us₁ us₂ : Uses) → Used us scope (entries_to m i) us₁ → Used us₁ scope (x ∷ []) us₂
      → Used us scope (entries_to m (i + 1)) us₂
  uses_next i x at us₁ us₂ u v =
      let es = entries_to m i in
      let longer = length-append es (x ∷ []) in
      subst (λ l. Used us scope l us₂) (sym (from_last (entry_in m) i ∙ ap (λ y. es ++ (y ∷ [])) (sym at)))
      (record {
        few = omega (arith, u.few, v.few);
        branches = step for_label u.branches v.branches;
        executes = step for_routine u.executes v.executes;
      })
    where
      step : (p : Purpose) → uses_in p us₁ ≡ uses_in p us ++ uses_by (name_of scope) p (entries_to m i)
          → uses_in p us₂ ≡ uses_in p us₁ ++ uses_by (name_of scope) p (x ∷ [])
          → uses_in p us₂ ≡ uses_in p us ++ uses_by (name_of scope) p (entries_to m i ++ (x ∷ []))
      step p a b =
          let by = uses_by (name_of scope) p in
          b
          ∙ ap (λ (l : List Use). l ++ by (x ∷ [])) a
          ∙ append_assoc (uses_in p us) (by (entries_to m i)) (by (x ∷ []))
          ∙ ap (λ (l : List Use). uses_in p us ++ l) (sym (uses_append (name_of scope) p (entries_to m i) (x ∷ [])))

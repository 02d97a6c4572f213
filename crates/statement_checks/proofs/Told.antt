-- The code's tests of kinds, tags and purposes, and what they tell. Assumes nothing.
use Rattle.std.specs.Prelude.{true, false, cond, List, [], ◌∷◌, map, ◌≡◌, refl, ℕ, get_or}
use Rattle.std.proofs.Common.{ap, ◌∙◌}
use denote.Enum.Bare.{sameb}
use Rattle.base.specs.Choice.{test_cases}
use Rattle.base.specs.Lists.{keep}
use Rattle.validation.specs.Environment.{names_for}
use Rattle.lexer.specs.Kinds.{kind_of}
use Rattle.lexer.specs.contracts.keywords.Kind as Stated
use Rattle.lexer.specs.declared.keywords.Kind.{Kind}
use Rattle.lexer.specs.declared.keywords.Kind.TheVariants.{End, Program as ProgramKind}
use Rattle.syntax.specs.Keywords.{statement_kind_number, same_kind, PROGRAM}
use Rattle.syntax.specs.Parsing.{purpose_number, same_purpose, Mention}
use Rattle.symbols.specs.Entries.{entry, name_of, purpose_meaning, tag_purpose, tag_declares, declares_name, mention_of, gather, declared_by}
use Rattle.symbols.specs.Environment.{label_meaning}
use Rattle.symbols.specs.Holding.{mention_in}
use Rattle.symbols.specs.contracts.tags.Purpose as Kept
use Rattle.symbols.specs.contracts.tags.Tag.{the_type}
use Rattle.symbols.specs.declared.known.Label as Listed
use Rattle.symbols.specs.declared.tags.Purpose.{Purpose}
use Rattle.symbols.specs.declared.tags.Purpose.TheVariants.{Program, Label, Routine, Number, String}
use Rattle.symbols.specs.declared.tags.Tag.{Tag}
use Rattle.symbols.specs.declared.tags.Tag.TheVariants.{LabelDeclared, RoutineDeclared}
use Rattle.statement_checks.specs.Counts.{ended_behind}
use Rattle.statement_checks.specs.Labels.{labels_by}
use Rattle.statement_checks.specs.ListingLaws.{shows_more, shows_same}
use Rattle.statement_checks.specs.Routines.{declares_routine}

-- an entry declares a label, or a routine
module _ (step scope key : ℕ) where
  abbrev label : Listed.Label
  label = record { key = key; step = step; scope = scope }

  label_told : (t : Tag) → labels_by step (name_of scope) (entry key t ∷ []) ≡ cond (sameb the_type t LabelDeclared) (label_meaning label ∷ []) []
  unfolding label_meaning labels_by gather declared_by declares_name mention_of entry tag_declares tag_purpose purpose_meaning
      names_for keep same_purpose purpose_number
  label_told LabelDeclared = refl
  label_told _ = refl

  pub label_here : (t : Tag) → sameb the_type t LabelDeclared ≡ true → labels_by step (name_of scope) (entry key t ∷ []) ≡ label_meaning label ∷ []
  label_here t e = label_told t ∙ ap (λ b. cond b (label_meaning label ∷ []) []) e

  pub label_other : (t : Tag) → sameb the_type t LabelDeclared ≡ false → labels_by step (name_of scope) (entry key t ∷ []) ≡ []
  label_other t e = label_told t ∙ ap (λ b. cond b (label_meaning label ∷ []) []) e

pub routine_tag : (t : Tag) → sameb the_type t RoutineDeclared ≡ declares_routine t
unfolding declares_routine
routine_tag RoutineDeclared = refl
routine_tag _ = refl

-- a name has a purpose
purpose_told : (q p : Purpose) → same_purpose (purpose_meaning p) (purpose_meaning q) ≡ sameb Kept.the_type q p
unfolding same_purpose purpose_number purpose_meaning
purpose_told Program Program = refl
purpose_told Label Label = refl
purpose_told Routine Routine = refl
purpose_told Number Number = refl
purpose_told String String = refl
purpose_told _ _ = refl

module _ (keys : List ℕ) (purposes : List Purpose) (i : ℕ) (p : Purpose) where
  abbrev one : List (List ℕ)
  one = name_of (get_or keys i 0) ∷ []

  name_told : names_for (purpose_meaning p) (mention_in keys purposes i ∷ []) ≡ cond (sameb Kept.the_type (get_or purposes i Program) p) one []
  unfolding names_for keep mention_in
  name_told =
      let test = same_purpose (purpose_meaning p) (purpose_meaning (get_or purposes i Program)) in
      test_cases
      (λ t. ◌≡◌ {A = List (List ℕ)} (map (λ (n : Mention). n.name) (elim t [ true ↦ mention_in keys purposes i ∷ [] | false ↦ [] ])) (cond t one []))
      test (λ _. refl) (λ _. refl)
      ∙ ap (λ t. cond t one []) (purpose_told (get_or purposes i Program) p)

  pub name_here : sameb Kept.the_type (get_or purposes i Program) p ≡ true → names_for (purpose_meaning p) (mention_in keys purposes i ∷ []) ≡ one
  name_here e = name_told ∙ ap (λ t. cond t one []) e

  pub name_other : sameb Kept.the_type (get_or purposes i Program) p ≡ false → names_for (purpose_meaning p) (mention_in keys purposes i ∷ []) ≡ []
  name_other e = name_told ∙ ap (λ t. cond t one []) e

-- a kind is END, or PROGRAM
pub end_told : (k : Kind) → sameb Stated.the_type k End ≡ ended_behind k
unfolding ended_behind
end_told End = refl
end_told _ = refl

pub program_told : (k : Kind) → sameb Stated.the_type k ProgramKind ≡ same_kind (kind_of k) PROGRAM
unfolding same_kind statement_kind_number
program_told ProgramKind = refl
program_told _ = refl

-- what the loop over names cites
pub ruleset names_told = (shows_more, shows_same, name_here, name_other)

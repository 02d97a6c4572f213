-- Names of a purpose noted one by one. Assumes nothing.
use Rattle.std.specs.Prelude.{◌≡◌, ℕ, ◌+◌}
use mathlib.Core.List.{List, [], ◌∷◌, ◌++◌, append-nil}
use Rattle.std.proofs.Math.Path.{ap}
use Rattle.std.proofs.Math.ListN.{take}
use Rattle.std.proofs.Common.{sym, ◌∙◌}
use Rattle.validation.specs.Environment.{names_for}
use Rattle.syntax.specs.Parsing.{Purpose}
use Rattle.symbols.specs.Entries.{name_of}
use Rattle.symbols.specs.From.{from_last}
use Rattle.symbols.specs.Holding.{mention_in, names_from}
use Rattle.symbols.specs.declared.known.Names.{Names}
use Rattle.statement_checks.specs.Cuts.{cut_next}
use Rattle.statement_checks.specs.Listing.{ShowsNames}
use Rattle.statement_checks.specs.NamesFor.{names_append}

module _ (most : ℕ) (ns : Names) (i : ℕ) (p : Purpose) (ks : List ℕ) (shows : ShowsNames most ns i p ks) where
  abbrev before : List (List ℕ)
  before = names_for p (names_from ns.keys ns.purposes 0 i)

  next : names_for p (names_from ns.keys ns.purposes 0 (i + 1)) ≡ before ++ names_for p (mention_in ns.keys ns.purposes i ∷ [])
  next =
      ap (names_for p) (from_last (mention_in ns.keys ns.purposes) i)
      ∙ names_append p (names_from ns.keys ns.purposes 0 i) (mention_in ns.keys ns.purposes i ∷ [])

  -- one more name with the purpose, and one with another
  pub shows_more : (key : ℕ) (ks' : List ℕ) → names_for p (mention_in ns.keys ns.purposes i ∷ []) ≡ name_of key ∷ []
      → ks' ≡ take most (ks ++ (key ∷ [])) → ShowsNames most ns (i + 1) p ks'
  shows_more key ks' one is =
      cut_next most name_of ks ks' before key shows is ∙ ap (take most) (ap (λ l. before ++ l) (sym one) ∙ sym next)

  pub shows_same : names_for p (mention_in ns.keys ns.purposes i ∷ []) ≡ [] → ShowsNames most ns (i + 1) p ks
  shows_same none = shows ∙ ap (take most) (sym (next ∙ ap (λ l. before ++ l) none ∙ append-nil before))

-- Names of one purpose, and what is made of those that entries mention, go through `++`. Assumes nothing.
use Rattle.std.specs.Prelude.{Bool, ◌≡◌}
use mathlib.Core.List.{List, ◌++◌, map, map-append}
use Rattle.std.proofs.Math.Path.{ap}
use Rattle.std.proofs.Common.{ℕ, ◌∙◌}
use Rattle.base.specs.ListLaws.{keep_append}
use Rattle.base.specs.Lists.{keep}
use Rattle.validation.specs.Environment.{names_for}
use Rattle.syntax.specs.Parsing.{Purpose, same_purpose, Mention}
use Rattle.symbols.specs.Entries.{NameEntry, gather}
use Rattle.symbols.specs.EntryLaws.{gather_append}

pub names_append : (p : Purpose) (xs ys : List Mention) → names_for p (xs ++ ys) ≡ names_for p xs ++ names_for p ys
unfolding names_for
names_append p xs ys =
    let test : Mention → Bool = λ n. same_purpose p n.purpose in
    ap (map (λ (n : Mention). n.name)) (keep_append test xs ys) ∙ map-append (λ (n : Mention). n.name) (keep test xs) (keep test ys)

pub made_append : {B : Type 0} (make : List ℕ → B) (g : NameEntry → List Mention) (p : Purpose) (es fs : List NameEntry)
    → map make (names_for p (gather g (es ++ fs))) ≡ map make (names_for p (gather g es)) ++ map make (names_for p (gather g fs))
made_append make g p es fs =
    ap (λ ns. map make (names_for p ns)) (gather_append g es fs)
    ∙ ap (map make) (names_append p (gather g es) (gather g fs))
    ∙ map-append make (names_for p (gather g es)) (names_for p (gather g fs))

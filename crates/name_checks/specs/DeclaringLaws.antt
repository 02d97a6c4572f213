-- What is declared, by key and purpose. Assumes nothing.
use Rattle.std.specs.Prelude.{Bool, false, cond, ◌≡◌, ℕ, ◌+◌}
use Rattle.std.proofs.Math.Bool.{not, ◌&&◌, ◌||◌, or-false, and_comm}
use mathlib.Core.List.{[], ◌∷◌, map}
use Rattle.std.proofs.Math.Path.{refl, ap}
use Rattle.std.proofs.Common.{◌∙◌}
use Rattle.std.proofs.Math.Dec.{eqb}
use Rattle.base.specs.Choice.{test_cases}
use Rattle.base.specs.Lists.{same, any}
use Rattle.validation.specs.Environment.{same_mention}
use Rattle.syntax.specs.Parsing.{purpose_number, same_purpose, for_number, Mention}
use Rattle.name_checks.specs.declared.entries.Entries.{Entries}
use Rattle.symbols.specs.declared.known.Known.{Known}
use Rattle.symbols.specs.declared.tags.Purpose.{Purpose}
use Rattle.symbols.specs.declared.tags.Purpose.TheVariants.{Program, Label, Routine, Number, String}
use Rattle.symbols.specs.declared.tags.Tag.{Tag}
use Rattle.symbols.specs.Entries.{entry, name_of, purpose_meaning, tag_purpose, tag_declares, mention_of, declares_name, gather, declared_by, used_by}
use Rattle.symbols.specs.Environment.{labels_in, routines_in, number_keys, keys_have}
use Rattle.symbols.specs.EnvironmentLaws.{name-same, names_have, labels_have, routines_have}
use Rattle.name_checks.specs.Shown.{key_in, tag_in, entries_left}
use Rattle.name_checks.specs.Declaring.{declared_in, undeclared_in, again_at}
use Rattle.name_checks.specs.NameLaws.{eqb_sym}
use Rattle.name_checks.specs.Names.{key_mention}

-- an entry declares a name
pub declares_is : (key : ℕ) (p : Purpose) (k : ℕ) (tag : Tag)
    → any (same_mention (key_mention key p)) (declared_by (entry k tag))
    ≡ (tag_declares tag && (eqb k key && same_purpose (purpose_meaning p) (purpose_meaning (tag_purpose tag))))
unfolding any same_mention declared_by declares_name mention_of entry
declares_is key p k tag =
    let purposes = same_purpose (purpose_meaning p) (purpose_meaning (tag_purpose tag)) in
    test_cases (λ t. any (same_mention (key_mention key p)) (cond t (key_mention k (tag_purpose tag) ∷ []) []) ≡ (t && (eqb k key && purposes)))
    (tag_declares tag)
    (λ _.
    or-false (purposes && same (name_of key) (name_of k))
    ∙ ap (λ b. purposes && b) (name-same key k ∙ eqb_sym key k)
    ∙ and_comm purposes (eqb k key))
    (λ _. refl)

-- a name is declared before
unfoldable pub declared_key : Known → (key : ℕ) → Purpose → Bool
declared_key known key Program = false
declared_key known key Label = keys_have key (map (λ l. l.key) known.labels.items)
declared_key known key Routine = keys_have key (map (λ r. r.key) known.routines.items)
declared_key known key Number = keys_have key (number_keys known)
declared_key known key String = false

pub declared_is : (known : Known) (key : ℕ) (p : Purpose) → declared_in known (key_mention key p) ≡ declared_key known key p
unfolding declared_in declared_key labels_in routines_in same_purpose purpose_number purpose_meaning
declared_is known key Program = refl
declared_is known key Label = or-false _ ∙ labels_have key known.labels.items
declared_is known key Routine = or-false _ ∙ routines_have key known.routines.items
declared_is known key Number = names_have key (number_keys known)
declared_is known key String = refl

-- an entry uses a number that is not declared
pub lacks_is : (known : Known) (key : ℕ) (tag : Tag)
    → any (undeclared_in known) (used_by (entry key tag))
    ≡ ((not (tag_declares tag) && same_purpose (purpose_meaning (tag_purpose tag)) for_number) && not (keys_have key (number_keys known)))
unfolding any undeclared_in used_by declares_name mention_of entry
lacks_is known key tag =
    let number = same_purpose (purpose_meaning (tag_purpose tag)) for_number in
    let x = key_mention key (tag_purpose tag) in
    test_cases
    (λ t. any (undeclared_in known) (cond t [] (x ∷ [])) ≡ ((not t && number) && not (keys_have key (number_keys known))))
    (tag_declares tag) (λ _. refl) (λ _. or-false (undeclared_in known x) ∙ ap (λ b. number && not b) (names_have key (number_keys known)))

-- an entry declares a name again
pub again_is : (f : Mention → Bool) (m : Entries) (i : ℕ)
    → again_at f m i
    ≡ (tag_declares (tag_in m i)
    && (f (key_mention (key_in m i) (tag_purpose (tag_in m i)))
    || any (same_mention (key_mention (key_in m i) (tag_purpose (tag_in m i)))) (gather declared_by (entries_left m (i + 1)))))
unfolding again_at declares_name mention_of entry
again_is f m i =
    let name = key_mention (key_in m i) (tag_purpose (tag_in m i)) in
    let twice = f name || any (same_mention name) (gather declared_by (entries_left m (i + 1))) in
    test_cases (λ t. cond t twice false ≡ (t && twice)) (tag_declares (tag_in m i)) (λ _. refl) (λ _. refl)

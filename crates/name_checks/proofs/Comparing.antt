-- What the code compares: purposes, tags, keys.
-- Assumes nothing.
use Rattle.std.proofs.Common.{Bool, List, [], ◌∷◌, map, ◌≡◌, refl, ℕ, eqb, ap₂}
use Rattle.std.proofs.Math.Bool.{not, ◌&&◌, ◌||◌}
use Rattle.std.specs.List.{list_any}
use denote.Enum.Bare.{sameb}
use Rattle.symbols.specs.contracts.tags.Purpose as Compared
use Rattle.symbols.specs.contracts.tags.Tag as Noted
use Rattle.symbols.specs.declared.tags.Purpose.{Purpose}
use Rattle.symbols.specs.declared.tags.Purpose.TheVariants.{Program, Label, Routine, Number, String}
use Rattle.symbols.specs.declared.tags.Tag.{Tag}
use Rattle.symbols.specs.declared.tags.Tag.TheVariants.{NumberUsed}
use Rattle.symbols.specs.Entries.{purpose_meaning, tag_purpose, tag_declares}
use Rattle.symbols.specs.Environment.{keys_have}
use Rattle.syntax.specs.Parsing.{purpose_number, same_purpose, for_number}
use Rattle.name_checks.specs.NameLaws.{eqb_sym}

-- two purposes are equal where they mean the same
pub purposes_same : (p q : Purpose) → sameb Compared.the_type q p ≡ same_purpose (purpose_meaning p) (purpose_meaning q)
unfolding same_purpose purpose_number purpose_meaning
purposes_same Program Program = refl
purposes_same Label Label = refl
purposes_same Routine Routine = refl
purposes_same Number Number = refl
purposes_same String String = refl
purposes_same _ _ = refl

-- the tag of a number used
pub number_told : (t : Tag)
    → sameb Noted.the_type t NumberUsed ≡ (not (tag_declares t) && same_purpose (purpose_meaning (tag_purpose t)) for_number)
unfolding same_purpose purpose_number purpose_meaning tag_purpose tag_declares
number_told NumberUsed = refl
number_told _ = refl

-- a key is one of those listed
pub key_listed : {A : Type 0} (f : A → ℕ) (key : ℕ) (xs : List A) → list_any (λ x. eqb (f x) key) xs ≡ keys_have key (map f xs)
unfolding keys_have
key_listed f key [] = refl
key_listed f key (x ∷ xs) = ap₂ {C = Bool} ◌||◌ (eqb_sym (f x) key) (key_listed f key xs)

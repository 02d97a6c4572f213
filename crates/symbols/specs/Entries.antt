-- Names mentioned, in order of time, as a key and a tag each, and what 6, 7 and 8 judge of them. Assumes nothing.
use Rattle.std.specs.Prelude.{Bool, true, false, cond, Option, Some, None, List, [], ◌∷◌, ◌++◌, ℕ, zero, suc, ◌/◌, ◌%◌, eqb}
use Rattle.syntax.specs.Parsing.{
  Purpose,
  for_program,
  for_label,
  for_routine,
  for_number,
  for_string,
  Mention,
  Role,
  reference,
  sought,
  filler,
  Mentions,
}
use Rattle.symbols.specs.declared.tags.Purpose as Kept
use Rattle.symbols.specs.declared.tags.Purpose.TheVariants.{Program, Label, Routine, Number, String}
use Rattle.symbols.specs.declared.tags.Role as Held
use Rattle.symbols.specs.declared.tags.Role.TheVariants.{Reference, Sought, Filler}
use Rattle.symbols.specs.declared.tags.Tag.{Tag}
use Rattle.symbols.specs.declared.tags.Tag.TheVariants.{
  ProgramDeclared,
  LabelDeclared,
  RoutineDeclared,
  NumberDeclared,
  LabelUsed,
  RoutineUsed,
  NumberUsed,
  StringUsed,
  ReferenceUsed,
  SoughtUsed,
  FillerUsed,
}

-- a name by its key, with what it is mentioned as
pub record NameEntry : Type 0 where
  pub key : ℕ
  pub tag : Tag

unfoldable pub entry : ℕ → Tag → NameEntry
entry k t = record { key = k; tag = t }

-- the name that a key shows; there are no more bytes than the key says
unfoldable pub name_from : (most key : ℕ) → List ℕ
name_from zero k = []
name_from (suc m) k = elim (eqb k 0) [ true ↦ [] | false ↦ k % 256 ∷ name_from m (k / 256) ]

unfoldable pub name_of : ℕ → List ℕ
name_of k = name_from k k

-- the purpose that the code's stands for
unfoldable pub purpose_meaning : Kept.Purpose → Purpose
purpose_meaning Program = for_program
purpose_meaning Label = for_label
purpose_meaning Routine = for_routine
purpose_meaning Number = for_number
purpose_meaning String = for_string

-- what a tag says: purpose, whether declared, role
unfoldable pub tag_purpose : Tag → Kept.Purpose
tag_purpose ProgramDeclared = Program
tag_purpose LabelDeclared = Label
tag_purpose RoutineDeclared = Routine
tag_purpose NumberDeclared = Number
tag_purpose LabelUsed = Label
tag_purpose RoutineUsed = Routine
tag_purpose NumberUsed = Number
tag_purpose StringUsed = String
tag_purpose ReferenceUsed = String
tag_purpose SoughtUsed = String
tag_purpose FillerUsed = String

unfoldable pub tag_declares : Tag → Bool
tag_declares ProgramDeclared = true
tag_declares LabelDeclared = true
tag_declares RoutineDeclared = true
tag_declares NumberDeclared = true
tag_declares LabelUsed = false
tag_declares RoutineUsed = false
tag_declares NumberUsed = false
tag_declares StringUsed = false
tag_declares ReferenceUsed = false
tag_declares SoughtUsed = false
tag_declares FillerUsed = false

unfoldable pub tag_roles : Tag → List ℕ → List Role
tag_roles ProgramDeclared n = []
tag_roles LabelDeclared n = []
tag_roles RoutineDeclared n = []
tag_roles NumberDeclared n = []
tag_roles LabelUsed n = []
tag_roles RoutineUsed n = []
tag_roles NumberUsed n = []
tag_roles StringUsed n = []
tag_roles ReferenceUsed n = reference n ∷ []
tag_roles SoughtUsed n = sought n ∷ []
tag_roles FillerUsed n = filler n ∷ []

-- a string's tag and what it says of a name, by its role if it has one
unfoldable pub string_tag : Option Held.Role → Tag
string_tag None = StringUsed
string_tag (Some Reference) = ReferenceUsed
string_tag (Some Sought) = SoughtUsed
string_tag (Some Filler) = FillerUsed

unfoldable pub role_of : Option Held.Role → List ℕ → List Role
role_of None n = []
role_of (Some Reference) n = reference n ∷ []
role_of (Some Sought) n = sought n ∷ []
role_of (Some Filler) n = filler n ∷ []

unfoldable pub mention_of : NameEntry → Mention
mention_of x = record { purpose = purpose_meaning (tag_purpose x.tag); name = name_of x.key }

unfoldable pub declares_name : NameEntry → Bool
declares_name x = tag_declares x.tag

-- what each entry mentions, one after the other
unfoldable pub gather : {A : Type 0} → (NameEntry → List A) → List NameEntry → List A
gather f [] = []
gather f (x ∷ xs) = f x ++ gather f xs

unfoldable pub declared_by : NameEntry → List Mention
declared_by x = cond (declares_name x) (mention_of x ∷ []) []

unfoldable pub used_by : NameEntry → List Mention
used_by x = cond (declares_name x) [] (mention_of x ∷ [])

unfoldable pub roles_by : NameEntry → List Role
roles_by x = tag_roles x.tag (name_of x.key)

-- what was mentioned: these names, so many items, rows of elements and literal bytes
unfoldable pub mentions_in : List NameEntry → ℕ → List ℕ → ℕ → Mentions
mentions_in es items rows literals =
    record {
      declared = gather declared_by es;
      used = gather used_by es;
      items = items;
      rows = rows;
      literals = literals;
      roles = gather roles_by es;
    }

-- The numbers of the kinds of rows and of what the scan call turns down, for code. Call says the same of a row and of a call. Assumes nothing.
use Rattle.std.specs.Prelude.{cond, ℕ, eqb, Option, Some, None}
use Rattle.scanning.specs.declared.RowKind as Kind
use Rattle.scanning.specs.declared.RowKind.{RowKind}
use Rattle.scanning.specs.declared.Refusal as Refused
use Rattle.scanning.specs.declared.Refusal.{Refusal}

-- the number that a row has for its kind
abbrev pub row_kind_number : RowKind → ℕ
row_kind_number Kind.TheVariants.String = 1
row_kind_number Kind.TheVariants.Fixed = 2
row_kind_number Kind.TheVariants.Free = 3

-- the kind by its number
abbrev pub row_kind_of : ℕ → Option RowKind
row_kind_of n =
    cond (eqb n 1) (Some Kind.TheVariants.String)
    (cond (eqb n 2) (Some Kind.TheVariants.Fixed)
    (cond (eqb n 3) (Some Kind.TheVariants.Free)
    None))

-- document 01: Q22 "the reference exceeds 1,024 bytes", Q23 "The pattern has over 20 elements", Q24
abbrev pub refusal_number : Refusal → ℕ
refusal_number Refused.TheVariants.LongReference = 22
refusal_number Refused.TheVariants.ManyElements = 23
refusal_number Refused.TheVariants.NoElement = 24

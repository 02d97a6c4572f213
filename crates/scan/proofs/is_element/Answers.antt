-- `scan::is_element` tells whether a row is an element: its kind is known, and what it holds lies within.
use mathlib.Core.Bool.{Bool, true, ◌&&◌}
use mathlib.Core.List.{List}
use mathlib.Core.Path.{◌≡◌, refl, sym, ◌∙◌, ap}
use Prim.Native.Nat.{ℕ, ◌<◌}
use native.Mathlib.Omega.{arith}
use lib.Dec.{leb}
use lib.ListN.{length, get_or}
use borrow.Author.Tests.{le-leb, lt-leb}
use Rattle.std.specs.Prelude.{Option}
use Rattle.std.specs.Option.{is_some}
use Rattle.scanning.specs.Kinds.{row_kind_of}
use Rattle.scanning.specs.declared.RowKind.{RowKind}
use Rattle.scan.specs.declared.Element.{Element}
use Rattle.scan.specs.Rows.{scan_row_at, is_element, RowGood}
use Rattle.scan.proofs.Calls.{lies, row_is, element_good}
use Rattle.scan.proofs.is_element.Goals as goal

-- both parts of the test
both : (values row : List ℕ) {o : Option RowKind} {e : Element} → length row ≡ 12 → o ≡ row_kind_of (get_or row 0 0) → e ≡ scan_row_at row 0
    → (is_some o && lies values e) ≡ is_element values row
unfolding is_element
both values row size kind element = rw (kind, element) (sym (row_is values row 0 (omega arith)))

-- the second alone, where the kind is known
known : (values row : List ℕ) {o : Option RowKind} {e e' : Element} {b : Bool} → length row ≡ 12 → o ≡ row_kind_of (get_or row 0 0)
    → e ≡ scan_row_at row 0 → b ≡ is_some o → b ≡ true → e ≡ e' → lies values e' ≡ is_element values row
known values row {o} {e} {e'} size kind element is_known holds is =
    ap (λ (t : Bool). t && lies values e') (sym holds ∙ is_known) ∙ ap (λ x. is_some o && lies values x) (sym is) ∙ both values row size kind element

-- and the element is good
with_good : (values row : List ℕ) → length row ≡ 12 → ((i : ℕ) → get_or row i 0 < 256) → {b : Bool} → b ≡ is_element values row
    → (b ≡ is_element values row) × (b ≡ true → RowGood values (scan_row_at row 0))
with_good values row size bytes told = (told, λ is. element_good values row size bytes (sym told ∙ is))

pub returns-then-from-to : goal.returns-then-from-to
unfolding lies
returns-then-from-to c =
    let a = c.args in
    with_good a.values.now a.row.now c.told-row c.fits-row
    (ap (λ (t : Bool). t && leb c.in-Part.to (length a.values.now)) (sym (le-leb _ _ c.if-from-to.true))
    ∙ known a.values.now a.row.now c.told-row c.of.ensures c.row_element.ensures c.is_some.ensures c.if-is_some.true c.in-Part.is)

pub returns-else-from-to : goal.returns-else-from-to
unfolding lies
returns-else-from-to c =
    let a = c.args in
    let not = lt-leb c.in-Part.from c.in-Part.to c.if-from-to.false in
    with_good a.values.now a.row.now c.told-row c.fits-row
    (not
    ∙ ap (λ (t : Bool). t && leb c.in-Part.to (length a.values.now)) (sym not)
    ∙ known a.values.now a.row.now c.told-row c.of.ensures c.row_element.ensures c.is_some.ensures c.if-is_some.true c.in-Part.is)

pub returns-in-Fixed : goal.returns-in-Fixed
unfolding lies
returns-in-Fixed c =
    let a = c.args in
    with_good a.values.now a.row.now c.told-row c.fits-row
    (known a.values.now a.row.now c.told-row c.of.ensures c.row_element.ensures c.is_some.ensures c.if-is_some.true c.in-Fixed.is)

pub returns-in-Free : goal.returns-in-Free
unfolding lies
returns-in-Free c =
    let a = c.args in
    with_good a.values.now a.row.now c.told-row c.fits-row
    (known a.values.now a.row.now c.told-row c.of.ensures c.row_element.ensures c.is_some.ensures c.if-is_some.true c.in-Free.is)

pub returns-else-is_some : goal.returns-else-is_some
returns-else-is_some c =
    let a = c.args in
    let no = sym c.is_some.ensures ∙ c.if-is_some.false in
    with_good a.values.now a.row.now c.told-row c.fits-row
    (c.if-is_some.false
    ∙ ap (λ (t : Bool). t && lies a.values.now (scan_row_at a.row.now 0)) (sym no)
    ∙ both a.values.now a.row.now c.told-row c.of.ensures refl)

-- The code's enums, as the program's own types, given the table's bytes. Assumes nothing.
use Rattle.std.specs.Prelude as Prelude
use Rattle.std.specs.Prelude.{Some, None, List, ℕ, ◌-◌, take, drop}
use Rattle.std.proofs.Math.Option.{Option, none, some}
use Rattle.syntax.specs.Program as Program
use Rattle.encoding.specs.TableReading.{read_items, read_elements, read_pattern}
use Rattle.numbers.specs.Numbers.{comparison_meaning}
use Rattle.decoder.specs.declared.Length.{Length}
use Rattle.decoder.specs.declared.Length.TheVariants as lengths
use Rattle.decoder.specs.declared.Part.{Part}
use Rattle.decoder.specs.declared.Part.TheVariants.{Whole, First}
use Rattle.decoder.specs.declared.Operand.{Operand}
use Rattle.decoder.specs.declared.Operand.TheVariants as operands
use Rattle.decoder.specs.declared.Operator.{Operator}
use Rattle.decoder.specs.declared.Operator.TheVariants.{Plus, Minus, Times, Over}
use Rattle.decoder.specs.declared.Sign.{Sign}
use Rattle.decoder.specs.declared.Sign.TheVariants.{Positive, Negative}
use Rattle.decoder.specs.declared.Item.{Item}
use Rattle.decoder.specs.declared.Item.TheVariants as items
use Rattle.decoder.specs.declared.Element.{Element}
use Rattle.decoder.specs.declared.Element.TheVariants as elements
use Rattle.decoder.specs.declared.PatternElement.{PatternElement}
use Rattle.decoder.specs.declared.PatternElement.TheVariants.{Value, Free, Fixed}
use Rattle.encoding.specs.Meaning.{branch_meaning, direction_meaning}
use Rattle.decoder.specs.declared.Stretch.{Stretch}
use Rattle.decoder.specs.declared.If.{If}
use Rattle.decoder.specs.declared.Statement.{Statement}
use Rattle.decoder.specs.declared.Statement.TheVariants as statements

abbrev pub length_meaning : Length → Program.Length
length_meaning (lengths.Constant z) = Program.constantly z.value
length_meaning (lengths.Number i) = Program.numbered i

abbrev pub part_meaning : Part → Program.Part
part_meaning (Whole s) = Program.whole s
part_meaning (First s n) = Program.first s (length_meaning n)

abbrev pub operand_meaning : Operand → Program.Operand
operand_meaning (operands.Constant z) = Program.constant z.value
operand_meaning (operands.Number i) = Program.variable i
operand_meaning (operands.LengthOf s) = Program.length_of s
operand_meaning (operands.NumberOf p) = Program.number_of (part_meaning p)

abbrev pub operator_meaning : Operator → Program.Operator
operator_meaning Plus = Program.plus
operator_meaning Minus = Program.minus
operator_meaning Times = Program.times
operator_meaning Over = Program.over

abbrev pub sign_meaning : Sign → Program.Sign
sign_meaning Positive = Program.positive
sign_meaning Negative = Program.negative

abbrev pub item_meaning : Item → Program.Item
item_meaning (items.Operand a) = Program.operand (operand_meaning a)
item_meaning (items.Operator o) = Program.operator (operator_meaning o)
item_meaning (items.Sign s) = Program.sign (sign_meaning s)

-- a literal is the bytes between its ends
abbrev pub element_meaning : List ℕ → Element → Program.Element
element_meaning t (elements.Literal from to) = Program.literal (take (to - from) (drop from t))
element_meaning t (elements.Part p) = Program.part (part_meaning p)
element_meaning t (elements.Text n m) = Program.string_call (length_meaning n) m

abbrev pub pattern_meaning : List ℕ → PatternElement → Program.PatternElement
pattern_meaning t (Value x) = Program.value (element_meaning t x)
pattern_meaning t (Free s) = Program.free_filler s
pattern_meaning t (Fixed s n) = Program.fixed_filler s (length_meaning n)

-- the items or elements of a stretch
abbrev pub items_meaning : List ℕ → Stretch → List Program.Item
items_meaning t s = read_items t s.from s.count

abbrev pub elements_meaning : List ℕ → Stretch → List Program.Element
elements_meaning t s = read_elements t s.from s.count

abbrev pub patterns_meaning : List ℕ → Stretch → List Program.PatternElement
patterns_meaning t s = read_pattern t s.from s.count

-- what an IF of two operands asks
abbrev pub if_meaning : If → Program.Test
if_meaning x = Program.compares (operand_meaning x.left) (comparison_meaning x.sign) (operand_meaning x.right)

abbrev pub replacement_meaning : List ℕ → Prelude.Option Stretch → Option (List Program.Element)
replacement_meaning t None = none
replacement_meaning t (Some s) = some (elements_meaning t s)

abbrev pub statement_meaning : List ℕ → Statement → Program.Statement
statement_meaning t (statements.SetNumber i s) = Program.set_number i (items_meaning t s)
statement_meaning t (statements.SetString p s) = Program.set_string (part_meaning p) (elements_meaning t s)
statement_meaning t (statements.Goto k) = Program.goto k
statement_meaning t statements.Finish = Program.finish
statement_meaning t (statements.IfNull s b) = Program.if_test (Program.is_null s) (branch_meaning b)
statement_meaning t (statements.IfNumeric p b) = Program.if_test (Program.is_numeric (part_meaning p)) (branch_meaning b)
statement_meaning t (statements.If x b) = Program.if_test (if_meaning x) (branch_meaning b)
statement_meaning t (statements.Scan x) =
    Program.scan (direction_meaning x.direction) (part_meaning x.part) (patterns_meaning t x.pattern)
    (replacement_meaning t x.replacement) (branch_meaning x.branch)
statement_meaning t (statements.Read p b) = Program.read (part_meaning p) (branch_meaning b)
statement_meaning t (statements.Write s) = Program.write (elements_meaning t s)
statement_meaning t (statements.Execute k) = Program.execute k
statement_meaning t statements.Return = Program.return

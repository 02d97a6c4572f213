-- `statement_parser::read_form` goes by the kind of the statement.
use mathlib.Core.List.{List}
use mathlib.Core.Path.{◌≡◌, refl, ap}
use Prim.Native.Nat.{ℕ}
use native.Mathlib.Omega.{arith}
use lib.ListN.{drop}
use Rattle.base.specs.Current.{current}
use Rattle.branch_parser.specs.Places.{is_number_known}
use Rattle.encoding.specs.Kinds.{finish_kind, return_kind}
use Rattle.encoding.specs.Table.{statement_row, elements_of, items_of, no_cell}
use Rattle.syntax.specs.Forms.{form_of}
use Rattle.syntax.specs.Keywords.{StatementKind, REPLACEMENT, NUMBER, PROGRAM, END, GOTO, EXIT, IF, SCAN, BACKSCAN, READ, WRITE, PRINT}
use Rattle.syntax.specs.Keywords.{ROUTINE, EXECUTE, ENDROUTINE, RETURN, UNKNOWN}
use Rattle.syntax.specs.Program.{finish, return}
use Rattle.symbols.specs.Environment.{places_in}
use Rattle.symbols.specs.declared.Mentioned.{Mentioned}
use Rattle.numeric_parser.specs.Operands.{ReaderReady}
use Rattle.lexer.specs.Kinds.{kind_of}
use Rattle.statement_parser.specs.BehindLaws.{lead_fits}
use Rattle.statement_parser.specs.Clauses.{StatementFormRead}
use Rattle.statement_parser.specs.Labels.{lead_ready, of_lead}
use Rattle.statement_parser.specs.StageLaws.{form_ends}
use Rattle.statement_parser.specs.StepLaws.{plain-read, goto_leads, routine_leads, execute_leads}
use Rattle.statement_parser.specs.Steps.{FormAt}
use Rattle.statement_parser.specs.Drafts.{Form}
use Rattle.std.specs.Prelude.{None}
use Rattle.std.proofs.Common.{⊎_elim}
use Rattle.statement_parser.proofs.read_form.Goals.{After-skip-d}
use Rattle.statement_parser.proofs.read_form.Goals as goal

pub skip-d-requires : goal.skip-d-requires
skip-d-requires c =
    let lead = c.leading-lead in
    omega (arith, lead_fits c.args.text.now c.args.c lead.result lead.ensures c.requires.starts.at, c.requires.starts.text_size)

-- behind the keyword the cursor is ready, and what the form of its kind reads is the statement
module _ (c : After-skip-d) where
  ready : ReaderReady c.args.text.now c.skip-d.result
  ready = lead_ready c.leading-lead.result c.requires.starts c.leading-lead.ensures c.skip-d.ensures

  of_kind : {table t : List ℕ} {m : Mentioned} (kind : StatementKind) → kind_of c.leading-lead.result.kind ≡ kind → (q : Form)
      → FormAt
      (form_of current (is_number_known c.args.known.now) (places_in c.args.known.now) kind (drop c.skip-d.result.at c.args.text.now))
      c.args.text.now table c.args.mentioned.now c.skip-d.result q t m
      → StatementFormRead c.args.text.now c.args.known.now table c.args.mentioned.now c.args.c q t m
  of_kind =
      of_lead c.leading-lead.result c.requires.starts c.leading-lead.ensures c.skip-d.ensures
      c.args.known.now

pub replacement_form-requires-clause-reader_ready : goal.replacement_form-requires-clause-reader_ready
replacement_form-requires-clause-reader_ready c = ready (goal.at.replacement_form-requires-clause-reader_ready c).After-skip-d

pub numbers_form-requires : goal.numbers_form-requires
numbers_form-requires c = ready (goal.at.numbers_form-requires c).After-skip-d

pub program_form-requires : goal.program_form-requires
program_form-requires c = ready (goal.at.program_form-requires c).After-skip-d

pub target_form-requires : goal.target_form-requires
target_form-requires c = ready (goal.at.target_form-requires c).After-skip-d

pub if_form-requires : goal.if_form-requires
if_form-requires c = ready (goal.at.if_form-requires c).After-skip-d

pub scan_form-requires-clause-reader_ready : goal.scan_form-requires-clause-reader_ready
scan_form-requires-clause-reader_ready c = ready (goal.at.scan_form-requires-clause-reader_ready c).After-skip-d

pub scan_form-requires-in-Backscan-clause-reader_ready : goal.scan_form-requires-in-Backscan-clause-reader_ready
scan_form-requires-in-Backscan-clause-reader_ready c = ready (goal.at.scan_form-requires-in-Backscan-clause-reader_ready c).After-skip-d

pub input_form-requires : goal.input_form-requires
input_form-requires c = ready (goal.at.input_form-requires c).After-skip-d

pub output_form-requires-clause-reader_ready : goal.output_form-requires-clause-reader_ready
output_form-requires-clause-reader_ready c = ready (goal.at.output_form-requires-clause-reader_ready c).After-skip-d

pub target_form-requires-in-Routine : goal.target_form-requires-in-Routine
target_form-requires-in-Routine c = ready (goal.at.target_form-requires-in-Routine c).After-skip-d

pub target_form-requires-in-Execute : goal.target_form-requires-in-Execute
target_form-requires-in-Execute c = ready (goal.at.target_form-requires-in-Execute c).After-skip-d

pub returns-in-Replacement : goal.returns-in-Replacement
unfolding form_of
returns-in-Replacement c =
    of_kind (goal.at.returns-in-Replacement c).After-skip-d REPLACEMENT (ap kind_of c.in-Replacement.is)
    c.replacement_form.result c.replacement_form.ensures

pub returns-in-Number : goal.returns-in-Number
unfolding form_of
returns-in-Number c =
    of_kind (goal.at.returns-in-Number c).After-skip-d NUMBER (ap kind_of c.in-Number.is)
    c.numbers_form.result (c.numbers_form.ensures c.args.known.now c.args.table.now)

pub returns-in-Program : goal.returns-in-Program
unfolding form_of
returns-in-Program c =
    of_kind (goal.at.returns-in-Program c).After-skip-d PROGRAM (ap kind_of c.in-Program.is)
    c.program_form.result (c.program_form.ensures c.args.known.now c.args.table.now)

pub returns-in-End : goal.returns-in-End
unfolding form_of statement_row elements_of items_of no_cell
returns-in-End c =
    let at = (goal.at.returns-in-End c).After-skip-d in
    let r = c.plain_form in
    ⊎_elim
    (λ e. of_kind at END (ap kind_of e) r.result (form_ends r.ensures (plain-read finish finish_kind.number (ready at) refl refl refl)))
    (λ e. of_kind at EXIT (ap kind_of e) r.result (form_ends r.ensures (plain-read finish finish_kind.number (ready at) refl refl refl)))
    c.in-End.is

pub returns-in-Goto : goal.returns-in-Goto
unfolding form_of
returns-in-Goto c =
    let r = c.target_form in
    of_kind (goal.at.returns-in-Goto c).After-skip-d GOTO (ap kind_of c.in-Goto.is) r.result
    (r.ensures _ (goto_leads c.args.known.now) c.args.table.now)

pub returns-in-If : goal.returns-in-If
unfolding form_of
returns-in-If c =
    of_kind (goal.at.returns-in-If c).After-skip-d IF (ap kind_of c.in-If.is)
    c.if_form.result (c.if_form.ensures c.args.table.now)

pub returns-in-Scan : goal.returns-in-Scan
unfolding form_of
returns-in-Scan c =
    of_kind (goal.at.returns-in-Scan c).After-skip-d SCAN (ap kind_of c.in-Scan.is)
    c.scan_form.result c.scan_form.ensures

pub returns-in-Backscan : goal.returns-in-Backscan
unfolding form_of
returns-in-Backscan c =
    of_kind (goal.at.returns-in-Backscan c).After-skip-d BACKSCAN (ap kind_of c.in-Backscan.is)
    c.scan_form-in-Backscan.result c.scan_form-in-Backscan.ensures

pub returns-in-Read : goal.returns-in-Read
unfolding form_of
returns-in-Read c =
    of_kind (goal.at.returns-in-Read c).After-skip-d READ (ap kind_of c.in-Read.is)
    c.input_form.result (c.input_form.ensures c.args.table.now)

pub returns-in-Write : goal.returns-in-Write
unfolding form_of
returns-in-Write c =
    let at = (goal.at.returns-in-Write c).After-skip-d in
    let r = c.output_form in
    ⊎_elim (λ e. of_kind at WRITE (ap kind_of e) r.result r.ensures) (λ e. of_kind at PRINT (ap kind_of e) r.result r.ensures) c.in-Write.is

pub returns-in-Routine : goal.returns-in-Routine
unfolding form_of
returns-in-Routine c =
    let r = c.target_form-in-Routine in
    of_kind (goal.at.returns-in-Routine c).After-skip-d ROUTINE (ap kind_of c.in-Routine.is) r.result
    (r.ensures _ (routine_leads c.args.known.now) c.args.table.now)

pub returns-in-Execute : goal.returns-in-Execute
unfolding form_of
returns-in-Execute c =
    let r = c.target_form-in-Execute in
    of_kind (goal.at.returns-in-Execute c).After-skip-d EXECUTE (ap kind_of c.in-Execute.is) r.result
    (r.ensures _ (execute_leads c.args.known.now) c.args.table.now)

pub returns-in-EndRoutine : goal.returns-in-EndRoutine
unfolding form_of statement_row elements_of items_of no_cell
returns-in-EndRoutine c =
    let at = (goal.at.returns-in-EndRoutine c).After-skip-d in
    let r = c.plain_form-in-EndRoutine in
    ⊎_elim
    (λ e. of_kind at ENDROUTINE (ap kind_of e) r.result (form_ends r.ensures (plain-read return return_kind.number (ready at) refl refl refl)))
    (λ e. of_kind at RETURN (ap kind_of e) r.result (form_ends r.ensures (plain-read return return_kind.number (ready at) refl refl refl)))
    c.in-EndRoutine.is

pub returns-in-Unknown : goal.returns-in-Unknown
unfolding form_of
returns-in-Unknown c =
    of_kind (goal.at.returns-in-Unknown c).After-skip-d UNKNOWN (ap kind_of c.in-Unknown.is)
    None record { answer = refl }

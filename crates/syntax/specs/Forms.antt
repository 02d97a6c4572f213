-- Document 01, "Statements": the form of each kind of statement. Assumes nothing.
use Rattle.std.specs.Prelude.{Bool, true, false, ◌&&◌, List, [], ◌∷◌, ℕ, take, drop}
use Rattle.std.proofs.Math.Option.{Option, none, some}
use Rattle.base.specs.Edition.{Edition}
use Rattle.base.specs.Lists.{begins}
use Rattle.base.specs.Text.{bytes}
use Rattle.syntax.specs.Program.{
  Element,
  Branch,
  Direction,
  forward,
  backward,
  Statement,
  set_number,
  set_string,
  goto,
  finish,
  if_test,
  scan,
  read,
  write,
  execute,
  return,
}
use Rattle.syntax.specs.Parsing.{
  for_program,
  for_label,
  for_routine,
  for_number,
  reference,
  declaring,
  usage,
  Parsed,
  broken,
  ◌>>=◌,
  succeed,
  expect,
  end_of_text,
}
use Rattle.syntax.specs.Lexemes.{Resolution, name_length, name_as, no_role, number_name, part_name}
use Rattle.syntax.specs.Numeric.{numeric_expression, test}
use Rattle.syntax.specs.Strings.{list_of, string_expression, pattern}
use Rattle.syntax.specs.Keywords.{
  StatementKind,
  REPLACEMENT,
  NUMBER,
  PROGRAM,
  END,
  GOTO,
  EXIT,
  IF,
  SCAN,
  BACKSCAN,
  READ,
  WRITE,
  PRINT,
  ROUTINE,
  EXECUTE,
  ENDROUTINE,
  RETURN,
  UNKNOWN,
  leading,
}

-- a step, with nothing behind it
unfoldable pub step_form : Statement → List ℕ → Parsed (Option Statement)
step_form s bs = do
  (_, rest) ← end_of_text bs
  succeed (some s) rest

-- S7 "PROGRAM and NUMBER are no steps"
unfoldable pub no_step_form : List ℕ → Parsed (Option Statement)
no_step_form bs = do
  (_, rest) ← end_of_text bs
  succeed none rest

-- S6 "READ may carry (60), WRITE and PRINT (61)."
unfoldable pub without_unit : List ℕ → List ℕ → List ℕ
without_unit unit bs = elim (begins unit bs) [ true ↦ drop 4 bs | false ↦ bs ]

module _ (e : Edition) (is_number : List ℕ → Bool) (at : Resolution) where
  unfoldable pub label_name : List ℕ → Parsed ℕ
  label_name bs = do
    (n, rest) ← name_as (usage for_label []) bs
    succeed (at.label n) rest

  -- S9 "`/s,f`, `/s` or `/,f`"
  unfoldable pub branch : List ℕ → Parsed Branch
  branch bs = do
    (_, rest) ← expect (bytes "/") bs
    elim (begins (bytes ",") rest) as (λ _. Parsed Branch) [
      | true ↦ do
        (f, rest) ← label_name (drop 1 rest)
        succeed (record { success = at.next; failure = f }) rest
      | false ↦ do
        (s, rest) ← label_name rest
        elim (begins (bytes ",") rest) as (λ _. Parsed Branch) [
          | true ↦ do
            (f, rest) ← label_name (drop 1 rest)
            succeed (record { success = s; failure = f }) rest
          | false ↦ succeed (record { success = s; failure = at.next }) rest
        ]
    ]

  -- S9 "only IF must have one"
  unfoldable pub branch_if_any : List ℕ → Parsed Branch
  branch_if_any bs = elim (begins (bytes "/") bs) [
    | true ↦ branch bs
    | false ↦ succeed (record { success = at.next; failure = at.next }) bs
  ]

  -- a bare name before `=` is a number where it is declared as one
  unfoldable pub sets_number : List ℕ → Bool
  sets_number bs = is_number (take (name_length bs) bs) && begins (bytes "=") (drop (name_length bs) bs)

  unfoldable pub replacement : List ℕ → Parsed (Option Statement)
  replacement bs = elim (sets_number bs) [
    | true ↦ do
      (i, rest) ← number_name e at bs
      (_, rest) ← expect (bytes "=") rest
      (x, rest) ← numeric_expression e at rest
      step_form (set_number i x) rest
    | false ↦ do
      (p, rest) ← part_name e at no_role bs
      (_, rest) ← expect (bytes "=") rest
      (xs, rest) ← string_expression e at rest
      step_form (set_string p xs) rest
  ]

  unfoldable pub if_form : List ℕ → Parsed (Option Statement)
  if_form bs = do
    (_, rest) ← expect (bytes "(") bs
    (t, rest) ← test e at rest
    (_, rest) ← expect (bytes ")") rest
    (b, rest) ← branch rest
    step_form (if_test t b) rest

  -- N5 "replacement, if the statement has `=`"
  unfoldable pub replacement_if_any : List ℕ → Parsed (Option (List Element))
  replacement_if_any bs = elim (begins (bytes "=") bs) [
    | true ↦ do
      (xs, rest) ← string_expression e at (drop 1 bs)
      succeed (some xs) rest
    | false ↦ succeed none bs
  ]

  unfoldable pub scan_form : Direction → List ℕ → Parsed (Option Statement)
  scan_form d bs = do
    (p, rest) ← part_name e at (λ n. reference n ∷ []) bs
    (_, rest) ← expect (bytes "[") rest
    (xs, rest) ← pattern e at rest
    (_, rest) ← expect (bytes "]") rest
    (r, rest) ← replacement_if_any rest
    (b, rest) ← branch_if_any rest
    step_form (scan d p xs r b) rest

  unfoldable pub read_form : List ℕ → Parsed (Option Statement)
  read_form bs = do
    (p, rest) ← part_name e at no_role (without_unit (bytes "(60)") bs)
    (b, rest) ← branch_if_any rest
    step_form (read p b) rest

  unfoldable pub write_form : List ℕ → Parsed (Option Statement)
  write_form bs = do
    (xs, rest) ← string_expression e at (without_unit (bytes "(61)") bs)
    step_form (write xs) rest

  unfoldable pub goto_form : List ℕ → Parsed (Option Statement)
  goto_form bs = do
    (s, rest) ← label_name bs
    step_form (goto s) rest

  -- R4 "The step at ROUTINE passes behind its ENDROUTINE"
  unfoldable pub routine_form : List ℕ → Parsed (Option Statement)
  routine_form bs = do
    (n, rest) ← name_as (declaring for_routine) bs
    step_form (goto (at.exit n)) rest

  unfoldable pub execute_form : List ℕ → Parsed (Option Statement)
  execute_form bs = do
    (n, rest) ← name_as (usage for_routine []) bs
    step_form (execute (at.entry n)) rest

  unfoldable pub program_form : List ℕ → Parsed (Option Statement)
  program_form bs = do
    (_, rest) ← name_as (declaring for_program) bs
    no_step_form rest

  unfoldable pub number_form : List ℕ → Parsed (Option Statement)
  number_form bs = do
    (_, rest) ← list_of (name_as (declaring for_number)) bs
    no_step_form rest

  -- the form of each kind, read from behind its keyword
  unfoldable pub form_of : StatementKind → List ℕ → Parsed (Option Statement)
  form_of REPLACEMENT bs = replacement bs
  form_of NUMBER bs = number_form bs
  form_of PROGRAM bs = program_form bs
  form_of END bs = step_form finish bs
  form_of GOTO bs = goto_form bs
  form_of EXIT bs = step_form finish bs
  form_of IF bs = if_form bs
  form_of SCAN bs = scan_form forward bs
  form_of BACKSCAN bs = scan_form backward bs
  form_of READ bs = read_form bs
  form_of WRITE bs = write_form bs
  form_of PRINT bs = write_form bs
  form_of ROUTINE bs = routine_form bs
  form_of EXECUTE bs = execute_form bs
  form_of ENDROUTINE bs = step_form return bs
  form_of RETURN bs = step_form return bs
  form_of UNKNOWN bs = broken

  unfoldable pub statement_form : List ℕ → Parsed (Option Statement)
  statement_form bs = form_of (leading bs).kind (drop (leading bs).size bs)

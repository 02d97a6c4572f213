-- Document 01, "What is turned down, and its number": the judgement of a whole deck, and its program. Assumes nothing.
use Rattle.std.specs.Prelude.{Bool, true, false, cond, not, ◌&&◌, ◌||◌, List, [], ◌∷◌, ◌++◌, map, ℕ, zero, suc, eqb, length}
use Rattle.std.proofs.Math.Option.{Option, none, some}
use Rattle.base.specs.Edition.{Edition}
use Rattle.base.specs.Lists.{same, any, keep}
use Rattle.cards.specs.Entries.{Entry, skipped, statement, entries}
use Rattle.syntax.specs.Keywords.{leading}
use Rattle.syntax.specs.Program.{Statement, Step, Program}
use Rattle.syntax.specs.Parsing.{Mentions, no_mentions, Parsed, got, broken}
use Rattle.syntax.specs.Lexemes.{Resolution}
use Rattle.validation.specs.Environment.{Label, Routine, Use, Environment, empty_environment, strings_of, numbers_of, is_one_of, extend}
use Rattle.validation.specs.Refusals.{read_statement, statement_number}

-- places before the whole deck is known
unfoldable pub unresolved : Resolution
unresolved =
    record { string = λ n. 0; number = λ n. 0; label = λ n. 0; entry = λ n. 0; exit = λ n. 0; next = 0 }

-- the statements read so far: all passed, or a number and a card
pub data Judged : Type 0 where
  passed : Environment → Judged
  failed : (number card : ℕ) → Judged

unfoldable pub mentions_of : Parsed (Option Statement) → Mentions
mentions_of (got s m rest) = m
mentions_of broken = no_mentions

-- D1 "for a deck, 3 to 10 statement by statement"; D2 "a comment or blank line is judged by 3 alone, in its turn; a missing END is judged
-- behind the last line"
unfoldable pub judge_from : Edition → Environment → List Entry → Judged
judge_from e k [] = cond k.ended (passed k) (failed 4 0)
judge_from e k (skipped card sound ∷ rest) = elim sound [ true ↦ judge_from e k rest | false ↦ failed 3 card ]
judge_from e k (statement card sound label whole text ∷ rest) =
    let kind = (leading text).kind in
    let form = read_statement e (is_one_of (numbers_of k)) unresolved label whole text in
    let n = statement_number k kind sound form in
    elim (eqb n 0) [ true ↦ judge_from e (extend k kind (mentions_of form)) rest | false ↦ failed n card ]

-- Q11 "A label or routine used is undefined, or a branch crosses a routine's border."; S10 "A branch stays inside its routine, or outside all
-- of them.": a label of that name must stand in the scope it is used in; a routine may be declared anywhere
unfoldable pub is11 : Environment → Bool
is11 k =
    any (λ u. not (any (λ l. same u.name l.name && same u.scope l.scope) k.labels)) k.branches
    || any (λ u. not (any (λ r. same u.name r.name) k.routines)) k.executes

-- the routines that one routine executes
unfoldable pub executed_by : List Use → List ℕ → List (List ℕ)
executed_by us r = map (λ u. u.name) (keep (λ u. same r u.scope) us)

unfoldable pub with_new : List (List ℕ) → List (List ℕ) → List (List ℕ)
with_new known [] = known
with_new known (n ∷ ns) = with_new (cond (is_one_of known n) known (n ∷ known)) ns

unfoldable pub executed_by_all : List Use → List (List ℕ) → List (List ℕ)
executed_by_all us [] = []
executed_by_all us (r ∷ rs) = executed_by us r ++ executed_by_all us rs

-- those reached from some routines by going on at most so many times
unfoldable pub reached : ℕ → List Use → List (List ℕ) → List (List ℕ)
reached zero us rs = rs
reached (suc n) us rs = reached n us (with_new rs (executed_by_all us rs))

-- Q12 "A routine executes itself, directly or through others."
unfoldable pub is12 : Environment → Bool
is12 k = any (λ r. is_one_of (reached (length k.routines) k.executes (executed_by k.executes r.name)) r.name) k.routines

-- where a name stands in a list
unfoldable pub index_of : List ℕ → List (List ℕ) → ℕ
index_of n [] = 0
index_of n (m ∷ ms) = elim (same n m) [ true ↦ 0 | false ↦ suc (index_of n ms) ]

unfoldable pub step_of : List Label → List ℕ → ℕ
step_of [] n = 0
step_of (l ∷ ls) n = elim (same n l.name) [ true ↦ l.step | false ↦ step_of ls n ]

unfoldable pub routine_named : List Routine → List ℕ → Routine
routine_named [] n = record { name = n; entry = 0; exit = 0 }
routine_named (r ∷ rs) n = elim (same n r.name) [ true ↦ r | false ↦ routine_named rs n ]

-- the places of a deck's names, for the statement before step next
unfoldable pub resolution : Environment → ℕ → Resolution
resolution k next =
    record {
      string = λ n. index_of n (strings_of k);
      number = λ n. index_of n (numbers_of k);
      label = step_of k.labels;
      entry = λ n. (routine_named k.routines n).entry;
      exit = λ n. (routine_named k.routines n).exit;
      next = next;
    }

-- a statement read is a step, with its card; PROGRAM and NUMBER are none
unfoldable pub step_read : ℕ → Parsed (Option Statement) → List Step
step_read card (got (some s) m rest) = record { card = card; statement = s } ∷ []
step_read card (got none m rest) = []
step_read card broken = []

-- The steps from number n on, of entries that passed: they are read a second time, with the places of the whole deck. Each is read as it was
-- judged. Places change only the numbers in a statement, not its form or what it mentions (syntax/Alike); and a bare name before `=` that is a
-- number in the end was one already, or 6 would have found its second purpose. (Law validation/Placed/Again: passed-again.)
unfoldable pub program_steps : Edition → Environment → ℕ → List Entry → List Step
program_steps e k n [] = []
program_steps e k n (skipped card sound ∷ rest) = program_steps e k n rest
program_steps e k n (statement card sound label whole text ∷ rest) =
    let read = step_read card (read_statement e (is_one_of (numbers_of k)) (resolution k (suc n)) label whole text) in
    read ++ program_steps e k (elim read [ [] ↦ n | s ∷ ss ↦ suc n ]) rest

unfoldable pub program_of : Edition → Environment → List Entry → Program
program_of e k es =
    record { strings = length (strings_of k); numbers = length (numbers_of k); steps = program_steps e k 0 es }

-- D3 the deck answer: accepted with its program, or refused with a number and a card
pub data Judgement : Type 0 where
  accepted : Program → Judgement
  refused : (number card : ℕ) → Judgement

-- D1 "then 11 and 12"; D3 "0 for .. 11, 12 and a missing END"
unfoldable pub judgement_of : Edition → List Entry → Judged → Judgement
judgement_of e es (passed k) =
    let program = accepted (program_of e k es) in
    cond (is11 k) (Judgement.refused 11 0)
    (cond (is12 k) (Judgement.refused 12 0)
    program)
judgement_of e es (Judged.failed n card) = Judgement.refused n card

unfoldable pub judge_entries : Edition → List Entry → Judgement
judge_entries e es = judgement_of e es (judge_from e empty_environment es)

-- a deck, document 01's word (C1), is judged by its entries alone
unfoldable pub judge : Edition → List ℕ → Judgement
judge e deck = judge_entries e (entries e deck)

-- Joining the lines of a statement from the left, line by line, and what comes of it before it is packed. Assumes nothing.
use Rattle.std.specs.Prelude.{Bool, true, false, cond, not, ◌&&◌, List, [], ◌∷◌, ◌++◌, ℕ, ◌+◌, eqb}
use Rattle.base.specs.Current.{current}
use Rattle.cards.specs.Bytes.{slash}
use Rattle.cards.specs.Cards.{Unpacked, skipped, statement, sound_line, column9, statement_text, unpacked_from}
use Rattle.card_reader.specs.Lines.{is_skipped, joins}

-- a statement while its lines are joined: whether they are sound, whether the last one joins the next, their columns 10-72, how many they
-- are, and the lines that follow
pub record StatementPart : Type 0 where
  pub sound : Bool
  pub more : Bool
  pub raw : List ℕ
  pub count : ℕ
  pub rest : List (List ℕ)

-- C5 "joins the next line, whose label is ignored"; Q3 "column 9 is `/` outside a comment"
unfoldable pub add_line : StatementPart → List ℕ → List (List ℕ) → StatementPart
add_line p line ls =
    record {
      sound = p.sound && (sound_line line && not (eqb (column9 current line) slash));
      more = joins (column9 current line);
      raw = p.raw ++ statement_text current line;
      count = p.count + 1;
      rest = ls;
    }

-- Q3 "a joined line is a comment, blank or missing"
unfoldable pub break_off : StatementPart → List (List ℕ) → StatementPart
break_off p rest = record { sound = false; more = false; raw = p.raw; count = p.count; rest = rest }

unfoldable pub join_line : StatementPart → List (List ℕ) → StatementPart
join_line p [] = break_off p []
join_line p (line ∷ ls) = cond (is_skipped line) (break_off p (line ∷ ls)) (add_line p line ls)

-- some lines of a statement put before what follows
unfoldable pub lines_before : ℕ → Bool → List ℕ → List ℕ → List Unpacked → List Unpacked
lines_before n sound label raw [] = statement n false label raw ∷ []
lines_before n sound label raw (skipped c s ∷ rest) = statement n false label raw ∷ (skipped c s ∷ rest)
lines_before n sound label raw (statement c s l text ∷ rest) = statement n (sound && s) label (raw ++ text) ∷ rest

-- what a statement, perhaps not whole yet, and the lines behind it make up
unfoldable pub tell_lines : ℕ → List ℕ → StatementPart → List Unpacked
tell_lines n label p =
    let rest = unpacked_from current (n + p.count) p.rest in
    cond p.more
    (lines_before n p.sound label p.raw rest)
    (statement n p.sound label p.raw ∷ rest)

-- nothing of a statement yet, with its lines and those behind it
unfoldable pub nothing_of : List (List ℕ) → StatementPart
nothing_of rest = record { sound = true; more = true; raw = []; count = 0; rest = rest }

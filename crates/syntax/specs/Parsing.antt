-- How a form is parsed from the bytes of a packed statement: the value, its mentions, and the bytes left; or the form is
-- broken. Assumes nothing.
use Rattle.std.specs.Prelude.{Bool, true, false, List, [], ◌∷◌, ◌++◌, ℕ, ◌+◌, eqb, length, drop}
use Rattle.base.specs.Lists.{begins}

-- S2 "A name has one purpose: program, label, routine, number or string."
pub data Purpose : Type 0 where
  for_program for_label for_routine for_number for_string : Purpose

unfoldable pub purpose_number : Purpose → ℕ
purpose_number for_program = 0
purpose_number for_label = 1
purpose_number for_routine = 2
purpose_number for_number = 3
purpose_number for_string = 4

unfoldable pub same_purpose : Purpose → Purpose → Bool
same_purpose p q = eqb (purpose_number p) (purpose_number q)

-- a mention of a name, with its purpose
pub record Mention : Type 0 where
  pub purpose : Purpose
  pub name : List ℕ

-- what a name is in a SCAN: the reference, a string of the pattern, a filler
pub data Role : Type 0 where
  reference sought filler : List ℕ → Role

-- What a statement mentions, which 6, 7, 8 and 10 judge: names declared and used; operands and signs of numeric expressions; the elements of each
-- string expression and pattern; literal bytes; the roles of names in a SCAN, from left to right.
pub record Mentions : Type 0 where
  pub declared : List Mention
  pub used : List Mention
  pub items : ℕ
  pub rows : List ℕ
  pub literals : ℕ
  pub roles : List Role

unfoldable pub no_mentions : Mentions
no_mentions = record { declared = []; used = []; items = 0; rows = []; literals = 0; roles = [] }

unfoldable pub merge_mentions : Mentions → Mentions → Mentions
merge_mentions m n =
    record {
      declared = m.declared ++ n.declared;
      used = m.used ++ n.used;
      items = m.items + n.items;
      rows = m.rows ++ n.rows;
      literals = m.literals + n.literals;
      roles = m.roles ++ n.roles;
    }

unfoldable pub declaring : Purpose → List ℕ → Mentions
declaring p n =
    record { declared = record { purpose = p; name = n } ∷ []; used = []; items = 0; rows = []; literals = 0; roles = [] }

-- a name used, with its role in a SCAN if it has one
unfoldable pub usage : Purpose → List Role → List ℕ → Mentions
usage p rs n =
    record { declared = []; used = record { purpose = p; name = n } ∷ []; items = 0; rows = []; literals = 0; roles = rs }

unfoldable pub one_item : Mentions
one_item = record { declared = []; used = []; items = 1; rows = []; literals = 0; roles = [] }

unfoldable pub one_row : ℕ → Mentions
one_row k = record { declared = []; used = []; items = 0; rows = k ∷ []; literals = 0; roles = [] }

unfoldable pub one_literal : ℕ → Mentions
one_literal k = record { declared = []; used = []; items = 0; rows = []; literals = k; roles = [] }

pub data Parsed (A : Type 0) : Type 0 where
  got : A → Mentions → List ℕ → Parsed A
  broken : Parsed A

module _ {A : Type 0} where
  -- what is parsed next, with what was mentioned before it
  unfoldable pub mentioning : Mentions → Parsed A → Parsed A
  mentioning m (got a n rest) = got a (merge_mentions m n) rest
  mentioning m broken = broken

  -- a value that takes no bytes
  unfoldable pub succeed : A → List ℕ → Parsed A
  succeed a bs = got a no_mentions bs

module _ {A B : Type 0} where
  -- the value and the bytes left go on to the next parser
  infixl 20 ◌>>=◌
  unfoldable pub ◌>>=◌ : Parsed A → (A × List ℕ → Parsed B) → Parsed B
  got a m rest >>= next = mentioning m (next (a, rest))
  broken >>= next = broken

-- bytes that must stand here
unfoldable pub expect : List ℕ → List ℕ → Parsed (Unit {0})
expect w bs = elim (begins w bs) [ true ↦ succeed tt (drop (length w) bs) | false ↦ broken ]

-- the end of the statement
unfoldable pub end_of_text : List ℕ → Parsed (Unit {0})
end_of_text [] = succeed tt []
end_of_text (b ∷ bs) = broken

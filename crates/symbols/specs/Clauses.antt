-- What the code that notes names does. Assumes nothing.
use Rattle.std.specs.Prelude.{[], ◌∷◌, ◌≡◌, ℕ, ◌+◌}
use Rattle.encoding.specs.Splices.{splice}
use Rattle.symbols.specs.declared.Cursor.{Cursor}
use Rattle.symbols.specs.declared.Mentioned.{Mentioned}
use Rattle.symbols.specs.declared.tags.Tag.{Tag}

-- how many names fit
abbrev pub names_room : ℕ
names_room = 32_800

-- the cursor before a statement: nothing of it is read, and the counts are those of the deck so far
abbrev pub cursor_before_statement : (items elements literals : ℕ) → Cursor
cursor_before_statement items elements literals =
    record { at = 0; names = 0; items = items; elements = elements; literals = literals; longest = 0 }

-- the cursor behind one name more
abbrev pub cursor_behind_name : Cursor → Cursor
cursor_behind_name c =
    record {
      at = c.at;
      names = c.names + 1;
      items = c.items;
      elements = c.elements;
      literals = c.literals;
      longest = c.longest;
    }

-- a name was noted
pub record NameNoted (m : Mentioned) (c : Cursor) (key : ℕ) (tag : Tag) (m' : Mentioned) (r : Cursor) : Type 0 where
  pub keyed : m'.keys ≡ splice m.keys c.names (key ∷ [])
  pub tagged : m'.tags ≡ splice m.tags c.names (tag ∷ [])
  pub goes : r ≡ cursor_behind_name c

-- Quoted text as bytes, so that keywords and example decks can be read as they are written. Assumes nothing.
use Rattle.std.specs.Prelude.{List, [], ◌∷◌, ℕ}
use Prim.Native.Char.{code}
use Prim.Native.String as Native
use Prim.Native.String.{String}

-- the bytes of a quoted text, all of whose characters are below 128
unfoldable pub bytes : String → List ℕ
bytes Native.[] = []
bytes (Native.◌∷◌ c s) = code c ∷ bytes s

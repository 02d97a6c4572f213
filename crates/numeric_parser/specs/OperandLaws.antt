-- How readings follow each other: a value made of another, a reading behind skipped bytes, one behind another, one before `)`.
-- Assumes nothing.
use Rattle.std.specs.Prelude.{is_some, Option, Some, None, Bool, true, false, ◌≡◌, leb, pos, get_or}
use mathlib.Core.List.{List, [], ◌∷◌, ◌++◌, append-nil, map, map-append}
use Rattle.std.proofs.Math.Path.{refl, sym, ap, subst}
use Rattle.std.proofs.Common.{ap₂, ◌∙◌, append_assoc, add_assoc, arith, length-drop, drop-drop}
use Prim.Native.Nat.{ℕ, ◌+◌, ◌-◌, ◌≤◌, ◌<◌}
use Rattle.std.proofs.Math.Nat.{add-zero}
use Rattle.std.proofs.Math.ListN.{length, take, drop, length-append}
use Rattle.std.proofs.lemmas.List.{length-map, take_all, drop_all}
use Rattle.std.proofs.lemmas.Bool.{false≢true, leb-true, leb-false}
use Rattle.base.specs.Choice.{test_cases}
use Rattle.base.specs.Current.{current}
use Rattle.base.specs.Lists.{all, begins}
use Rattle.base.specs.ListLaws.{begins_room}
use Rattle.base.specs.Text.{bytes}
use Rattle.encoding.specs.Table as Table
use Rattle.encoding.specs.Kinds.{constant_kind, number_kind, length_kind, number_of_parts}
use Rattle.encoding.specs.Table.{part_cell, operand_cell}
use Rattle.cards.specs.Bytes.{is_digit}
use Rattle.syntax.specs.Numeric.{called_or_number, plain_factor}
use Rattle.syntax.specs.Program as Program
use Rattle.syntax.specs.Program.{Length, constantly, numbered, whole, first, length_of, number_of}
use Rattle.encoding.specs.Splices.{splice, splice_nil, splice-behind}
use Rattle.syntax.specs.Parsing.{for_number, for_string, Role, usage, Mentions, no_mentions, merge_mentions}
use Rattle.syntax.specs.Parsing.{Parsed, got, broken, ◌>>=◌, mentioning, succeed, expect}
use Rattle.syntax.specs.Lexemes as Words
use Rattle.syntax.specs.Lexemes.{Resolution, name_as, no_role, bound, part_of, part_name, number_name, string_name}
use Rattle.symbols.specs.Bounds.{far_enough}
use Rattle.symbols.specs.Clauses.{names_room, NameNoted}
use Rattle.symbols.specs.Entries.{NameEntry, entry, name_of, string_tag, role_of, gather, mentions_in}
use Rattle.symbols.specs.EntryLaws.{mentions_both, name-key, number_used, role_mentioned, string_placed, number_placed}
use Rattle.symbols.specs.Environment.{string_keys, number_keys, key_place, places_in}
use Rattle.symbols.specs.ParsingLaws.{nothing_mentioned, got_broken, expect_then, expect_broken}
use Rattle.symbols.specs.declared.Cursor.{Cursor}
use Rattle.symbols.specs.declared.Mentioned.{Mentioned}
use Rattle.symbols.specs.declared.known.Known.{Known}
use Rattle.symbols.specs.declared.tags.Role as Held
use Rattle.symbols.specs.declared.tags.Tag.{Tag}
use Rattle.symbols.specs.declared.tags.Tag.TheVariants.{NumberUsed}
use Rattle.card_reader.specs.Keys.{key_of, is_key_byte}
use Rattle.card_reader.specs.Letters.{letters, letters_on, letters-past}
use Rattle.lexer.specs.Laws.{name-first, name-is, name_broken, name_keys_lem}
use Rattle.lexer.specs.Places.{NameAt}
use Rattle.numeric_parser.specs.Operands.{behind_word, behind_mark, Onward, cursor_moved, Skips, ReaderReady, Noting, Gets, NameParsed, NameRead}
use Rattle.encoding.specs.Meaning.{cell_meaning}
use Rattle.numeric_parser.specs.Operands.{PlaceRead, OperandRead, placed_in}
use Rattle.numeric_parser.specs.Operands.{ConstantRead, length_cell, InText, celled_at, behind_parenthesis}
use Rattle.encoding.specs.declared.cells.Cell.{Cell}

-- what is written behind the end goes there
splice-past : {A : Type 0} (d : List A) (at : ℕ) (v : List A) → length d ≤ at → splice d at v ≡ d ++ v
unfolding splice
splice-past {A} d at v h = rw (take_all at d h, drop_all (at + length v) d (omega arith)) (ap (λ (l : List A). d ++ l) (append-nil v))

-- a splice behind another, wherever that begins
splice_more : {A : Type 0} (d : List A) (at : ℕ) (v w : List A) → splice (splice d at v) (at + length v) w ≡ splice d at (v ++ w)
splice_more {A} d at v w =
    test_cases (λ _. splice (splice d at v) (at + length v) w ≡ splice d at (v ++ w)) (leb at (length d))
    (λ e. splice-behind d at v w (leb-true at (length d) e))
    (λ e.
    let past : length d ≤ at = omega (arith, leb-false at (length d) e) in
    ap (λ (l : List A). splice l (at + length v) w) (splice-past d at v past)
    ∙ splice-past (d ++ v) (at + length v) w (omega (arith, length-append d v))
    ∙ append_assoc d v w
    ∙ sym (splice-past d at (v ++ w) past))

-- entries noted behind others
pub noting_more : {m m₁ m₂ : Mentioned} {n k : ℕ} {es fs : List NameEntry} → k ≡ n + length es → Noting m n es m₁ → Noting m₁ k fs m₂
    → Noting m n (es ++ fs) m₂
noting_more {m} {m₁} {n = n} {k} {es} {fs} e a b =
    record {
      keyed = b.keyed ∙ behind (λ x. x.key) m.keys a.keyed;
      tagged = b.tagged ∙ behind (λ x. x.tag) m.tags a.tagged;
    }
  where
    behind : {A : Type 0} (f : NameEntry → A) (d : List A) {d' : List A} → d' ≡ splice d n (map f es)
        → splice d' k (map f fs) ≡ splice d n (map f (es ++ fs))
    behind {A} f d p =
        let place : k ≡ n + length (map f es) = e ∙ ap (λ j. n + j) (sym (length-map es f)) in
        ap₂ (λ (x : List A) (j : ℕ). splice x j (map f fs)) p place
        ∙ splice_more d n (map f es) (map f fs)
        ∙ ap (splice d n) (sym (map-append f es fs))

-- no entries
pub noting_none : {m : Mentioned} (n : ℕ) → Noting m n [] m
noting_none {m} n = record { keyed = sym (splice_nil m.keys n); tagged = sym (splice_nil m.tags n) }

-- a cursor that stays, one that is moved, and one behind another
pub onward_none : (c : Cursor) → Onward c 0 0 c
onward_none c =
    record { names = sym (add-zero c.names); items = sym (add-zero c.items); elements = refl; literals = refl; longest = refl }

pub onward-moved : {c d : Cursor} {n i : ℕ} (m : ℕ) → Onward c n i d → Onward c n i (cursor_moved d m)
onward-moved m o =
    record { names = o.names; items = o.items; elements = o.elements; literals = o.literals; longest = o.longest }

pub onward_then : {c d e : Cursor} {n i m j p l : ℕ} → Onward c n i d → Onward d m j e → p ≡ n + m → l ≡ i + j → Onward c p l e
onward_then o q names items =
    record {
      names = omega (arith, o, q);
      items = omega (arith, o, q);
      elements = q.elements ∙ o.elements;
      literals = q.literals ∙ o.literals;
      longest = q.longest ∙ o.longest;
    }

-- nothing more was mentioned
pub mentions_nothing : (m : Mentions) → merge_mentions m no_mentions ≡ m
unfolding merge_mentions no_mentions
mentions_nothing m =
    λ t.
    record {
      declared = append-nil m.declared t;
      used = append-nil m.used t;
      items = add-zero m.items t;
      rows = append-nil m.rows t;
      literals = add-zero m.literals t;
      roles = append-nil m.roles t;
    }

module _ {A B C W : Type 0} {f : A → C} {v : C} {text : List ℕ} {m : Mentioned} {c : Cursor} {x : Parsed A} {m₁ : Mentioned} {d : Cursor} where
  -- a value that takes no more bytes
  pub gets_succeed : (next : A × List ℕ → Parsed B) (h : B → W) (w : W) (b : B) (r : Gets f v text m c x m₁ d)
      → next (r.value, drop d.at text) ≡ succeed b (drop d.at text) → h b ≡ w → Gets h w text m c (x >>= next) m₁ d
  unfolding ◌>>=◌ mentioning succeed
  gets_succeed next h w b r same made =
      record {
        value = b;
        entries = r.entries;
        is =
            ap (λ (y : Parsed A). y >>= next) r.is
            ∙ ap (mentioning (mentions_in r.entries 0 [] 0)) same
            ∙ ap (λ (z : Mentions). got b z (drop d.at text)) (mentions_nothing (mentions_in r.entries 0 [] 0));
        made = made;
        noting = r.noting;
        goes = r.goes;
        ready = r.ready;
        few = r.few;
        further = r.further;
      }

  -- a reading behind another
  pub gets_then : (next : A × List ℕ → Parsed B) (h : B → W) (w : W) {m₂ : Mentioned} {e : Cursor} → (r : Gets f v text m c x m₁ d)
      → Gets h w text m₁ d (next (r.value, drop d.at text)) m₂ e
      → Gets h w text m c (x >>= next) m₂ e
  unfolding ◌>>=◌ mentioning
  gets_then next h w {e = e} r q =
      let size = length-append r.entries q.entries in
      record {
        value = q.value;
        entries = r.entries ++ q.entries;
        is =
            ap (λ (y : Parsed A). y >>= next) r.is
            ∙ ap (mentioning (mentions_in r.entries 0 [] 0)) q.is
            ∙ ap (λ (z : Mentions). got q.value z (drop e.at text)) (mentions_both r.entries q.entries 0 0 [] [] 0 0);
        made = q.made;
        noting = noting_more r.goes.names r.noting q.noting;
        goes = onward_then r.goes q.goes size refl;
        ready = q.ready;
        few = omega (arith, r.few, q.few);
        further = omega (arith, r.further, q.further);
      }

module _ {A C : Type 0} {f : A → C} {v : C} {text : List ℕ} {m : Mentioned} {c : Cursor} {x : Parsed A} {m₁ : Mentioned} {d : Cursor} where
  -- a reading behind skipped bytes
  pub gets_skip : (n : ℕ) {b : Cursor} → Skips b n c → Gets f v text m c x m₁ d → Gets f v text m b x m₁ d
  gets_skip n {b} s r =
      let names : c.names ≡ b.names = omega (arith, s.goes) in
      record {
        value = r.value;
        entries = r.entries;
        is = r.is;
        made = r.made;
        noting = subst (λ j. Noting m j r.entries m₁) names r.noting;
        goes = onward_then s.goes r.goes (omega arith) refl;
        ready = r.ready;
        few = omega (arith, r.few, letters_on text b.at c.at (omega (arith, s.at)));
        further = omega (arith, r.further, s.at);
      }

-- the code's cursor, moved
pub skipped : (c : Cursor) (n : ℕ) {d : Cursor} → d ≡ cursor_moved c n → Skips c n d
skipped c n e = subst (Skips c n) (sym e) (record { at = refl; goes = onward-moved n (onward_none c) })

pub drop-moved : (text : List ℕ) (c : Cursor) (n : ℕ) {d : Cursor} → d ≡ cursor_moved c n → drop d.at text ≡ drop n (drop c.at text)
drop-moved text c n e = ap (λ (z : Cursor). drop z.at text) e ∙ sym (drop-drop n c.at text)

-- further on it is ready still, inside the text
module _ {text : List ℕ} {c d : Cursor} where
  pub ready_at : {n : ℕ} → Skips c n d → ReaderReady text c → d.at ≤ length text → ReaderReady text d
  ready_at s ready h =
      record {
        text_size = ready.text_size;
        inside = h;
        names = omega (arith, ready.names, s.goes.names, letters_on text c.at d.at (omega (arith, s.at)));
        items = omega (arith, ready.items, s.goes.items, s.at);
        elements = omega (arith, ready.elements, s.goes.elements, s.at);
        literals = omega (arith, ready.literals, s.goes.literals, s.at);
      }

  pub ready_on : (n : ℕ) → ReaderReady text c → d ≡ cursor_moved c n → c.at + n ≤ length text → ReaderReady text d
  ready_on n ready e h = let s = skipped c n e in ready_at s ready (omega (arith, s.at))

  -- so it is at the same place of the text, by what it counts there
  pub ready_here : ReaderReady text c → d.at ≡ c.at → d.names ≡ c.names → d.items + length text ≤ far_enough + d.at
      → d.elements + length text ≤ far_enough + d.at → d.literals + length text ≤ far_enough + d.at → ReaderReady text d
  ready_here ready at names items elements literals =
      record {
        text_size = ready.text_size;
        inside = omega (arith, ready.inside);
        names = omega (arith, ready.names, ap (λ i. letters (drop i text)) at);
        items = items;
        elements = elements;
        literals = literals;
      }

pub ready_moved : {text : List ℕ} {c d : Cursor} (w : List ℕ) → ReaderReady text c → d ≡ cursor_moved c (length w)
    → begins w (drop c.at text) ≡ true → ReaderReady text d
ready_moved {text} {c = c} w ready m e =
    ready_on (length w) ready m (omega (arith, ready.inside, begins_room w (drop c.at text) e, length-drop c.at text))

pub text_here : {text : List ℕ} {c : Cursor} → ReaderReady text c → InText text c
text_here ready = (ready.inside, ready.text_size)

-- what an answer of `behind_word` and one of `marked` says
abbrev cursor_or : Cursor → Option Cursor → Cursor
cursor_or c (Some d) = d
cursor_or c None = c

module _ (text w : List ℕ) (c : Cursor) where
  pub word_passed : {d : Cursor} → Some d ≡ behind_word text w c → (begins w (drop c.at text) ≡ true) × (d ≡ cursor_moved c (length w))
  word_passed {d} e =
      test_cases
      (λ b.
      begins w (drop c.at text) ≡ b → Some d ≡ elim b [ true ↦ Some (cursor_moved c (length w)) | false ↦ None ]
      → (begins w (drop c.at text) ≡ true) × (d ≡ cursor_moved c (length w)))
      (begins w (drop c.at text)) (λ _ h g. (h, ap (cursor_or c) g)) (λ _ h g. absurd (false≢true (sym (ap is_some g)))) refl e

  pub word_none : None ≡ behind_word text w c → begins w (drop c.at text) ≡ false
  word_none e =
      test_cases
      (λ b.
      begins w (drop c.at text) ≡ b → None ≡ elim b [ true ↦ Some (cursor_moved c (length w)) | false ↦ None ]
      → begins w (drop c.at text) ≡ false)
      (begins w (drop c.at text)) (λ _ h g. absurd (false≢true (ap is_some g))) (λ _ h g. h) refl e

  pub word_ready : {d : Cursor} → ReaderReady text c → Some d ≡ behind_word text w c → ReaderReady text d
  word_ready ready e = let p = word_passed e in ready_moved w ready p.1 p.0

module _ (text : List ℕ) (w : ℕ) (c : Cursor) where
  pub mark_passed : {d : Cursor} → Some d ≡ behind_mark text w c → (begins (w ∷ []) (drop c.at text) ≡ true) × (d ≡ cursor_moved c 1)
  mark_passed = word_passed text (w ∷ []) c

  pub mark_none : None ≡ behind_mark text w c → begins (w ∷ []) (drop c.at text) ≡ false
  mark_none = word_none text (w ∷ []) c

  pub mark_ready : {d : Cursor} → ReaderReady text c → Some d ≡ behind_mark text w c → ReaderReady text d
  mark_ready = word_ready text (w ∷ []) c

-- there is room for the name at the cursor
pub name_notable : {text : List ℕ} {c : Cursor} {n : ℕ} → ReaderReady text c → NameAt text c.at n → 1 ≤ n → c.names < names_room
name_notable {text} {c} ready a h =
    let first = name-first (drop c.at text) (omega (arith, a.is)) in
    omega (arith, ready.names, letters-past text c.at (c.at + 1) (omega arith) first)

-- it is noted; where none stands nothing is
module _ {text : List ℕ} {m : Mentioned} {c : Cursor} {tag : Tag} where
  pub name_got : {n key : ℕ} {m₁ : Mentioned} {e d : Cursor} → ReaderReady text c → NameAt text c.at n → 1 ≤ n
      → key ≡ key_of (take n (drop c.at text)) → NameNoted m c key tag m₁ e → d ≡ cursor_moved e n → NameParsed text m c tag key m₁ d
  unfolding entry
  name_got {n} {key} {m₁} ready a h known noted moved =
      let bs = drop c.at text in
      let fewer = letters-past text c.at (c.at + n) (omega arith) (name-first bs (omega (arith, a.is))) in
      subst (λ (z : Cursor). NameParsed text m c tag key m₁ z) (sym (moved ∙ ap (λ (z : Cursor). cursor_moved z n) noted.goes))
      (record {
        bytes = take n bs;
        shown = subst (λ j. all is_key_byte (take j bs) ≡ true) (sym a.is) (name_keys_lem bs);
        keyed = known;
        is = name-is bs n a.is h ∙ ap (succeed (take n bs)) (drop-drop n c.at text);
        noting = record { keyed = noted.keyed; tagged = noted.tagged };
        goes = record { names = refl; items = sym (add-zero c.items); elements = refl; literals = refl; longest = refl };
        ready =
            record {
              text_size = ready.text_size;
              inside = omega (arith, a.inside, ready.inside);
              names = omega (arith, ready.names, fewer);
              items = omega (arith, ready.items);
              elements = omega (arith, ready.elements);
              literals = omega (arith, ready.literals);
            };
        few = fewer;
        further = omega arith;
      })

  pub name_lost : {m₁ : Mentioned} {r : Option (ℕ × Cursor)} → r ≡ None → NameAt text c.at 0 → NameRead text m c tag r m₁
  name_lost {m₁} e a =
      subst (λ z. NameRead text m c tag z m₁) (sym e) (record { answer = name_broken (drop c.at text) 0 a.is (omega arith) })

module _ {text : List ℕ} {m : Mentioned} {c : Cursor} {tag : Tag} {key : ℕ} {m₁ : Mentioned} {d : Cursor} where
  -- the name that a key shows
  pub named_by : (n : NameParsed text m c tag key m₁ d) → name_of key ≡ n.bytes
  named_by n = ap name_of n.keyed ∙ name-key n.bytes n.shown

  -- a name, by what it leads to
  pub name_mentioned : {W : Type 0} (meets : List ℕ → Mentions) (f : List ℕ → W) (v : W) (n : NameParsed text m c tag key m₁ d)
      → mentions_in (entry key tag ∷ []) 0 [] 0 ≡ meets n.bytes → f n.bytes ≡ v
      → Gets f v text m c (name_as meets (drop c.at text)) m₁ d
  unfolding ◌>>=◌ mentioning succeed name_as
  name_mentioned meets f v n met made =
      record {
        value = n.bytes;
        entries = entry key tag ∷ [];
        is =
            ap (λ (y : Parsed (List ℕ)). y >>= λ (n, rest). got n (meets n) rest) n.is
            ∙ ap (λ (z : Mentions). got n.bytes z (drop d.at text)) (nothing_mentioned (meets n.bytes) ∙ sym met);
        made = made;
        noting = n.noting;
        goes = n.goes;
        ready = n.ready;
        few = omega (arith, n.few);
        further = n.further;
      }

  -- its place
  pub name_placed : {place : ℕ} (meets : List ℕ → Mentions) (place_of : List ℕ → ℕ) → (n : NameParsed text m c tag key m₁ d)
      → mentions_in (entry key tag ∷ []) 0 [] 0 ≡ meets n.bytes → place_of n.bytes ≡ place
      → Gets (λ j. j) place text m c (name_as meets (drop c.at text) >>= λ (n, rest). succeed (place_of n) rest) m₁ d
  name_placed meets place_of n met placed =
      let r = name_mentioned meets place_of _ n met placed in gets_succeed _ (λ j. j) _ (place_of r.value) r refl r.made

module _ {text : List ℕ} {m : Mentioned} {c : Cursor} (known : Known) {key place : ℕ} {m₁ : Mentioned} {d : Cursor} where
  pub number_got : NameParsed text m c NumberUsed key m₁ d → place ≡ key_place key (number_keys known)
      → Gets (λ j. j) place text m c (number_name current (places_in known) (drop c.at text)) m₁ d
  unfolding number_name
  number_got n e =
      name_placed (usage for_number []) (places_in known).number n
      (ap (λ j. mentions_in (entry j NumberUsed ∷ []) 0 [] 0) n.keyed ∙ number_used n.bytes n.shown)
      (number_placed known n.bytes n.shown ∙ ap (λ j. key_place j (number_keys known)) (sym n.keyed) ∙ sym e)

  pub string_got : {tag : Tag} (role : Option Held.Role) → tag ≡ string_tag role → NameParsed text m c tag key m₁ d
      → place ≡ key_place key (string_keys known)
      → Gets (λ j. j) place text m c (string_name current (places_in known) (role_of role) (drop c.at text)) m₁ d
  unfolding string_name
  string_got role is n e =
      name_placed (λ w. usage for_string (role_of role w) w) (places_in known).string n
      (ap₂ (λ j t. mentions_in (entry j t ∷ []) 0 [] 0) n.keyed is ∙ role_mentioned n.bytes n.shown role)
      (string_placed known n.bytes n.shown ∙ ap (λ j. key_place j (string_keys known)) (sym n.keyed) ∙ sym e)

-- a broken form
pub place_lost : {text : List ℕ} {m : Mentioned} {c : Cursor} {x : Parsed ℕ} {r : Option (ℕ × Cursor)} {m₁ : Mentioned} → r ≡ None → x ≡ broken
    → PlaceRead text m c x r m₁
place_lost {text} {m} {c} {x} {m₁ = m₁} e h = subst (λ z. PlaceRead text m c x z m₁) (sym e) (record { answer = h })

module _ {A : Type 0} {f : A → Table.Cell} {text : List ℕ} {m : Mentioned} {c : Cursor} {m₁ : Mentioned} where
  pub cell_lost : {x : Parsed A} {r : Option (Cell × Cursor)} → r ≡ None → x ≡ broken → OperandRead f text m c x r m₁
  cell_lost {x} e h = subst (λ z. OperandRead f text m c x z m₁) (sym e) (record { answer = h })

  -- a cell by the same answer, and by the same reading
  pub cell_ends : {x : Parsed A} {q r : Option (Cell × Cursor)} → q ≡ r → OperandRead f text m c x r m₁ → OperandRead f text m c x q m₁
  cell_ends {x} e a = subst (λ z. OperandRead f text m c x z m₁) (sym e) a

  pub cell_same : {x y : Parsed A} {r : Option (Cell × Cursor)} → x ≡ y → OperandRead f text m c y r m₁ → OperandRead f text m c x r m₁
  cell_same {r = r} e a = subst (λ z. OperandRead f text m c z r m₁) (sym e) a

-- what follows a broken form is broken
pub then_broken : {A B : Type 0} {x : Parsed A} (next : A × List ℕ → Parsed B) → x ≡ broken → x >>= next ≡ broken
unfolding ◌>>=◌
then_broken next e = ap (λ y. y >>= next) e

pub name_as_broken : (meets : List ℕ → Mentions) (bs : List ℕ) → Words.name bs ≡ broken → name_as meets bs ≡ broken
unfolding name_as
name_as_broken meets bs e = then_broken _ e

module _ (p : Resolution) (bs : List ℕ) (e : Words.name bs ≡ broken) where
  pub number_broken : number_name current p bs ≡ broken
  unfolding number_name
  number_broken = then_broken _ (name_as_broken _ bs e)

  pub string_broken : (roles : List ℕ → List Role) → string_name current p roles bs ≡ broken
  unfolding string_name
  string_broken roles = then_broken _ (name_as_broken _ bs e)

-- a cell's value made of another that has the same cell
pub cell-made : {A B : Type 0} {f : A → Table.Cell} (g : A → B) (h : B → Table.Cell) {text : List ℕ} {m : Mentioned} {c : Cursor} {x : Parsed A}
    {m₁ : Mentioned} (r : Option (Cell × Cursor)) → ((a : A) → h (g a) ≡ f a) → OperandRead f text m c x r m₁
    → OperandRead h text m c (x >>= λ (a, rest). succeed (g a) rest) r m₁
cell-made g h (Some (v, d)) same a =
    record { answer = gets_succeed _ h (cell_meaning v) (g a.answer.value) a.answer refl (same a.answer.value ∙ a.answer.made) }
cell-made g h None same a = record { answer = then_broken _ a.answer }

-- a place in a cell of a kind and a value
pub place-cell : (kind v : ℕ) {text : List ℕ} {m : Mentioned} {c : Cursor} {x : Parsed ℕ} {m₁ : Mentioned} (p : Option (ℕ × Cursor))
    → PlaceRead text m c x p m₁ → OperandRead (λ n. Table.cell kind n v) text m c x (placed_in kind v p) m₁
place-cell kind v (Some (place, d)) a =
    let r = a.answer in
    record {
      answer =
          record {
            value = r.value;
            entries = r.entries;
            is = r.is;
            made = ap (λ n. Table.cell kind n v) r.made;
            noting = r.noting;
            goes = r.goes;
            ready = r.ready;
            few = r.few;
            further = r.further;
          };
    }
place-cell kind v None a = record { answer = a.answer }

-- a cell read behind skipped bytes
pub cell_skip : {A : Type 0} {f : A → Table.Cell} {text : List ℕ} {m : Mentioned} (n : ℕ) {b c : Cursor} {x : Parsed A} {m₁ : Mentioned}
    (r : Option (Cell × Cursor)) → Skips b n c → OperandRead f text m c x r m₁ → OperandRead f text m b x r m₁
cell_skip n (Some (v, d)) s a = record { answer = gets_skip n s a.answer }
cell_skip n None s a = record { answer = a.answer }

-- a cell read behind another reading
pub cell_then : {A B C : Type 0} {f : A → C} {v : C} {text : List ℕ} {m : Mentioned} {c : Cursor} {x : Parsed A} {m₁ : Mentioned} {d : Cursor}
    (r : Gets f v text m c x m₁ d) (next : A × List ℕ → Parsed B) (h : B → Table.Cell) (q : Option (Cell × Cursor)) {m₂ : Mentioned}
    → OperandRead h text m₁ d (next (r.value, drop d.at text)) q m₂
    → OperandRead h text m c (x >>= next) q m₂
cell_then r next h (Some (w, e)) a = record { answer = gets_then next h (cell_meaning w) r a.answer }
cell_then r next h None a = record { answer = got_broken next r.is a.answer }

-- a value that is given from a place on
pub value_got : {A C : Type 0} (f : A → C) (v : A) (w : C) (next : ℕ) {text : List ℕ} {m : Mentioned} {c : Cursor} {x : Parsed A} {d : Cursor}
    → ReaderReady text c → x ≡ succeed v (drop next text) → c.at < next → next ≤ length text → f v ≡ w → d ≡ cursor_moved c (next - c.at)
    → Gets f w text m c x m d
unfolding succeed no_mentions mentions_in gather
value_got f v w next {text} {m} {c} {x} {d} ready is h g made e =
    let at : d.at ≡ next = ap (λ (z : Cursor). z.at) e ∙ omega arith in
    let s = skipped c (next - c.at) e in
    record {
      value = v;
      entries = [];
      is = is ∙ ap (λ j. succeed v (drop j text)) (sym at);
      made = made;
      noting = noting_none c.names;
      goes = s.goes;
      ready = ready_at s ready (omega arith);
      few = omega (arith, letters_on text c.at d.at (omega arith));
      further = omega arith;
    }

-- what a test chooses
pub chosen : {A : Type 0} {b : Bool} {test : Bool} (x y : A) → test ≡ b
    → ◌≡◌ {A = A} (elim test [ true ↦ x | false ↦ y ]) (elim b [ true ↦ x | false ↦ y ])
chosen {A} x y e = ap {B = A} (λ t. elim t [ true ↦ x | false ↦ y ]) e

-- the first bytes of a string as a cell with a length
pub part_length : (kind s : ℕ) (n : Length) → part_cell kind (first s n) ≡ length_cell (kind + 1) s n
unfolding part_cell length_cell
part_length kind s (constantly z) = refl
part_length kind s (numbered i) = ap (λ k. Table.cell k s i) (sym (add_assoc kind 1 1))

module _ (p : Resolution) {text : List ℕ} {m : Mentioned} {c : Cursor} where
  module _ (kind place : ℕ) where
    pub bound_constant : {r : Option (Cell × Cursor)} → is_digit (get_or (drop c.at text) 0 0) ≡ true → ConstantRead text m c kind place r
        → OperandRead (length_cell kind place) text m c (bound current p (drop c.at text)) r m
    unfolding bound length_cell
    bound_constant {r} e a =
        cell_same (chosen _ _ e) (cell-made (λ v. constantly (pos v)) (length_cell kind place) r (λ _. refl) a)

    pub bound_number : {n : ℕ} {m₁ : Mentioned} {d : Cursor} → is_digit (get_or (drop c.at text) 0 0) ≡ false
        → Gets (λ j. j) n text m c (number_name current p (drop c.at text)) m₁ d
        → Gets (length_cell kind place) (Table.cell (kind + 1) place n) text m c (bound current p (drop c.at text)) m₁ d
    unfolding bound length_cell
    bound_number {n} {m₁} {d} e a =
        subst (λ y. Gets (length_cell kind place) (Table.cell (kind + 1) place n) text m c y m₁ d) (sym (chosen _ _ e))
        (gets_succeed _ (length_cell kind place) _ (numbered a.value) a refl (ap (Table.cell (kind + 1) place) a.made))

  -- a name or substring
  module _ (kind : ℕ) (roles : List ℕ → List Role) {s : ℕ} {m₁ : Mentioned} {d : Cursor}
      (a : Gets (λ j. j) s text m c (string_name current p roles (drop c.at text)) m₁ d) where
    pub part_whole : begins (36 ∷ []) (drop d.at text) ≡ false
        → Gets (part_cell kind) (Table.cell kind s 0) text m c (part_name current p roles (drop c.at text)) m₁ d
    unfolding part_name part_of part_cell bytes
    part_whole e =
        gets_succeed (λ (s, rest). part_of current p s rest) (part_cell kind) _ (whole a.value) a (chosen _ _ e)
        (ap (λ j. Table.cell kind j 0) a.made)

    pub part_first : begins (36 ∷ []) (drop d.at text) ≡ true → (r : Option (Cell × Cursor)) {b : Cursor} {m₂ : Mentioned}
        → b ≡ cursor_moved d 1 → OperandRead (length_cell (kind + 1) s) text m₁ b (bound current p (drop b.at text)) r m₂
        → OperandRead (part_cell kind) text m c (part_name current p roles (drop c.at text)) r m₂
    unfolding part_name part_of part_cell bytes
    part_first e r moved b =
        let lengths : List ℕ → Parsed Program.Part = λ l. bound current p l >>= λ (n, rest). succeed (first a.value n) rest in
        cell_then a (λ (s, rest). part_of current p s rest) (part_cell kind) r
        (cell_same (chosen _ _ e ∙ ap lengths (sym (drop-moved text d 1 moved)))
        (cell-made (first a.value) (part_cell kind) r
        (λ n. part_length kind a.value n ∙ ap (λ j. length_cell (kind + 1) j n) a.made) (cell_skip 1 r (skipped d 1 moved) b)))

module _ (p : Resolution) (bs : List ℕ) where
  pub bound_broken : is_digit (get_or bs 0 0) ≡ false → number_name current p bs ≡ broken → bound current p bs ≡ broken
  unfolding bound
  bound_broken e h = chosen _ _ e ∙ then_broken _ h

  pub part_broken : (roles : List ℕ → List Role) → string_name current p roles bs ≡ broken → part_name current p roles bs ≡ broken
  unfolding part_name
  part_broken roles h = then_broken _ h

-- what the code's reading of an n, and of a string or substring, comes to
pub ruleset bound_read = (bound_constant, bound_number, bound_broken, cell_lost)

pub ruleset part_read = (part_whole, part_first, part_broken, cell_lost)

-- a value before `)`
module _ {A B C : Type 0} {f : A → C} {v : C} (g : A → B) {text : List ℕ} {m : Mentioned} {c : Cursor} {x : Parsed A} {m₁ : Mentioned} {d : Cursor}
    (r : Gets f v text m c x m₁ d) where
  pub gets_closed : {W : Type 0} (h : B → W) {w : W} → begins (41 ∷ []) (drop d.at text) ≡ true → h (g r.value) ≡ w
      → Gets h w text m c (x >>= λ (a, rest). expect (bytes ")") rest >>= λ (_, rest). succeed (g a) rest) m₁ (cursor_moved d 1)
  unfolding bytes ◌>>=◌ mentioning succeed
  gets_closed h e made =
      record {
        value = g r.value;
        entries = r.entries;
        is =
            ap (λ (y : Parsed A). y >>= λ (a, rest). expect (bytes ")") rest >>= λ (_, rest). succeed (g a) rest) r.is
            ∙ ap (mentioning (mentions_in r.entries 0 [] 0))
            (expect_then (41 ∷ []) (drop d.at text) (λ (_, rest). succeed (g r.value) rest) e
            ∙ ap (succeed (g r.value)) (drop-drop 1 d.at text))
            ∙ ap (λ (z : Mentions). got (g r.value) z (drop (d.at + 1) text)) (mentions_nothing (mentions_in r.entries 0 [] 0));
        made = made;
        noting = r.noting;
        goes = onward-moved 1 r.goes;
        ready = ready_moved (41 ∷ []) r.ready refl e;
        few = omega (arith, r.few, letters_on text d.at (d.at + 1) (omega arith));
        further = omega (arith, r.further);
      }

  pub gets_open : begins (41 ∷ []) (drop d.at text) ≡ false
      → (x >>= λ (a, rest). expect (bytes ")") rest >>= λ (_, rest). succeed (g a) rest) ≡ broken
  unfolding bytes
  gets_open e = got_broken _ r.is (expect_broken (41 ∷ []) (drop d.at text) (λ (_, rest). succeed (g r.value) rest) e)

-- an operand before `)`
module _ {A B : Type 0} {f : A → Table.Cell} (g : A → B) (h : B → Table.Cell) (same : (a : A) → h (g a) ≡ f a) {text : List ℕ} {m : Mentioned}
    {c : Cursor} {x : Parsed A} {m₁ : Mentioned} where
  closed_case : (v : Cell) (d : Cursor) (b : Bool) → begins (41 ∷ []) (drop d.at text) ≡ b
      → Gets f (cell_meaning v) text m c x m₁ d
      → OperandRead h text m c (x >>= λ (a, rest). expect (bytes ")") rest >>= λ (_, rest). succeed (g a) rest)
      (celled_at v (elim b [ true ↦ Some (cursor_moved d 1) | false ↦ None ])) m₁
  closed_case v d true e a = record { answer = gets_closed g a h e (same a.value ∙ a.made) }
  closed_case v d false e a = record { answer = gets_open g a e }

  pub closed_cell : (r : Option (Cell × Cursor)) → OperandRead f text m c x r m₁
      → OperandRead h text m c (x >>= λ (a, rest). expect (bytes ")") rest >>= λ (_, rest). succeed (g a) rest) (behind_parenthesis text r) m₁
  closed_cell (Some (v, d)) a = closed_case v d (begins (41 ∷ []) (drop d.at text)) refl a.answer
  closed_cell None a = record { answer = then_broken _ a.answer }

-- LENGTH, NUMBER, a number; constants
module _ (p : Resolution) {text : List ℕ} {m : Mentioned} {c : Cursor} {m₁ : Mentioned} where
  pub called_length : {d : Cursor} → d ≡ cursor_moved c 7 → begins (bytes "LENGTH(") (drop c.at text) ≡ true → (q : Option (ℕ × Cursor))
      → PlaceRead text m d (string_name current p (role_of None) (drop d.at text)) q m₁
      → OperandRead operand_cell text m c (called_or_number current p (drop c.at text))
      (behind_parenthesis text (placed_in length_kind.number 0 q)) m₁
  unfolding called_or_number operand_cell role_of no_role
  called_length s e q a =
      let closes : List ℕ → Parsed Program.Operand =
      λ l. string_name current p no_role l >>= λ (s, rest). expect (bytes ")") rest >>= λ (_, rest). succeed (length_of s) rest in
      let cell = placed_in length_kind.number 0 q in
      cell_same (chosen _ _ e ∙ ap closes (sym (drop-moved text c 7 s)))
      (closed_cell length_of operand_cell (λ _. refl) cell (cell_skip 7 cell (skipped c 7 s) (place-cell length_kind.number 0 q a)))

  pub called_number : {d : Cursor} → d ≡ cursor_moved c 7 → begins (bytes "LENGTH(") (drop c.at text) ≡ false
      → begins (bytes "NUMBER(") (drop c.at text) ≡ true → (q : Option (Cell × Cursor))
      → OperandRead (part_cell number_of_parts) text m d (part_name current p (role_of None) (drop d.at text)) q m₁
      → OperandRead operand_cell text m c (called_or_number current p (drop c.at text)) (behind_parenthesis text q) m₁
  unfolding called_or_number operand_cell part_cell role_of no_role
  called_number s e₁ e q a =
      let closes : List ℕ → Parsed Program.Operand =
      λ l. part_name current p no_role l >>= λ (s, rest). expect (bytes ")") rest >>= λ (_, rest). succeed (number_of s) rest in
      cell_same (chosen _ _ e₁ ∙ chosen _ _ e ∙ ap closes (sym (drop-moved text c 7 s)))
      (closed_cell number_of operand_cell (λ _. refl) q (cell_skip 7 q (skipped c 7 s) a))

  pub called_plain : begins (bytes "LENGTH(") (drop c.at text) ≡ false → begins (bytes "NUMBER(") (drop c.at text) ≡ false → (q : Option (ℕ × Cursor))
      → PlaceRead text m c (number_name current p (drop c.at text)) q m₁
      → OperandRead operand_cell text m c (called_or_number current p (drop c.at text)) (placed_in number_kind.number 0 q) m₁
  unfolding called_or_number operand_cell
  called_plain e₁ e₂ q a =
      cell_same (chosen _ _ e₁ ∙ chosen _ _ e₂)
      (cell-made Program.variable operand_cell (placed_in number_kind.number 0 q) (λ _. refl) (place-cell number_kind.number 0 q a))

  pub plain_called : {r : Option (Cell × Cursor)} → is_digit (get_or (drop c.at text) 0 0) ≡ false
      → OperandRead operand_cell text m c (called_or_number current p (drop c.at text)) r m₁
      → OperandRead operand_cell text m c (plain_factor current p (drop c.at text)) r m₁
  unfolding plain_factor
  plain_called e a = cell_same (chosen _ _ e) a

module _ (p : Resolution) {text : List ℕ} {m : Mentioned} {c : Cursor} where
  pub plain_constant : {r : Option (Cell × Cursor)} → is_digit (get_or (drop c.at text) 0 0) ≡ true → ConstantRead text m c constant_kind.number 0 r
      → OperandRead operand_cell text m c (plain_factor current p (drop c.at text)) r m
  unfolding plain_factor operand_cell
  plain_constant {r} e a = cell_same (chosen _ _ e) (cell-made (λ v. Program.constant (pos v)) operand_cell r (λ _. refl) a)

-- Laws of what the code holds of a statement while it joins lines.
-- Assumes nothing.
use Rattle.std.specs.Prelude.{Some, None}
use mathlib.Core.Bool.{Bool, true, false, cond, not, ◌&&◌, false≢true}
use mathlib.Core.List.{List, [], ◌∷◌, ◌++◌, map}
use mathlib.Core.Path.{◌≡◌, refl, ap, ap₂, sym, subst, ◌∙◌}
use Prim.Native.Nat.{ℕ, ◌+◌, ◌-◌, ◌≤◌, ◌<◌}
use native.Mathlib.Nat.{le_trans, min-le_right}
use native.Mathlib.Omega.{arith}
use lib.Dec.{eqb}
use lib.ListN.{length, take, drop, length-take, length-drop}
use lib.Seq.{take-take}
use Rattle.base.specs.Choice.{test_cases}
use Rattle.base.specs.Current.{current}
use Rattle.base.specs.ListLaws.{stretch_few}
use Rattle.cards.specs.Bytes.{slash}
use Rattle.cards.specs.Cards.{Unpacked, lines, sound_line, column9, label_of, statement_text, unpacked_from, statement, without_blanks}
use Rattle.cards.specs.Entries.{Entry, packed_entry, entries_from}
use Rattle.cards.specs.Packing.{Place, outside, pack_from, packed, literals_whole}
use Rattle.card_reader.proofs.Chains.{first_sound, first_told, join_told, joined_line, skipped_told}
use Rattle.card_reader.proofs.Labels.{blanks_less, front_short}
use Rattle.card_reader.proofs.Packing.{packed-parts, place-parts, unbroken-parts, literals_end}
use Rattle.card_reader.specs.declared.Joining.{Joining}
use Rattle.card_reader.specs.declared.packed.Packing.{Packing}
use Rattle.card_reader.specs.Gathering.{
  StatementGathered,
  DeckRoom,
  LineAddable,
  LineAdded,
  Joined,
  Complete,
  JoinedAll,
  broken_off,
  nothing_from,
  entry_of,
  Readable,
  StatementPacked,
  Gathers,
}
use Rattle.card_reader.specs.Joins.{StatementPart, add_line, break_off, join_line, nothing_of, tell_lines}
use Rattle.card_reader.specs.KeyLaws.{sound_label}
use Rattle.card_reader.specs.Keys.{key_of}
use Rattle.card_reader.specs.Letters.{letters, letters-append, letters_few, letters-front, letters-behind, letters-packed}
use Rattle.card_reader.specs.Lines.{LineEnds, is_skipped, joins}
use Rattle.card_reader.specs.Packs.{Packs}
use Rattle.card_reader.specs.Places.{is_outside, place_meaning, place_behind, unbroken}

module _ (deck text : List ℕ) where
  pub holds_nothing : (from : ℕ) → StatementGathered deck text (nothing_from from) (nothing_of (lines (drop from deck)))
  unfolding nothing_of packed pack_from place_behind unbroken
  holds_nothing from =
      record { sound = refl; more = refl; count = refl; rest = refl; bytes = refl; place = refl; whole = refl }

  module _ (s : Joining) (p : StatementPart) (h : StatementGathered deck text s p) where
    pub holds_broken : StatementGathered deck text (broken_off s) (break_off p p.rest)
    unfolding break_off
    holds_broken =
        record {
          sound = refl;
          more = refl;
          count = h.count;
          rest = h.rest;
          bytes = h.bytes;
          place = h.place;
          whole = h.whole;
        }

    pub holds-line : (line : List ℕ) (next : ℕ) (text' : List ℕ) (r : Joining) → LineAdded line next text s text' r →
        StatementGathered deck text' r (add_line p line (lines (drop next deck)))
    unfolding add_line packed
    holds-line line next text' r a =
        let more = statement_text current line in
        let k = a.packs in
        record {
          sound = a.sound ∙ ap (λ t. t && (sound_line line && not (eqb (column9 current line) slash))) h.sound;
          more = a.more;
          count = a.count ∙ ap (λ (n : ℕ). n + 1) h.count;
          rest = ap (λ (n : ℕ). lines (drop n deck)) a.behind;
          bytes =
              k.bytes
              ∙ ap (λ (l : List ℕ). l ++ pack_from (place_meaning s.packing.place) more) h.bytes
              ∙ ap (λ (q : Place). pack_from outside p.raw ++ pack_from q more) h.place
              ∙ sym (packed-parts outside p.raw more);
          place = k.place ∙ ap (λ (q : Place). place_behind q more) h.place ∙ sym (place-parts outside p.raw more);
          whole =
              k.whole
              ∙ ap (λ (t : Bool). t && unbroken (place_meaning s.packing.place) more) h.whole
              ∙ ap (λ (q : Place). unbroken outside p.raw && unbroken q more) h.place
              ∙ sym (unbroken-parts outside p.raw more);
        }

    -- literals are whole if none is broken and the text ends outside of one
    pub holds-literals : (flag : Bool) → flag ≡ is_outside (place_meaning s.packing.place) →
        (s.packing.whole && flag) ≡ literals_whole p.raw
    unfolding literals_whole
    holds-literals flag e =
        ap (λ t. s.packing.whole && t) (e ∙ ap is_outside h.place)
        ∙ ap (λ t. t && is_outside (place_behind outside p.raw)) h.whole
        ∙ sym (literals_end outside p.raw)

    -- a statement that is over
    pub holds_told : s.more ≡ false → (n : ℕ) (label : List ℕ) →
        tell_lines n label p ≡ statement n s.sound label p.raw ∷ unpacked_from current (n + s.lines) (lines (drop s.next deck))
    unfolding tell_lines
    holds_told over n label = rw (h.sound, h.count, h.rest, sym h.more ∙ over)

text_within : (line : List ℕ) → length (statement_text current line) ≤ length line
unfolding statement_text current
text_within line = omega (arith, length-drop 9 (take 72 line), length-take 72 line, min-le_right 72 (length line))

-- a line adds no more letters to the packed text than it has bytes
added-letters : {line : List ℕ} {next : ℕ} {text : List ℕ} {s : Joining} {text' : List ℕ} {r : Joining} → LineAdded line next text s text' r
    → letters (take r.packing.length text') ≤ letters (take s.packing.length text) + length line
unfolding statement_text current
added-letters {line} {text = text} {s} a =
    let place = place_meaning s.packing.place in
    omega (
      arith,
      ap letters a.packs.bytes,
      letters-append (take s.packing.length text) (pack_from place (statement_text current line)),
      letters-packed place (statement_text current line),
      letters-behind 9 (take 72 line),
      letters-front 72 line,
      letters_few line,
    )

pub text_fits : (line part : List ℕ) (n most : ℕ) → part ≡ statement_text current line → n + length line ≤ most → n + length part ≤ most
text_fits line part n most e h = rw e (omega (arith, text_within line))

-- a line's parts put together
module _ (line : List ℕ) (next : ℕ) (text : List ℕ) (s : Joining) (text' : List ℕ) (packing : Packing)
    (sound more : Bool) (mark : ℕ) (part : List ℕ) where
  pub added : sound ≡ sound_line line → mark ≡ column9 current line → more ≡ joins mark → part ≡ statement_text current line →
      Packs part text s.packing text' packing →
      LineAdded line next text s text'
      (record { sound = s.sound && (sound && not (eqb mark 47)); more = more; packing = packing; lines = s.lines + 1; next = next })
  unfolding slash
  added es em ej ep k =
      record {
        sound =
            ap (λ t. s.sound && (t && not (eqb mark 47))) es
            ∙ ap (λ (n : ℕ). s.sound && (sound_line line && not (eqb n 47))) em;
        more = ej ∙ ap joins em;
        count = refl;
        behind = refl;
        packs = subst (λ (l : List ℕ). Packs l text s.packing text' packing) ep k;
      }

module _ (deck text : List ℕ) (s : Joining) (room : DeckRoom deck text s) where
  -- the statement is broken off
  pub joined_off : ((p : StatementPart) → StatementGathered deck text s p → break_off p p.rest ≡ join_line p p.rest) → (r : Joining) → r ≡ broken_off s →
      Joined deck text s text r
  joined_off off r e =
      subst (λ (r : Joining). Joined deck text s text r) (sym e)
      (record {
        room =
            record {
              small = room.small;
              size = room.size;
              next = room.next;
              lines = room.lines;
              bytes = room.bytes;
              within = room.within;
            };
        onward = omega arith;
        paced = omega arith;
        spare = omega arith;
        further = λ t. absurd (false≢true t);
        holds = λ p h. subst (λ (q : StatementPart). StatementGathered deck text (broken_off s) q) (off p h) (holds_broken deck text s p h);
      })

  module _ (end : ℕ) (ends : LineEnds deck s.next end) where
    abbrev line : List ℕ
    line = take (end - s.next) (drop s.next deck)

    line-length : length line ≤ end - s.next
    line-length = stretch_few deck s.next (end - s.next)

    pub adding : LineAddable line (end + 1) text s
    adding =
        let short = line-length in
        record {
          small = let h = ends.high in let g = room.small in omega arith;
          size = room.size;
          lines = let h = ends.low in let g = room.lines in omega arith;
          bytes = let h = ends.low in let g = room.bytes in omega arith;
        }

    module _ (text' : List ℕ) (r : Joining) (a : LineAdded line (end + 1) text s text' r) where
      pub room_added : DeckRoom deck text' r
      room_added =
          let short = line-length in
          let part = text_within line in
          let packs = a.packs.room in
          record {
            small = room.small;
            size = a.packs.size ∙ room.size;
            next = let h = ends.high in omega arith;
            lines = let h = ends.low in omega arith;
            bytes = let h = ends.low in omega arith;
            within = let h = ends.low in let g = ends.high in omega arith;
          }

      -- a line is joined
      pub joined_on : is_skipped line ≡ false → Joined deck text s text' r
      joined_on skip =
          record {
            room = room_added;
            onward = let h = ends.low in omega arith;
            paced = let h = ends.low in omega arith;
            spare =
                let h = ends.low in
                let short = line-length in
                omega (arith, added-letters a);
            further = λ _. let h = ends.low in omega arith;
            holds =
                λ p h.
                subst (λ (q : StatementPart). StatementGathered deck text' r q)
                (joined_line p line (lines (drop (end + 1) deck)) p.rest (sym ends.first ∙ h.rest) skip)
                (holds-line deck text s p h line (end + 1) text' r a);
          }

-- lines have been joined, from s₀ to s
pub record Chain (deck text₀ : List ℕ) (s₀ : Joining) (text : List ℕ) (s : Joining) : Type 0 where
  pub room : DeckRoom deck text s
  pub onward : s₀.next ≤ s.next
  pub paced : s₀.next + s.lines ≤ s.next + s₀.lines
  pub spare : s₀.next + letters (take s.packing.length text) ≤ s.next + letters (take s₀.packing.length text₀)
  pub complete : (p : StatementPart) → StatementGathered deck text₀ s₀ p → Complete deck text s p

-- what is left to join: nothing, or lines of the deck
abbrev pub left : List ℕ → Joining → ℕ
left deck s = cond s.more (length deck + 2 - s.next) 0

module _ (deck text : List ℕ) (s : Joining) where
  pub chain_start : DeckRoom deck text s → Chain deck text s text s
  chain_start room =
      record {
        room = room;
        onward = omega arith;
        paced = omega arith;
        spare = omega arith;
        complete = λ p h. record { part = p; holds = h; same = λ n label. refl };
      }

  pub less_left : (text' : List ℕ) (r : Joining) → s.more ≡ true → Joined deck text s text' r → left deck r < left deck s
  less_left text' r more j =
      rw more
      (test_cases (λ t. (r.more ≡ t) → cond t (length deck + 2 - r.next) 0 < length deck + 2 - s.next) r.more
      (λ e _. let h = j.further e in let k = j.room.next in omega arith)
      (λ _ _. let h = j.onward in let k = j.room.next in omega arith)
      refl)

  module _ (text₀ : List ℕ) (s₀ : Joining) (k : Chain deck text₀ s₀ text s) where
    pub chain_more : (text' : List ℕ) (r : Joining) → s.more ≡ true → Joined deck text s text' r → Chain deck text₀ s₀ text' r
    chain_more text' r more j =
        record {
          room = j.room;
          onward = let h = j.onward in let g = k.onward in omega arith;
          paced = let h = j.paced in let g = k.paced in omega arith;
          spare = let h = j.spare in let g = k.spare in omega arith;
          complete =
              λ p h.
              let q = k.complete p h in
              record {
                part = join_line q.part q.part.rest;
                holds = j.holds q.part q.holds;
                same = λ n label. q.same n label ∙ join_told n label q.part (sym q.holds.more ∙ more);
              };
        }

    pub chain_done : s.more ≡ false → JoinedAll deck text₀ s₀ text s
    chain_done over = record { room = k.room; onward = k.onward; paced = k.paced; spare = k.spare; over = over; complete = k.complete }

pub room_nothing : (deck : List ℕ) (from : ℕ) (text : List ℕ) → Readable deck from text → DeckRoom deck text (nothing_from from)
room_nothing deck from text read =
    record {
      small = read.small;
      size = read.size;
      next = let h = read.start in omega arith;
      lines = omega arith;
      bytes = omega arith;
      within = omega arith;
    }

label_front : (line : List ℕ) → label_of current line ≡ without_blanks (take 8 line)
unfolding label_of current
label_front line = ap without_blanks (take-take 8 72 line (omega arith))

label_short : (line : List ℕ) → length (label_of current line) ≤ 8
label_short line = rw (label_front line) (le_trans (blanks_less (take 8 line)) (front_short 8 line (take 8 line) refl))

-- an entry whose first line ends at end
module _ (deck : List ℕ) (from : ℕ) (text : List ℕ) (read : Readable deck from text) (end : ℕ) (ends : LineEnds deck from end) where
  abbrev first : List ℕ
  first = take (end - from) (drop from deck)

  pub gathers_skipped : is_skipped first ≡ true → (sound : Bool) → sound ≡ sound_line first →
      Gathers deck from text (record { statement = None; sound = sound; lines = 1; next = end + 1 })
  unfolding entry_of entries_from packed_entry
  gathers_skipped skip sound e =
      record {
        label = [];
        entry =
            λ n.
            ap (entries_from current n) ends.first
            ∙ ap (map packed_entry) (skipped_told n first (lines (drop (end + 1) deck)) skip)
            ∙ ap (λ t. Entry.skipped n t ∷ entries_from current (n + 1) (lines (drop (end + 1) deck))) (sym e);
        packs = λ p is. cc is;
        onward = let h = ends.low in omega arith;
        paced = let h = ends.low in omega arith;
        inside = let h = ends.high in omega arith;
        size = read.size;
      }

  pub gathers_statement : is_skipped first ≡ false → (key : ℕ) → key ≡ key_of (without_blanks (take 8 first)) →
      (text₁ : List ℕ) (s₁ : Joining) → LineAdded first (end + 1) text (nothing_from from) text₁ s₁ →
      (text₂ : List ℕ) (s : Joining) → JoinedAll deck text₁ s₁ text₂ s → (flag : Bool) → flag ≡ is_outside (place_meaning s.packing.place) →
      Gathers deck from text₂
      (record {
        statement = Some (record { label = key; length = s.packing.length; whole = s.packing.whole && flag });
        sound = s.sound;
        lines = s.lines;
        next = s.next;
      })
  unfolding entry_of entries_from packed_entry
  gathers_statement skip key ek text₁ s₁ a text₂ s j flag ef =
      let start = nothing_of (lines (drop from deck)) in
      let held = holds-line deck text (nothing_from from) start (holds_nothing deck text from) first (end + 1) text₁ s₁ a in
      let k = j.complete (add_line start first (lines (drop (end + 1) deck))) held in
      let label = label_of current first in
      let others : ℕ → List Unpacked = λ n. unpacked_from current (n + s.lines) (lines (drop s.next deck)) in
      let joined : (n : ℕ) →
      unpacked_from current n (first ∷ lines (drop (end + 1) deck)) ≡ statement n s.sound label k.part.raw ∷ others n =
      λ n.
      first_told n first (lines (drop (end + 1) deck)) skip
      ∙ ap (λ (rest : List (List ℕ)). tell_lines n label (add_line (nothing_of rest) first (lines (drop (end + 1) deck)))) (sym ends.first)
      ∙ k.same n label
      ∙ holds_told deck text₂ s k.part k.holds j.over n label in
      record {
        label = label;
        entry =
            λ n.
            ap (entries_from current n) ends.first
            ∙ ap (map packed_entry) (joined n)
            ∙ ap₂ (λ (whole : Bool) (text : List ℕ). Entry.statement n s.sound label whole text ∷ map packed_entry (others n))
            (sym (holds-literals deck text₂ s k.part k.holds flag ef)) (sym k.holds.bytes);
        packs =
            λ p is.
            let same : record { label = key; length = s.packing.length; whole = s.packing.whole && flag } ≡ p = cc is in
            subst (StatementPacked from s.next s.sound label text₂) same
            (record {
              keyed =
                  λ sound.
                  record {
                    is = ek ∙ ap key_of (sym (label_front first));
                    clean =
                        sound_label first
                        (first_sound 0 first (lines (drop (end + 1) deck)) label k.part.raw (others 0) skip
                        (joined 0 ∙ ap (λ t. statement 0 t label k.part.raw ∷ others 0) sound));
                    short = label_short first;
                  };
              fits = let h = j.room.within in let g = read.small in omega arith;
              spare =
                  let h = j.spare in
                  let g = ends.low in
                  let b = a.behind in
                  let short = line-length deck text (nothing_from from) (room_nothing deck from text read) end ends in
                  omega (arith, added-letters a, letters_few (take 0 text));
            });
        onward = let h = j.onward in let g = ends.low in let b = a.behind in omega arith;
        paced = let h = j.paced in let g = ends.low in let b = a.behind in let c = a.count in omega arith;
        inside = j.room.next;
        size = j.room.size;
      }

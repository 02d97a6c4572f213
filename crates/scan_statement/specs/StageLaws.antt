-- Laws of a scan whose pattern's values are known: no split, or one and what its replacement comes to. Assumes nothing.
use Rattle.std.specs.Prelude as Prelude
use Rattle.std.specs.Prelude.{Some, None, true, false, Ok, Err, ℕ, ◌+◌, ◌-◌, ◌≤◌, leb, take, drop, get_or}
use mathlib.Core.List.{List, ◌++◌}
use Rattle.std.proofs.Math.Option.{Option, some}
use Rattle.std.proofs.Math.Path.{◌≡◌, refl, sym, ap, ap₂}
use Rattle.std.proofs.Common.{subst, ◌∙◌, add-zero, take-append-drop}
use native.Mathlib.Omega.{arith}
use Rattle.std.proofs.Math.ListN.{length}
use Rattle.std.proofs.Math.Seq.{length-take-le}
use Rattle.base.specs.Choice.{cond_cases}
use Rattle.base.specs.Current.{current}
use Rattle.base.specs.ListLaws.{stretch_behind}
use Rattle.base.specs.Lists.{total}
use Rattle.encoding.specs.BufferLaws.{good_short}
use Rattle.encoding.specs.Buffers.{numbers_in}
use Rattle.store.specs.Clauses.{string_of, string_replaced}
use Rattle.evaluator.specs.Memory.{memory_in}
use Rattle.evaluator.specs.Notes.{FewNotes, few_bind, few_done, few_elements_spelt}
use Rattle.syntax.specs.Program as Program
use Rattle.machine.specs.Expressions.{string_in}
use Rattle.machine.specs.Scanning.{ScanLeft, Searched, Valued, leaving, replacing, storing, turned, without_fillers}
use Rattle.machine.specs.State.{Memory}
use Rattle.decoder.specs.Holds.{ReplacementHolds}
use Rattle.decoder.specs.Meaning.{elements_meaning, patterns_meaning, replacement_meaning}
use Rattle.encoding.specs.Meaning.{direction_meaning}
use Rattle.encoding.specs.declared.cells.Direction.{Direction}
use Rattle.decoder.specs.declared.Stretch.{Stretch}
use Rattle.scanning.specs.Trials as Trials
use Rattle.effects.specs.FillerLaws.{put_back, stays_on}
use Rattle.effects.specs.Fillers.{Copied, is_filler, lengths_in}
use Rattle.effects.specs.Leaving.{LeavesStore, StoreStays}
use Rattle.effects.specs.OtherLaws.{Unnamed, pattern_names, place_apart}
use Rattle.effects.specs.ReferenceLaws.{between_same, reference_size, stretch_size}
use Rattle.effects.specs.References.{searched_at, turned_reference, stretch_of}
use Rattle.effects.specs.ReplacingLaws.{found_from, found_to, replacing-found}
use Rattle.effects.specs.Valued.{Between}
use Rattle.effects.specs.declared.Span.{Span}
use Rattle.values.specs.Conversion.{longest_string}
use Rattle.values.specs.Result.{Result, done, with_notes, pure, ◌>>=◌}
use Rattle.values.specs.declared.Stop.{Stop}
use Rattle.scan_statement.specs.Scans.{ScanDone, is_split}
use Rattle.scan_statement.specs.Searches.{SplitFound, PiecesFound, SpanSearchable, scan_of}
use Rattle.scan_statement.specs.Stages.{LengthsCounted, Findable, Saved, pieces_in, replaced_by, searched_rest, valued_rest}

-- storing makes no notes
few_storing : (s : ℕ) (v : List ℕ) (m : Memory) → FewNotes 0 (storing s v m)
unfolding storing pure
few_storing s v m = cond_cases (FewNotes 0) (leb (length v) longest_string) (λ _. omega arith) (λ _. tt)

-- a string is its three stretches
stretches : (v : List ℕ) (from to : ℕ) → from ≤ to → take from v ++ (stretch_of v from to ++ drop to v) ≡ v
stretches v from to h =
    ap (λ (l : List ℕ). take from v ++ l) (stretch_behind v from (to - from) to (omega arith)) ∙ take-append-drop from v

module _ {table store state : List ℕ} {d : Direction} {at : Span} {pattern : Stretch} {values rows names : List ℕ} {notes : ℕ}
    (q : Findable table store state d at pattern values rows names notes) where
  abbrev vs : List Valued
  vs = q.put.valued

  abbrev way : Program.Direction
  way = direction_meaning d

  abbrev reference : List ℕ
  reference = turned_reference store way at

  abbrev searched : Searched
  searched = searched_at at.place at.from at.to (string_of store at.place)

  abbrev nulled : Memory
  nulled = without_fillers (patterns_meaning table pattern) (memory_in store state)

  abbrev answered : Trials.Scanned
  answered = scan_of vs reference

  -- the stretch that is searched
  searched-length : length reference ≡ at.to - at.from
  searched-length = reference_size store way at q.between

  searched_short : length reference ≤ 1024
  searched_short = omega (arith, searched-length, q.between.within, good_short store q.ready.strings at.place)

  -- the lengths of the pieces found can be added up
  pub found_counting : {left answer : List ℕ} → SplitFound true table store left pattern reference answer vs → LengthsCounted answer pattern.count
  found_counting {answer = answer} f =
      let n = f.by in
      let sum : total (λ l. l) (lengths_in answer pattern.count) ≡ total (λ l. l) n.split.lengths = ap (total (λ l. l)) n.lengths in
      record { few = q.fillers.few; short = omega (arith, sum, n.pieces, searched_short) }

  module _ (r : Option (List Program.Element)) where
    -- the work that is left, for the values and the reference that there are
    rest-is : searched_rest table store state d at pattern r ≡ with_notes notes (leaving current way searched vs r nulled answered answered.split)
    unfolding ◌>>=◌
    rest-is =
        ap (λ w. w >>= valued_rest table store state d at pattern r) q.put.work

    -- no split
    pub missed_scans : {left answer : List ℕ} → StoreStays store left → SplitFound false table store left pattern reference answer vs
        → ScanDone (Ok (record { value = false; notes = notes })) store left state answer (searched_rest table store state d at pattern r)
    unfolding leaving pure with_notes
    missed_scans {left} stays f =
        let end : Memory → ScanLeft = λ m. record { memory = m; scanned = answered } in
        record {
          ended =
              record {
                stays = stays;
                scanned = answered;
                work =
                    rest-is
                    ∙ ap (λ o. with_notes notes (leaving current way searched vs r nulled answered o)) f.by.failed
                    ∙ ap (λ m. done (end m) (notes + 0)) (f.by.work (numbers_in state))
                    ∙ ap (done (end (memory_in left state))) (add-zero notes);
                answer_is = f.numbers;
              };
          found = ap is_split f.by.failed;
        }

    -- a split: its pieces are named, and the replacement is left
    module _ {left answer : List ℕ} (n : PiecesFound table store left pattern reference answer vs) where
      split_rest : searched_rest table store state d at pattern r
          ≡ with_notes notes (replacing current way searched n.split r (memory_in left state)
          >>= λ m. pure (record { memory = m; scanned = answered }))
      unfolding leaving
      split_rest =
          rest-is
          ∙ ap (λ o. with_notes notes (leaving current way searched vs r nulled answered o)) n.found
          ∙ ap (λ m. with_notes notes (replacing current way searched n.split r m >>= λ u. pure (record { memory = u; scanned = answered })))
          (n.work (numbers_in state))

  -- the string searched is no filler, so it is as it was
  no_filler : is_filler at.place (patterns_meaning table pattern) ≡ false
  no_filler = q.put.clear at.place q.between.known q.fillers

  unnamed : Unnamed at.place vs
  unnamed = pattern_names current (memory_in store state) at.place (patterns_meaning table pattern) vs notes q.put.work no_filler

  -- and the bytes can be searched for the rows
  pub findable_searchable : SpanSearchable table store d at pattern values rows names
  findable_searchable =
      record {
        rows_are =
            record {
              bytes = q.bytes;
              inside = q.fillers.inside;
              good = q.ready.strings;
              short = searched_short;
              lines = q.put.rows_are.good;
            };
        between = q.between;
        clear = no_filler;
        apart = λ i h. place_apart names vs q.put.rows_are.places at.place q.between.known unnamed i (omega (arith, q.put.rows_are.size));
      }

  module _ {named answer : List ℕ} (stays : StoreStays store named) (f : SplitFound true table store named pattern reference answer vs) where
    abbrev n : PiecesFound table store named pattern reference answer vs
    n = f.by

    pub string-same : string_of named at.place ≡ string_of store at.place
    string-same =
        n.others at.place no_filler unnamed

    pub between_still : Between named at.place at.from at.to
    between_still = between_same q.between string-same

    -- the pieces that the answer tells of
    abbrev start : ℕ
    start = get_or answer 1 0

    abbrev sum : ℕ
    sum = pieces_in answer pattern.count

    sum_is : total (λ l. l) n.split.lengths ≡ sum
    sum_is = ap (total (λ l. l)) (sym n.lengths)

    pub pieces_inside : start + sum ≤ at.to - at.from
    pieces_inside = omega (arith, n.pieces, n.start, sum_is, searched-length)

    abbrev stored : Prelude.Option Stretch → Result Memory
    stored x = replaced_by table named state way at start sum x

    -- the replacement is the value stored in their place
    replacing-stored : (x : Prelude.Option Stretch)
        → replacing current way searched n.split (replacement_meaning table x) (memory_in named state) ≡ stored x
    unfolding replacing
    replacing-stored None = refl
    replacing-stored (Some by) =
        let m = memory_in named state in
        let v = string_of store at.place in
        let put : (whole : List ℕ) (b r x y : ℕ) → Result Memory =
        λ whole b r x y.
        string_in current m (elements_meaning table by)
        >>= λ u. storing at.place (string_replaced whole (found_from way b r x y) (found_to way b r x y) (turned way u)) m in
        let b = length (take at.from v) in
        let r = length (stretch_of v at.from at.to) in
        let x = n.split.start in
        let y = total (λ l. l) n.split.lengths in
        let size = stretch_size v at.from at.to q.between.order q.between.within in
        let front : b ≡ at.from = length-take-le at.from v (omega (arith, q.between.order, q.between.within)) in
        let inside : x + y ≤ r = omega (arith, pieces_inside, n.start, sum_is, size) in
        replacing-found current way searched n.split (elements_meaning table by) m inside
        ∙ ap (λ (l : List ℕ). put l b r x y) (stretches v at.from at.to q.between.order ∙ sym string-same)
        ∙ ap₂ (λ (j k : ℕ). put (string_of named at.place) j k x y) front size
        ∙ ap₂ (λ (j k : ℕ). put (string_of named at.place) at.from (at.to - at.from) j k) (sym n.start) sum_is

    -- with few notes
    pub few_stored : (x : Prelude.Option Stretch) → ReplacementHolds table x → {more : ℕ} {left : List ℕ}
        → LeavesStore (Ok more) named left (numbers_in state) (stored x) → more ≤ 20
    unfolding pure
    few_stored None holds l =
        let none : FewNotes 0 (pure (memory_in named state)) = omega arith in
        omega (arith, few_done none l.1)
    few_stored (Some by) holds l =
        let m = memory_in named state in
        let few =
        few_bind by.count 0 (string_in current m (elements_meaning table by)) _ (few_elements_spelt current m table by.from by.count)
        (λ v. few_storing at.place _ m) in
        omega (arith, few_done few l.1, holds.few)

    -- the work behind the pattern's values, by what the replacement comes to
    abbrev rest : Result Memory → Result ScanLeft
    rest w = with_notes notes (w >>= λ m. pure (record { memory = m; scanned = answered }))

    pub replaced_scans : (x : Prelude.Option Stretch) {more : ℕ} {left : List ℕ} → LeavesStore (Ok more) named left (numbers_in state) (stored x)
        → ScanDone (Ok (record { value = true; notes = notes + more })) store left state answer (searched_rest table store state d at pattern (replacement_meaning table x))
    unfolding ◌>>=◌ with_notes pure
    replaced_scans x {more} {left} l =
        let all : notes + (more + 0) ≡ notes + more = omega arith in
        record {
          ended =
              record {
                stays = stays_on stays l.0;
                scanned = answered;
                work =
                    split_rest (replacement_meaning table x) n
                    ∙ ap rest (replacing-stored x ∙ l.1)
                    ∙ ap (done (record { memory = memory_in left state; scanned = answered })) all;
                answer_is = f.numbers;
              };
          found = ap is_split n.found;
        }

    -- what stops it puts the fillers back
    pub stopped_scans : (x : Prelude.Option Stretch) (why : Stop) {left back saved keeping : List ℕ}
        → LeavesStore (Err why) named left (numbers_in state) (stored x) → Saved x table pattern store saved keeping
        → Copied table pattern keeping left back
        → ScanDone (Err why) store back state answer (searched_rest table store state d at pattern (replacement_meaning table x))
    unfolding ◌>>=◌ with_notes pure
    stopped_scans None why l save restore =
        let never = l.1 in
        let z : ◌≡◌ {A = ℕ} 0 1 = cc in
        absurd (omega arith)
    stopped_scans (Some by) why {back = back} {saved} {keeping} l save restore = (
      put_back table pattern store saved keeping named back q.ready.strings (save.copied by refl) stays
          (λ i h e.
          n.others i e
          (pattern_names current (memory_in store state) i (patterns_meaning table pattern) vs notes q.put.work e))
          (subst (λ (s : List ℕ). Copied table pattern keeping s back) l.0 restore),
      split_rest (some (elements_meaning table by)) n ∙ ap rest (replacing-stored (Some by) ∙ l.1),
    )

-- Laws of a scan's answer: whether it has a split, where the pieces lie, and what naming them leaves. Assumes nothing.
use Rattle.std.specs.Prelude.{Bool, true, false, sum, ◌≡◌, refl, ℕ, ◌+◌, ◌-◌, ◌≤◌, length, drop, set, replicate}
use mathlib.Core.List.{List, [], ◌∷◌, ◌++◌, map, map-map}
use Rattle.std.proofs.Math.Option.{Option, none, some}
use Rattle.std.proofs.Common.{sym, ap, ap₂, ◌∙◌, arith, length-append, length-drop, take_at}
use Rattle.std.proofs.Math.Path.{subst}
use Rattle.std.proofs.Math.ListN.{get_or}
use Rattle.std.proofs.lemmas.List.{length-replicate}
use Rattle.std.proofs.lemmas.List.Sums.{sum_by-cons}
use Rattle.encoding.specs.ReadingLaws.{rows_length}
use Rattle.base.specs.Lists.{total}
use Rattle.syntax.specs.Program as Program
use Rattle.machine.specs.Scanning.{Valued, naming}
use Rattle.store.specs.Clauses.{string_of}
use Rattle.encoding.specs.Meaning.{direction_meaning}
use Rattle.encoding.specs.declared.cells.Direction.{Direction}
use Rattle.decoder.specs.Meaning.{patterns_meaning}
use Rattle.decoder.specs.declared.Stretch.{Stretch}
use Rattle.scan.specs.Rows.{scan_elements, pattern_of, scan_element, row_element}
use Rattle.scanning.specs.Call.{answer_numbers, most_elements, split_numbers}
use Rattle.scanning.specs.FirstFit.{scan_first_fit}
use Rattle.scanning.specs.Laws.{fits_count}
use Rattle.scanning.specs.Splits.{Element, FirstFit, Fits, PiecesFit, Split}
use Rattle.scanning.specs.Trials.{Scanned, scan}
use Rattle.effects.specs.FillerLaws.{stays_on}
use Rattle.effects.specs.Fillers.{Nameable, PiecesNamed, Nulled, SpanNameable, is_filler, lengths_in}
use Rattle.effects.specs.Leaving.{memory_of}
use Rattle.effects.specs.OtherLaws.{nulled_other, others_stay}
use Rattle.effects.specs.ReferenceLaws.{between_same, copied_same, reference_same}
use Rattle.effects.specs.References.{CopiedFor, turned_reference}
use Rattle.effects.specs.declared.Span.{Span}
use Rattle.scan_statement.specs.LongLaws.{scan-rowed}
use Rattle.scan_statement.specs.Patterns.{Rowed, rowed}
use Rattle.scan_statement.specs.Searches.{AnswerNameable, AnswerNamed, NamedBy, SplitFound, RowsSearchable, SpanSearchable, SplitSearched, scan_of}

-- a list's sum is the total of its numbers
pub sum_total : (ls : List ℕ) → sum ls ≡ total (λ l. l) ls
unfolding total
sum_total [] = refl
sum_total (l ∷ ls) = sum_by-cons (λ n. n) l ls ∙ ap (λ (n : ℕ). l + n) (sum_total ls)

-- an answer with other notes
split-noted : (o : Option Split) (trials n k : ℕ) → set (split_numbers o trials n) 3 k ≡ split_numbers o trials k
unfolding split_numbers
split-noted none trials n k = refl
split-noted (some s) trials n k = refl

pub answer_noted : (a : Scanned) (n k : ℕ) → set (answer_numbers n a) 3 k ≡ answer_numbers k a
unfolding answer_numbers
answer_noted a n k = split-noted a.split a.trials n k

-- an answer without a split
split_none : (o : Option Split) (trials n : ℕ) → get_or (split_numbers o trials n) 0 0 ≡ 0 → o ≡ none
unfolding split_numbers
split_none none trials n e = refl
split_none (some s) trials n e = absurd (omega arith)

-- one with a split: its start and its lengths
record Has (o : Option Split) (answer : List ℕ) : Type 0 where
  split : Split
  is : o ≡ some split
  start : get_or answer 1 0 ≡ split.start
  size : length split.lengths ≤ 20 → length answer ≡ 24
  lengths : (count : ℕ) → length split.lengths ≡ count → lengths_in answer count ≡ split.lengths

split_some : (o : Option Split) (trials n : ℕ) → (get_or (split_numbers o trials n) 0 0 ≡ 0 → ⊥) → Has o (split_numbers o trials n)
unfolding split_numbers most_elements
split_some none trials n h = absurd (h refl)
split_some (some s) trials n h =
    record {
      split = s;
      is = refl;
      start = refl;
      size =
          λ few.
          let zeros : List ℕ = replicate (20 - length s.lengths) 0 in
          let all : length (s.lengths ++ zeros) ≡ 20 =
          length-append s.lengths zeros ∙ omega (arith, length-replicate {A = ℕ} (20 - length s.lengths) 0) in
          omega arith;
      lengths = λ count e. take_at s.lengths (replicate (20 - length s.lengths) 0) count e;
    }

-- pieces that fit lie in the bytes that there are
pieces_within : (p : List Element) (rest ls : List ℕ) → PiecesFit p rest ls → total (λ l. l) ls ≤ length rest
unfolding PiecesFit total
pieces_within [] rest [] h = omega arith
pieces_within [] rest (l ∷ ls) h = absurd h
pieces_within (e ∷ p) rest [] h = absurd h
pieces_within (e ∷ p) rest (l ∷ ls) h = omega (arith, h.0, pieces_within p (drop l rest) ls h.2, length-drop l rest)

count-elements : (values rows : List ℕ) (n i : ℕ) → length (scan_elements values rows n i) ≡ n
unfolding scan_elements
count-elements values rows n i =
    rows_length (λ j. scan_element values (row_element rows j)) (λ j m. scan_elements values rows m j) (λ _. refl) (λ _ _. refl) i n

-- the pieces of a split that a scan answers
split_fits : (p : List Element) (r : List ℕ) (s : Split) → (scan p r).split ≡ some s → Fits p r s
unfolding FirstFit
split_fits p r s e = (((scan_first_fit p r).first s e s).0 refl).0

split_within : (p : List Element) (r : List ℕ) (s : Split) → Fits p r s → s.start + total (λ l. l) s.lengths ≤ length r
unfolding Fits
split_within p r s f =
    omega (arith, f.0, pieces_within p (drop s.start r) s.lengths f.1, length-drop s.start r)

-- what a search that had a split, or had none, found
pub finds_as : {is b : Bool} {table store left : List ℕ} {s : Stretch} {reference values rows names answer : List ℕ}
    → SplitSearched is table store left s reference values rows names answer → is ≡ b → {vs : List Valued} → Rowed values rows names s.count vs
    → SplitFound b table store left s reference answer vs
finds_as {table = table} {store} {left} {s} {reference} {answer = answer} f e {vs} r =
    subst (λ (t : Bool). SplitFound t table store left s reference answer vs) e (f.finds vs r)

module _ {table store : List ℕ} {s : Stretch} {reference values rows : List ℕ} (q : RowsSearchable table store s reference values rows)
    {answer : List ℕ} (answer_is : answer ≡ answer_numbers 0 (scan (pattern_of values rows s.count) reference)) where
  abbrev pattern : List Element
  pattern = pattern_of values rows s.count

  -- the scan of the pattern with its values
  scan-is : {names : List ℕ} (vs : List Valued) → Rowed values rows names s.count vs → scan pattern reference ≡ scan_of vs reference
  scan-is vs r =
      ap (λ (p : List Element). scan p reference) (r.pattern ∙ sym (map-map rowed (λ v. v.element) vs))
      ∙ sym (scan-rowed (map (λ v. v.element) vs) reference q.short)

  failed : get_or answer 0 0 ≡ 0 → (scan pattern reference).split ≡ none
  unfolding answer_numbers
  failed e =
      let a = scan pattern reference in
      split_none a.split a.trials 0 (ap (λ (l : List ℕ). get_or l 0 0) (sym answer_is) ∙ e)

  has : (get_or answer 0 0 ≡ 0 → ⊥) → Has (scan pattern reference).split answer
  unfolding answer_numbers
  has h =
      let a = scan pattern reference in
      subst (Has a.split) (sym answer_is)
      (split_some a.split a.trials 0 (λ e. h (ap (λ (l : List ℕ). get_or l 0 0) answer_is ∙ e)))

  missed : get_or answer 0 0 ≡ 0 → {names nulled : List ℕ} → Nulled table s store nulled
      → SplitSearched false table store nulled s reference values rows names answer
  missed e n =
      record {
        stays = n.stays;
        finds =
            λ vs r.
            record {
              numbers = answer_is ∙ ap (answer_numbers 0) (scan-is vs r);
              by = record { failed = ap (λ a. a.split) (sym (scan-is vs r)) ∙ failed e; work = n.work };
            };
      }

  module _ (some-found : get_or answer 0 0 ≡ 0 → ⊥) where
    abbrev found : Has (scan pattern reference).split answer
    found = has some-found

    fits : Fits pattern reference found.split
    fits = split_fits pattern reference found.split found.is

    counted : length found.split.lengths ≡ s.count
    unfolding pattern_of
    counted = fits_count pattern reference found.split fits ∙ count-elements values rows s.count 0

    within : found.split.start + total (λ l. l) found.split.lengths ≤ length reference
    within = split_within pattern reference found.split fits

    nameable : {names : List ℕ} → length names ≡ 20 → Nameable store reference names answer s.count
    nameable size =
        record {
          good = q.good;
          few = q.lines.few;
          places = omega (arith, q.lines.few);
          short = q.short;
          pieces =
              subst (λ (k : ℕ). k + total (λ l. l) (lengths_in answer s.count) ≤ length reference) (sym found.start)
              (subst (λ (ls : List ℕ). found.split.start + total (λ l. l) ls ≤ length reference) (sym (found.lengths s.count counted)) within);
        }

    named : {names nulled left : List ℕ} → Nulled table s store nulled → PiecesNamed nulled left reference names answer s.count
        → SplitSearched true table store left s reference values rows names answer
    named {names} {nulled} {left} n m =
        record {
          stays = stays_on n.stays m.stays;
          finds =
              λ vs r.
              record {
                numbers = answer_is ∙ ap (answer_numbers 0) (scan-is vs r);
                by =
                    record {
                      split = found.split;
                      found = ap (λ a. a.split) (sym (scan-is vs r)) ∙ found.is;
                      size = found.size (omega (arith, counted, q.lines.few));
                      start = found.start;
                      lengths = found.lengths s.count counted;
                      pieces = within;
                      work =
                          λ zs.
                          ap (λ x. naming vs (drop found.split.start reference) found.split.lengths x) (n.work zs)
                          ∙ ap₂ (λ (k : ℕ) (ls : List ℕ). naming vs (drop k reference) ls (memory_of nulled zs)) (sym found.start)
                          (sym (found.lengths s.count counted))
                          ∙ m.work vs zs r.size r.places;
                      others = others_stay table s store nulled left reference names answer s.count n m vs r.size r.places;
                    };
              };
        }

-- No filler is the string searched, so its bytes are there still when the fillers are null, and its pieces can be named.
module _ {table store nulled : List ℕ} {s : Stretch} (n : Nulled table s store nulled) (way : Program.Direction) (at : Span)
    (clear : is_filler at.place (patterns_meaning table s) ≡ false) where
  same : string_of nulled at.place ≡ string_of store at.place
  same = nulled_other table s store nulled n at.place clear

  pub reference_still : turned_reference nulled way at ≡ turned_reference store way at
  reference_still = reference_same store nulled way at same

  pub span_still : {copy names answer : List ℕ} {count : ℕ} → SpanNameable store way at copy names answer count
      → SpanNameable nulled way at copy names answer count
  span_still {copy} {names} {answer} {count} p =
      record {
        pieces =
            subst (λ (r : List ℕ). Nameable nulled r names answer count) (sym reference_still)
            (record {
              good = n.stays.good;
              few = p.pieces.few;
              places = p.pieces.places;
              short = p.pieces.short;
              pieces = p.pieces.pieces;
            });
        between = between_same p.between same;
        copied = copied_same store nulled at copy way p.copied same;
        apart = p.apart;
      }

-- no split: the fillers are null
pub none_named : {table store nulled : List ℕ} {d : Direction} {at : Span} {s : Stretch} {names answer : List ℕ} → get_or answer 0 0 ≡ 0
    → Nulled table s store nulled → AnswerNamed false table store nulled d at s names answer
none_named e n = record { by = record { none-found = e; null = n } }

-- The search of the bytes of a span, once its answer is known.
module _ {table store : List ℕ} {d : Direction} {at : Span} {s : Stretch} {values rows names : List ℕ}
    (q : SpanSearchable table store d at s values rows names) {answer : List ℕ}
    (answer_is : answer ≡ answer_numbers 0 (scan (pattern_of values rows s.count) (turned_reference store (direction_meaning d) at))) where
  pub span_nameable : {copy : List ℕ} → CopiedFor (direction_meaning d) store at copy → length names ≡ 20
      → AnswerNameable table store d at s copy names answer
  span_nameable copied size =
      record {
        fillers = record { bytes = q.rows_are.bytes; inside = q.rows_are.inside; good = q.rows_are.good };
        clear = q.clear;
        pieces =
            λ some-found.
            record { pieces = nameable q.rows_are answer_is some-found size; between = q.between; copied = copied; apart = q.apart };
      }

  pub span_searched : (is : Bool) {left : List ℕ} → NamedBy is table store left d at s names answer
      → SplitSearched is table store left s (turned_reference store (direction_meaning d) at) values rows names answer
  span_searched true n = named q.rows_are answer_is n.found n.null n.pieces
  span_searched false n = missed q.rows_are answer_is n.none-found n.null

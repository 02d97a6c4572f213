-- The columns of a register's lines, its lines put, and its report put together. Assumes nothing.
use Rattle.std.specs.Prelude.{true, false, ◌≡◌, refl, ℕ, ◌+◌, ◌≤◌, ◌<◌, leb}
use mathlib.Core.List.{List, [], ◌∷◌, ◌++◌, map, map-append}
use Rattle.std.proofs.Math.Path.{sym, ap, ap₂}
use Rattle.std.proofs.Common.{◌∙◌, subst, zero-add, add-one, take-append-drop, length-take-le, take_all, le-leb}
use native.Mathlib.Omega.{arith}
use Rattle.std.proofs.Math.ListN.{length, take, drop, length-append}
use Rattle.std.proofs.lemmas.List.{length-map}
use Rattle.std.proofs.Math.Seq.{take-suc}
use Rattle.std.specs.Prelude.{Err}
use Rattle.register.specs.Refusals.{refusal_number}
use Rattle.register.specs.declared.Refusal.{Refusal}
use Rattle.base.specs.Choice.{both_pass, both_true}
use Rattle.base.specs.ListLaws.{all_inside, drop-next}
use Rattle.base.specs.Lists.{all}
use Rattle.encoding.specs.Splices.{splice, length-splice, splice-behind, splice_nil}
use Rattle.cards.specs.Bytes.{newline}
use Rattle.register.specs.Buffer.{register_in}
use Rattle.register.specs.BufferLaws.{read_sound}
use Rattle.register.specs.CallLaws.{open_keeps, put_fits, put_full, report-put, report_refused}
use Rattle.register.specs.Calls.{ReportCalled, buffer_open, put_report, putting_nothing, report_call}
use Rattle.register.specs.Claims.{report_back}
use Rattle.register.specs.Line.{is_record}
use Rattle.register.specs.Register.{Lines, line_at, most_lines}
use Rattle.register.specs.RegisterLaws.{open_records}
use Rattle.register.specs.Report.{printed_records, report, tonnes_of, total_lines, value_of}
use Rattle.register.specs.ReportLaws.{most_report, most_value, printed-append, record_small, report_size, value_small}
use Rattle.register_reading.specs.ReadLaws.{opened_refused}
use Rattle.register_reading.specs.Opened.{OpenedRead}
use Rattle.register_reading.specs.Reading.{LinesCounted}
use Rattle.register_report.specs.Codes.{currency_code_in}
use Rattle.register_report.specs.declared.Sizes.{Sizes}
use Rattle.register_report.specs.declared.Worth.{Worth}
use Rattle.register_report.specs.Sums.{LinesPut, TotalsMade, Weighed, WorthsFit, WorthsOf, codes_in, tonnes_in, values_in}

-- The columns of lines are small enough for their sums.
column_small : (f : List ℕ → ℕ) (most : ℕ) → ((line : List ℕ) → is_record line ≡ true → f line ≤ most) → (lines : Lines) → all is_record lines ≡ true
    → all (λ x. leb x most) (map f lines) ≡ true
unfolding all
column_small f most small [] a = refl
column_small f most small (line ∷ lines) a =
    let parts = both_true (is_record line) (all is_record lines) a in
    both_pass (le-leb (f line) most (small line parts.0)) (column_small f most small lines parts.1)

pub columns_fit : (lines : Lines) (worths : List Worth) → WorthsOf lines worths → WorthsFit worths
columns_fit lines worths c =
    let size = ap length c.currency ∙ length-map lines currency_code_in in
    record {
      few = omega (arith, c.few, size);
      weights = ap length c.weight ∙ length-map lines tonnes_of ∙ sym size;
      cents = ap length c.cents ∙ length-map lines value_of ∙ sym size;
      light = ap (all (λ t. leb t 99_999)) c.weight ∙ column_small tonnes_of 99_999 (λ l e. (record_small l e).tonnes) lines c.good;
      cheap = ap (all (λ v. leb v most_value)) c.cents ∙ column_small value_of most_value value_small lines c.good;
    }

-- Lines one by one: those before a place, and that one.
module _ (lines : Lines) (k : ℕ) (h : k < length lines) where
  abbrev line : List ℕ
  line = line_at lines k

  abbrev before : Lines
  before = take k lines

  next-lines : take (k + 1) lines ≡ before ++ (line ∷ [])
  unfolding line_at
  next-lines = ap (λ n. take n lines) (add-one k) ∙ take-suc lines k [] h

  parts : lines ≡ before ++ (line ∷ drop (k + 1) lines)
  unfolding line_at
  parts = sym (take-append-drop k lines) ∙ ap (λ l. before ++ l) (drop-next lines k [] h)

  size_within : length (printed_records before) + length line + 1 ≤ length (printed_records lines)
  unfolding printed_records
  size_within =
      let rest = drop (k + 1) lines in
      omega (
        arith,
        ap (λ l. length (printed_records l)) parts,
        ap length (printed-append before (line ∷ rest)),
        length-append (printed_records before) (printed_records (line ∷ rest)),
        length-append line (newline ∷ printed_records rest),
      )

  printed-more : printed_records before ++ (line ++ (10 ∷ [])) ≡ printed_records (take (k + 1) lines)
  unfolding printed_records newline
  printed-more = sym (ap printed_records next-lines ∙ printed-append before (line ∷ []))

  size_more : (b size : ℕ) → b ≡ length (printed_records before) → size ≡ length line → b + size + 1 ≡ length (printed_records (take (k + 1) lines))
  size_more b size e f =
      omega (arith, ap length printed-more, length-append (printed_records before) (line ++ (10 ∷ [])), length-append line (10 ∷ []))

  -- one more number in a column
  column_more : (f : List ℕ → ℕ) (in_it : Worth → ℕ) (ws : List Worth) (w : Worth) → map in_it ws ≡ map f before → in_it w ≡ f line
      → map in_it (ws ++ (w ∷ [])) ≡ map f (take (k + 1) lines)
  column_more f in_it ws w e is =
      map-append in_it ws (w ∷ [])
      ∙ ap₂ {C = List ℕ} (λ l y. l ++ (y ∷ [])) e is
      ∙ sym (ap (map f) next-lines ∙ map-append f before (line ∷ []))

  -- a line put behind those before it
  lines_more : (output middle after : List ℕ) (put-to end : ℕ) → LinesPut before output middle put-to
      → after ≡ splice middle put-to (line ++ (10 ∷ [])) → end ≡ put-to + length line + 1 → LinesPut (take (k + 1) lines) output after end
  lines_more output middle after put-to end p bytes ends =
      let at : put-to ≡ 0 + length (printed_records before) = omega (arith, p.ends) in
      record {
        ends = ends ∙ size_more put-to (length line) p.ends refl;
        bytes =
            bytes
            ∙ ap₂ {C = List ℕ} (λ l n. splice l n (line ++ (10 ∷ []))) p.bytes at
            ∙ splice-behind output 0 (printed_records before) (line ++ (10 ∷ [])) (omega arith)
            ∙ ap (splice output 0) printed-more;
      }

pub lines_none : (output : List ℕ) → LinesPut [] output output 0
unfolding printed_records
lines_none output = record { ends = refl; bytes = sym (splice_nil output 0) }

pub all_lines : (lines : Lines) (k : ℕ) → k ≡ length lines → take k lines ≡ lines
all_lines lines k e = take_all k lines (omega arith)

-- what the first lines add, and the bytes that they are printed in
pub record FilledTo (lines : Lines) (worths : List Worth) (bytes k : ℕ) : Type 0 where
  pub currency_to : codes_in worths ≡ map currency_code_in (take k lines)
  pub weight_to : tonnes_in worths ≡ map tonnes_of (take k lines)
  pub cents_to : values_in worths ≡ map value_of (take k lines)
  pub size_to : bytes ≡ length (printed_records (take k lines))

pub filled_none : (lines : Lines) (worths : List Worth) → worths ≡ [] → FilledTo lines worths 0 0
unfolding printed_records
filled_none lines worths e =
    record { currency_to = ap (map (λ w. w.code)) e; weight_to = ap (map (λ w. w.tonnes)) e; cents_to = ap (map (λ w. w.value)) e; size_to = refl }

-- A register of n lines, and its line of a place.
module _ (buffer : List ℕ) (n : ℕ) (c : LinesCounted buffer n) where
  abbrev held : Lines
  held = (register_in buffer).lines

  few : length held ≤ most_lines
  few = (read_sound buffer c.keeps).few

  good : all is_record held ≡ true
  good = open_records (register_in buffer) (read_sound buffer c.keeps) c.is_open_lem

  pub count_few : n ≤ most_lines
  count_few = omega (arith, c.count, few)

  -- no report is large
  pub report_small : length (report held) ≤ most_report
  report_small = report_size held few good

  -- the report is the lines, and the TOTAL lines
  report-is : report held ≡ printed_records held ++ printed_records (total_lines held)
  unfolding report
  report-is = printed-append held (total_lines held)

  lines_small : length (printed_records held) ≤ most_report
  lines_small = omega (arith, report_small, ap length report-is, length-append (printed_records held) (printed_records (total_lines held)))

  -- all lines are weighed
  module _ (worths : List Worth) (bytes : ℕ) (f : FilledTo held worths bytes n) where
    whole : take n held ≡ held
    whole = all_lines held n c.count

    pub filled_columns : WorthsOf held worths
    filled_columns =
        record {
          few = few;
          good = good;
          currency = f.currency_to ∙ ap (map currency_code_in) whole;
          weight = f.weight_to ∙ ap (map tonnes_of) whole;
          cents = f.cents_to ∙ ap (map value_of) whole;
        }

    pub filled_size : bytes ≡ length (printed_records held)
    filled_size = f.size_to ∙ ap (λ l. length (printed_records l)) whole

  module _ (k : ℕ) (h : k < n) where
    inside : k < length held
    inside = omega (arith, c.count)

    module _ (slice : List ℕ) (is : slice ≡ line_at held k) where
      pub line_good : is_record slice ≡ true
      unfolding line_at
      line_good = ap is_record is ∙ all_inside is_record held [] good k inside

      -- the line weighed behind those before it
      module _ (worths : List Worth) (bytes : ℕ) (f : FilledTo held worths bytes k) where
        pub bytes_fit : bytes + length slice + 1 ≤ most_report
        bytes_fit = omega (arith, ap length is, f.size_to, size_within held k inside, lines_small)

        pub worths_few : length worths < most_lines
        worths_few =
            omega (
              arith,
              ap length f.currency_to,
              length-map worths (λ w. w.code),
              length-map (take k held) currency_code_in,
              length-take-le k held (omega (arith, inside)),
              count_few,
            )

        pub line-filled : (more : List Worth) (w : Worth) → more ≡ worths ++ (w ∷ []) → Weighed slice w
            → FilledTo held more (bytes + (length slice + 1)) (k + 1)
        line-filled more w e m =
            subst (λ ws. FilledTo held ws (bytes + (length slice + 1)) (k + 1)) (sym e)
            (record {
              currency_to = column_more held k inside currency_code_in (λ v. v.code) worths w f.currency_to (m.currency ∙ ap currency_code_in is);
              weight_to = column_more held k inside tonnes_of (λ v. v.tonnes) worths w f.weight_to (m.weight ∙ ap tonnes_of is);
              cents_to = column_more held k inside value_of (λ v. v.value) worths w f.cents_to (m.cents ∙ ap value_of is);
              size_to = omega (arith, size_more held k inside bytes (length slice) f.size_to (ap length is));
            })

      -- the line put behind those before it: there is room
      module _ (output middle : List ℕ) (put-to : ℕ) (p : LinesPut (take k held) output middle put-to)
          (room : length (printed_records held) ≤ length output) where
        pub line_room : put-to + length slice < length middle
        line_room =
            let within = size_within held k inside in
            omega (
              arith,
              p.ends,
              ap length is,
              ap length p.bytes,
              length-splice output 0 (printed_records (take k held)) (omega arith),
            )

        pub line-put : (after : List ℕ) (to : ℕ) → after ≡ splice middle put-to (slice ++ (10 ∷ [])) → to ≡ put-to + length slice + 1
            → LinesPut (take (k + 1) held) output after to
        line-put after to bytes ends =
            lines_more held k inside output middle after put-to to p (bytes ∙ ap (λ l. splice middle put-to (l ++ (10 ∷ []))) is)
            (ends ∙ ap (λ l. put-to + length l + 1) is)

  -- The report put together: its size, where it doesn't fit, and what is left where it does.
  module _ (totals : List ℕ) (r : Sizes) (m : TotalsMade held totals r) where
    below_size : length (take r.totals totals) ≡ r.totals
    below_size = length-take-le r.totals totals m.put.within

    pub size_is : r.lines + r.totals ≡ length (report held)
    size_is =
        omega (
          arith,
          below_size,
          m.size,
          ap length m.put.bytes,
          ap length report-is,
          length-append (printed_records held) (printed_records (total_lines held)),
        )

    open_is : (output : List ℕ) → report_call buffer output ≡ put_report (report held) output
    open_is output = report-put buffer output (open_keeps buffer c.keeps ∙ c.is_open_lem)

    module _ (output : List ℕ) where
      pub report_full : length output < r.lines + r.totals → report_back 21 output 0 ≡ report_call buffer output
      unfolding putting_nothing
      report_full h = sym (open_is output ∙ put_full (report held) output (omega (arith, size_is)))

      module _ (h : r.lines + r.totals ≤ length output) (middle : List ℕ) (at : ℕ) (l : LinesPut held output middle at) where
        pub totals_fit : at + length (take r.totals totals) ≤ length middle
        totals_fit =
            omega (
              arith,
              below_size,
              l.ends,
              m.size,
              ap length l.bytes,
              length-splice output 0 (printed_records held) (omega (arith, m.size)),
            )

        pub report-done : (after : List ℕ) → after ≡ splice middle at (take r.totals totals)
            → report_back 0 after (r.lines + r.totals) ≡ report_call buffer output
        unfolding splice
        report-done after put =
            let place : at ≡ 0 + length (printed_records held) = omega (arith, l.ends) in
            let below = printed_records (total_lines held) in
            let whole : after ≡ splice output 0 (report held) =
            put
            ∙ ap₂ {C = List ℕ} (λ o x. splice o at x) l.bytes m.put.bytes
            ∙ ap (λ k. splice (splice output 0 (printed_records held)) k below) place
            ∙ splice-behind output 0 (printed_records held) below (omega arith)
            ∙ ap (splice output 0) (sym report-is) in
            let front : splice output 0 (report held) ≡ report held ++ drop (length (report held)) output =
            ap (λ k. report held ++ drop k output) (zero-add (length (report held))) in
            ap₂ {C = ReportCalled} (report_back 0) (whole ∙ front) size_is
            ∙ sym (open_is output ∙ put_fits (report held) output (omega (arith, size_is)))

-- what isn't opened, or keeps no rules, gets 14
pub report_refuses : (buffer output : List ℕ) → buffer_open buffer ≡ false → report_back 14 output 0 ≡ report_call buffer output
unfolding putting_nothing
report_refuses buffer output e = sym (report_refused buffer output e)

-- so what reading turns down
pub report_unopened : (buffer output : List ℕ) (refusal : Refusal) → OpenedRead buffer (Err refusal)
    → report_back (refusal_number refusal) output 0 ≡ report_call buffer output
report_unopened buffer output refusal read =
    let r = opened_refused buffer refusal read in
    ap (λ k. report_back (refusal_number k) output 0) r.0 ∙ report_refuses buffer output r.1

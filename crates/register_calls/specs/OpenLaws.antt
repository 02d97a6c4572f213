-- Opening: a currency written behind each line, and the house currency told. Assumes nothing.
use Rattle.std.specs.Prelude.{true, false, ◌≡◌, refl, ℕ, ◌+◌, ◌*◌, ◌-◌, ◌≤◌, ◌<◌}
use mathlib.Core.List.{List, [], ◌∷◌, ◌++◌, append_assoc, append-nil, map, map-append}
use Rattle.std.proofs.Math.Path.{sym, ap}
use Rattle.std.proofs.Common.{ap₂, ◌∙◌, subst, add-one, drop_of_length-le, drop_at, length-take-le, take_all, take_at}
use native.Mathlib.Omega.{arith}
use Rattle.std.proofs.Math.ListN.{length, take, drop, replicate, length-append}
use Rattle.std.proofs.lemmas.List.{length-map, length-replicate, replicate-append-replicate}
use Rattle.std.proofs.Math.Seq.{take-suc}
use Rattle.base.specs.ListLaws.{all_inside, all_take, drop-next, stretch_cut}
use Rattle.base.specs.Lists.{all}
use Rattle.encoding.specs.Splices.{splice, splice_seam}
use Rattle.cards.specs.Bytes.{comma}
use Rattle.register.specs.Buffer.{buffer_keeps, cell_of, header_size, register_image, register_in, register_size, slot_size, slots_of}
use Rattle.register.specs.BufferLaws.{cell-read, cell_size_lem, cell_sound, house_cases, house_size, read_sound, slots_append, slots_size, sound_size}
use Rattle.register.specs.CallLaws.{open_bad, open_does, open_refused, with-same}
use Rattle.register.specs.Calls.{open_call, register_turned_down, with_register}
use Rattle.register.specs.Claims.{buffer_back}
use Rattle.register.specs.Line.{has_form, is_currency, is_line, with_currency}
use Rattle.register.specs.LineLaws.{currency_size, line-form, line_short, line_text, record_form, written_record}
use Rattle.register.specs.Register.{Lines, Register, is_house, line_at, most_lines}
use Rattle.register.specs.RegisterLaws.{RegisterSound, map-all, old_lines_lem, opened_again, opened_old}
use Rattle.register_reading.specs.Reading.{RegisterReady, Trimmed, Unopened, slot_at}
use Rattle.register_reading.specs.SlotLaws.{trim_size}
use Rattle.register_calls.specs.Putting.{WrittenTo, WrittenOut, written_to}

-- A currency written behind a line that stands between others: over the first zeros of its slot.
module _ (buffer house : List ℕ) (small : length house ≤ 3) (done rest : Lines) (line : List ℕ) (c : List ℕ)
    (good : all has_form done ≡ true) (short : length line ≤ 24) (three : length c ≡ 3) where
  abbrev holding : List ℕ → List ℕ
  holding l = with_register buffer (record { house = house; lines = done ++ (l ∷ rest) })

  abbrev zeros : List ℕ
  zeros = replicate (slot_size * (most_lines - length (done ++ (line ∷ rest)))) 0

  abbrev place : ℕ
  place = slot_at (length done)

  -- what stands before the slot, and behind it
  abbrev front : List ℕ
  front = cell_of header_size house ++ slots_of done

  abbrev back : List ℕ
  back = slots_of rest ++ (zeros ++ drop register_size buffer)

  front_size : length front ≡ place
  front_size =
      length-append (cell_of header_size house) (slots_of done)
      ∙ ap₂ {C = ℕ} ◌+◌ (cell_size_lem header_size house (omega arith)) (slots_size done good)

  same_count : (l : List ℕ) → length (done ++ (l ∷ rest)) ≡ length (done ++ (line ∷ rest))
  same_count l = omega (arith, length-append done (l ∷ rest), length-append done (line ∷ rest))

  holding-is : (l : List ℕ) → holding l ≡ front ++ (cell_of slot_size l ++ back)
  unfolding with_register register_image slots_of
  holding-is l =
      ap (λ s. (cell_of header_size house ++ (s ++ replicate (slot_size * (most_lines - length (done ++ (l ∷ rest)))) 0)) ++ drop register_size buffer)
      (slots_append done (l ∷ rest))
      ∙ ap
      (λ n. (cell_of header_size house ++ ((slots_of done ++ (cell_of slot_size l ++ slots_of rest)) ++ replicate (slot_size * (most_lines - n)) 0))
      ++ drop register_size buffer)
      (same_count l)
      ∙ joined (cell_of header_size house) (slots_of done) (cell_of slot_size l) (slots_of rest) zeros (drop register_size buffer)
    where
      joined : (h d x r z b : List ℕ) → (h ++ ((d ++ (x ++ r)) ++ z)) ++ b ≡ (h ++ d) ++ (x ++ (r ++ (z ++ b)))
      joined h d x r z b = simp append_assoc

  -- the slot of the line
  pub slot-here : take slot_size (drop place (holding line)) ≡ cell_of slot_size line
  slot-here =
      ap (λ b. take slot_size (drop place b)) (holding-is line)
      ∙ ap (take slot_size) (drop_at front (cell_of slot_size line ++ back) place front_size)
      ∙ take_at (cell_of slot_size line) back slot_size (cell_size_lem slot_size line (omega arith))

  -- the cell of the line, with room for a comma and the currency; and with these
  cell_parts : cell_of slot_size line ≡ line ++ (replicate 4 0 ++ replicate (24 - length line) 0)
  unfolding cell_of
  cell_parts =
      let size : 4 + (24 - length line) ≡ slot_size - length line = omega arith in
      ap (λ l. line ++ l) (ap (λ n. replicate n 0) (sym size) ∙ sym (replicate-append-replicate 4 (24 - length line) 0))

  written-parts : line ++ ((44 ∷ c) ++ replicate (24 - length line) 0) ≡ cell_of slot_size (with_currency c line)
  unfolding cell_of with_currency comma
  written-parts =
      let size : 24 - length line ≡ slot_size - length (line ++ (44 ∷ c)) = omega (arith, length-append line (44 ∷ c)) in
      sym (append_assoc line (44 ∷ c) (replicate (24 - length line) 0)) ∙ ap (λ n. (line ++ (44 ∷ c)) ++ replicate n 0) size

  pub written-here : splice (holding line) (place + length line) (44 ∷ c) ≡ holding (with_currency c line)
  written-here =
      let left : List ℕ = replicate (24 - length line) 0 in
      let before : length (front ++ line) ≡ place + length line = omega (arith, length-append front line, front_size) in
      ap (λ b. splice b (place + length line) (44 ∷ c)) (holding-is line ∙ ap (λ x. front ++ (x ++ back)) cell_parts ∙ apart front line
      (replicate 4 0) left back)
      ∙ splice_seam (front ++ line) (replicate 4 0) (left ++ back) (44 ∷ c) (place + length line) before
      (omega (arith, length-replicate {A = ℕ} 4 0))
      ∙ sym (apart front line (44 ∷ c) left back)
      ∙ ap (λ x. front ++ (x ++ back)) written-parts
      ∙ sym (holding-is (with_currency c line))
    where
      apart : (f l x y b : List ℕ) → f ++ ((l ++ (x ++ y)) ++ b) ≡ (f ++ l) ++ (x ++ (y ++ b))
      apart f l x y b = simp append_assoc

-- The lines of a register that isn't opened, with a currency written behind the first k of them.
module _ (buffer : List ℕ) (n : ℕ) (u : Unopened buffer n) (c : List ℕ) (is : is_currency c ≡ true) where
  abbrev r : Register
  r = register_in buffer

  s : RegisterSound r
  s = read_sound buffer u.keeps

  four : all is_line r.lines ≡ true
  four = old_lines_lem r s u.is_old

  pub none_written : WrittenTo buffer c 0 buffer
  none_written = record { is = sym (with-same buffer u.keeps); size = refl }

  pub place_few : (k : ℕ) → k < n → k < most_lines
  place_few k h = omega (arith, s.few, u.count)

  -- the slot of each of its lines is inside the buffer
  pub slot_inside : (k : ℕ) → k < n → slot_at k + slot_size ≤ length buffer
  slot_inside k h = omega (arith, sound_size buffer u.keeps, s.few, u.count)

  all-written : with_register buffer (written_to buffer c n) ≡ with_register buffer (record { house = r.house; lines = map (with_currency c) r.lines })
  all-written =
      let count = u.count in
      let full : length r.lines ≤ n = omega (arith, count) in
      let none : drop n r.lines ≡ [] = drop_of_length-le r.lines full in
      let all_of : take n r.lines ≡ r.lines = take_all n r.lines (omega (arith, count)) in
      let whole : map (with_currency c) (take n r.lines) ++ drop n r.lines ≡ map (with_currency c) r.lines =
      ap₂ {C = Lines} (λ a b. map (with_currency c) a ++ b) all_of none ∙ append-nil (map (with_currency c) r.lines) in
      ap (λ l. with_register buffer (record { house = r.house; lines = l })) whole

  pub all_done : (k : ℕ) (left : List ℕ) → k ≡ n → WrittenTo buffer c k left → WrittenOut buffer c left
  all_done k left end done_all = record { is = done_all.is ∙ ap (λ m. with_register buffer (written_to buffer c m)) end ∙ all-written }

  module _ (k : ℕ) (h : k < n) where
    abbrev line : List ℕ
    line = line_at r.lines k

    abbrev done : Lines
    done = map (with_currency c) (take k r.lines)

    abbrev rest : Lines
    rest = drop (k + 1) r.lines

    inside : k < length r.lines
    inside = omega (arith, u.count)

    next-is : written_to buffer c k ≡ record { house = r.house; lines = done ++ (line ∷ rest) }
    unfolding line_at
    next-is = λ i. record { house = r.house; lines = done ++ drop-next r.lines k [] inside i }

    next-written : record { house = r.house; lines = done ++ (with_currency c line ∷ rest) } ≡ written_to buffer c (k + 1)
    unfolding line_at
    next-written =
        let more : take (k + 1) r.lines ≡ take k r.lines ++ (line ∷ []) = ap (λ m. take m r.lines) (add-one k) ∙ take-suc
        r.lines k [] inside in
        let whole : done ++ (with_currency c line ∷ rest) ≡ map (with_currency c) (take (k + 1) r.lines) ++ rest =
        sym (append_assoc done (with_currency c line ∷ []) rest)
        ∙ ap (λ l. l ++ rest) (sym (map-append (with_currency c) (take k r.lines) (line ∷ [])) ∙ ap (map (with_currency c)) (sym more)) in
        λ i. record { house = r.house; lines = whole i }

    form : is_line line ≡ true
    unfolding line_at
    form = all_inside is_line r.lines [] four k inside

    small : length r.house ≤ 3
    small = house_size r.house s.home

    good : all has_form done ≡ true
    good = map-all is_line has_form (with_currency c) (λ l e. record_form (with_currency c l) (written_record c is l e)) (take k r.lines)
        (all_take is_line k r.lines four)

    place_is : slot_at (length done) ≡ slot_at k
    place_is =
        ap slot_at (length-map (take k r.lines) (with_currency c) ∙ length-take-le k r.lines (omega (arith, inside)))

    -- the buffer so far
    module _ (so_far : List ℕ) (e : WrittenTo buffer c k so_far) where
      slot_is : take slot_size (drop (slot_at k) so_far) ≡ cell_of slot_size line
      slot_is =
          ap₂ {C = List ℕ} (λ p b. take slot_size (drop p b)) (sym place_is) (e.is ∙ ap (with_register buffer) next-is)
          ∙ slot-here buffer r.house small done rest line c good (line_short line form) (currency_size c is)

      pub size_is : (at m : ℕ) → at ≡ slot_at k → Trimmed (take (at + slot_size - at) (drop at so_far)) m → m ≡ length line
      size_is at m here t =
          let slot = cell_of slot_size line in
          let ok = line-form line form in
          let same = stretch_cut so_far at slot_size ∙ ap (λ p. take slot_size (drop p so_far)) here ∙ slot_is in
          trim_size has_form (λ l g. g) slot m (subst (λ x. Trimmed x m) same t)
          (cell_sound has_form slot_size line (line_text line ok) ok)
          ∙ ap length (cell-read slot_size line (line_text line ok))

      pub write_room : (at m : ℕ) → at ≡ slot_at k → m ≡ length line → at + m + length c + 1 ≤ length so_far
      write_room at m here whole =
          omega (arith, here, whole, e.size, line_short line form, currency_size c is, sound_size buffer u.keeps, s.few, u.count)

      pub written_next : (at m : ℕ) → at ≡ slot_at k → m ≡ length line → (left : List ℕ) → left ≡ splice so_far (at + m) (44 ∷ c)
          → length left ≡ length so_far → WrittenTo buffer c (k + 1) left
      written_next at m here whole left put same =
          record {
            is =
                put
                ∙ ap₂ {C = List ℕ} (λ b p. splice b p (44 ∷ c)) (e.is ∙ ap (with_register buffer) next-is) (ap₂ {C = ℕ} ◌+◌ (here ∙ sym place_is) whole)
                ∙ written-here buffer r.house small done rest line c good (line_short line form) (currency_size c is)
                ∙ ap (with_register buffer) next-written;
            size = same ∙ e.size;
          }

-- The house currency told: the first three bytes.
told : (c : List ℕ) → length c ≡ 3 → c ++ replicate 1_021 0 ≡ cell_of header_size c
unfolding cell_of
told c three = ap (λ n. c ++ replicate (header_size - n) 0) (sym three)

house-cell : (house c : List ℕ) → is_house house ≡ true → length c ≡ 3
    → (x : List ℕ) × (length x ≡ length c) × (cell_of header_size house ≡ x ++ replicate 1_021 0)
unfolding cell_of
house-cell house c home three =
    house_cases house home
    (λ none. (replicate 3 0, omega (arith, length-replicate {A = ℕ} 3 0), ap (cell_of header_size) none ∙ sym (replicate-append-replicate 3 1_021 0)))
    (λ is.
    let size = currency_size house is in
    (house, omega arith, ap (λ n. house ++ replicate (header_size - n) 0) size))

pub house_told : (buffer : List ℕ) (register : Register) (c : List ℕ) → is_house register.house ≡ true → is_currency c ≡ true
    → splice (with_register buffer register) 0 c ≡ with_register buffer (record { house = c; lines = register.lines })
unfolding with_register register_image
house_told buffer register c home is =
    let three = currency_size c is in
    let slots = slots_of register.lines ++ replicate (slot_size * (most_lines - length register.lines)) 0 in
    let rest = drop register_size buffer in
    let zeros : List ℕ = replicate 1_021 0 in
    let cell = house-cell register.house c home three in
    let own : c ++ zeros ≡ cell_of header_size c = told c three in
    ap (λ h. splice ((h ++ slots) ++ rest) 0 c) cell.2
    ∙ ap (λ b. splice b 0 c) (apart cell.0 zeros slots rest)
    ∙ splice_seam [] cell.0 (zeros ++ (slots ++ rest)) c 0 refl cell.1
    ∙ sym (apart c zeros slots rest)
    ∙ ap (λ h. (h ++ slots) ++ rest) own
  where
    apart : (x z s r : List ℕ) → ((x ++ z) ++ s) ++ r ≡ x ++ (z ++ (s ++ r))
    apart x z s r = simp append_assoc

-- What opening makes of what was read.
module _ (buffer c : List ℕ) (is : is_currency c ≡ true) where
  pub open_broken_gets : buffer_keeps buffer ≡ false → buffer_back 14 buffer ≡ open_call buffer c
  unfolding register_turned_down
  open_broken_gets e = sym (open_refused buffer c is e)

  pub opened_again_gets : (keys left : List ℕ) → RegisterReady buffer keys → left ≡ splice buffer 0 c → buffer_back 0 left ≡ open_call buffer c
  opened_again_gets keys left ready put =
      let s = read_sound buffer ready.keeps in
      ap (buffer_back 0)
      (put ∙ ap (λ b. splice b 0 c) (sym (with-same buffer ready.keeps)) ∙ house_told buffer (register_in buffer) c s.home is
      ∙ ap (with_register buffer) (sym (opened_again (register_in buffer) c ready.is_open_lem)))
      ∙ sym (open_does buffer c is ready.keeps)

  module _ (n : ℕ) (u : Unopened buffer n) (between : List ℕ) (w : WrittenOut buffer c between) where
    pub opened_old_gets : (left : List ℕ) → left ≡ splice between 0 c → buffer_back 0 left ≡ open_call buffer c
    opened_old_gets left put =
        let s = read_sound buffer u.keeps in
        let old : Register = record { house = (register_in buffer).house; lines = map (with_currency c) (register_in buffer).lines } in
        ap (buffer_back 0)
        (put ∙ ap (λ b. splice b 0 c) w.is ∙ house_told buffer old c s.home is
        ∙ ap (with_register buffer) (sym (opened_old (register_in buffer) c u.is_old)))
        ∙ sym (open_does buffer c is u.keeps)

pub open_bad_gets : (buffer c : List ℕ) → is_currency c ≡ false → buffer_back 29 buffer ≡ open_call buffer c
unfolding register_turned_down
open_bad_gets buffer c e = sym (open_bad buffer c e)

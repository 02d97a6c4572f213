-- Text in cells, lines in slots of 28 bytes, slots in a row, house currencies in a header, and the rules of each; lines handed out. Assumes nothing.
use Rattle.std.specs.Prelude.{true, false, List, [], ◌∷◌, ◌++◌, map, ◌≡◌, refl, ℕ, replicate}
use Rattle.base.specs.Lists.{all, any}
use Rattle.base.specs.Text.{bytes}
use Rattle.register.specs.Buffer.{slot_size, header_size, cell_of, slots_of, text_in, lines_in, slot_cell_keeps, slots_keep}
use Rattle.register.specs.Calls.{handing}
use Rattle.register.specs.Line.{is_line, is_record}
use Rattle.register.specs.Register.{differ, held_form, is_house}
use Rattle.register_vectors.specs.Everything.{everything}

-- so many zeros
abbrev zeros : ℕ → List ℕ
zeros n = replicate n 0

-- a line in its slot, a text in the header
abbrev slot_of : List ℕ → List ℕ
slot_of = cell_of slot_size

abbrev header_of : List ℕ → List ℕ
header_of = cell_of header_size

-- the shortest line; the longest of four fields, of 24 bytes; the longest of five, whose 28 bytes fill the slot
shortest_slot :
    slot_of (bytes "A,WH,1,1")
    ≡ 65 ∷ 44 ∷ 87 ∷ 72 ∷ 44 ∷ 49 ∷ 44 ∷ 49 ∷ 0 ∷ 0 ∷ 0 ∷ 0 ∷ 0 ∷ 0 ∷ 0 ∷ 0 ∷ 0 ∷ 0 ∷ 0 ∷ 0 ∷ 0 ∷ 0 ∷ 0 ∷ 0 ∷ 0 ∷ 0 ∷ 0 ∷ 0 ∷ []
unfolding everything
shortest_slot = refl

longest-slot : slot_of (bytes "ZZZZZZZZ,ZZ,99999,999999") ≡ bytes "ZZZZZZZZ,ZZ,99999,999999" ++ (0 ∷ 0 ∷ 0 ∷ 0 ∷ [])
unfolding everything
longest-slot = refl

filled-slot : slot_of (bytes "ZZZZZZZZ,ZZ,99999,999999,ZZZ") ≡ bytes "ZZZZZZZZ,ZZ,99999,999999,ZZZ"
unfolding everything
filled-slot = refl

slots_behind_each_other :
    slots_of (map bytes ("A,WH,1,1" ∷ "ZZZZZZZZ,ZZ,99999,999999,ZZZ" ∷ "B2,BA,35,1875,EUR" ∷ []))
    ≡ bytes "A,WH,1,1" ++ (zeros 20 ++ (bytes "ZZZZZZZZ,ZZ,99999,999999,ZZZ" ++ (bytes "B2,BA,35,1875,EUR" ++ zeros 11)))
unfolding everything
slots_behind_each_other = refl

-- a slot's line is read back; it ends at the first zero, or with the slot
lines-read :
    map text_in (slot_of (bytes "W7,WH,120,2150") ∷ slot_of (bytes "ZZZZZZZZ,ZZ,99999,999999,ZZZ") ∷ zeros 28 ∷ bytes "A,W\0H,1,1" ∷ bytes "AB" ∷ [])
    ≡ map bytes ("W7,WH,120,2150" ∷ "ZZZZZZZZ,ZZ,99999,999999,ZZZ" ∷ "" ∷ "A,W" ∷ "AB" ∷ [])
unfolding everything
lines-read = refl

-- Rule 1: a house currency or none, and zeros behind it.
headers_kept : all (slot_cell_keeps is_house) (zeros 1024 ∷ header_of (bytes "EUR") ∷ header_of (bytes "AAA") ∷ header_of (bytes "ZZZ") ∷ []) ≡ true
unfolding everything
headers_kept = refl

-- no currency
headers_of_bad_houses :
    any (slot_cell_keeps is_house)
    (map (λ house. header_of (bytes house)) ("E" ∷ "EU" ∷ "EURO" ∷ "EUREUR" ∷ "eur" ∷ "E1R" ∷ "EU " ∷ "A,WH,1,1" ∷ "\u{1}" ∷ []))
    ≡ false
unfolding everything
headers_of_bad_houses = refl

-- another byte than zero: behind the currency, at the end of the header, behind a zero; a currency that stands further behind
headers_damaged :
    any (slot_cell_keeps is_house)
    ((bytes "EUR" ++ (0 ∷ (1 ∷ zeros 1019)))
    ∷ (bytes "EUR" ++ (zeros 1020 ++ (1 ∷ [])))
    ∷ (bytes "EU\0R" ++ zeros 1020)
    ∷ (zeros 1023 ++ (1 ∷ []))
    ∷ (0 ∷ (bytes "EUR" ++ zeros 1020))
    ∷ [])
    ≡ false
unfolding everything
headers_damaged = refl

houses_read : map text_in (zeros 1024 ∷ header_of (bytes "EUR") ∷ []) ≡ map bytes ("" ∷ "EUR" ∷ [])
unfolding everything
houses_read = refl

-- Rule 2: a line of good form, and zeros behind it; four fields in a register that isn't opened, five in one that is.
slots_kept :
    all (slot_cell_keeps (held_form [])) (map (λ line. slot_of (bytes line)) ("A,WH,1,1" ∷ "W7,WH,120,2150" ∷ "ZZZZZZZZ,ZZ,99999,999999" ∷ [])) ≡ true
unfolding everything
slots_kept = refl

slots_kept_opened :
    all (slot_cell_keeps (held_form (bytes "EUR")))
    (map (λ line. slot_of (bytes line)) ("A,WH,1,1,EUR" ∷ "W7,WH,120,2150,USD" ∷ "ZZZZZZZZ,ZZ,99999,999999,ZZZ" ∷ []))
    ≡ true
unfolding everything
slots_kept_opened = refl

five_fields_not_opened : any (slot_cell_keeps (held_form [])) (map (λ line. slot_of (bytes line)) ("A,WH,1,1,EUR" ∷ "B2,BA,35,1875,USD" ∷ [])) ≡ false
unfolding everything
five_fields_not_opened = refl

four_fields_opened : any (slot_cell_keeps (held_form (bytes "EUR"))) (map (λ line. slot_of (bytes line)) ("A,WH,1,1" ∷ "B2,BA,35,1875" ∷ [])) ≡ false
unfolding everything
four_fields_opened = refl

-- lines of bad form; 28 bytes and no zero; no line
slots_of_bad_lines :
    any (slot_cell_keeps is_line)
    (map (λ line. slot_of (bytes line))
    ("a,WH,1,1" ∷ "A,WH,0,1" ∷ "A,WH,1" ∷ "A,WH,1,1 " ∷ "A,WH,1,1\u{1}" ∷ "A,WH,1,0000000000000000000001" ∷ "A,WH,1,1111111111111111111111" ∷ "" ∷
    []))
    ≡ false
unfolding everything
slots_of_bad_lines = refl

slots_of_bad_records :
    any (slot_cell_keeps is_record)
    (map (λ line. slot_of (bytes line))
    ("A,WH,1,1," ∷ "A,WH,1,1,EU" ∷ "A,WH,1,1,EURO" ∷ "A,WH,1,1,eur" ∷ "A,WH,1,1,EUR," ∷ "A,WH,0,1,EUR" ∷ "ZZZZZZZZ,ZZ,99999,999999,ZZz" ∷ "" ∷ []))
    ≡ false
unfolding everything
slots_of_bad_records = refl

-- another byte than zero behind the line: its last one, the one after a zero, a second line; a zero in the line
slots_damaged :
    any (slot_cell_keeps is_record)
    ((bytes "A,WH,1,1,EUR" ++ (zeros 15 ++ (1 ∷ [])))
    ∷ (bytes "A,WH,1,1,EUR" ++ (0 ∷ (255 ∷ zeros 14)))
    ∷ (bytes "A,WH,1,1,EUR" ++ (0 ∷ (bytes "B,WH,1,1,EUR" ++ zeros 3)))
    ∷ (bytes "ZZZZZZZZ,ZZ,99999,99999,ZZZ" ++ (1 ∷ []))
    ∷ (bytes "A,WH\0,1,1,EUR" ++ zeros 15)
    ∷ (bytes "A,WH,1,1\0,EUR" ++ zeros 15)
    ∷ (0 ∷ (bytes "A,WH,1,1,EUR" ++ zeros 15))
    ∷ [])
    ≡ false
unfolding everything
slots_damaged = refl

-- Rule 3, on three slots: two lines and a slot of zeros; three lines; none.
three_slots_kept :
    all (slots_keep is_line 3)
    ((slot_of (bytes "A,WH,1,1") ++ (slot_of (bytes "B,WH,1,1") ++ zeros 28))
    ∷ (slot_of (bytes "A,WH,1,1") ++ (slot_of (bytes "B,WH,1,1") ++ slot_of (bytes "C,WH,1,1")))
    ∷ zeros 84
    ∷ [])
    ≡ true
unfolding everything
three_slots_kept = refl

-- a line behind a slot of zeros; a byte there; a slot in the middle that is damaged, or has the other count of fields
three_slots_damaged :
    any (slots_keep is_line 3)
    ((zeros 28 ++ (slot_of (bytes "A,WH,1,1") ++ zeros 28))
    ∷ (slot_of (bytes "A,WH,1,1") ++ (zeros 28 ++ slot_of (bytes "B,WH,1,1")))
    ∷ (slot_of (bytes "A,WH,1,1") ++ (zeros 55 ++ (1 ∷ [])))
    ∷ (zeros 1 ++ (bytes "X" ++ zeros 82))
    ∷ (slot_of (bytes "A,WH,1,1") ++ (slot_of (bytes "B,WH,1,0") ++ slot_of (bytes "C,WH,1,1")))
    ∷ (slot_of (bytes "A,WH,1,1") ++ (slot_of (bytes "B,WH,1,1,EUR") ++ slot_of (bytes "C,WH,1,1")))
    ∷ [])
    ≡ false
unfolding everything
three_slots_damaged = refl

three_slots_read :
    map (lines_in 3)
    ((slot_of (bytes "B,WH,1,1") ++ (slot_of (bytes "A,WH,1,1") ++ zeros 28))
    ∷ (slot_of (bytes "ZZZZZZZZ,ZZ,99999,999999,ZZZ") ++ (slot_of (bytes "B,WH,1,1,EUR") ++ slot_of (bytes "C,WH,1,1,USD")))
    ∷ zeros 84
    ∷ [])
    ≡ map bytes ("B,WH,1,1" ∷ "A,WH,1,1" ∷ []) ∷ map bytes ("ZZZZZZZZ,ZZ,99999,999999,ZZZ" ∷ "B,WH,1,1,EUR" ∷ "C,WH,1,1,USD" ∷ []) ∷ [] ∷ []
unfolding everything
three_slots_read = refl

-- Rule 4: the contracts alone count, and all of each; not the currencies.
contracts_differ : all differ ([] ∷ map bytes ("A,WH,1,1" ∷ []) ∷ map bytes ("A1,WH,1,1" ∷ "A,WH,1,1" ∷ "1A,WH,1,1" ∷ "A11,WH,1,1" ∷ []) ∷ []) ≡ true
unfolding everything
contracts_differ = refl

contracts_same :
    any differ
    (map bytes ("A,WH,1,1" ∷ "A,WH,1,1" ∷ []) ∷ map bytes ("A,WH,1,1" ∷ "B,WH,1,1" ∷ "A,BA,2,2" ∷ [])
    ∷ map bytes ("A,WH,1,1,EUR" ∷ "A,WH,1,1,USD" ∷ []) ∷ [])
    ≡ false
unfolding everything
contracts_same = refl

-- a line handed out, in 32 bytes
handed_out : handing 0 (bytes "A,WH,1,1,EUR") ≡ record { number = 0; line = bytes "A,WH,1,1,EUR" ++ zeros 20; size = 12 }
unfolding everything
handed_out = refl

longest_handed_out :
    handing 0 (bytes "ZZZZZZZZ,ZZ,99999,999999,ZZZ")
    ≡ record { number = 0; line = bytes "ZZZZZZZZ,ZZ,99999,999999,ZZZ" ++ (0 ∷ 0 ∷ 0 ∷ 0 ∷ []); size = 28 }
unfolding everything
longest_handed_out = refl

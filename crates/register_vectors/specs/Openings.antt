-- The register opened and opened again, what is done to it before and after; and the calls on whole buffers, opened, not opened, short, and against
-- the rules. Assumes nothing.
use Rattle.std.specs.Prelude.{true, false, List, [], ◌∷◌, ◌++◌, map, ◌≡◌, refl, ℕ, replicate}
use Prim.Native.String.{String}
use Rattle.base.specs.Lists.{all, any}
use Rattle.base.specs.Text.{bytes}
use Rattle.register.specs.Buffer.{register_image, register_in, buffer_keeps}
use Rattle.register.specs.Calls.{open_call, offer_call, handing, line_call}
use Rattle.register.specs.Register.{Register, empty_register, opened_with, register_after, opening, offering, fold, is_open, is_register}
use Rattle.register_vectors.specs.Everything.{everything}

-- so many zeros
abbrev zeros : ℕ → List ℕ
zeros n = replicate n 0

-- a register by its house currency and its lines
abbrev register : String → List String → Register
register house lines = record { house = bytes house; lines = map bytes lines }

-- two lines as wishes 2 to 9 left them, and the same opened with EUR
abbrev old_two : Register
old_two = register "" ("Z,WH,120,2150" ∷ "A,BA,35,1875" ∷ [])

abbrev two : Register
two = register "EUR" ("Z,WH,120,2150,EUR" ∷ "A,BA,35,1875,EUR" ∷ [])

-- W10.3 "a held register of old lines is rewritten so, with order and other fields kept"
old_opened : opened_with old_two (bytes "EUR") ≡ two
unfolding everything
old_opened = refl

-- "opening again changes only the house currency"
opened_again : opened_with two (bytes "USD") ≡ register "USD" ("Z,WH,120,2150,EUR" ∷ "A,BA,35,1875,EUR" ∷ [])
unfolding everything
opened_again = refl

nothing_opened : opened_with empty_register (bytes "EUR") ≡ register "EUR" []
unfolding everything
nothing_opened = refl

open_or_not : map is_open (empty_register ∷ old_two ∷ two ∷ register "EUR" [] ∷ []) ≡ false ∷ false ∷ true ∷ true ∷ []
unfolding everything
open_or_not = refl

-- W10.6 what isn't a currency changes nothing, opened or not
bad_openings :
    map (λ given. register_after given (opening (bytes "EU"))) (empty_register ∷ old_two ∷ two ∷ []) ≡ empty_register ∷ old_two ∷ two ∷ []
unfolding everything
bad_openings = refl

-- "until it is opened, every other call on a register gets 14"
offers_not_opened :
    map (λ given. register_after given (offering (bytes "C,WH,1,1,USD"))) (empty_register ∷ old_two ∷ []) ≡ empty_register ∷ old_two ∷ []
unfolding everything
offers_not_opened = refl

-- each line of four fields gets the house currency of then; one of five keeps its own
all_done :
    fold empty_register
    (offering (bytes "N,WH,1,1")
    ∷ opening (bytes "EUR") ∷ offering (bytes "A,WH,1,1") ∷ offering (bytes "B,WH,1,1,CHF")
    ∷ opening (bytes "USD") ∷ offering (bytes "C,WH,1,1") ∷ offering (bytes "A,WH,2,2,USD") ∷ offering (bytes "D,WH,1,1,EUR")
    ∷ opening (bytes "usd") ∷ offering (bytes "E,WH,1,1") ∷ offering (bytes "F,WH,1,1,") ∷ [])
    ≡ register "USD" ("A,WH,1,1,EUR" ∷ "B,WH,1,1,CHF" ∷ "C,WH,1,1,USD" ∷ "D,WH,1,1,EUR" ∷ "E,WH,1,1,USD" ∷ [])
unfolding everything
all_done = refl

-- registers; and what none is: five fields in one that isn't opened, four in one that is, one contract twice, a house of bad form
registers : all is_register (empty_register ∷ old_two ∷ two ∷ register "USD" [] ∷ []) ≡ true
unfolding everything
registers = refl

no_registers :
    any is_register
    (register "" ("A,WH,1,1,EUR" ∷ []) ∷ register "EUR" ("A,WH,1,1" ∷ []) ∷ register "EUR" ("A,WH,1,1,EUR" ∷ "A,WH,1,1,USD" ∷ [])
    ∷ register "EU" [] ∷ register "eur" [] ∷ [])
    ≡ false
unfolding everything
no_registers = refl

-- The same as bytes: those of a register keep the rules, and are read back; others don't.
images_kept : all (λ given. buffer_keeps (register_image given)) (empty_register ∷ old_two ∷ two ∷ []) ≡ true
unfolding everything
images_kept = refl

images_read : map (λ given. register_in (register_image given)) (empty_register ∷ old_two ∷ two ∷ []) ≡ empty_register ∷ old_two ∷ two ∷ []
unfolding everything
images_read = refl

images_against_rules :
    any (λ given. buffer_keeps (register_image given))
    (register "" ("A,WH,1,1,EUR" ∷ []) ∷ register "EUR" ("A,WH,1,1" ∷ []) ∷ register "EUR" ("A,WH,1,1,EUR" ∷ "A,WH,1,1,USD" ∷ [])
    ∷ register "EU" [] ∷ register "eur" [] ∷ [])
    ≡ false
unfolding everything
images_against_rules = refl

-- all zeros is the empty register, not opened
zeros_empty : register_image empty_register ≡ zeros 8192
unfolding everything
zeros_empty = refl

-- Opening. Bytes behind the 8,192nd stay.
zeros_opened : open_call (zeros 8192) (bytes "EUR") ≡ record { number = 0; left = bytes "EUR" ++ zeros 8189 }
unfolding everything
zeros_opened = refl

old_bytes_opened : open_call (register_image old_two ++ (1 ∷ 2 ∷ [])) (bytes "EUR") ≡ record { number = 0; left = register_image two ++ (1 ∷ 2 ∷ []) }
unfolding everything
old_bytes_opened = refl

-- W10.6 29 is "checked before all else on opening": also where the buffer is short, or against the rules; then 14
bad_currency : open_call (register_image two) (bytes "EURO") ≡ record { number = 29; left = register_image two }
unfolding everything
bad_currency = refl

bad_currency_first :
    map (λ buffer. open_call buffer (bytes "eur")) (zeros 3 ∷ (1 ∷ zeros 8191) ∷ [])
    ≡ record { number = 29; left = zeros 3 } ∷ record { number = 29; left = 1 ∷ zeros 8191 } ∷ []
unfolding everything
bad_currency_first = refl

short_not_opened :
    map (λ buffer. open_call buffer (bytes "EUR")) ([] ∷ zeros 8191 ∷ (1 ∷ zeros 8191) ∷ [])
    ≡ record { number = 14; left = [] } ∷ record { number = 14; left = zeros 8191 } ∷ record { number = 14; left = 1 ∷ zeros 8191 } ∷ []
unfolding everything
short_not_opened = refl

-- W10.6 14 until it is opened, for every line and every place
zeros-offered :
    map (λ line. offer_call (zeros 8192) (bytes line)) ("A,WH,1,1" ∷ "A,WH,1,1,EUR" ∷ "bad" ∷ [])
    ≡ replicate 3 (record { number = 14; left = zeros 8192 })
unfolding everything
zeros-offered = refl

not_opened_handed_out : map (λ buffer. line_call buffer 0) (zeros 8192 ∷ register_image old_two ∷ []) ≡ replicate 2 (handing 14 [])
unfolding everything
not_opened_handed_out = refl

-- W10.5 "Handing out gives five fields"
opened_handed_out :
    map (line_call (register_image two)) (0 ∷ 1 ∷ 2 ∷ []) ≡ map (λ line. handing 0 (bytes line)) ("Z,WH,120,2150,EUR" ∷ "A,BA,35,1875,EUR" ∷ "" ∷ [])
unfolding everything
opened_handed_out = refl

opened_offered :
    offer_call (register_image (register "EUR" []) ++ (7 ∷ [])) (bytes "A,WH,1,1")
    ≡ record { number = 0; left = register_image (register "EUR" ("A,WH,1,1,EUR" ∷ [])) ++ (7 ∷ []) }
unfolding everything
opened_offered = refl

-- W2.7 "14 for a buffer under 8,192 bytes", also where the line is of bad form; W2.6 it is left unchanged, and an empty line is handed out
too_short : any buffer_keeps ([] ∷ zeros 28 ∷ (1 ∷ 2 ∷ 3 ∷ []) ∷ (bytes "EUR" ++ zeros 8188) ∷ []) ≡ false
unfolding everything
too_short = refl

too_short_to_offer :
    map (λ line. offer_call (bytes "EUR" ++ zeros 8188) (bytes line)) ("A,WH,1,1" ∷ "bad" ∷ [])
    ≡ replicate 2 (record { number = 14; left = bytes "EUR" ++ zeros 8188 })
unfolding everything
too_short_to_offer = refl

too_short_to_hand_out : map (λ buffer. line_call buffer 0) (zeros 28 ∷ (bytes "EUR" ++ zeros 8188) ∷ []) ≡ replicate 2 (handing 14 [])
unfolding everything
too_short_to_hand_out = refl

-- Literals of a packed statement: where those of its text are whole, so are those of the bytes behind any word, and each literal read has
-- a byte. Assumes nothing.
use Rattle.std.specs.Prelude.{Bool, true, false, cond, not, ◌&&◌, List, [], ◌∷◌, map, ◌≡◌, refl, ℕ, suc, ◌+◌, leb, ltb, eqb, length, take, drop, get_or}
use Rattle.std.proofs.Common.{true≢false, sym, ◌∙◌, ap, subst, add-one, length-take-le, eqb-true}
use Rattle.std.proofs.lemmas.Bool.{false≢true, not-true}
use Rattle.std.proofs.Math.Bool.{and-eq-true_iff}
use Rattle.base.specs.Choice.{test_cases, cond_cases}
use Rattle.base.specs.Edition.{Edition}
use Rattle.base.specs.Lists.{same, begins, all, is_nil}
use Rattle.base.specs.Text.{bytes}
use Rattle.cards.specs.Bytes.{between, is_letter, is_digit, is_name_byte, is_blank, quote}
use Rattle.cards.specs.Cards.{Unpacked, lines, unpacked_from}
use Rattle.cards.specs.Entries.{Entry, skipped, statement, packed_entry, entries_from, entries}
use Rattle.cards.specs.Packing.{
  Place,
  outside,
  opened,
  doubled,
  inside,
  place_after,
  is_dropped,
  pack_from,
  packed,
  literals_from,
  literals_whole,
}
use Rattle.syntax.specs.Fuel.{run_within}
use Rattle.syntax.specs.Keywords.{StatementKind, UNKNOWN, keywords, Leading, longest, is_replacement, leading}
use Rattle.syntax.specs.Placed.{Each}
use Rattle.syntax.specs.Parsing.{Parsed, got, one_literal}
use Rattle.syntax.specs.Strings.{literal_at}
use Rattle.syntax.specs.Lexemes.{run_length, name_length}

-- the literals of some bytes are whole
abbrev pub LiteralsWhole : List ℕ → Type 0
LiteralsWhole bs = literals_from outside bs ≡ true

-- a byte that is no quote
abbrev pub is_unquoted : ℕ → Bool
is_unquoted b = not (eqb b quote)

-- literals are whole behind packing where they are before it
pack_literals : (bs : List ℕ) (place : Place) → literals_from place (pack_from place bs) ≡ literals_from place bs
unfolding literals_from pack_from is_dropped is_blank place_after quote
pack_literals [] outside = refl
pack_literals [] opened = refl
pack_literals [] doubled = refl
pack_literals [] inside = refl
pack_literals (b ∷ bs) outside =
    let after = place_after outside b in
    test_cases
    (λ t. literals_from outside (elim t [ true ↦ pack_from after bs | false ↦ b ∷ pack_from after bs ]) ≡ literals_from after bs)
    (eqb b 32)
    (λ h. subst (λ c. literals_from outside (pack_from (place_after outside c) bs) ≡ literals_from (place_after outside c) bs)
    (sym (eqb-true b 32 h)) (pack_literals bs outside))
    (λ _. pack_literals bs after)
pack_literals (b ∷ bs) opened = pack_literals bs (place_after opened b)
pack_literals (b ∷ bs) doubled =
    test_cases
    (λ t. ◌≡◌ {A = Bool} (elim t [ true ↦ literals_from outside (pack_from outside bs) | false ↦ false ])
    (elim t [ true ↦ literals_from outside bs | false ↦ false ]))
    (eqb b 34) (λ _. pack_literals bs outside) (λ _. refl)
pack_literals (b ∷ bs) inside = pack_literals bs (place_after inside b)

-- the literals of a statement's text are whole where its entry says so
abbrev pub TextWhole : Entry → Type 0
TextWhole (skipped card sound) = Unit
TextWhole (statement card sound label whole text) = whole ≡ true → LiteralsWhole text

-- so are those of a deck's statements
pub entries-whole : (e : Edition) (deck : List ℕ) → Each TextWhole (entries e deck)
unfolding entries entries_from packed_entry literals_whole packed Each
entries-whole e deck = each (unpacked_from e 1 (lines deck))
  where
    each : (us : List Unpacked) → Each TextWhole (map packed_entry us)
    each [] = tt
    each (Unpacked.skipped card sound ∷ us) = (tt, each us)
    each (Unpacked.statement card sound label text ∷ us) = ((λ h. pack_literals text outside ∙ h), each us)

-- outside a literal a byte that is no quote may go
whole_tail : (b : ℕ) (bs : List ℕ) → eqb b quote ≡ false → LiteralsWhole (b ∷ bs) → LiteralsWhole bs
unfolding literals_from place_after
whole_tail b bs h whole = subst (λ t. literals_from (elim t [ true ↦ opened | false ↦ outside ]) bs ≡ true) h whole

-- bytes at the front, none of them a quote, may go
pub whole-behind : (w bs : List ℕ) → all is_unquoted w ≡ true → begins w bs ≡ true → LiteralsWhole bs → LiteralsWhole (drop (length w) bs)
unfolding begins same all
whole-behind [] bs plain h whole = whole
whole-behind (x ∷ w) [] plain h whole = absurd (false≢true h)
whole-behind (x ∷ w) (b ∷ bs) plain h whole =
    let both = (and-eq-true_iff (eqb b x) (same (take (length w) bs) w)).0 h in
    let clean = (and-eq-true_iff (is_unquoted x) (all is_unquoted w)).0 plain in
    let here : eqb b quote ≡ false = ap (λ c. eqb c quote) (eqb-true b x both.0) ∙ not-true (eqb x quote) clean.0 in
    whole-behind w bs clean.1 both.1 (whole_tail b bs here whole)

-- bytes that pass a test which a quote fails may go
pub whole_run : (f : ℕ → Bool) → f quote ≡ false → (bs : List ℕ) → LiteralsWhole bs → LiteralsWhole (drop (run_length f bs) bs)
unfolding run_length
whole_run f fails [] whole = whole
whole_run f fails (b ∷ bs) whole =
    test_cases (λ t. LiteralsWhole (drop (elim t [ true ↦ suc (run_length f bs) | false ↦ 0 ]) (b ∷ bs))) (f b)
    (λ h. whole_run f fails bs (whole_tail b bs (differs h) whole)) (λ _. whole)
  where
    differs : f b ≡ true → eqb b quote ≡ false
    differs h =
        test_cases (λ t. t ≡ false) (eqb b quote)
        (λ q. absurd (true≢false (sym h ∙ ap f (eqb-true b quote q) ∙ fails))) (λ _. refl)

-- a name may go
pub whole-name : (bs : List ℕ) → LiteralsWhole bs → LiteralsWhole (drop (name_length bs) bs)
unfolding name_length is_name_byte is_letter is_digit between quote
whole-name bs whole =
    cond_cases (λ n. LiteralsWhole (drop n bs)) (is_letter (get_or bs 0 0) && leb (run_length is_name_byte bs) 8) (λ _. whole_run is_name_byte refl bs whole)
    (λ _. whole)

-- so may the digits of a number
pub whole-digits : (bs : List ℕ) → LiteralsWhole bs → LiteralsWhole (drop (run_length is_digit bs) bs)
unfolding is_digit between quote
whole-digits bs whole = whole_run is_digit refl bs whole

-- and the longest of some keywords
whole-longest : (ws : List (List ℕ × StatementKind)) (bs : List ℕ) (best : Leading)
    → all (λ ((w, k) : List ℕ × StatementKind). all is_unquoted w) ws ≡ true → LiteralsWhole bs → LiteralsWhole (drop best.size bs)
    → LiteralsWhole (drop (longest ws bs best).size bs)
unfolding longest all
whole-longest [] bs best plain whole h = h
whole-longest ((w, k) ∷ ws) bs best plain whole h =
    let clean = (and-eq-true_iff (all is_unquoted w) _).0 plain in
    whole-longest ws bs (cond (begins w bs && ltb best.size (length w)) (record { kind = k; size = length w }) best) clean.1 whole
    (cond_cases (λ (l : Leading). LiteralsWhole (drop l.size bs)) (begins w bs && ltb best.size (length w))
    (λ t. whole-behind w bs clean.0 ((and-eq-true_iff (begins w bs) (ltb best.size (length w))).0 t).0 whole)
    (λ _. h))

-- the keyword that leads a statement may go
pub whole-leading : (bs : List ℕ) → LiteralsWhole bs → LiteralsWhole (drop (leading bs).size bs)
unfolding leading keywords bytes all quote
whole-leading bs whole =
    cond_cases (λ (l : Leading). LiteralsWhole (drop l.size bs)) (is_replacement bs) (λ _. whole)
    (λ _. whole-longest keywords bs (record { kind = UNKNOWN; size = 0 }) refl whole whole)

-- bytes that pass a test are as many as they are counted
run_length_lem : (f : ℕ → Bool) (bs : List ℕ) → length (take (run_length f bs) bs) ≡ run_length f bs
run_length_lem f bs = length-take-le (run_length f bs) bs (run_within f bs)

-- a literal is closed by the next quote
whole_closed : (bs : List ℕ) → literals_from inside bs ≡ true → LiteralsWhole (drop (suc (run_length is_unquoted bs)) bs)
unfolding literals_from place_after run_length
whole_closed [] h = absurd (false≢true h)
whole_closed (b ∷ bs) h =
    test_cases
    (λ t. literals_from (elim t [ true ↦ outside | false ↦ inside ]) bs ≡ true
    → LiteralsWhole (drop (elim (not t) [ true ↦ suc (run_length is_unquoted bs) | false ↦ 0 ]) bs)) (eqb b quote)
    (λ _ g. g) (λ _ g. whole_closed bs g) h

-- a literal read has a byte, and those behind it are whole
pub data LiteralParsed : Parsed (List ℕ) → Type 0 where
  literal_read : {w rest : List ℕ} → is_nil w ≡ false → LiteralsWhole rest → LiteralParsed (got w (one_literal (length w)) rest)

-- where no two quotes follow, behind a quote a literal is read up to the next
plain_literal : (bs : List ℕ) → literals_from opened bs ≡ true → begins (quote ∷ (quote ∷ [])) bs ≡ false
    → LiteralParsed (got (take (run_length is_unquoted bs) bs) (one_literal (run_length is_unquoted bs)) (drop (suc (run_length is_unquoted bs)) bs))
unfolding literals_from place_after begins same run_length is_nil
plain_literal [] h two = absurd (false≢true h)
plain_literal (b ∷ bs) h two =
    test_cases
    (λ t. literals_from (elim t [ true ↦ doubled | false ↦ inside ]) bs ≡ true → (t && same (take 1 bs) (quote ∷ [])) ≡ false
    → LiteralParsed
    (got (take (elim (not t) [ true ↦ suc (run_length is_unquoted bs) | false ↦ 0 ]) (b ∷ bs))
    (one_literal (elim (not t) [ true ↦ suc (run_length is_unquoted bs) | false ↦ 0 ]))
    (drop (elim (not t) [ true ↦ suc (run_length is_unquoted bs) | false ↦ 0 ]) bs)))
    (eqb b quote) (λ _ g one. absurd (third bs g one))
    (λ _ g _.
    subst (λ n. LiteralParsed (got (b ∷ take (run_length is_unquoted bs) bs) (one_literal (suc n)) (drop (suc (run_length is_unquoted bs)) bs)))
    (run_length_lem is_unquoted bs)
    (literal_read refl (whole_closed bs g)))
    h two
  where
    third : (bs : List ℕ) → literals_from doubled bs ≡ true → same (take 1 bs) (quote ∷ []) ≡ false → ⊥
    third [] g one = false≢true g
    third (c ∷ cs) g one =
        test_cases
        (λ t. (elim t as (λ _. Bool) [ true ↦ literals_from outside cs | false ↦ false ]) ≡ true → (t && true) ≡ false → ⊥)
        (eqb c quote) (λ _ _ h. true≢false h) (λ _ h _. false≢true h) g one

-- behind three quotes
whole_doubled : (bs : List ℕ) → literals_from opened bs ≡ true → begins (quote ∷ (quote ∷ [])) bs ≡ true → LiteralsWhole (drop 2 bs)
unfolding literals_from place_after begins same
whole_doubled [] h two = absurd (false≢true two)
whole_doubled (b ∷ []) h two = absurd (false≢true ((and-eq-true_iff (eqb b quote) false).0 two).1)
whole_doubled (b ∷ (c ∷ bs)) h two =
    let first = (and-eq-true_iff (eqb b quote) (eqb c quote && true)).0 two in
    let second = (and-eq-true_iff (eqb c quote) true).0 first.1 in
    rw (first.0, place_after, second.0, literals_from) at h

-- a literal that begins here
pub literal_read_lem : (bs : List ℕ) → begins (bytes "\"") bs ≡ true → LiteralsWhole bs → LiteralParsed (literal_at (drop 1 bs))
unfolding begins same bytes literals_from place_after literal_at is_nil quote
literal_read_lem [] h whole = absurd (false≢true h)
literal_read_lem (b ∷ bs) h whole =
    let opens : eqb b 34 ≡ true = ((and-eq-true_iff (eqb b 34) true).0 h).0 in
    let inner : literals_from opened bs ≡ true =
    subst (λ t. literals_from (elim t [ true ↦ opened | false ↦ outside ]) bs ≡ true) opens whole in
    test_cases
    (λ t. begins (34 ∷ (34 ∷ [])) bs ≡ t
    → LiteralParsed
    (elim t [
      | true ↦ got (quote ∷ []) (one_literal 1) (drop 2 bs)
      | false ↦ got (take (run_length is_unquoted bs) bs) (one_literal (run_length is_unquoted bs)) (drop (run_length is_unquoted bs + 1) bs)
    ]))
    (begins (34 ∷ (34 ∷ [])) bs)
    (λ _ two. literal_read refl (whole_doubled bs inner two))
    (λ _ two. rw add-one (plain_literal bs inner two)) refl

-- Registers: what opening and offering leave of one is one, and each that is opened is left by an opening and offers. Assumes nothing.
use Rattle.std.specs.Prelude.{Bool, true, false, ◌&&◌, ◌||◌, ◌≡◌, eqb, leb}
use Rattle.std.proofs.Math.Bool.{cond, not}
use Rattle.std.proofs.lemmas.Bool.{false≢true, eqb-false, lt-leb, not-true}
use mathlib.Core.List.{List, [], ◌∷◌, ◌++◌, append_assoc, append-nil, map, map-append, map-id}
use Rattle.std.proofs.Math.Path.{refl, sym, ap, ap₂}
use Rattle.std.proofs.Common.{◌∙◌, subst, arith, eqb-true, eq-eqb, ne_eqb, leb-true, leb-false, le-leb}
use Prim.Native.Nat.{ℕ, ◌≤◌, ◌<◌}
use Rattle.std.proofs.Math.ListN.{length, length-append, length-map}
use Rattle.base.specs.Choice.{both_true, both_pass, test_cases, neither_true, same_truth}
use Rattle.base.specs.ListLaws.{all_append, all_imply, same_true, same_iff}
use Rattle.base.specs.Lists.{all, any, is_nil, same}
use Rattle.register.specs.Line.{contract_of, fields, has_form, is_currency, is_line, is_record, stored, with_currency}
use Rattle.register.specs.LineLaws.{form_cases, line-form, not_both, record_form, written_contract, written-fields, written_record}
use Rattle.register.specs.MapLaws.{all_map, map-agree}
use Rattle.register.specs.Register.{
  Lines,
  Register,
  is_open,
  empty_register,
  with_line,
  most_lines,
  is_held,
  lowest_of,
  offer_number,
  offered,
  old_offered,
  old_lines,
  opened_with,
  Act,
  opening,
  offering,
  register_after,
  fold,
  differ,
  held_form,
  is_house,
  is_register,
}

-- what a register keeps
pub record RegisterSound (register : Register) : Type 0 where
  pub home : is_house register.house ≡ true
  pub few : length register.lines ≤ most_lines
  pub good : all (held_form register.house) register.lines ≡ true
  pub different : differ register.lines ≡ true

pub sound : (register : Register) → is_register register ≡ true → RegisterSound register
unfolding is_register
sound register e =
    let first = both_true (is_house register.house) _ e in
    let parts = both_true (leb (length register.lines) most_lines) _ first.1 in
    let rest = both_true (all (held_form register.house) register.lines) (differ register.lines) parts.1 in
    record { home = first.0; few = leb-true (length register.lines) most_lines parts.0; good = rest.0; different = rest.1 }

pub is-register : (register : Register) → RegisterSound register → is_register register ≡ true
unfolding is_register
is-register register s =
    both_pass s.home (both_pass (le-leb (length register.lines) most_lines s.few) (both_pass s.good s.different))

-- the empty register
pub empty_sound : RegisterSound empty_register
unfolding all differ is_house is_nil
empty_sound = record { home = refl; few = omega arith; good = refl; different = refl }

-- The house currency: one where the register is opened, none where it isn't; and the form of its lines.
pub house_open : (register : Register) → is_house register.house ≡ true → is_open register ≡ true → is_currency register.house ≡ true
unfolding is_house is_open
house_open register home is =
    test_cases (λ t. (t || is_currency register.house) ≡ true → not t ≡ true → is_currency register.house ≡ true) (is_nil register.house)
    (λ _ _ h. absurd (false≢true h)) (λ _ h _. h) home is

pub currency_some : (house : List ℕ) → is_currency house ≡ true → is_nil house ≡ false
unfolding is_currency is_nil
currency_some [] e = absurd (false≢true e)
currency_some (b ∷ house) e = refl

pub currency_open : (register : Register) → is_currency register.house ≡ true → is_open register ≡ true
unfolding is_open
currency_open register e = ap not (currency_some register.house e)

pub form_open : (house line : List ℕ) → is_nil house ≡ false → held_form house line ≡ is_record line
unfolding held_form
form_open house line e = rw e

pub form_old : (house line : List ℕ) → is_nil house ≡ true → held_form house line ≡ is_line line
unfolding held_form
form_old house line e = rw e

pub form_has : (house line : List ℕ) → held_form house line ≡ true → has_form line ≡ true
unfolding held_form
form_has house line e =
    test_cases (λ t. cond t (is_line line) (is_record line) ≡ true → has_form line ≡ true) (is_nil house)
    (λ _. line-form line) (λ _. record_form line) e

-- A line as it is stored: it has five fields, and its contract.
module _ (house : List ℕ) (is : is_currency house ≡ true) where
  stored-line : (line : List ℕ) → is_line line ≡ true → stored house line ≡ with_currency house line
  unfolding stored
  stored-line line e = rw e

  stored_same : (line : List ℕ) → is_record line ≡ true → stored house line ≡ line
  unfolding stored
  stored_same line e =
      test_cases (λ t. is_line line ≡ t → cond t (with_currency house line) line ≡ line) (is_line line)
      (λ four _. absurd (false≢true (sym (not_both line four) ∙ e))) (λ _ _. refl) refl

  pub stored_record : (line : List ℕ) → has_form line ≡ true → is_record (stored house line) ≡ true
  stored_record line e =
      form_cases line e (λ four. ap is_record (stored-line line four) ∙ written_record house is line four)
      (λ five. ap is_record (stored_same line five) ∙ five)

  pub stored_contract : (line : List ℕ) → contract_of (stored house line) ≡ contract_of line
  unfolding stored
  stored_contract line =
      test_cases (λ t. contract_of (cond t (with_currency house line) line) ≡ contract_of line) (is_line line)
      (λ _. written_contract house is line) (λ _. refl)

-- An offer that gets 0: the line has its form, its contract isn't held, and there is room.
pub record OfferTaken (held : Lines) (line : List ℕ) : Type 0 where
  pub form : has_form line ≡ true
  pub fresh : is_held held (contract_of line) ≡ false
  pub room : length held < most_lines

chosen : (form held full : Bool) → ◌≡◌ {A = ℕ} (cond (not form) 25 (cond held 26 (cond full 27 0))) 0
    → (form ≡ true) × (held ≡ false) × (full ≡ false)
chosen true false false e = (refl, refl, refl)
chosen true false true e = absurd (omega arith)
chosen true true full e = absurd (omega arith)
chosen false held full e = absurd (omega arith)

pub taken : (held : Lines) (line : List ℕ) → offer_number held line ≡ 0 → OfferTaken held line
unfolding offer_number lowest_of
taken held line e =
    let tests = chosen (has_form line) (is_held held (contract_of line)) (leb most_lines (length held)) e in
    record { form = tests.0; fresh = tests.1; room = leb-false most_lines (length held) tests.2 }

pub taken_zero : (held : Lines) (line : List ℕ) → OfferTaken held line → offer_number held line ≡ 0
unfolding offer_number lowest_of
taken_zero held line t = rw (t.form, t.fresh, lt-leb most_lines (length held) t.room)

-- a line that is taken stands behind the others, and one that isn't leaves all as it was
module _ (register : Register) (line : List ℕ) where
  pub offered_taken : offer_number register.lines line ≡ 0 → offered register line ≡ with_line register line
  unfolding offered
  offered_taken e = rw (eq-eqb (offer_number register.lines line) 0 e)

  pub offered_declined : ¬ (offer_number register.lines line ≡ 0) → offered register line ≡ register
  unfolding offered
  offered_declined n = rw (ne_eqb (offer_number register.lines line) 0 n)

same_sym : (xs ys : List ℕ) → same xs ys ≡ same ys xs
same_sym xs ys = same_truth (same xs ys) (same ys xs) (turn xs ys) (turn ys xs)
  where
    turn : (xs ys : List ℕ) → same xs ys ≡ true → same ys xs ≡ true
    turn xs ys e = (same_iff ys xs).1 (sym (same_true xs ys e))

-- a contract among the lines of two registers
holds-append : (r q : Lines) (c : List ℕ) → is_held (r ++ q) c ≡ (is_held r c || is_held q c)
unfolding is_held any
holds-append [] q c = refl
holds-append (l ∷ r) q c = ap (λ b. same (contract_of l) c || b) (holds-append r q c) ∙ or_assoc (same (contract_of l) c) (is_held r c) (is_held q c)
  where
    or_assoc : (a b d : Bool) → (a || (b || d)) ≡ ((a || b) || d)
    or_assoc true b d = refl
    or_assoc false b d = refl

-- contracts differ still with one more line exactly when its contract isn't held
pub differ-more : (r : Lines) (line : List ℕ) → differ r ≡ true → is_held r (contract_of line) ≡ false → differ (r ++ (line ∷ [])) ≡ true
unfolding differ is_held any
differ-more [] line d h = refl
differ-more (l ∷ r) line d h =
    let parts = both_true (not (is_held r (contract_of l))) (differ r) d in
    let other = neither_true (same (contract_of l) (contract_of line)) (is_held r (contract_of line)) h in
    let apart : is_held (r ++ (line ∷ [])) (contract_of l) ≡ false =
    holds-append r (line ∷ []) (contract_of l)
    ∙ rw (not-true (is_held r (contract_of l)) parts.0, same_sym (contract_of line) (contract_of l), other.0) in
    both_pass (ap not apart) (differ-more r line parts.1 other.1)

pub differ-split : (r : Lines) (line : List ℕ) (q : Lines) → differ (r ++ (line ∷ q)) ≡ true → is_held r (contract_of line) ≡ false
unfolding differ is_held any
differ-split [] line q d = refl
differ-split (l ∷ r) line q d =
    let parts = both_true (not (is_held (r ++ (line ∷ q)) (contract_of l))) (differ (r ++ (line ∷ q))) d in
    let none = sym (holds-append r (line ∷ q) (contract_of l)) ∙ not-true (is_held (r ++ (line ∷ q)) (contract_of l)) parts.0 in
    let apart = neither_true (same (contract_of line) (contract_of l)) (is_held q (contract_of l)) (neither_true (is_held r (contract_of l)) _ none).1 in
    rw (same_sym (contract_of l) (contract_of line), apart.0) (differ-split r line q parts.1)

all_middle : (p : List ℕ → Bool) (r : Lines) (line : List ℕ) (q : Lines) → all p (r ++ (line ∷ q)) ≡ true → p line ≡ true
unfolding all
all_middle p [] line q a = (both_true (p line) (all p q) a).0
all_middle p (l ∷ r) line q a = all_middle p r line q (both_true (p l) (all p (r ++ (line ∷ q))) a).1

-- Lines changed so that contracts stay: the same contracts are held, and differ as before.
module _ (change : List ℕ → List ℕ) (same-contract : (line : List ℕ) → contract_of (change line) ≡ contract_of line) where
  map-holds : (r : Lines) (c : List ℕ) → is_held (map change r) c ≡ is_held r c
  unfolding is_held any
  map-holds [] c = refl
  map-holds (l ∷ r) c = ap₂ {C = Bool} (λ x t. same x c || t) (same-contract l) (map-holds r c)

  map-differ : (r : Lines) → differ (map change r) ≡ differ r
  unfolding differ
  map-differ [] = refl
  map-differ (l ∷ r) =
      ap₂ {C = Bool} (λ t u. not t && u) (ap (is_held (map change r)) (same-contract l) ∙ map-holds r (contract_of l)) (map-differ r)

pub map-all : (p q : List ℕ → Bool) (change : List ℕ → List ℕ) → ((line : List ℕ) → p line ≡ true → q (change line) ≡ true) → (r : Lines)
    → all p r ≡ true → all q (map change r) ≡ true
map-all p q change f r a = all_map change q r ∙ all_imply p (λ line. q (change line)) f r a

-- The lines of a register that is opened are records; those of one that isn't are lines of four fields.
pub open_records : (register : Register) → RegisterSound register → is_open register ≡ true → all is_record register.lines ≡ true
unfolding is_open
open_records register s is =
    all_imply (held_form register.house) is_record (λ l e. sym (form_open register.house l (not-true (is_nil register.house) is)) ∙ e)
    register.lines s.good

nil_closed : (register : Register) → is_open register ≡ false → is_nil register.house ≡ true
unfolding is_open
nil_closed register e = test_cases (λ t. not t ≡ false → t ≡ true) (is_nil register.house) (λ _ _. refl) (λ _ h. absurd (false≢true (sym h))) e

pub old_lines_lem : (register : Register) → RegisterSound register → is_open register ≡ false → all is_line register.lines ≡ true
old_lines_lem register s e =
    all_imply (held_form register.house) is_line (λ l h. sym (form_old register.house l (nil_closed register e)) ∙ h) register.lines s.good

pub all_forms : (register : Register) → RegisterSound register → all has_form register.lines ≡ true
all_forms register s = all_imply (held_form register.house) has_form (form_has register.house) register.lines s.good

-- records are of the form of a register that has a currency
good_records : (house : List ℕ) (ls : Lines) → is_currency house ≡ true → all is_record ls ≡ true → all (held_form house) ls ≡ true
good_records house ls is = all_imply is_record (held_form house) (λ l e. form_open house l (currency_some house is) ∙ e) ls

pub home_currency : (house : List ℕ) → is_currency house ≡ true → is_house house ≡ true
unfolding is_house
home_currency house e = test_cases (λ t. (t || is_currency house) ≡ true) (is_nil house) (λ _. refl) (λ _. e)

-- A register stays one with a line of its form behind the others, if its contract isn't held and there is room.
more_sound : (register : Register) (text : List ℕ) → RegisterSound register → held_form register.house text ≡ true
    → is_held register.lines (contract_of text) ≡ false
    → length register.lines < most_lines
    → RegisterSound (record { house = register.house; lines = register.lines ++ (text ∷ []) })
unfolding all
more_sound register text s form fresh room =
    record {
      home = s.home;
      few = omega (arith, room, length-append register.lines (text ∷ []));
      good = all_append (held_form register.house) register.lines (text ∷ []) s.good (both_pass form refl);
      different = differ-more register.lines text s.different fresh;
    }

-- So does one that is opened with a line that is taken.
module _ (register : Register) (line : List ℕ) (s : RegisterSound register) (is : is_open register ≡ true) where
  currency_is : is_currency register.house ≡ true
  currency_is = house_open register s.home is

  taken_sound : OfferTaken register.lines line → RegisterSound (with_line register line)
  taken_sound t =
      let kept = stored register.house line in
      let five = stored_record register.house currency_is line t.form in
      more_sound register kept s (form_open register.house kept (currency_some register.house currency_is) ∙ five)
      (ap (is_held register.lines) (stored_contract register.house currency_is line) ∙ t.fresh) t.room

  pub offered_sound : RegisterSound (offered register line)
  offered_sound =
      test_cases (λ _. RegisterSound (offered register line)) (eqb (offer_number register.lines line) 0)
      (λ e.
      let zero = eqb-true (offer_number register.lines line) 0 e in
      subst RegisterSound (sym (offered_taken register line zero)) (taken_sound (taken register.lines line zero)))
      (λ e. subst RegisterSound (sym (offered_declined register line (eqb-false (offer_number register.lines line) 0 e))) s)

-- Opening. The lines that are there then; W10.3 "opening again changes only the house currency"
module _ (register : Register) (c : List ℕ) where
  pub opened_again : is_open register ≡ true → opened_with register c ≡ record { house = c; lines = register.lines }
  unfolding opened_with
  opened_again e = rw e

  pub opened_old : is_open register ≡ false → opened_with register c ≡ record { house = c; lines = map (with_currency c) register.lines }
  unfolding opened_with
  opened_old e = rw e

-- W10.3 "with order and other fields kept": each line in its place, with its fields and the currency behind them
pub opened_fields : (register : Register) (c : List ℕ) → is_currency c ≡ true → is_open register ≡ false
    → map fields (opened_with register c).lines ≡ map (λ line. fields line ++ (c ∷ [])) register.lines
opened_fields register c is e = ap (λ (r : Register). map fields r.lines) (opened_old register c e) ∙ each_line register.lines
  where
    each_line : (ls : Lines) → map fields (map (with_currency c) ls) ≡ map (λ line. fields line ++ (c ∷ [])) ls
    each_line [] = refl
    each_line (l ∷ ls) = ap₂ {C = List Lines} ◌∷◌ (written-fields c is l) (each_line ls)

pub opened_sound : (register : Register) (c : List ℕ) → RegisterSound register → is_currency c ≡ true → RegisterSound (opened_with register c)
opened_sound register c s is =
    test_cases (λ t. is_open register ≡ t → RegisterSound (opened_with register c)) (is_open register)
    (λ e _. subst RegisterSound (sym (opened_again register c e)) (record {
      home = home_currency c is;
      few = s.few;
      good = good_records c register.lines is (open_records register s e);
      different = s.different;
    }))
    (λ e _. subst RegisterSound (sym (opened_old register c e)) (record {
      home = home_currency c is;
      few = omega (arith, s.few, length-map register.lines (with_currency c));
      good = good_records c _ is (map-all is_line is_record (with_currency c) (written_record c is) register.lines (old_lines_lem register s e));
      different = map-differ (with_currency c) (written_contract c is) register.lines ∙ s.different;
    })) refl

-- What acts leave of a register is one.
pub after_sound : (register : Register) (act : Act) → RegisterSound register → RegisterSound (register_after register act)
unfolding register_after
after_sound register (opening c) s =
    test_cases (λ t. is_currency c ≡ t → RegisterSound (cond t (opened_with register c) register)) (is_currency c) (λ e _. opened_sound register c s e)
    (λ _ _. s) refl
after_sound register (offering line) s =
    test_cases (λ t. is_open register ≡ t → RegisterSound (cond t (offered register line) register)) (is_open register)
    (λ e _. offered_sound register line s e) (λ _ _. s) refl

fold_sound : (register : Register) (acts : List Act) → RegisterSound register → RegisterSound (fold register acts)
unfolding fold
fold_sound register [] s = s
fold_sound register (act ∷ acts) s = fold_sound (register_after register act) acts (after_sound register act s)

pub fold_is : (register : Register) (acts : List Act) → is_register register ≡ true → is_register (fold register acts) ≡ true
fold_is register acts e = is-register (fold register acts) (fold_sound register acts (sound register e))

after_opening : (register : Register) (c : List ℕ) → is_currency c ≡ true → register_after register (opening c) ≡ opened_with register c
unfolding register_after
after_opening register c e = rw e

after_offering : (register : Register) (line : List ℕ) → is_open register ≡ true → register_after register (offering line) ≡ offered register line
unfolding register_after
after_offering register line e = rw e

none_open : is_open empty_register ≡ false
unfolding is_open is_nil
none_open = refl

-- Lines given one after another to what has those before them: if each is taken where all of them are as they should be, all are.
module _ {S : Type 0} (has : Lines → S) (give : S → Lines → S) (none : (s : S) → give s [] ≡ s) (ok : Lines → Type 0)
    (one : (done rest : Lines) (line : List ℕ) → ok (done ++ (line ∷ rest)) → give (has done) (line ∷ rest) ≡ give (has (done ++ (line ∷ []))) rest)
  where
    all_taken : (done rest : Lines) → ok (done ++ rest) → give (has done) rest ≡ has (done ++ rest)
    all_taken done [] fit = none (has done) ∙ ap has (sym (append-nil done))
    all_taken done (line ∷ rest) fit =
        let next : (done ++ (line ∷ [])) ++ rest ≡ done ++ (line ∷ rest) = append_assoc done (line ∷ []) rest in
        one done rest line fit ∙ all_taken (done ++ (line ∷ [])) rest (subst ok (sym next) fit) ∙ ap has next

-- at most 256 lines of a form, with different contracts
record Fit (form : List ℕ → Bool) (ls : Lines) : Type 0 where
  few : length ls ≤ most_lines
  forms : all form ls ≡ true
  different : differ ls ≡ true

-- Lines of good form with different contracts, offered one after another to a register that is opened and has none of them, are all taken.
module _ (c : List ℕ) (is : is_currency c ≡ true) where
  abbrev holding : Lines → Register
  holding ls = record { house = c; lines = map (stored c) ls }

  offered-next : (done rest : Lines) (line : List ℕ) → Fit has_form (done ++ (line ∷ rest))
      → fold (holding done) (offering line ∷ map offering rest) ≡ fold (holding (done ++ (line ∷ []))) (map offering rest)
  unfolding fold
  offered-next done rest line fit =
      let fresh = map-holds (stored c) (stored_contract c is) done (contract_of line) ∙ differ-split done line rest fit.different in
      let room : length (map (stored c) done) < most_lines =
      omega (arith, fit.few, length-map done (stored c), length-append done (line ∷ rest)) in
      let form = all_middle has_form done line rest fit.forms in
      let zero = taken_zero (map (stored c) done) line (record { form = form; fresh = fresh; room = room }) in
      ap (λ r. fold r (map offering rest))
      (after_offering (holding done) line (currency_open (holding done) is)
      ∙ offered_taken (holding done) line zero
      ∙ (λ i. record { house = c; lines = sym (map-append (stored c) done (line ∷ [])) i }))

  opened_first : opened_with empty_register c ≡ holding []
  opened_first = opened_old empty_register c none_open

  -- opened at first, and then given these lines
  given : (ls : Lines) → Fit has_form ls → fold empty_register (opening c ∷ map offering ls) ≡ holding ls
  unfolding fold
  given ls fit =
      ap (λ r. fold r (map offering ls)) (after_opening empty_register c is ∙ opened_first)
      ∙ all_taken holding (λ r l. fold r (map offering l)) (λ _. refl) (Fit has_form) offered-next [] ls fit

fit_forms : (register : Register) → RegisterSound register → Fit has_form register.lines
fit_forms register s = record { few = s.few; forms = all_forms register s; different = s.different }

-- Each register that is opened is left by an opening with its house currency and offers of its lines.
pub is-fold : (register : Register) → is_register register ≡ true → is_open register ≡ true
    → fold empty_register (opening register.house ∷ map offering register.lines) ≡ register
is-fold register good e =
    let s = sound register good in
    let c = register.house in
    let is = house_open register s.home e in
    let same_lines = map-agree (stored c) (λ line. line) is_record (stored_same c is) register.lines (open_records register s e)
    ∙ map-id register.lines in
    given c is register.lines (fit_forms register s) ∙ (λ i. record { house = c; lines = same_lines i })

-- A register that isn't opened is what offers left before this wish: what they leave is one,
abbrev unopened : Lines → Register
unopened ls = record { house = []; lines = ls }

old_more : (ls : Lines) (line : List ℕ) → RegisterSound (unopened ls) → RegisterSound (unopened (old_offered ls line))
unfolding old_offered lowest_of is_nil
old_more ls line s =
    let number : ℕ = lowest_of (is_line line) (is_held ls (contract_of line)) (leb most_lines (length ls)) in
    test_cases (λ t. eqb number 0 ≡ t → RegisterSound (unopened (cond t (ls ++ (line ∷ [])) ls))) (eqb number 0)
    (λ e _.
    let tests = chosen (is_line line) (is_held ls (contract_of line)) (leb most_lines (length ls)) (eqb-true number 0 e) in
    more_sound (unopened ls) line s (form_old [] line refl ∙ tests.0) tests.1 (leb-false most_lines (length ls) tests.2))
    (λ _ _. s) refl

old_sound : (ls offers : Lines) → RegisterSound (unopened ls) → RegisterSound (unopened (old_lines ls offers))
unfolding old_lines
old_sound ls [] s = s
old_sound ls (line ∷ offers) s = old_sound (old_offered ls line) offers (old_more ls line s)

pub old_is : (offers : Lines) → is_register (unopened (old_lines [] offers)) ≡ true
old_is offers = is-register (unopened (old_lines [] offers)) (old_sound [] offers empty_sound)

-- and each one is left by the offers of its lines.
old_next : (done rest : Lines) (line : List ℕ) → Fit is_line (done ++ (line ∷ rest))
    → old_lines done (line ∷ rest) ≡ old_lines (done ++ (line ∷ [])) rest
unfolding old_lines old_offered lowest_of
old_next done rest line fit =
    let room : length done < most_lines = omega (arith, fit.few, length-append done (line ∷ rest)) in
    ap (λ l. old_lines l rest)
    (rw (all_middle is_line done line rest fit.forms, differ-split done line rest fit.different, lt-leb most_lines (length done) room))

no_house : (house : List ℕ) → is_nil house ≡ true → house ≡ []
unfolding is_nil
no_house [] e = refl
no_house (b ∷ house) e = absurd (false≢true e)

pub is_old : (register : Register) → is_register register ≡ true → is_open register ≡ false → unopened (old_lines [] register.lines) ≡ register
unfolding old_lines
is_old register good e =
    let s = sound register good in
    let fit : Fit is_line register.lines = record { few = s.few; forms = old_lines_lem register s e; different = s.different } in
    let same_lines = all_taken (λ l. l) old_lines (λ _. refl) (Fit is_line) old_next [] register.lines fit in
    λ i. record { house = sym (no_house register.house (nil_closed register e)) i; lines = same_lines i }

-- W10.3 "a held register of old lines is rewritten so": as its lines would be stored if they were offered to it opened. So an old register that is
-- opened holds what one holds that was opened at first and then given the same lines;
pub old_as_new : (register : Register) (c : List ℕ) → is_register register ≡ true → is_open register ≡ false → is_currency c ≡ true
    → opened_with register c ≡ fold empty_register (opening c ∷ map offering register.lines)
old_as_new register c good e is =
    let s = sound register good in
    let same_lines = map-agree (with_currency c) (stored c) is_line (λ l four. sym (stored-line c is l four)) register.lines (old_lines_lem register s e) in
    opened_old register c e
    ∙ (λ i. record { house = c; lines = same_lines i })
    ∙ sym (given c is register.lines (fit_forms register s))

fold-append : (register : Register) (xs ys : List Act) → fold register (xs ++ ys) ≡ fold (fold register xs) ys
unfolding fold
fold-append register [] ys = refl
fold-append register (x ∷ xs) ys = fold-append (register_after register x) xs ys

-- and two registers that differ only in what was done before their first line, each opened with the same currency before it, hold the same.
pub opened_when : (first : List Act) (c : List ℕ) (acts : List Act) → is_currency c ≡ true → (fold empty_register first).lines ≡ []
    → fold empty_register (first ++ (opening c ∷ acts)) ≡ fold empty_register (opening c ∷ acts)
unfolding fold opened_with
opened_when first c acts is none =
    let r = fold empty_register first in
    let lines_are : cond (is_open r) r.lines (map (with_currency c) r.lines) ≡ [] =
    test_cases (λ t. cond t r.lines (map (with_currency c) r.lines) ≡ []) (is_open r) (λ _. none) (λ _. ap (map (with_currency c)) none) in
    fold-append empty_register first (opening c ∷ acts)
    ∙ ap (λ x. fold x acts) (after_opening r c is ∙ (λ i. record { house = c; lines = lines_are i })
    ∙ sym (opened_first c is) ∙ sym (after_opening empty_register c is))

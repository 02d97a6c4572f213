-- The calls on a buffer that holds a register: what they answer, and which register is left. Assumes nothing.
use Rattle.std.specs.Prelude.{true, false, List, [], ◌∷◌, ◌++◌, map, ◌≡◌, ℕ, ◌*◌, ◌≤◌, ◌<◌, eqb, leb, length, drop, replicate}
use Rattle.std.proofs.Math.Bool.{cond}
use Rattle.std.proofs.Math.Path.{refl, sym, ap}
use Rattle.std.proofs.Common.{◌∙◌, subst, arith, take-append-drop, take_all, le-leb, leb-true, leb-false}
use Rattle.std.proofs.Math.ListN.{take}
use Rattle.std.proofs.lemmas.List.{length-replicate, replicate-append-replicate}
use Rattle.std.proofs.Math.Seq.{take_at}
use Rattle.std.proofs.lemmas.Bool.{lt-leb}
use Rattle.base.specs.Choice.{both_true, test_cases}
use Rattle.base.specs.Lists.{is_nil}
use Rattle.register.specs.Buffer.{register_size, header_size, slot_size, cell_of, slots_of, register_image, register_in, buffer_keeps}
use Rattle.register.specs.BufferLaws.{image-read, image_sound, read_sound, read-image}
use Rattle.register.specs.Calls.{BufferCalled, register_turned_down, with_register, open_call, buffer_open, offer_call}
use Rattle.register.specs.Calls.{LineCalled, handing, line_call, ReportCalled, putting_nothing, put_report, report_call}
use Rattle.register.specs.Claims.{
  Observed,
  observed_open,
  observed_offer,
  observed_line,
  observed_report,
  Linked,
  Old,
  History,
  made_by_opening,
  made_by_offer,
  ReportAgrees,
  ReportClaim,
  IfOpen,
  ListClaim,
  OpenPromise,
  OfferPromise,
  LinePromise,
  ReportPromise,
}
use Rattle.register.specs.Line.{is_currency}
use Rattle.register.specs.Register.{
  Register,
  is_open,
  empty_register,
  most_lines,
  offer_number,
  offered,
  opened_with,
  Act,
  opening,
  offering,
  register_after,
  fold,
  line_at,
  with_line,
}
use Rattle.register.specs.RegisterLaws.{RegisterSound, empty_sound, is-fold, is-register, after_sound, offered_taken, offered_declined, open_records}
use Rattle.register.specs.Report.{report}
use Rattle.register.specs.ReportLaws.{report-agrees}

-- a buffer keeps its rules and holds this register
pub record RegisterHeld (buffer : List ℕ) (register : Register) : Type 0 where
  pub keeps : buffer_keeps buffer ≡ true
  pub holds : register_in buffer ≡ register

-- a buffer with another register in it
pub with-holds : (buffer : List ℕ) (register : Register) → RegisterSound register → RegisterHeld (with_register buffer register) register
unfolding with_register
with-holds buffer register s =
    record { keeps = image_sound register s (drop register_size buffer); holds = image-read register s (drop register_size buffer) }

-- with its own it is as it was
pub with-same : (buffer : List ℕ) → buffer_keeps buffer ≡ true → with_register buffer (register_in buffer) ≡ buffer
unfolding with_register
with-same buffer e = ap (λ l. l ++ drop register_size buffer) (read-image buffer e) ∙ take-append-drop register_size buffer

-- what a buffer that keeps the rules is: opened or not
pub open_keeps : (buffer : List ℕ) → buffer_keeps buffer ≡ true → buffer_open buffer ≡ is_open (register_in buffer)
unfolding buffer_open
open_keeps buffer e = rw e

pub open_broken : (buffer : List ℕ) → buffer_keeps buffer ≡ false → buffer_open buffer ≡ false
unfolding buffer_open
open_broken buffer e = rw e

pub open_both : (buffer : List ℕ) → buffer_open buffer ≡ true → (buffer_keeps buffer ≡ true) × (is_open (register_in buffer) ≡ true)
unfolding buffer_open
open_both buffer e = both_true (buffer_keeps buffer) (is_open (register_in buffer)) e

-- An opening: 29 first, then 14, else the register is opened
module _ (buffer currency : List ℕ) where
  pub open_bad : is_currency currency ≡ false → open_call buffer currency ≡ register_turned_down 29 buffer
  unfolding open_call
  open_bad e = rw e

  pub open_refused : is_currency currency ≡ true → buffer_keeps buffer ≡ false → open_call buffer currency ≡ register_turned_down 14 buffer
  unfolding open_call
  open_refused e f = rw (e, f)

  pub open_does : is_currency currency ≡ true → buffer_keeps buffer ≡ true
      → open_call buffer currency ≡ record { number = 0; left = with_register buffer (opened_with (register_in buffer) currency) }
  unfolding open_call
  open_does e f = rw (e, f)

  -- W2.6 "a call turned down leaves it unchanged"
  open_same : ¬ ((open_call buffer currency).number ≡ 0) → (open_call buffer currency).left ≡ buffer
  unfolding register_turned_down
  open_same n =
      test_cases (λ t. is_currency currency ≡ t → (open_call buffer currency).left ≡ buffer) (is_currency currency)
      (λ c _.
      test_cases (λ t. buffer_keeps buffer ≡ t → (open_call buffer currency).left ≡ buffer) (buffer_keeps buffer)
      (λ k _. absurd (n (ap (λ (x : BufferCalled). x.number) (open_does c k))))
      (λ k _. ap (λ (x : BufferCalled). x.left) (open_refused c k)) refl)
      (λ c _. ap (λ (x : BufferCalled). x.left) (open_bad c)) refl

  -- of a buffer that keeps the rules
  module _ (keeps : buffer_keeps buffer ≡ true) where
    open_number : (open_call buffer currency).number ≡ cond (is_currency currency) 0 29
    unfolding register_turned_down
    open_number =
        test_cases (λ t. is_currency currency ≡ t → (open_call buffer currency).number ≡ cond t 0 29) (is_currency currency)
        (λ c _. ap (λ (x : BufferCalled). x.number) (open_does c keeps)) (λ c _. ap (λ (x : BufferCalled). x.number) (open_bad c)) refl

    open_left : (open_call buffer currency).left ≡ with_register buffer (register_after (register_in buffer) (opening currency))
    unfolding register_turned_down register_after
    open_left =
        test_cases
        (λ t. is_currency currency ≡ t
        → (open_call buffer currency).left ≡ with_register buffer (cond t (opened_with (register_in buffer) currency) (register_in buffer)))
        (is_currency currency)
        (λ c _. ap (λ (x : BufferCalled). x.left) (open_does c keeps))
        (λ c _. ap (λ (x : BufferCalled). x.left) (open_bad c) ∙ sym (with-same buffer keeps)) refl

-- An offer to a buffer that holds an opened register, and to one that is turned down
module _ (buffer line : List ℕ) where
  pub offer_number_lem : buffer_open buffer ≡ true → (offer_call buffer line).number ≡ offer_number (register_in buffer).lines line
  unfolding offer_call
  offer_number_lem e = rw e

  pub offer_left : buffer_open buffer ≡ true → (offer_call buffer line).left ≡ with_register buffer (offered (register_in buffer) line)
  unfolding offer_call
  offer_left e = rw e

  pub offer_refused : buffer_open buffer ≡ false → offer_call buffer line ≡ register_turned_down 14 buffer
  unfolding offer_call
  offer_refused e = rw e

  pub offer_declined : (k : ℕ) → buffer_open buffer ≡ true → offer_number (register_in buffer).lines line ≡ k → ¬ (k ≡ 0)
      → offer_call buffer line ≡ record { number = k; left = buffer }
  offer_declined k e is n =
      let left = offer_left e ∙ ap (with_register buffer) (offered_declined (register_in buffer) line (λ z. n (sym is ∙ z)))
      ∙ with-same buffer (open_both buffer e).0 in
      λ i. record { number = (offer_number_lem e ∙ is) i; left = left i }

  pub offer_taken : buffer_open buffer ≡ true → offer_number (register_in buffer).lines line ≡ 0
      → offer_call buffer line ≡ record { number = 0; left = with_register buffer (with_line (register_in buffer) line) }
  offer_taken e is =
      let left = offer_left e ∙ ap (with_register buffer) (offered_taken (register_in buffer) line is) in
      λ i. record { number = (offer_number_lem e ∙ is) i; left = left i }

  -- W2.6 "a call turned down leaves it unchanged"
  offer_same : ¬ ((offer_call buffer line).number ≡ 0) → (offer_call buffer line).left ≡ buffer
  unfolding register_turned_down
  offer_same n =
      test_cases (λ t. buffer_open buffer ≡ t → (offer_call buffer line).left ≡ buffer) (buffer_open buffer)
      (λ e _.
      ap (λ (x : BufferCalled). x.left)
      (offer_declined (offer_number (register_in buffer).lines line) e refl (λ z. n (offer_number_lem e ∙ z))))
      (λ e _. ap (λ (x : BufferCalled). x.left) (offer_refused e)) refl

  -- of a buffer that keeps the rules, opened or not
  module _ (keeps : buffer_keeps buffer ≡ true) where
    offer_gets : (offer_call buffer line).number ≡ cond (is_open (register_in buffer)) (offer_number (register_in buffer).lines line) 14
    unfolding register_turned_down
    offer_gets =
        test_cases (λ t. is_open (register_in buffer) ≡ t → (offer_call buffer line).number ≡ cond t (offer_number (register_in buffer).lines line) 14)
        (is_open (register_in buffer))
        (λ e _. offer_number_lem (open_keeps buffer keeps ∙ e))
        (λ e _. ap (λ (x : BufferCalled). x.number) (offer_refused (open_keeps buffer keeps ∙ e))) refl

    offer_leaves : (offer_call buffer line).left ≡ with_register buffer (register_after (register_in buffer) (offering line))
    unfolding register_turned_down register_after
    offer_leaves =
        test_cases
        (λ t. is_open (register_in buffer) ≡ t
        → (offer_call buffer line).left ≡ with_register buffer (cond t (offered (register_in buffer) line) (register_in buffer)))
        (is_open (register_in buffer))
        (λ e _. offer_left (open_keeps buffer keeps ∙ e))
        (λ e _. ap (λ (x : BufferCalled). x.left) (offer_refused (open_keeps buffer keeps ∙ e)) ∙ sym (with-same buffer keeps)) refl

-- A line asked for likewise
module _ (buffer : List ℕ) (place : ℕ) where
  pub line_handed : buffer_open buffer ≡ true → line_call buffer place ≡ handing 0 (line_at (register_in buffer).lines place)
  unfolding line_call
  line_handed e = rw e

  pub line_refused : buffer_open buffer ≡ false → line_call buffer place ≡ handing 14 []
  unfolding line_call
  line_refused e = rw e

  line_gets : buffer_keeps buffer ≡ true
      → line_call buffer place ≡ cond (is_open (register_in buffer)) (handing 0 (line_at (register_in buffer).lines place)) (handing 14 [])
  unfolding line_call
  line_gets keeps =
      ap (λ t. cond t (handing 0 (line_at (register_in buffer).lines place)) (handing 14 [])) (open_keeps buffer keeps)

-- A report likewise
module _ (buffer output : List ℕ) where
  pub report-put : buffer_open buffer ≡ true → report_call buffer output ≡ put_report (report (register_in buffer).lines) output
  unfolding report_call
  report-put e = rw e

  pub report_refused : buffer_open buffer ≡ false → report_call buffer output ≡ putting_nothing 14 output
  unfolding report_call
  report_refused e = rw e

-- what is put where it fits, and where it doesn't; W4.5 "14 and 21 write nothing"
module _ (put output : List ℕ) where
  pub put_fits : length put ≤ length output → put_report put output ≡ record { number = 0; left = put ++ drop (length put) output; size = length put }
  unfolding put_report
  put_fits h = rw (le-leb (length put) (length output) h)

  pub put_full : length output < length put → put_report put output ≡ putting_nothing 21 output
  unfolding put_report
  put_full h = rw (lt-leb (length put) (length output) h)

  put_nothing : ¬ ((put_report put output).number ≡ 0) → put_report put output ≡ putting_nothing 21 output
  put_nothing n =
      test_cases (λ _. put_report put output ≡ putting_nothing 21 output) (leb (length put) (length output))
      (λ e. absurd (n (ap (λ (x : ReportCalled). x.number) (put_fits (leb-true (length put) (length output) e)))))
      (λ e. put_full (leb-false (length put) (length output) e))

  -- the bytes that were put
  put-bytes : (put_report put output).number ≡ 0 → take (put_report put output).size (put_report put output).left ≡ put
  unfolding putting_nothing
  put-bytes z =
      test_cases (λ _. take (put_report put output).size (put_report put output).left ≡ put) (leb (length put) (length output))
      (λ e.
      ap (λ (x : ReportCalled). take x.size x.left) (put_fits (leb-true (length put) (length output) e))
      ∙ take_at put (drop (length put) output) (length put) refl)
      (λ e. absurd (omega (arith, z, ap (λ (x : ReportCalled). x.number) (put_full (leb-false (length put) (length output) e)))))

-- W4.5 "14 and 21 write nothing"
report-same : (buffer output : List ℕ) → ¬ ((report_call buffer output).number ≡ 0)
    → ((report_call buffer output).left ≡ output) × ((report_call buffer output).size ≡ 0)
unfolding putting_nothing
report-same buffer output n =
    test_cases (λ t. buffer_open buffer ≡ t → ((report_call buffer output).left ≡ output) × ((report_call buffer output).size ≡ 0)) (buffer_open buffer)
    (λ e _.
    let is = report-put buffer output e in
    let none = put_nothing (report (register_in buffer).lines) output (λ z. n (ap (λ (x : ReportCalled). x.number) is ∙ z)) in
    nothing_put 21 (is ∙ none))
    (λ e _. nothing_put 14 (report_refused buffer output e)) refl
  where
    nothing_put : (k : ℕ) → report_call buffer output ≡ record { number = k; left = output; size = 0 }
        → ((report_call buffer output).left ≡ output) × ((report_call buffer output).size ≡ 0)
    nothing_put k e = (ap (λ (x : ReportCalled). x.left) e, ap (λ (x : ReportCalled). x.size) e)

-- of a buffer that holds an opened register the report is that of its lines, and agrees with itself
report_claim : (buffer output : List ℕ) (back : ReportCalled) → buffer_keeps buffer ≡ true → is_open (register_in buffer) ≡ true
    → back ≡ report_call buffer output
    → ReportClaim (register_in buffer).lines output back
report_claim buffer output back keeps e does =
    let held = (register_in buffer).lines in
    let is : back ≡ put_report (report held) output = does ∙ report-put buffer output (open_keeps buffer keeps ∙ e) in
    record {
      is = is;
      agrees = λ z.
          let put = put-bytes (report held) output (sym (ap (λ (x : ReportCalled). x.number) is) ∙ z) in
          subst (ReportAgrees held) (sym (ap (λ (x : ReportCalled). take x.size x.left) is ∙ put))
          (report-agrees held (open_records (register_in buffer) (read_sound buffer keeps) e));
    }

report_gets : (buffer output : List ℕ) (back : ReportCalled) (made : Register) → RegisterHeld buffer made → back ≡ report_call buffer output
    → IfOpen (is_open made) (ReportClaim made.lines output back) (back ≡ putting_nothing 14 output)
unfolding IfOpen
report_gets buffer output back made h does =
    subst (λ r. IfOpen (is_open r) (ReportClaim r.lines output back) (back ≡ putting_nothing 14 output)) h.holds
    (test_cases
    (λ t. is_open (register_in buffer) ≡ t
    → IfOpen t (ReportClaim (register_in buffer).lines output back) (back ≡ putting_nothing 14 output))
    (is_open (register_in buffer))
    (λ e _. report_claim buffer output back h.keeps e does)
    (λ e _. does ∙ report_refused buffer output (open_keeps buffer h.keeps ∙ e)) refl)

-- W2.6 "all zeros is the empty one"
pub zeros-image : register_image empty_register ≡ replicate register_size 0
unfolding register_image slots_of cell_of
zeros-image = replicate-append-replicate header_size (slot_size * most_lines) 0

-- a buffer that begins with the same bytes holds the same register
image_holds : (buffer : List ℕ) (register : Register) → RegisterSound register → register_image register ≡ take register_size buffer → RegisterHeld buffer register
image_holds buffer register s e =
    subst (λ b. RegisterHeld b register) (ap (λ l. l ++ drop register_size buffer) e ∙ take-append-drop register_size buffer)
    (record { keeps = image_sound register s (drop register_size buffer); holds = image-read register s (drop register_size buffer) })

same-holds : (b c : List ℕ) (register : Register) → take register_size b ≡ take register_size c → RegisterHeld b register → RegisterHeld c register
same-holds b c register e h =
    subst (RegisterHeld c) h.holds
    (image_holds c (register_in b) (read_sound b h.keeps) (read-image b h.keeps ∙ e))

pub zeros_hold : (buffer : List ℕ) → take register_size buffer ≡ replicate register_size 0 → RegisterHeld buffer empty_register
zeros_hold buffer e = image_holds buffer empty_register empty_sound (zeros-image ∙ sym e)

-- so zeros are a register that isn't opened
pub zeros_old : (buffer : List ℕ) → take register_size buffer ≡ replicate register_size 0 → Old buffer
unfolding is_open is_nil
zeros_old buffer e =
    let h = zeros_hold buffer e in
    record { keeps = h.keeps; unopened = ap is_open h.holds }

old_holds : (buffer : List ℕ) → Old buffer → RegisterHeld buffer (register_in buffer)
old_holds buffer o = record { keeps = o.keeps; holds = refl }

-- what a call leaves: the register after the act
act_holds : (buffer : List ℕ) (made : Register) (act : Act) (left : List ℕ) → RegisterHeld buffer made → RegisterSound (register_after (register_in buffer) act)
    → left ≡ with_register buffer (register_after (register_in buffer) act)
    → RegisterHeld left (register_after made act)
act_holds buffer made act left h s is =
    subst (RegisterHeld left) (ap (λ r. register_after r act) h.holds) (subst (λ b. RegisterHeld b (register_after (register_in buffer) act)) (sym is) (with-holds buffer _ s))

module _ (buffer : List ℕ) (made : Register) (h : RegisterHeld buffer made) where
  held_sound : RegisterSound (register_in buffer)
  held_sound = read_sound buffer h.keeps

  open_holds : (currency : List ℕ) → RegisterHeld (open_call buffer currency).left (register_after made (opening currency))
  open_holds currency =
      act_holds buffer made (opening currency) (open_call buffer currency).left h (after_sound (register_in buffer) (opening currency) held_sound)
      (open_left buffer currency h.keeps)

  offer_holds : (line : List ℕ) → RegisterHeld (offer_call buffer line).left (register_after made (offering line))
  offer_holds line =
      act_holds buffer made (offering line) (offer_call buffer line).left h (after_sound (register_in buffer) (offering line) held_sound)
      (offer_leaves buffer line h.keeps)

  -- what an opening and an offer answer
  opening_gets : (currency : List ℕ) (back : BufferCalled) → back ≡ open_call buffer currency → back.number ≡ cond (is_currency currency) 0 29
  opening_gets currency back does = ap (λ (x : BufferCalled). x.number) does ∙ open_number buffer currency h.keeps

  offering_gets : (line : List ℕ) (back : BufferCalled) → back ≡ offer_call buffer line
      → back.number ≡ cond (is_open made) (offer_number made.lines line) 14
  offering_gets line back does =
      ap (λ (x : BufferCalled). x.number) does ∙ offer_gets buffer line h.keeps
      ∙ ap (λ (r : Register). cond (is_open r) (offer_number r.lines line) 14) h.holds

  handing_gets : (place : ℕ) (back : LineCalled) → back ≡ line_call buffer place
      → back ≡ cond (is_open made) (handing 0 (line_at made.lines place)) (handing 14 [])
  handing_gets place back does =
      does ∙ line_gets buffer place h.keeps
      ∙ ap (λ (r : Register). cond (is_open r) (handing 0 (line_at r.lines place)) (handing 14 [])) h.holds

-- what was made by the numbers that came back is what the acts make
opening_is : (made : Register) (currency : List ℕ) (back : BufferCalled) → back.number ≡ cond (is_currency currency) 0 29
    → made_by_opening made currency back ≡ register_after made (opening currency)
unfolding made_by_opening register_after
opening_is made currency back e =
    ap (λ n. cond (eqb n 0) (opened_with made currency) made) e
    ∙ test_cases (λ t. cond (eqb (cond t 0 29) 0) (opened_with made currency) made ≡ cond t (opened_with made currency) made) (is_currency currency)
    (λ _. refl) (λ _. refl)

offer_is : (made : Register) (line : List ℕ) (back : BufferCalled) → back.number ≡ cond (is_open made) (offer_number made.lines line) 14
    → made_by_offer made line back ≡ register_after made (offering line)
unfolding made_by_offer register_after offered
offer_is made line back e =
    ap (λ n. cond (eqb n 0) (with_line made line) made) e
    ∙ test_cases
    (λ t. cond (eqb (cond t (offer_number made.lines line) 14) 0) (with_line made line) made
    ≡ cond t (cond (eqb (offer_number made.lines line) 0) (with_line made line) made) made)
    (is_open made) (λ _. refl) (λ _. refl)

-- A list of calls from a buffer that holds this register, and one call more, of which the claim holds whatever register the buffer holds that it is
-- given.
list_claim : (buffer : List ℕ) (made : Register) (calls : List Observed) (given : List ℕ) (call : Observed) → RegisterHeld buffer made
    → Linked buffer calls given
    → ((register : Register) → RegisterHeld given register → ListClaim register (call ∷ []))
    → ListClaim made (calls ++ (call ∷ []))
unfolding Linked ListClaim
list_claim buffer made [] given call h same last = last made (same-holds buffer given made same h)
list_claim buffer made (observed_open b currency back ∷ calls) given call h (at, does, linked) last =
    let here = same-holds buffer b made at h in
    let number = opening_gets b made here currency back does in
    let left : RegisterHeld back.left (made_by_opening made currency back) =
    subst (RegisterHeld back.left) (sym (opening_is made currency back number))
    (subst (λ (x : BufferCalled). RegisterHeld x.left (register_after made (opening currency))) (sym does) (open_holds b made here currency)) in
    (number, list_claim back.left (made_by_opening made currency back) calls given call left linked last)
list_claim buffer made (observed_offer b line back ∷ calls) given call h (at, does, linked) last =
    let here = same-holds buffer b made at h in
    let number = offering_gets b made here line back does in
    let left : RegisterHeld back.left (made_by_offer made line back) =
    subst (RegisterHeld back.left) (sym (offer_is made line back number))
    (subst (λ (x : BufferCalled). RegisterHeld x.left (register_after made (offering line))) (sym does) (offer_holds b made here line)) in
    (number, list_claim back.left (made_by_offer made line back) calls given call left linked last)
list_claim buffer made (observed_line b place back ∷ calls) given call h (at, does, linked) last =
    let here = same-holds buffer b made at h in
    (handing_gets b made here place back does, list_claim b made calls given call here linked last)
list_claim buffer made (observed_report b output back ∷ calls) given call h (at, does, linked) last =
    let here = same-holds buffer b made at h in
    (report_gets b output back made here does, list_claim b made calls given call here linked last)

-- the claim of every history that ends with a call
carries : (buffer : List ℕ) (call : Observed) → ((register : Register) → RegisterHeld buffer register → ListClaim register (call ∷ []))
    → (h : History buffer) → ListClaim (register_in h.start) (h.calls ++ (call ∷ []))
carries buffer call last h = list_claim h.start (register_in h.start) h.calls buffer call (old_holds h.start h.old) h.linked last

-- A call that keeps its equation keeps its whole promise.
pub open_promise : (buffer currency : List ℕ) (back : BufferCalled) → back ≡ open_call buffer currency → OpenPromise buffer currency back
unfolding ListClaim
open_promise buffer currency back does =
    record {
      does = does;
      keeps = λ n. ap (λ (x : BufferCalled). x.left) does ∙ open_same buffer currency (λ z. n (ap (λ (x : BufferCalled). x.number) does ∙ z));
      list = carries buffer (observed_open buffer currency back) (λ register held. (opening_gets buffer register held currency back does, tt));
    }

pub offer_promise : (buffer line : List ℕ) (back : BufferCalled) → back ≡ offer_call buffer line → OfferPromise buffer line back
unfolding ListClaim
offer_promise buffer line back does =
    record {
      does = does;
      keeps = λ n. ap (λ (x : BufferCalled). x.left) does ∙ offer_same buffer line (λ z. n (ap (λ (x : BufferCalled). x.number) does ∙ z));
      list = carries buffer (observed_offer buffer line back) (λ register held. (offering_gets buffer register held line back does, tt));
    }

pub line_promise : (buffer : List ℕ) (place : ℕ) (back : LineCalled) → back ≡ line_call buffer place → LinePromise buffer place back
unfolding ListClaim
line_promise buffer place back does =
    record {
      does = does;
      list = carries buffer (observed_line buffer place back) (λ register held. (handing_gets buffer register held place back does, tt));
    }

pub report_promise : (buffer output : List ℕ) (back : ReportCalled) → back ≡ report_call buffer output → ReportPromise buffer output back
unfolding ListClaim
report_promise buffer output back does =
    record {
      does = does;
      keeps = λ n.
          let same = report-same buffer output (λ z. n (ap (λ (x : ReportCalled). x.number) does ∙ z)) in
          (ap (λ (x : ReportCalled). x.left) does ∙ same.0, ap (λ (x : ReportCalled). x.size) does ∙ same.1);
      list = carries buffer (observed_report buffer output back) (λ register held. (report_gets buffer output back register held does, tt));
    }

-- The rules hold exactly of the registers that aren't opened, and of what calls make of them. What they leave keeps the rules, and holds what the
-- acts make of the register there at first;
unfoldable pub acts : List Observed → List Act
acts [] = []
acts (observed_open given currency back ∷ calls) = opening currency ∷ acts calls
acts (observed_offer given line back ∷ calls) = offering line ∷ acts calls
acts (observed_line given place back ∷ calls) = acts calls
acts (observed_report given output back ∷ calls) = acts calls

linked_holds : (buffer : List ℕ) (register : Register) (calls : List Observed) (left : List ℕ) → RegisterHeld buffer register → Linked buffer calls left
    → RegisterHeld left (fold register (acts calls))
unfolding Linked acts fold
linked_holds buffer register [] left h same = same-holds buffer left register same h
linked_holds buffer register (observed_open b currency back ∷ calls) left h (at, does, linked) =
    let next = open_holds b register (same-holds buffer b register at h) currency in
    linked_holds back.left (register_after register (opening currency)) calls left
    (subst (λ (x : BufferCalled). RegisterHeld x.left (register_after register (opening currency))) (sym does) next) linked
linked_holds buffer register (observed_offer b line back ∷ calls) left h (at, does, linked) =
    let next = offer_holds b register (same-holds buffer b register at h) line in
    linked_holds back.left (register_after register (offering line)) calls left
    (subst (λ (x : BufferCalled). RegisterHeld x.left (register_after register (offering line))) (sym does) next) linked
linked_holds buffer register (observed_line b place back ∷ calls) left h (at, does, linked) =
    linked_holds b register calls left (same-holds buffer b register at h) linked
linked_holds buffer register (observed_report b output back ∷ calls) left h (at, does, linked) =
    linked_holds b register calls left (same-holds buffer b register at h) linked

pub history_holds : (buffer : List ℕ) (h : History buffer) → RegisterHeld buffer (fold (register_in h.start) (acts h.calls))
history_holds buffer h = linked_holds h.start (register_in h.start) h.calls buffer (old_holds h.start h.old) h.linked

-- and each buffer that keeps them is left by calls: one that isn't opened by none, one that is by an opening with its house currency and offers of
-- its lines, from zeros on.
unfoldable observed : (buffer : List ℕ) → Act → Observed
observed buffer (opening currency) = observed_open buffer currency (open_call buffer currency)
observed buffer (offering line) = observed_offer buffer line (offer_call buffer line)

unfoldable leaves : (buffer : List ℕ) → Act → List ℕ
leaves buffer (opening currency) = (open_call buffer currency).left
leaves buffer (offering line) = (offer_call buffer line).left

unfoldable done : (buffer : List ℕ) (todo : List Act) → List Observed
done buffer [] = []
done buffer (act ∷ more) = observed buffer act ∷ done (leaves buffer act) more

done-acts : (buffer : List ℕ) (todo : List Act) → acts (done buffer todo) ≡ todo
unfolding done observed leaves acts
done-acts buffer [] = refl
done-acts buffer (opening currency ∷ more) = ap (λ (l : List Act). opening currency ∷ l) (done-acts (open_call buffer currency).left more)
done-acts buffer (offering line ∷ more) = ap (λ (l : List Act). offering line ∷ l) (done-acts (offer_call buffer line).left more)

done_linked : (buffer : List ℕ) (todo : List Act) → (left : List ℕ) × Linked buffer (done buffer todo) left
unfolding done observed leaves Linked
done_linked buffer [] = (buffer, refl)
done_linked buffer (opening currency ∷ more) = let rest = done_linked (open_call buffer currency).left more in (rest.0, (refl, refl, rest.1))
done_linked buffer (offering line ∷ more) = let rest = done_linked (offer_call buffer line).left more in (rest.0, (refl, refl, rest.1))

same_bytes : (b c : List ℕ) (register : Register) → RegisterHeld b register → RegisterHeld c register → take register_size b ≡ take register_size c
same_bytes b c register h g =
    sym (read-image b h.keeps) ∙ ap register_image (h.holds ∙ sym g.holds) ∙ read-image c g.keeps

linked_to : (b : List ℕ) (calls : List Observed) (left other : List ℕ) → take register_size left ≡ take register_size other → Linked b calls left
    → Linked b calls other
unfolding Linked
linked_to b [] left other e same = same ∙ e
linked_to b (observed_open given currency back ∷ calls) left other e (at, does, linked) =
    (at, does, linked_to back.left calls left other e linked)
linked_to b (observed_offer given line back ∷ calls) left other e (at, does, linked) = (at, does, linked_to back.left calls left other e linked)
linked_to b (observed_line given place back ∷ calls) left other e (at, does, linked) = (at, does, linked_to given calls left other e linked)
linked_to b (observed_report given output back ∷ calls) left other e (at, does, linked) = (at, does, linked_to given calls left other e linked)

opened_history : (buffer : List ℕ) → buffer_keeps buffer ≡ true → is_open (register_in buffer) ≡ true → History buffer
opened_history buffer e is =
    let start : List ℕ = replicate register_size 0 in
    let zeros : take register_size start ≡ start = take_all register_size start (omega (arith, length-replicate {A = ℕ} register_size 0)) in
    let r = register_in buffer in
    let todo : List Act = opening r.house ∷ map offering r.lines in
    let made = done_linked start todo in
    let held = linked_holds start empty_register (done start todo) made.0 (zeros_hold start zeros) made.1 in
    let same : fold empty_register (acts (done start todo)) ≡ r = ap (fold empty_register) (done-acts start todo) ∙ is-fold r
    (is-register r (read_sound buffer e)) is in
    let own : RegisterHeld buffer r = record { keeps = e; holds = refl } in
    record {
      start = start;
      old = zeros_old start zeros;
      calls = done start todo;
      linked = linked_to start (done start todo) made.0 buffer (same_bytes made.0 buffer r (subst (RegisterHeld made.0) same held) own) made.1;
    }

pub keeps_history : (buffer : List ℕ) → buffer_keeps buffer ≡ true → History buffer
unfolding Linked
keeps_history buffer e =
    test_cases (λ t. is_open (register_in buffer) ≡ t → History buffer) (is_open (register_in buffer))
    (λ is _. opened_history buffer e is)
    (λ is _. record { start = buffer; old = record { keeps = e; unopened = is }; calls = []; linked = refl }) refl

-- Laws of READ. Assumes nothing.
use Rattle.std.specs.Prelude.{Bool, true, List, ◌≡◌, refl, ℕ, ℤ, nat_abs, drop, get_or, set}
use Rattle.std.proofs.Math.Bool.{false}
use Rattle.std.proofs.Common.{sym, ◌∙◌, arith, get_or-set_same}
use Rattle.std.proofs.Math.Path.{ap}
use Rattle.encoding.specs.Buffers.{numbers_in}
use Rattle.evaluator.specs.Memory.{memory_in}
use Rattle.syntax.specs.Program as Program
use Rattle.machine.specs.Expressions.{length_in}
use Rattle.machine.specs.State.{State, going_to, with_input}
use Rattle.machine.specs.Step.{no_scan, Done, chosen, take_record, cut_notes, cut_noted, reading}
use Rattle.state.specs.Laws.{numbers_stay}
use Rattle.values.specs.Conversion.{longest_string}
use Rattle.values.specs.Numbers.{is_negative}
use Rattle.values.specs.Result.{Result, done}
use Rattle.values.specs.declared.Noted.{Noted}
use Rattle.effects.specs.Leaving.{memory_of, ReadsOn}
use Rattle.effects.specs.Reading.{Goes, Halts, NextRecord, Reading}

-- a record taken, or none
pub goes_on : (store left state input : List ℕ) (place most to dropped : ℕ) (takes : Bool) → Reading store state input place
    → ReadsOn takes store left input place most (get_or state 3 0) to dropped
    → NextRecord (record { value = takes; notes = cut_notes dropped }) store left state (set state 3 to) input place most
unfolding cut_noted
goes_on store left state input place most to dropped takes r t =
    let here : get_or (set state 3 to) 3 0 ≡ to = get_or-set_same state 3 to 0 (omega (arith, r.size)) in
    record {
      stays = t.stays;
      to = to;
      state_is = refl;
      inside = t.inside;
      work =
          λ b c h.
          let gone : State → Result Done = λ d. done (record { state = d; scanned = no_scan }) (cut_notes dropped) in
          let numbers : c.memory.numbers ≡ numbers_in (set state 3 to) =
          ap (λ m. m.numbers) h.memory ∙ sym (numbers_stay state 3 to (omega arith)) in
          ap cut_noted (t.work b c (ap (λ m. m.strings) h.memory) h.input_left)
          ∙ ap (λ (zs : List ℤ). gone (with_input (drop to input) (going_to (chosen takes b) (memory_of left zs) c))) numbers
          ∙ ap (λ (j : ℕ). gone (with_input (drop j input) (going_to (chosen takes b) (memory_in left (set state 3 to)) c))) (sym here);
    }

module _ (store left state state_left input : List ℕ) (place : ℕ) where
  -- the whole string takes it
  pub whole_goes : (r : Noted Bool) → NextRecord r store left state state_left input place 1024
      → Goes r store left state state_left input (reading (Program.whole place))
  unfolding reading longest_string
  whole_goes r g = g

  -- or n bytes of it are asked for
  pub first_goes : (r : Noted Bool) (n : Program.Length) → is_negative (length_in (memory_in store state) n) ≡ false
      → NextRecord r store left state state_left input place (nat_abs (length_in (memory_in store state) n))
      → Goes r store left state state_left input (reading (Program.first place n))
  unfolding reading
  first_goes r n e g =
      record {
        stays = g.stays;
        to = g.to;
        state_is = g.state_is;
        inside = g.inside;
        work =
            λ b c h.
            let test : is_negative (length_in c.memory n) ≡ false = ap (λ m. is_negative (length_in m n)) h.memory ∙ e in
            rw test (ap (λ m. cut_noted (take_record place (nat_abs (length_in m n)) b c)) h.memory ∙ g.work b c h);
      }

-- a negative length
pub first_halts : (store state input : List ℕ) (place : ℕ) (n : Program.Length) → is_negative (length_in (memory_in store state) n) ≡ true
    → Halts store store state state input 17 (Program.first place n)
unfolding reading
first_halts store state input place n e =
    record {
      same = refl;
      state_same = refl;
      work =
          λ b c h.
          let test : is_negative (length_in c.memory n) ≡ true = ap (λ m. is_negative (length_in m n)) h.memory ∙ e in
          rw test;
    }

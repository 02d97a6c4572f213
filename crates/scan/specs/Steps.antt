-- What the parts of the scan say of the definition of the scan: one test, one group, the call. Assumes nothing.
use Rattle.std.specs.Prelude.{Bool, true, false, Option, Some, None, Result, Ok, Err, List, [], ◌∷◌, ◌++◌, ◌≡◌, ℕ, ◌+◌, ◌-◌, ◌≤◌, ◌<◌, leb, length, drop}
use Rattle.base.specs.Lists.{begins}
use Rattle.scanning.specs.Splits as Splits
use Rattle.scanning.specs.Splits.{string, fixed, free}
use Rattle.scanning.specs.Trials.{Tried, found, other, few, match}
use Rattle.scanning.specs.Call.{Called, scan_turned_down}
use Rattle.scanning.specs.Kinds.{refusal_number}
use Rattle.scanning.specs.declared.Refusal.{Refusal}
use Rattle.scan.specs.Rows.{row_element, scan_elements, sizes_at}
use Rattle.scan.specs.declared.Element.TheVariants.{Free}
use Rattle.scan.specs.declared.Failure.{Failure}
use Rattle.scan.specs.declared.Failure.TheVariants.{Other, Few}
use Rattle.scan.specs.declared.Failed.{Failed}

-- how an element fared at a place: its piece's length, or none for a free filler, which is not tested; or why it fails
abbrev pub Test : Type 0
Test = Result (Option ℕ) Failure

-- too few bytes are looked at before other bytes
unfoldable pub judged : (enough equal : Bool) → ℕ → Test
judged false equal l = Err Few
judged true false l = Err Other
judged true true l = Ok (Some l)

-- the test of one element at a place
unfoldable pub test_of : Splits.Element → List ℕ → Test
test_of (string w) rest = judged (leb (length w) (length rest)) (begins w rest) (length w)
test_of (fixed n) rest = judged (leb n (length rest)) true n
test_of free rest = Ok None

-- elements passed with pieces of these lengths, one trial each, then the rest of the row
unfoldable pub passed_behind : List ℕ → Tried → Tried
passed_behind ls (found ms n) = found (ls ++ ms) (length ls + n)
passed_behind ls (other n) = other (length ls + n)
passed_behind ls (few n) = few (length ls + n)

-- a row found behind lengths already settled, a gap already passed over and trials already made
unfoldable pub resumed_trial : List ℕ → ℕ → ℕ → Tried → Tried
resumed_trial ls gap t (found [] n) = found [] (t + n)
resumed_trial ls gap t (found (g ∷ ms) n) = found (ls ++ ((gap + g) ∷ ms)) (t + n)
resumed_trial ls gap t (other n) = other (t + n)
resumed_trial ls gap t (few n) = few (t + n)

-- the elements of rows g to count, tested at a place
abbrev pub group_at : (values rows : List ℕ) → (count g : ℕ) → List ℕ → Tried
group_at values rows count g = match (scan_elements values rows (count - g) g)

-- the elements up to j passed, and the piece of the last one ends at end
pub record Reached (reference values rows : List ℕ) (count g place j end : ℕ) : Type 0 where
  pub low : g ≤ j
  pub high : j ≤ count
  pub forth : place ≤ end
  pub inside : end ≤ length reference
  pub same : group_at values rows count g (drop place reference)
      ≡ passed_behind (sizes_at rows (j - g) g) (group_at values rows count j (drop end reference))

-- all of a group passed: j is a free filler or the end of the pattern
pub record WholeGroup (reference values rows : List ℕ) (count g place j end : ℕ) : Type 0 where
  pub reached : Reached reference values rows count g place j end
  pub filler : j < count → row_element rows j ≡ Free

-- one failed, after n trials
pub record FailedGroup (reference values rows : List ℕ) (count g place n : ℕ) (t : Tried) : Type 0 where
  pub few : n ≤ 20
  pub same : group_at values rows count g (drop place reference) ≡ t

-- a failure after so many trials
unfoldable pub tried_as : Failure → ℕ → Tried
tried_as Other n = other n
tried_as Few n = few n

unfoldable pub GroupSays : (reference values rows : List ℕ) → (count g place : ℕ) → Result (ℕ × ℕ) Failed → Type 0
GroupSays reference values rows count g place (Ok whole) = WholeGroup reference values rows count g place whole.0 whole.1
GroupSays reference values rows count g place (Err failed) =
    FailedGroup reference values rows count g place failed.trials (tried_as failed.failure failed.trials)

-- where a group can be tested, its first elements, as many as known, having passed with a byte each
pub record GroupReady (reference values rows : List ℕ) (count g place known : ℕ) : Type 0 where
  pub short : length reference ≤ 1024
  pub reached : Reached reference values rows count g place (g + known) (place + known)

-- n places at each of which the element has enough bytes and fails
pub record SkipSays (rest : List ℕ) (e : Splits.Element) (n : ℕ) : Type 0 where
  pub inside : n ≤ length rest
  pub fails : (j : ℕ) → j < n → test_of e (drop j rest) ≡ Err Other

-- true only where the element passes with a piece of one byte
abbrev pub StandsSays : (rest : List ℕ) → Splits.Element → Bool → Type 0
StandsSays rest e stands = stands ≡ true → test_of e rest ≡ Ok (Some 1)

-- the number and the numbers left are those of a call; of one turned down the number alone: what is left of it, strigol_scan puts
unfoldable pub CallSays : Called → Result Unit Refusal → List ℕ → Type 0
CallSays called (Ok _) answer = called ≡ record { number = 0; answer = answer }
CallSays called (Err refusal) answer = called ≡ scan_turned_down (refusal_number refusal)

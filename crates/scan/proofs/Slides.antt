-- A group that slides to the right: places passed over, one place further, and a group that passed whole. Each law carries the lengths
-- settled before it, the gap passed over and the trials made. Assumes nothing.
use mathlib.Core.List.{List, [], ◌∷◌, ◌++◌, append_assoc}
use mathlib.Core.Path.{◌≡◌, refl, sym, ◌∙◌, ap}
use Prim.Native.Nat.{ℕ, zero, suc, ◌+◌, ◌≤◌, ◌<◌}
use native.Mathlib.Omega.{arith}
use lib.ListN.{length, drop}
use Rattle.scanning.specs.Laws.{Slid, slid_found, slid_few, slide_slid}
use Rattle.scanning.specs.Trials.{Tried, found, other, few, place_moved, settled, slide}
use Rattle.scan.specs.Steps.{passed_behind, resumed_trial}

-- what the places further right give
onward : (List ℕ → Tried) → List ℕ → Tried
onward row [] = few 0
onward row (b ∷ rest) = slide row rest

slide-settled : (row : List ℕ → Tried) (s : List ℕ) → slide row s ≡ settled (row s) (onward row s)
unfolding slide onward
slide-settled row [] = refl
slide-settled row (b ∷ rest) = refl

module _ (pre : List ℕ) where
  -- one place further right
  resumed_moved : (gap t n : ℕ) (x : Tried) → resumed_trial pre gap t (place_moved n x) ≡ resumed_trial pre (gap + 1) (t + n) x
  unfolding resumed_trial place_moved
  resumed_moved gap t n (found [] m) = ap (found []) (omega arith)
  resumed_moved gap t n (found (g ∷ ms) m) =
      let e : gap + suc g ≡ gap + 1 + g = omega arith in
      let f : t + (n + m) ≡ t + n + m = omega arith in
      ap (λ (k : ℕ). found (pre ++ (k ∷ ms)) (t + (n + m))) e ∙ ap (found (pre ++ ((gap + 1 + g) ∷ ms))) f
  resumed_moved gap t n (other m) = ap other (omega arith)
  resumed_moved gap t n (few m) = ap few (omega arith)

  module _ (row : List ℕ → Tried) where
    -- other bytes where a place is left
    pub slides_on : (s : List ℕ) (gap t n : ℕ) → row s ≡ other n → 0 < length s
        → resumed_trial pre gap t (slide row s) ≡ resumed_trial pre (gap + 1) (t + n) (slide row (drop 1 s))
    unfolding settled onward
    slides_on [] gap t n e h = absurd (omega arith)
    slides_on (b ∷ rest) gap t n e h =
        ap (resumed_trial pre gap t) (slide-settled row (b ∷ rest) ∙ ap (λ (x : Tried). settled x (onward row (b ∷ rest))) e)
        ∙ resumed_moved gap t n (slide row rest)

    -- other bytes at the last place
    pub slides_off : (s : List ℕ) (gap t n : ℕ) → row s ≡ other n → length s ≡ 0 → resumed_trial pre gap t (slide row s) ≡ few (t + n)
    unfolding settled onward resumed_trial
    slides_off [] gap t n e h =
        ap (resumed_trial pre gap t) (slide-settled row [] ∙ ap (λ (x : Tried). settled x (few 0)) e)
        ∙ resumed_moved gap t n (few 0)
        ∙ ap few (omega arith)
    slides_off (b ∷ rest) gap t n e h = absurd (omega arith)

    -- too few bytes
    pub slides_few : (s : List ℕ) (gap t n : ℕ) → row s ≡ few n → resumed_trial pre gap t (slide row s) ≡ few (t + n)
    unfolding settled resumed_trial
    slides_few s gap t n e =
        ap (resumed_trial pre gap t) (slide-settled row s ∙ ap (λ (x : Tried). settled x (onward row s)) e)

    -- k places at which the row fails at its first test
    pub slides_over : (k : ℕ) (s : List ℕ) (gap t : ℕ) → k ≤ length s → ((j : ℕ) → j < k → row (drop j s) ≡ other 1)
        → resumed_trial pre gap t (slide row s) ≡ resumed_trial pre (gap + k) (t + k) (slide row (drop k s))
    slides_over zero s gap t room fails =
        let e : gap ≡ gap + 0 = omega arith in
        let f : t ≡ t + 0 = omega arith in
        ap (λ (n : ℕ). resumed_trial pre n t (slide row s)) e ∙ ap (λ (n : ℕ). resumed_trial pre (gap + 0) n (slide row s)) f
    slides_over (suc k) [] gap t room fails = absurd (omega arith)
    slides_over (suc k) (b ∷ rest) gap t room fails =
        let e : gap + 1 + k ≡ gap + suc k = omega arith in
        let f : t + 1 + k ≡ t + suc k = omega arith in
        let x : Tried = slide row (drop k rest) in
        slides_on (b ∷ rest) gap t 1 (fails 0 (omega arith)) (omega arith)
        ∙ slides_over k rest (gap + 1) (t + 1) (omega arith) (λ j h. fails (suc j) (omega arith))
        ∙ ap (λ (n : ℕ). resumed_trial pre n (t + 1 + k) x) e
        ∙ ap (λ (n : ℕ). resumed_trial pre (gap + suc k) n x) f

    -- a row that is found with lengths ls and then ms
    pub slides_found : (s ls ms : List ℕ) (gap t n : ℕ) → row s ≡ passed_behind ls (found ms n)
        → resumed_trial pre gap t (slide row s) ≡ found (pre ++ (gap ∷ (ls ++ ms))) (t + (length ls + n))
    unfolding settled passed_behind resumed_trial
    slides_found s ls ms gap t n e =
        let z : gap + 0 ≡ gap = omega arith in
        ap (resumed_trial pre gap t) (slide-settled row s ∙ ap (λ (x : Tried). settled x (onward row s)) e)
        ∙ ap (λ (k : ℕ). found (pre ++ (k ∷ (ls ++ ms))) (t + (length ls + n))) z

    whole : (ls : List ℕ) (x next : Tried) (gap t : ℕ) → Slid x
        → resumed_trial pre gap t (settled (passed_behind ls x) next) ≡ resumed_trial (pre ++ (gap ∷ ls)) 0 (t + length ls) x
    unfolding settled passed_behind resumed_trial
    whole ls (found (g ∷ ms) n) next gap t (slid_found _ _ _) =
        let z : gap + 0 ≡ gap = omega arith in
        let y : 0 + g ≡ g = omega arith in
        let f : t + (length ls + n) ≡ t + length ls + n = omega arith in
        let e : pre ++ (gap ∷ (ls ++ (g ∷ ms))) ≡ (pre ++ (gap ∷ ls)) ++ (g ∷ ms) = sym (append_assoc pre (gap ∷ ls) (g ∷ ms)) in
        ap (λ (k : ℕ). found (pre ++ (k ∷ (ls ++ (g ∷ ms)))) (t + (length ls + n))) z
        ∙ ap (λ (l : List ℕ). found l (t + (length ls + n))) e
        ∙ ap (found ((pre ++ (gap ∷ ls)) ++ (g ∷ ms))) f
        ∙ ap (λ (k : ℕ). found ((pre ++ (gap ∷ ls)) ++ (k ∷ ms)) (t + length ls + n)) (sym y)
    whole ls (few n) next gap t (slid_few _) = ap few (omega arith)
    whole ls (found [] n) next gap t h = elim h [ ]
    whole ls (other _) next gap t h = elim h [ ]

    -- a group that passed whole before a free filler: the next group slides from its end
    pub slides_whole : (s ls s' : List ℕ) (row' : List ℕ → Tried) (gap t : ℕ) → row s ≡ passed_behind ls (slide row' s')
        → resumed_trial pre gap t (slide row s) ≡ resumed_trial (pre ++ (gap ∷ ls)) 0 (t + length ls) (slide row' s')
    slides_whole s ls s' row' gap t e =
        ap (resumed_trial pre gap t) (slide-settled row s ∙ ap (λ (x : Tried). settled x (onward row s)) e)
        ∙ whole ls (slide row' s') (onward row s) gap t (slide_slid row' s')

-- before anything is settled the row is itself
pub resumed_none : (t : Tried) → Slid t → resumed_trial [] 0 0 t ≡ t
unfolding resumed_trial
resumed_none (found (g ∷ ms) n) (slid_found _ _ _) =
    let y : 0 + g ≡ g = omega arith in
    let z : 0 + n ≡ n = omega arith in
    ap (λ (k : ℕ). found (k ∷ ms) (0 + n)) y ∙ ap (found (g ∷ ms)) z
resumed_none (few n) (slid_few _) = ap few (omega arith)
resumed_none (found [] n) h = elim h [ ]
resumed_none (other _) h = elim h [ ]

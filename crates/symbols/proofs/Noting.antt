-- A use noted behind those there. Assumes nothing.
use Rattle.std.specs.Prelude.{List, ◌++◌, ◌≡◌, refl, ℕ, zero, suc, ◌+◌, ◌<◌, length, get_or, set}
use Rattle.std.proofs.Common.{append-nil, append_assoc, add-zero, arith, get_or-set_same, get_or-set_other}
use Rattle.std.proofs.Common.{◌∙◌, ap, ap₂}
use Rattle.std.proofs.Math.Path.{sym}
use Rattle.validation.specs.Environment.{Use}
use Rattle.syntax.specs.Parsing.{Purpose}
use Rattle.symbols.specs.Holding.{use_with, uses_from, uses_in, UseNoted}
use Rattle.symbols.specs.declared.known.Uses.{Uses}
use Rattle.symbols.specs.declared.tags.Purpose as Kept
use Rattle.symbols.specs.declared.tags.Purpose.TheVariants.{Program}

module _ (p : Purpose) where
  module _ (keys scopes : List ℕ) (purposes : List Kept.Purpose) where
    abbrev use_at : ℕ → List Use
    use_at j = use_with p (get_or keys j 0) (get_or scopes j 0) (get_or purposes j Program)

    -- one more use behind n
    uses_more : (i n : ℕ) → uses_from p keys scopes purposes i (suc n) ≡ uses_from p keys scopes purposes i n ++ use_at (i + n)
    unfolding uses_from
    uses_more i zero = append-nil (use_at i) ∙ ap use_at (sym (add-zero i))
    uses_more i (suc n) =
        let next : suc i + n ≡ i + suc n = omega arith in
        ap (λ (l : List Use). use_at i ++ l) (uses_more (suc i) n ∙ ap (λ j. uses_from p keys scopes purposes (suc i) n ++ use_at j) next)
        ∙ sym (append_assoc (use_at i) (uses_from p keys scopes purposes (suc i) n) (use_at (i + suc n)))

    uses_kept : (keys' scopes' : List ℕ) (purposes' : List Kept.Purpose) (i n : ℕ) → ((j : ℕ) → j < i + n → get_or keys' j 0 ≡ get_or keys j 0)
        → ((j : ℕ) → j < i + n → get_or scopes' j 0 ≡ get_or scopes j 0)
        → ((j : ℕ) → j < i + n → get_or purposes' j Program ≡ get_or purposes j Program)
        → uses_from p keys' scopes' purposes' i n ≡ uses_from p keys scopes purposes i n
    unfolding uses_from
    uses_kept keys' scopes' purposes' i zero f g h = refl
    uses_kept keys' scopes' purposes' i (suc n) f g h =
        let rest =
        uses_kept keys' scopes' purposes' (suc i) n (λ j l. f j (omega arith)) (λ j l. g j (omega arith)) (λ j l. h j (omega arith))
        in
        ap₂ {C = List Use} ◌++◌
        (ap₂ {C = List Use} (λ k s. use_with p k s (get_or purposes' i Program)) (f i (omega arith)) (g i (omega arith))
        ∙ ap (use_with p (get_or keys i 0) (get_or scopes i 0)) (h i (omega arith))) rest

module _ (us : Uses) (key scope : ℕ) (q : Kept.Purpose)
    (a : us.count < length us.keys) (b : us.count < length us.scopes) (d : us.count < length us.purposes) where
  abbrev with_use : Uses
  with_use =
      record {
        keys = set us.keys us.count key;
        scopes = set us.scopes us.count scope;
        purposes = set us.purposes us.count q;
        count = us.count + 1;
      }

  noted : (p : Purpose) → uses_in p with_use ≡ uses_in p us ++ use_with p key scope q
  unfolding uses_in
  noted p =
      let n = us.count in
      let more = with_use in
      let next : n + 1 ≡ suc n = omega arith in
      let at : 0 + n ≡ n = omega arith in
      ap (uses_from p more.keys more.scopes more.purposes 0) next
      ∙ uses_more p more.keys more.scopes more.purposes 0 n
      ∙ ap₂ {C = List Use} ◌++◌
      (uses_kept p us.keys us.scopes us.purposes more.keys more.scopes more.purposes 0 n
      (λ j h. get_or-set_other us.keys n j key 0 (λ e. omega arith)) (λ j h. get_or-set_other us.scopes n j scope 0 (λ e. omega arith))
      (λ j h. get_or-set_other us.purposes n j q Program (λ e. omega arith)))
      (ap (use_at p more.keys more.scopes more.purposes) at
      ∙ ap₂ {C = List Use} (λ k s. use_with p k s (get_or more.purposes n Program))
      (get_or-set_same us.keys n key 0 a) (get_or-set_same us.scopes n scope 0 b)
      ∙ ap (use_with p key scope) (get_or-set_same us.purposes n q Program d))

  pub use_noted : UseNoted us key scope q with_use
  use_noted = record { few = refl; so = noted }

-- The rounds in which 12 is judged: those reached are those that a chain leads to, for as many rounds as there are routines are enough. Each
-- round that goes on reaches one routine more. Assumes nothing.
use Rattle.std.specs.Prelude.{Bool, true, false, cond, not, ◌&&◌, ◌||◌, List, [], ◌∷◌, map, ◌≡◌, refl, ℕ, zero, suc, ◌+◌, ◌≤◌, ◌<◌, length}
use Rattle.std.proofs.lemmas.Bool.{false≢true, not-true, not-false}
use Rattle.std.proofs.Math.Bool.{or_assoc, or_comm, or-false}
use Rattle.std.proofs.Common.{⊎_elim, sym, ◌∙◌, ap, subst, arith}
use Rattle.base.specs.Choice.{test_cases, cond_cases, both_true, neither_true, either_true, true_behind}
use Rattle.base.specs.Lists.{same, any, keep, total}
use Rattle.base.specs.ListLaws.{same_true, same_refl}
use Rattle.validation.specs.Environment.{Routine, Use, Environment, is_one_of}
use Rattle.validation.specs.Deck.{is11, executed_by, with_new, executed_by_all, reached}
use Rattle.validation.specs.Chains.{Declared, executes, Executes, Chain, direct, through}
use Rattle.validation.specs.Names.{any_append}

-- a name is in a list of names
abbrev pub In : List (List ℕ) → List ℕ → Type 0
In ns n = is_one_of ns n ≡ true

-- some element's name passes a test exactly when some name that an element has passes it
pub named_some : {A : Type 0} (name : A → List ℕ) (f : List ℕ → Bool) (xs : List A) → any (λ x. f (name x)) xs ≡ true
    → (n : List ℕ) × (any (λ x. same n (name x)) xs ≡ true) × (f n ≡ true)
unfolding any
named_some name f [] h = absurd (false≢true h)
named_some name f (x ∷ xs) h =
    ⊎_elim (λ here. (name x, ap (λ b. b || any (λ y. same (name x) (name y)) xs) (same_refl (name x)), here))
    (λ there. let (n, has, passes) = named_some name f xs there in (n, true_behind (same n (name x)) _ has, passes))
    (either_true (f (name x)) (any (λ y. f (name y)) xs) h)

pub some_named : {A : Type 0} (name : A → List ℕ) (f : List ℕ → Bool) (xs : List A) (n : List ℕ) → any (λ x. same n (name x)) xs ≡ true
    → f n ≡ true → any (λ x. f (name x)) xs ≡ true
unfolding any
some_named name f [] n h p = absurd (false≢true h)
some_named name f (x ∷ xs) n h p =
    ⊎_elim (λ here. ap (λ b. b || any (λ y. f (name y)) xs) (subst (λ m. f m ≡ true) (same_true n (name x) here) p))
    (λ there. true_behind (f (name x)) _ (some_named name f xs n there p))
    (either_true (same n (name x)) (any (λ y. same n (name y)) xs) h)

-- those executed by a routine are those that it executes
pub executed_by_lem : (us : List Use) (a b : List ℕ) → is_one_of (executed_by us a) b ≡ executes us a b
unfolding is_one_of executed_by any keep
executed_by_lem [] a b = refl
executed_by_lem (u ∷ us) a b =
    let rest = keep (λ (v : Use). same a v.scope) us in
    test_cases
    (λ t. any (same b) (map (λ (v : Use). v.name) (elim t [ true ↦ u ∷ rest | false ↦ rest ])) ≡ ((t && same b u.name) || executes us a b))
    (same a u.scope) (λ _. ap (λ c. same b u.name || c) (executed_by_lem us a b)) (λ _. executed_by_lem us a b)

-- those executed by some routines are those that one of them executes
pub executed_by_all_lem : (us : List Use) (rs : List (List ℕ)) (b : List ℕ) → is_one_of (executed_by_all us rs) b ≡ any (λ a. executes us a b) rs
unfolding is_one_of executed_by_all any
executed_by_all_lem us [] b = refl
executed_by_all_lem us (a ∷ rs) b =
    any_append (same b) (executed_by us a) (executed_by_all us rs)
    ∙ ap (λ c. c || any (same b) (executed_by_all us rs)) (executed_by_lem us a b)
    ∙ ap (λ c. executes us a b || c) (executed_by_all_lem us rs b)

-- names with new ones are those known and those added
pub with_new_lem : (known ns : List (List ℕ)) (n : List ℕ) → is_one_of (with_new known ns) n ≡ (is_one_of known n || is_one_of ns n)
unfolding is_one_of with_new any
with_new_lem known [] n = sym (or-false (any (same n) known))
with_new_lem known (m ∷ ns) n =
    with_new_lem (cond (is_one_of known m) known (m ∷ known)) ns n
    ∙ ap (λ b. b || any (same n) ns) one_more
    ∙ or_assoc (any (same n) known) (same n m) (any (same n) ns)
  where
    one_more : is_one_of (cond (is_one_of known m) known (m ∷ known)) n ≡ (is_one_of known n || same n m)
    one_more =
        let has = any (same n) known in
        cond_cases (λ ks. any (same n) ks ≡ (has || same n m)) (is_one_of known m)
        (λ h. test_cases (λ t. has ≡ (has || t)) (same n m)
        (λ is. let q : has ≡ true = subst (In known) (sym (same_true n m is)) h in q ∙ sym (true_behind has true refl))
        (λ _. sym (or-false has)))
        (λ _. or_comm (same n m) has)

-- names of which none is new add nothing
nothing_new : (known ns : List (List ℕ)) → any (λ n. not (is_one_of known n)) ns ≡ false → with_new known ns ≡ known
unfolding with_new any
nothing_new known [] h = refl
nothing_new known (n ∷ ns) h =
    let (old, rest) = neither_true (not (is_one_of known n)) (any (λ m. not (is_one_of known m)) ns) h in
    ap (λ t. with_new (cond t known (n ∷ known)) ns) (not-false (is_one_of known n) old) ∙ nothing_new known ns rest

-- where one round reaches nothing new no more rounds do
rounds_stay : (n : ℕ) (us : List Use) (rs : List (List ℕ)) → any (λ b. not (is_one_of rs b)) (executed_by_all us rs) ≡ false
    → reached n us rs ≡ rs
unfolding reached
rounds_stay zero us rs h = refl
rounds_stay (suc n) us rs h = ap (reached n us) (nothing_new rs (executed_by_all us rs) h) ∙ rounds_stay n us rs h

-- whatever all rounds keep holds of those reached
reached_only : (P : List ℕ → Type 0) (us : List Use) → ((a b : List ℕ) → P a → Executes us a b → P b) → (n : ℕ) (rs : List (List ℕ))
    → ((a : List ℕ) → In rs a → P a) → (a : List ℕ) → In (reached n us rs) a → P a
unfolding reached is_one_of
reached_only P us goes zero rs h a i = h a i
reached_only P us goes (suc n) rs h a i = reached_only P us goes n (with_new rs (executed_by_all us rs)) further a i
  where
    further : (b : List ℕ) → In (with_new rs (executed_by_all us rs)) b → P b
    further b i =
        ⊎_elim (h b)
        (λ j.
        let (a, has, next) = named_some (λ a. a) (λ a. executes us a b) rs (sym (executed_by_all_lem us rs b) ∙ j) in
        goes a b (h a has) next)
        (either_true (is_one_of rs b) (is_one_of (executed_by_all us rs) b) (sym (with_new_lem rs (executed_by_all us rs) b) ∙ i))

-- a round loses nothing
reached_keeps : (n : ℕ) (us : List Use) (rs : List (List ℕ)) (a : List ℕ) → In rs a → In (reached n us rs) a
unfolding reached
reached_keeps zero us rs a h = h
reached_keeps (suc n) us rs a h =
    reached_keeps n us (with_new rs (executed_by_all us rs)) a
    (with_new_lem rs (executed_by_all us rs) a ∙ ap (λ b. b || is_one_of (executed_by_all us rs) a) h)

-- where every name used passes a test so does every routine executed
pub executed_passes : (f : List ℕ → Bool) (us : List Use) → any (λ u. not (f u.name)) us ≡ false → (a b : List ℕ) → Executes us a b
    → f b ≡ true
unfolding any
executed_passes f [] h a b g = absurd (false≢true g)
executed_passes f (u ∷ us) h a b g =
    let (here, rest) = neither_true (not (f u.name)) (any (λ v. not (f v.name)) us) h in
    ⊎_elim
    (λ is. ap f (same_true b u.name (both_true (same a u.scope) (same b u.name) is).1) ∙ not-false (f u.name) here)
    (executed_passes f us rest a b)
    (either_true (same a u.scope && same b u.name) (executes us a b) g)

-- where 11 does not hold every routine executed is declared
pub executed_declared : (k : Environment) → is11 k ≡ false → (a b : List ℕ) → Executes k.executes a b → Declared k b
unfolding is11
executed_declared k h11 =
    let strays : Use → Bool = λ u. not (any (λ l. same u.name l.name && same u.scope l.scope) k.labels) in
    let declared : List ℕ → Bool = λ n. any (λ r. same n r.name) k.routines in
    executed_passes declared k.executes
    (neither_true (any strays k.branches) (any (λ u. not (declared u.name)) k.executes) h11).1

-- how many routines have a name that passes a test
abbrev pub count_routines : (List ℕ → Bool) → List Routine → ℕ
count_routines f = total (λ r. cond (f r.name) 1 0)

-- no more than there are
pub counted_few : (f : List ℕ → Bool) (rs : List Routine) → count_routines f rs ≤ length rs
unfolding total
counted_few f [] = omega arith
counted_few f (r ∷ rs) =
    let few = counted_few f rs in
    cond_cases (λ n. n + count_routines f rs ≤ suc (length rs)) (f r.name) (λ _. omega arith) (λ _. omega arith)

-- where they are as many as there are every name passes
counted_all : (f : List ℕ → Bool) (rs : List Routine) → length rs ≤ count_routines f rs → (n : List ℕ)
    → any (λ r. same n r.name) rs ≡ true → f n ≡ true
unfolding total any
counted_all f [] h n has = absurd (false≢true has)
counted_all f (r ∷ rs) h n has =
    let few = counted_few f rs in
    test_cases (λ t. f r.name ≡ t → suc (length rs) ≤ cond t 1 0 + count_routines f rs → f n ≡ true) (f r.name)
    (λ _ passes all.
    ⊎_elim (λ is. ap f (same_true n r.name is) ∙ passes) (counted_all f rs (omega arith) n)
    (either_true (same n r.name) (any (λ q. same n q.name) rs) has))
    (λ _ _ all. absurd (omega arith)) refl h

-- a test that follows from another is passed by as many, and by more where a name passes it that fails the other
no_less : (a b : Bool) → (a ≡ true → b ≡ true) → cond {A = ℕ} a 1 0 ≤ cond b 1 0
no_less true b h = rw (h refl) (omega arith)
no_less false b h = omega arith

counted_more : (f g : List ℕ → Bool) → ((n : List ℕ) → f n ≡ true → g n ≡ true) → (rs : List Routine) → count_routines f rs ≤ count_routines g rs
unfolding total
counted_more f g h [] = omega arith
counted_more f g h (r ∷ rs) = omega (arith, no_less (f r.name) (g r.name) (h r.name), counted_more f g h rs)

pub counted_grows : (f g : List ℕ → Bool) → ((n : List ℕ) → f n ≡ true → g n ≡ true) → (rs : List Routine) (n : List ℕ)
    → any (λ r. same n r.name) rs ≡ true → f n ≡ false → g n ≡ true → count_routines f rs < count_routines g rs
unfolding total any
counted_grows f g h [] n has fails passes = absurd (false≢true has)
counted_grows f g h (r ∷ rs) n has fails passes =
    ⊎_elim
    (λ is.
    let name = same_true n r.name is in
    let before : f r.name ≡ false = ap f (sym name) ∙ fails in
    let behind : g r.name ≡ true = ap g (sym name) ∙ passes in
    rw (before, behind) (omega (arith, counted_more f g h rs)))
    (λ there.
    omega (arith, no_less (f r.name) (g r.name) (h r.name), counted_grows f g h rs n there fails passes))
    (either_true (same n r.name) (any (λ q. same n q.name) rs) has)

-- names that no EXECUTE leads out of
abbrev Closed : List Use → List (List ℕ) → Type 0
Closed us rs = (a b : List ℕ) → In rs a → Executes us a b → In rs b

-- where a round reaches nothing new the names are closed
round_closed : (us : List Use) (rs : List (List ℕ)) → any (λ b. not (is_one_of rs b)) (executed_by_all us rs) ≡ false → Closed us rs
unfolding is_one_of
round_closed us rs h a b has g =
    let next = executed_by_all_lem us rs b ∙ some_named (λ a. a) (λ a. executes us a b) rs a has g in
    test_cases (λ t. is_one_of rs b ≡ t → t ≡ true) (is_one_of rs b) (λ _ _. refl)
    (λ _ new. absurd (false≢true (sym h ∙ some_named (λ b. b) (λ b. not (is_one_of rs b)) (executed_by_all us rs) b next (ap not new)))) refl

-- a round that reaches something new reaches a routine more
round_grows : (k : Environment) → is11 k ≡ false → (rs : List (List ℕ)) → any (λ b. not (is_one_of rs b)) (executed_by_all k.executes rs) ≡ true
    → count_routines (is_one_of rs) k.routines < count_routines (is_one_of (with_new rs (executed_by_all k.executes rs))) k.routines
unfolding is_one_of
round_grows k h11 rs h =
    let us = k.executes in
    let next = executed_by_all us rs in
    let (b, has, new) = named_some (λ b. b) (λ b. not (is_one_of rs b)) next h in
    let (a, _, g) = named_some (λ a. a) (λ a. executes us a b) rs (sym (executed_by_all_lem us rs b) ∙ has) in
    counted_grows (is_one_of rs) (is_one_of (with_new rs next)) (λ n i. with_new_lem rs next n ∙ ap (λ t. t || is_one_of next n) i) k.routines b
    (executed_declared k h11 a b g) (not-true (is_one_of rs b) new) (with_new_lem rs next b ∙ true_behind (is_one_of rs b) (is_one_of next b) has)

-- as many rounds as there are routines not reached yet are enough
rounds_enough : (k : Environment) → is11 k ≡ false → (n : ℕ) (rs : List (List ℕ)) → length k.routines ≤ n + count_routines (is_one_of rs) k.routines
    → Closed k.executes (reached n k.executes rs)
unfolding reached
rounds_enough k h11 zero rs h =
    λ a b has g. counted_all (is_one_of rs) k.routines (omega arith) b (executed_declared k h11 a b g)
rounds_enough k h11 (suc n) rs h =
    let us = k.executes in
    let next = with_new rs (executed_by_all us rs) in
    test_cases (λ _. Closed us (reached n us next)) (any (λ b. not (is_one_of rs b)) (executed_by_all us rs))
    (λ goes. rounds_enough k h11 n next (omega (arith, round_grows k h11 rs goes)))
    (λ stays. subst (Closed us) (sym (rounds_stay (suc n) us rs stays)) (round_closed us rs stays))

-- those reached from a routine when 12 is judged
abbrev pub reached_from : Environment → List ℕ → List (List ℕ)
reached_from k a = reached (length k.routines) k.executes (executed_by k.executes a)

-- a chain leads to those reached, and to no others
pub chain_reached : (k : Environment) → is11 k ≡ false → (a : List ℕ) {b : List ℕ} → Chain k.executes a b → In (reached_from k a) b
chain_reached k h11 a (direct {b} h) = reached_keeps (length k.routines) k.executes _ b (executed_by_lem k.executes a b ∙ h)
chain_reached k h11 a (through {b} {c} before h) =
    rounds_enough k h11 (length k.routines) (executed_by k.executes a) (omega arith) b c (chain_reached k h11 a before) h

pub reached_chain : (k : Environment) (a b : List ℕ) → In (reached_from k a) b → Chain k.executes a b
reached_chain k a =
    let us = k.executes in
    reached_only (Chain us a) us (λ b c. through) (length k.routines) (executed_by us a) (λ b h. direct (sym (executed_by_lem us a b) ∙ h))

-- What is known of names only grows, each name has one purpose, and every name that a statement uses is known behind it.
-- Assumes nothing.
use Rattle.std.specs.Prelude.{Bool, true, false, cond, not, ◌&&◌, ◌||◌, List, [], ◌∷◌, ◌++◌, map, ◌≡◌, refl, ℕ}
use Rattle.std.proofs.lemmas.Bool.{false≢true, not-false}
use Rattle.std.proofs.Math.Bool.{and-eq-true_iff, or_assoc, or-false}
use Rattle.std.proofs.Common.{⊎_elim, sym, ◌∙◌, ap, subst}
use Rattle.base.specs.Choice.{test_cases, cond_cases, neither_true, either_true, true_behind}
use Rattle.base.specs.Edition.{Edition}
use Rattle.base.specs.Lists.{same, any, keep}
use Rattle.base.specs.ListLaws.{same_true, same_refl}
use Rattle.cards.specs.Entries.{Entry}
use Rattle.syntax.specs.Keywords.{StatementKind, leading}
use Rattle.syntax.specs.Laws.{same_purpose_lem, same_purpose_refl}
use Rattle.syntax.specs.Placed.{Each, each_map}
use Rattle.syntax.specs.Parsing.{Purpose, same_purpose, Mention, Mentions}
use Rattle.validation.specs.Environment.{Environment, same_mention, names_for, with_names, extend}
use Rattle.validation.specs.Refusals.{has_other_purpose, is6}
use Rattle.validation.specs.Deck.{passed}
use Rattle.validation.specs.Rules.{Judging, ended, skips, extending}

-- a name with a purpose is in a list
abbrev pub Has : Mention → List Mention → Type 0
Has x ns = any (same_mention x) ns ≡ true

-- names that pass the test are equal
pub same_mention_lem : (x y : Mention) → same_mention x y ≡ true → x ≡ y
unfolding same_mention
same_mention_lem x y h =
    let both = (and-eq-true_iff (same_purpose x.purpose y.purpose) (same x.name y.name)).0 h in
    let purposes = same_purpose_lem x.purpose y.purpose both.0 in
    let names = same_true x.name y.name both.1 in
    λ i. record { purpose = purposes i; name = names i }

-- a name passes the test with itself
pub same_mention_refl : (x : Mention) → same_mention x x ≡ true
unfolding same_mention
same_mention_refl x = rw (same_purpose_refl x.purpose, same_refl x.name)

-- some element of two lists passes a test where one of either does
pub any_append : {A : Type 0} (f : A → Bool) (xs ys : List A) → any f (xs ++ ys) ≡ (any f xs || any f ys)
unfolding any
any_append f [] ys = refl
any_append f (x ∷ xs) ys = ap (λ b. f x || b) (any_append f xs ys) ∙ sym (or_assoc (f x) (any f xs) (any f ys))

-- a test that no name in a list passes is failed by each
pub none_passes : (f : Mention → Bool) (x : Mention) (ns : List Mention) → any f ns ≡ false → Has x ns → f x ≡ false
unfolding any
none_passes f x [] h g = absurd (false≢true g)
none_passes f x (n ∷ ns) h g =
    let fails = neither_true (f n) (any f ns) h in
    ⊎_elim (λ s. ap f (same_mention_lem x n s) ∙ fails.0) (none_passes f x ns fails.1)
    (either_true (same_mention x n) (any (same_mention x) ns) g)

-- the names of one purpose are those in the list with that purpose
pub names_for_lem : (p : Purpose) (w : List ℕ) (ns : List Mention)
    → any (same w) (names_for p ns) ≡ any (same_mention (record { purpose = p; name = w })) ns
unfolding names_for any keep same_mention
names_for_lem p w [] = refl
names_for_lem p w (n ∷ ns) =
    let rest = keep (λ (m : Mention). same_purpose p m.purpose) ns in
    let has = any (same_mention (record { purpose = p; name = w })) ns in
    test_cases
    (λ t. any (same w) (map (λ (m : Mention). m.name) (elim t [ true ↦ n ∷ rest | false ↦ rest ])) ≡ ((t && same w n.name) || has))
    (same_purpose p n.purpose) (λ _. ap (λ b. same w n.name || b) (names_for_lem p w ns)) (λ _. names_for_lem p w ns)

-- a name put behind the names known, where it is none of them
has_one_more : (x n : Mention) (known : List Mention)
    → any (same_mention x) (cond (any (same_mention n) known) known (known ++ (n ∷ []))) ≡ (any (same_mention x) known || same_mention x n)
unfolding any
has_one_more x n known =
    let has = any (same_mention x) known in
    cond_cases (λ ns. any (same_mention x) ns ≡ (has || same_mention x n)) (any (same_mention n) known)
    (λ h. test_cases (λ t. has ≡ (has || t)) (same_mention x n)
    (λ s. let q : has ≡ true = subst (λ y. Has y known) (sym (same_mention_lem x n s)) h in q ∙ sym (true_behind has true refl))
    (λ _. sym (or-false has)))
    (λ _. any_append (same_mention x) known (n ∷ []) ∙ ap (λ b. has || b) (or-false (same_mention x n)))

-- the names behind a statement are those before it and those it mentions
pub has_with : (x : Mention) (known ns : List Mention)
    → any (same_mention x) (with_names known ns) ≡ (any (same_mention x) known || any (same_mention x) ns)
unfolding with_names any
has_with x known [] = sym (or-false (any (same_mention x) known))
has_with x known (n ∷ ns) =
    let has = any (same_mention x) known in
    has_with x (cond (any (same_mention n) known) known (known ++ (n ∷ []))) ns
    ∙ ap (λ b. b || any (same_mention x) ns) (has_one_more x n known)
    ∙ or_assoc has (same_mention x n) (any (same_mention x) ns)

-- names known stay known
pub extend_keeps : (x : Mention) (k : Environment) (kind : StatementKind) (m : Mentions) → Has x k.names → Has x (extend k kind m).names
unfolding extend
extend_keeps x k kind m h = has_with x k.names (m.declared ++ m.used) ∙ ap (λ b. b || any (same_mention x) (m.declared ++ m.used)) h

-- names that a statement uses are known behind it
pub extend_adds : (x : Mention) (k : Environment) (kind : StatementKind) (m : Mentions) → Has x m.used → Has x (extend k kind m).names
unfolding extend
extend_adds x k kind m h =
    has_with x k.names (m.declared ++ m.used)
    ∙ true_behind (any (same_mention x) k.names) _
    (any_append (same_mention x) m.declared m.used ∙ true_behind (any (same_mention x) m.declared) _ h)

-- names known before entries that pass are known behind them
pub passed_keeps : {e : Edition} {k after : Environment} {es : List Entry} → Judging e k es (passed after) → (x : Mention) → Has x k.names
    → Has x after.names
passed_keeps (ended _) x h = h
passed_keeps (skips j) x h = passed_keeps j x h
passed_keeps (extending {k} {text} s m rest q p j) x h = passed_keeps j x (extend_keeps x k (leading text).kind m h)

-- S2 "A name has one purpose"
abbrev pub OnePurpose : List Mention → Type 0
OnePurpose ns = (w : List ℕ) (p q : Purpose) → Has (record { purpose = p; name = w }) ns → Has (record { purpose = q; name = w }) ns → p ≡ q

-- where no name has another purpose in a list, it has the same there
same_purposes : (all ns : List Mention) → any (has_other_purpose all) ns ≡ false → (w : List ℕ) (p q : Purpose)
    → Has (record { purpose = p; name = w }) ns → Has (record { purpose = q; name = w }) all → p ≡ q
unfolding has_other_purpose
same_purposes all ns h w p q x y =
    let other = none_passes (has_other_purpose all) (record { purpose = p; name = w }) ns h x in
    let differs = none_passes (λ m. same w m.name && not (same_purpose p m.purpose)) (record { purpose = q; name = w }) all other y in
    same_purpose_lem p q (not-false (same_purpose p q) (rw (same_refl w) at differs))

-- where 6 does not apply names keep one purpose
extend_one_purpose : (k : Environment) (kind : StatementKind) (m : Mentions) → is6 k m ≡ false → OnePurpose k.names → OnePurpose (extend k kind m).names
unfolding is6 extend
extend_one_purpose k kind m h one w p q x y =
    let a : Mention = record { purpose = p; name = w } in
    let b : Mention = record { purpose = q; name = w } in
    let ns = m.declared ++ m.used in
    let all = k.names ++ ns in
    let others = (neither_true (any (has_other_purpose all) ns) _ h).0 in
    let xs = sym (has_with a k.names ns) ∙ x in
    let ys = sym (has_with b k.names ns) ∙ y in
    ⊎_elim
    (λ x'. ⊎_elim (λ y'. one w p q x' y') (λ y'. sym (same_purposes all ns others w q p y' (any_append (same_mention a) k.names ns ∙ xs)))
    (either_true (any (same_mention b) k.names) (any (same_mention b) ns) ys))
    (λ x'. same_purposes all ns others w p q x' (any_append (same_mention b) k.names ns ∙ ys))
    (either_true (any (same_mention a) k.names) (any (same_mention a) ns) xs)

-- behind entries that pass names still have one purpose
pub passed_one_purpose : {e : Edition} {k after : Environment} {es : List Entry} → Judging e k es (passed after) → OnePurpose k.names
    → OnePurpose after.names
passed_one_purpose (ended _) one = one
passed_one_purpose (skips j) one = passed_one_purpose j one
passed_one_purpose (extending {k} {text} s m rest q p j) one =
    passed_one_purpose j (extend_one_purpose k (leading text).kind m p.not6 one)

-- each name in a list is in it
each_has : (ns : List Mention) → Each (λ x. Has x ns) ns
unfolding Each any
each_has [] = tt
each_has (n ∷ ns) =
    let here = ap (λ b. b || any (same_mention n) ns) (same_mention_refl n) in
    (here, each_map (λ x. true_behind (same_mention x n) (any (same_mention x) ns)) ns (each_has ns))

-- every name that a statement uses is known behind it and the entries that pass behind it
pub used-known : {e : Edition} {after : Environment} {es : List Entry} (k : Environment) (kind : StatementKind) (m : Mentions)
    → Judging e (extend k kind m) es (passed after) → Each (λ x. Has x after.names) m.used
used-known k kind m j = each_map (λ x h. passed_keeps j x (extend_adds x k kind m h)) m.used (each_has m.used)

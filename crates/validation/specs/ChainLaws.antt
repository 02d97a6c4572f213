-- 12 holds exactly when a chain of EXECUTEs leads from a routine back to itself. Where it does not hold, routines in a row of which each
-- executes the next are all different, so at most 16. Assumes nothing.
use Rattle.std.specs.Prelude.{Bool, true, false, cond, ◌||◌, List, [], ◌∷◌, ◌↔◌, ◌≡◌, refl, ℕ, ◌≤◌, length}
use Rattle.std.proofs.lemmas.Bool.{false≢true}
use Rattle.std.proofs.Common.{⊎_elim, sym, ◌∙◌, ap, subst, arith}
use Rattle.base.specs.Choice.{test_cases, either_true, true_behind}
use Rattle.base.specs.Edition.{Edition}
use Rattle.base.specs.Limits as Limits
use Rattle.base.specs.Lists.{same, any}
use Rattle.base.specs.ListLaws.{same_true, same_refl}
use Rattle.cards.specs.Entries.{Entry, entries}
use Rattle.syntax.specs.Placed.{Each}
use Rattle.syntax.specs.Program.{Program}
use Rattle.validation.specs.Environment.{Use, Environment, empty_environment, is_one_of}
use Rattle.validation.specs.Deck.{Judged, passed, judge_from, is11, is12, program_of, Judgement, accepted, judgement_of, judge_entries, judge}
use Rattle.validation.specs.Chains.{Declared, Executes, Chain, direct, through, ExecutesItself, Chained, Different}
use Rattle.validation.specs.Laws.Cards.{deck_counts}
use Rattle.validation.specs.Rounds.{In, named_some, some_named, executed_declared, count_routines, counted_few, counted_grows}
use Rattle.validation.specs.Rounds.{reached_from, chain_reached, reached_chain}
use Rattle.validation.specs.Rules.{Judging, missing, skips, unsound, turned, extending, judging}

-- 12 holds exactly when a chain of EXECUTEs leads from a routine back to itself: the rounds are enough
pub is12_chain : (k : Environment) → is11 k ≡ false → (is12 k ≡ true) ↔ ExecutesItself k
unfolding is12
is12_chain k h11 = (
  λ h.
      let (a, has, back) = named_some (λ r. r.name) (λ a. is_one_of (reached_from k a) a) k.routines h in
      (a, has, reached_chain k a a back),
  λ (a, has, chain).
      some_named (λ r. r.name) (λ a. is_one_of (reached_from k a) a) k.routines a has (chain_reached k h11 a chain),
)

-- a chain that goes on behind an EXECUTE
chain_before : {us : List Use} {a b c : List ℕ} → Executes us a b → Chain us b c → Chain us a c
chain_before h (direct g) = through (direct h) g
chain_before h (through before g) = through (chain_before h before) g

-- in a row a chain leads from the first to every other
chained_leads : (us : List Use) (a : List ℕ) (ns : List (List ℕ)) → Chained us (a ∷ ns) → (b : List ℕ) → In ns b → Chain us a b
unfolding Chained is_one_of any
chained_leads us a [] h b i = absurd (false≢true i)
chained_leads us a (c ∷ ns) h b i =
    ⊎_elim (λ is. subst (Chain us a) (sym (same_true b c is)) (direct h.0)) (λ j. chain_before h.0 (chained_leads us c ns h.1 b j))
    (either_true (same b c) (any (same b) ns) i)

-- the rest of a row is one
pub chained_rest : (us : List Use) (a : List ℕ) (ns : List (List ℕ)) → Chained us (a ∷ ns) → Chained us ns
unfolding Chained
chained_rest us a [] h = tt
chained_rest us a (b ∷ ns) h = h.1

-- where 11 and 12 do not hold no routine comes twice in a row of which each executes the next
pub chain_different : (k : Environment) → is11 k ≡ false → is12 k ≡ false → (names : List (List ℕ)) → Chained k.executes names
    → Each (Declared k) names → Different names
unfolding Each
chain_different k h11 h12 [] h declared = tt
chain_different k h11 h12 (n ∷ ns) h declared =
    let rest = chain_different k h11 h12 ns (chained_rest k.executes n ns h) declared.1 in
    test_cases (λ t. is_one_of ns n ≡ t → (t ≡ false) × Different ns) (is_one_of ns n)
    (λ _ again. absurd (false≢true (sym h12 ∙ (is12_chain k h11).1 (n, declared.0, chained_leads k.executes n ns h n again))))
    (λ _ _. (refl, rest)) refl

-- different routines are no more than there are
different_few : (k : Environment) (names : List (List ℕ)) → Different names → Each (Declared k) names
    → length names ≤ count_routines (is_one_of names) k.routines
unfolding Each is_one_of any
different_few k [] h declared = omega arith
different_few k (n ∷ ns) h declared =
    let fewer = counted_grows (is_one_of ns) (is_one_of (n ∷ ns)) (λ m. true_behind (same m n) (is_one_of ns m)) k.routines n declared.0 h.0
    (ap (λ t. t || is_one_of ns n) (same_refl n)) in
    omega (arith, fewer, different_few k ns h.1 declared.1)

-- where 11 and 12 do not hold a row of routines, each of which executes the next, is no longer than there are routines
pub chain_short : (k : Environment) → is11 k ≡ false → is12 k ≡ false → (names : List (List ℕ)) → Chained k.executes names
    → Each (Declared k) names → length names ≤ length k.routines
chain_short k h11 h12 names h declared =
    let few = different_few k names (chain_different k h11 h12 names h declared) declared in
    omega (arith, counted_few (is_one_of names) k.routines)

-- in a row every routine behind the first is declared, for it is executed
pub chained_declared : (k : Environment) → is11 k ≡ false → (a : List ℕ) (ns : List (List ℕ)) → Chained k.executes (a ∷ ns) → Each (Declared k) ns
unfolding Chained Each
chained_declared k h11 a [] h = tt
chained_declared k h11 a (b ∷ ns) h = (executed_declared k h11 a b h.0, chained_declared k h11 b ns h.1)

-- behind a deck that passes, where 11 and 12 do not hold, at most 16 EXECUTEs lead on one from the other, from a routine or from outside
pub executes_few : {e : Edition} {k : Environment} {es : List Entry} → Judging e empty_environment es (passed k) → is11 k ≡ false → is12 k ≡ false
    → (a : List ℕ) (ns : List (List ℕ)) → Chained k.executes (a ∷ ns) → length ns ≤ Limits.routines
executes_few {k} j h11 h12 a ns h =
    let short = chain_short k h11 h12 ns (chained_rest k.executes a ns h) (chained_declared k h11 a ns h) in
    omega (arith, (deck_counts j).routines)

-- what a deck whose statements pass, and for which 11 does not hold, comes to
judge_passed : (e : Edition) (deck : List ℕ) (k : Environment) → judge_from e empty_environment (entries e deck) ≡ passed k → is11 k ≡ false
    → judge e deck ≡ cond (is12 k) (Judgement.refused 12 0) (accepted (program_of e k (entries e deck)))
unfolding judge judge_entries judgement_of
judge_passed e deck k q h11 =
    let program = accepted (program_of e k (entries e deck)) in
    ap (judgement_of e (entries e deck)) q ∙ ap (λ t. cond t (Judgement.refused 11 0) (cond (is12 k) (Judgement.refused 12 0) program)) h11

-- a deck whose statements pass, and for which 11 does not hold, is turned down by 12 exactly when some routine executes itself
pub passed_12 : (e : Edition) (deck : List ℕ) (k : Environment) → judge_from e empty_environment (entries e deck) ≡ passed k → is11 k ≡ false
    → (judge e deck ≡ Judgement.refused 12 0) ↔ ExecutesItself k
passed_12 e deck k q h11 =
    let judged = judge_passed e deck k q h11 in
    let program = program_of e k (entries e deck) in (
      λ h. (is12_chain k h11).0 (turned_down (is12 k) program (sym judged ∙ h)),
      λ h. judged ∙ ap (λ t. cond t (Judgement.refused 12 0) (accepted program)) ((is12_chain k h11).1 h),
    )
  where
    turned_down : (t : Bool) (p : Program) → cond t (Judgement.refused 12 0) (accepted p) ≡ Judgement.refused 12 0 → t ≡ true
    turned_down true p h = refl
    turned_down false p h = cc

-- a statement is turned down by 3 to 10
statement_low : {e : Edition} {k : Environment} {es : List Entry} {n card : ℕ} → Judging e k es (Judged.failed n card) → n ≤ 10
statement_low (missing _) = omega arith
statement_low (skips j) = statement_low j
statement_low unsound = omega arith
statement_low (turned n h) = h.1
statement_low (extending s m rest q p j) = statement_low j

-- the statements of a deck pass, 11 does not hold, and some routine executes itself
abbrev pub HasChain : Edition → List ℕ → Type 0
HasChain e deck = (k : Environment) × (judge_from e empty_environment (entries e deck) ≡ passed k) × (is11 k ≡ false) × ExecutesItself k

-- Q12: any deck is turned down by 12 exactly when this is so
pub judge_12 : (e : Edition) (deck : List ℕ) → (judge e deck ≡ Judgement.refused 12 0) ↔ HasChain e deck
unfolding judge judge_entries judgement_of
judge_12 e deck = (λ h. further (judge_from e empty_environment es) refl h, λ (k, q, h11, itself). (passed_12 e deck k q h11).1 itself)
  where
    es : List Entry
    es = entries e deck

    further : (j : Judged) → judge_from e empty_environment es ≡ j → judgement_of e es j ≡ Judgement.refused 12 0 → HasChain e deck
    further (passed k) q h =
        test_cases (λ _. HasChain e deck) (is11 k)
        (λ h11. let z : ◌≡◌ {A = ℕ} 11 12 = cc in absurd (omega arith))
        (λ h11. (k, q, h11, (passed_12 e deck k q h11).0 (ap (judgement_of e es) q ∙ h)))
    further (Judged.failed n card) q h =
        let number : n ≡ 12 = cc in
        absurd (omega (arith, statement_low (subst (Judging e empty_environment es) q (judging e empty_environment es))))

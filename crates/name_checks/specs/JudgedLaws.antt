-- 6, 7 and 8 of names mentioned one by one are those of document 01. Assumes nothing.
use Rattle.std.specs.Prelude.{Bool, true, false, cond, ◌||◌, List, [], ◌∷◌, ◌++◌, ◌≡◌, ℕ, suc, ◌+◌, ◌≤◌, length, Result, Ok, Err, IfOk}
use Rattle.std.specs.Bool.{beq}
use Rattle.std.specs.Result.{is_err}
use Rattle.std.proofs.Math.Path.{refl}
use Rattle.std.proofs.lemmas.Bool.{false≢true}
use Rattle.std.proofs.Common.{sym, ◌∙◌, ap, ap₂, subst, arith, append-nil, length-append}
use Rattle.base.specs.Choice.{test_cases, cond_cases, or_pairs}
use Rattle.base.specs.Lists.{any}
use Rattle.validation.specs.Environment.{same_mention}
use Rattle.validation.specs.RefusalNumbers.{refusal_number, judged_number, refusal_number_some}
use Rattle.validation.specs.Refusals.{has_other_purpose, has_duplicate, clashes}
use Rattle.validation.specs.declared.Refusal.{Refusal}
use Rattle.syntax.specs.Parsing.{Mention}
use Rattle.symbols.specs.declared.known.Known.{Known}
use Rattle.symbols.specs.declared.known.Names.{Names}
use Rattle.symbols.specs.Clauses.{names_room}
use Rattle.symbols.specs.Entries.{NameEntry, mention_of, declares_name, gather, declared_by, used_by, roles_by}
use Rattle.symbols.specs.Holding.{names_in}
use Rattle.name_checks.specs.Declaring.{declared_in, undeclared_in, again}
use Rattle.name_checks.specs.EnteringLaws.{enters_then}
use Rattle.name_checks.specs.Judged.{names_of, names_number, first_number, NamesReady, NamesEntered, NamesJudged}
use Rattle.name_checks.specs.NameLaws.{conflicts-is, conflicts-append, mentions_known}
use Rattle.name_checks.specs.ShownLaws.{names_kept}
use Rattle.name_checks.specs.Names.{Single, conflicts, enters, chosen_by, chosen_in, Enters}

-- the names chosen are those declared, or those used
chosen_declared : (es : List NameEntry) → gather (chosen_by true) es ≡ gather declared_by es
unfolding gather chosen_by declared_by
chosen_declared [] = refl
chosen_declared (x ∷ es) =
    let here : chosen_by true x ≡ declared_by x =
    test_cases (λ t. ◌≡◌ {A = List Mention} (cond (beq t true) (mention_of x ∷ []) []) (cond t (mention_of x ∷ []) []))
    (declares_name x) (λ _. refl) (λ _. refl)
    in
    ap₂ {C = List Mention} ◌++◌ here (chosen_declared es)

chosen-used : (es : List NameEntry) → gather (chosen_by false) es ≡ gather used_by es
unfolding gather chosen_by used_by
chosen-used [] = refl
chosen-used (x ∷ es) =
    let here : chosen_by false x ≡ used_by x =
    test_cases (λ t. ◌≡◌ {A = List Mention} (cond (beq t false) (mention_of x ∷ []) []) (cond t [] (mention_of x ∷ [])))
    (declares_name x) (λ _. refl) (λ _. refl)
    in
    ap₂ {C = List Mention} ◌++◌ here (chosen-used es)

-- each entry declares a name or uses it
chosen_size : (es : List NameEntry) → length (gather declared_by es) + length (gather used_by es) ≡ length es
unfolding gather declared_by used_by
chosen_size [] = refl
chosen_size (e ∷ es) =
    let d = gather declared_by es in
    let u = gather used_by es in
    let rest = chosen_size es in
    test_cases
    (λ t. length (cond t (mention_of e ∷ []) [] ++ d) + length (cond t [] (mention_of e ∷ []) ++ u) ≡ suc (length es)) (declares_name e)
    (λ _. omega arith) (λ _. omega arith)

-- names declared before or twice
again-is : (f : Mention → Bool) (ns : List Mention) → again f ns ≡ (any f ns || has_duplicate ns)
unfolding again any has_duplicate
again-is f [] = refl
again-is f (n ∷ ns) =
    ap (λ b. (f n || any (same_mention n) ns) || b) (again-is f ns) ∙ or_pairs (f n) (any (same_mention n) ns) (any f ns) (has_duplicate ns)

-- what judging the names does
module _ (known : Known) (names : Names) (es : List NameEntry) (ready : NamesReady names es) where
  abbrev ns : List Mention
  ns = names_in names

  abbrev declared : List Mention
  declared = chosen_in true es

  abbrev used : List Mention
  used = chosen_in false es

  together : declared ++ used ≡ names_of es
  together = ap₂ {C = List Mention} ◌++◌ (chosen_declared es) (chosen-used es)

  size : length declared + length used ≡ length es
  size = omega (arith, ap length (chosen_declared es), ap length (chosen-used es), chosen_size es)

  clash_is : conflicts ns (names_of es) ≡ any (has_other_purpose (ns ++ names_of es)) (names_of es)
  clash_is = conflicts-is ns (names_of es) ready.single

  -- there is room for the names declared, and then for those used
  pub room_first : names.count + length declared ≤ names_room
  room_first = omega (arith, ready.room, size)

  pub room_second : (names' : Names) {r : Result (Unit {0}) Refusal} → Enters names declared names' r → names'.count + length used ≤ names_room
  room_second names' n = omega (arith, ready.room, size, n.few)

  -- one of the first names has two purposes
  refused : (xs ys : List Mention) → xs ++ ys ≡ names_of es → length xs ≤ length es → (names' : Names) {e : Refusal}
      → Enters names xs names' (Err e) → NamesEntered known names es names' (Err e)
  unfolding names_number
  refused xs ys all few names' {e} n =
      let clash : refusal_number e ≡ cond (conflicts ns xs) 6 0 = n.clash in
      record {
        number =
            cond_cases (λ k. refusal_number e ≡ k → refusal_number e ≡ names_number known ns es) (conflicts ns xs)
            (λ c q. q ∙ rw (sym clash_is ∙ ap (conflicts ns) (sym all) ∙ conflicts-append ns xs ys ∙ ap (λ t. t || conflicts (enters ns xs) ys) c))
            (λ _ q. absurd (refusal_number_some e q)) clash;
        few = omega (arith, n.few);
        more = n.more;
        keys_kept = n.keys_kept;
        purposes_kept = n.purposes_kept;
        extended = tt;
        single = tt;
      }

  -- a name declared has two purposes
  pub names_refused : (names' : Names) {e : Refusal} → Enters names declared names' (Err e) → NamesEntered known names es names' (Err e)
  names_refused = refused declared used together (omega (arith, size))

  module _ (names'' names' : Names) (first : Enters names declared names'' (Ok tt)) where
    all_entered : {r : Result (Unit {0}) Refusal} → Enters names'' used names' r → Enters names (names_of es) names' r
    all_entered {r} w = subst (λ l. Enters names l names' r) together (enters_then names names'' names' declared used (Ok tt) r first w)

    -- a name used has two purposes
    pub used_refused : {e : Refusal} → Enters names'' used names' (Err e) → NamesEntered known names es names' (Err e)
    used_refused w =
        refused (names_of es) [] (append-nil (names_of es))
        (omega (arith, size, ap length together, length-append declared used)) names' (all_entered w)

    -- none has: the first of the numbers
    pub names_judged : Enters names'' used names' (Ok tt) → (r : Result (Unit {0}) Refusal) → judged_number r ≡ first_number known es
        → NamesEntered known names es names' r
    unfolding names_number first_number
    names_judged w r e =
        let n = all_entered w in
        let clear : conflicts ns (names_of es) ≡ false =
        test_cases (λ t. conflicts ns (names_of es) ≡ t → t ≡ false) (conflicts ns (names_of es))
        (λ _ c. absurd (let six : 0 ≡ 6 = n.clash ∙ ap (λ t. cond t 6 0) c in omega arith)) (λ _ _. refl) refl
        in
        let known_now = mentions_known ns (names_of es) ready.single clear in
        record {
          number =
              e
              ∙ ap₂ {C = ℕ}
              (λ c t. cond (c || t) 6 (cond (any (undeclared_in known) (gather used_by es)) 7 (cond (clashes [] [] (gather roles_by es)) 8 0)))
              (sym clear ∙ clash_is) (again-is (declared_in known) (gather declared_by es));
          few = omega (arith, n.few, size, ap length together, length-append declared used);
          more = n.more;
          keys_kept = n.keys_kept;
          purposes_kept = n.purposes_kept;
          extended = always r (n.so ∙ known_now.0);
          single = always r (subst Single (sym n.so) known_now.1);
        }
      where
        always : {P : Type 0} (r : Result (Unit {0}) Refusal) → P → IfOk r (λ _. P)
        always (Ok x) p = p
        always (Err e) p = tt

  -- where one of the numbers applies, the count put back leaves the names known before
  pub judged_refused : (names' : Names) (r : Result (Unit {0}) Refusal) → NamesEntered known names es names' r → is_err r ≡ true
      → NamesJudged known names es (record { keys = names'.keys; purposes = names'.purposes; count = names.count }) r
  unfolding names_in
  judged_refused names' (Ok x) n e = absurd (false≢true e)
  judged_refused names' (Err x) n e =
      record {
        entered =
            record {
              number = n.number;
              few = omega arith;
              more = omega arith;
              keys_kept = n.keys_kept;
              purposes_kept = n.purposes_kept;
              extended = tt;
              single = tt;
            };
        refused =
            names_kept names.keys names.purposes names'.keys names'.purposes 0 names.count
            (λ j h. n.keys_kept j (omega arith)) (λ j h. n.purposes_kept j (omega arith));
      }

-- The places of a deck that passes are below its counts, and its statements are read alike with these places. Assumes nothing.
use Rattle.std.specs.Prelude.{Bool, true, false, not, ◌&&◌, ◌||◌, List, [], ◌∷◌, ◌≡◌, refl, ℕ, suc, ◌<◌, leb, length, take, drop}
use Rattle.std.proofs.lemmas.Bool.{false≢true, not-true}
use Rattle.std.proofs.Math.Bool.{and-eq-true_iff}
use Rattle.std.proofs.Math.Option.{Option}
use Rattle.std.proofs.Common.{sym, ◌∙◌, ap, subst, arith}
use Rattle.base.specs.Choice.{test_cases, true_behind}
use Rattle.base.specs.Edition.{Edition}
use Rattle.base.specs.Lists.{same, any, begins}
use Rattle.base.specs.Text.{bytes}
use Rattle.cards.specs.Entries.{Entry}
use Rattle.syntax.specs.Alike.{Alike, both, neither, SameStep, alike_mentioning, alike_form_of}
use Rattle.syntax.specs.Forms.{statement_form, form_of, sets_number, replacement}
use Rattle.syntax.specs.Keywords.{StatementKind, REPLACEMENT, END, same_kind, leading}
use Rattle.syntax.specs.Laws.{same_kind_lem}
use Rattle.syntax.specs.Placed.{Each, Sizes, PlacedBy}
use Rattle.syntax.specs.Program.{Statement}
use Rattle.syntax.specs.Parsing as Reading
use Rattle.syntax.specs.Parsing.{
  Purpose,
  for_number,
  for_string,
  purpose_number,
  Mention,
  Role,
  Mentions,
  usage,
  Parsed,
  got,
  broken,
  mentioning,
  succeed,
  ◌>>=◌,
}
use Rattle.syntax.specs.Lexemes.{Resolution, name_length, name, name_as, no_role, string_name, part_name}
use Rattle.validation.specs.Environment.{Label, Routine, Environment, empty_environment, same_mention, strings_of, numbers_of, names_for, is_one_of, is_step, extend}
use Rattle.validation.specs.Refusals.{label_form, with_label, read_statement, statement_number, form_number}
use Rattle.validation.specs.Deck.{unresolved, passed, mentions_of, index_of, step_of, routine_named, resolution}
use Rattle.validation.specs.Names.{Has, same_mention_refl, any_append, names_for_lem, passed_keeps, extend_keeps, extend_adds, OnePurpose}
use Rattle.validation.specs.Targets.{is_inner, LabelBelow, RoutineBelow, TargetsBelow, passed_goes_on}
use Rattle.validation.specs.Rules.{Judging}
pub mod Again

-- what is read uses a name
Uses : {A : Type 0} → Mention → Parsed A → Type 0
Uses x (got a m rest) = Has x m.used
Uses x broken = Unit

-- a name used is used still behind other names
uses_behind : {A : Type 0} (x : Mention) (m : Mentions) (r : Parsed A) → Uses x r → Uses x (mentioning m r)
unfolding Uses mentioning Reading.merge_mentions
uses_behind x m (got a n rest) h =
    any_append (same_mention x) m.used n.used ∙ true_behind (any (same_mention x) m.used) (any (same_mention x) n.used) h
uses_behind x m broken h = tt

-- a name used is used still before others
uses_before : {A : Type 0} (x : Mention) (m : Mentions) (r : Parsed A) → Has x m.used → Uses x (mentioning m r)
unfolding Uses mentioning Reading.merge_mentions
uses_before x m (got a n rest) h = any_append (same_mention x) m.used n.used ∙ ap (λ b. b || any (same_mention x) n.used) h
uses_before x m broken h = tt

-- a name used is used still whatever is read next
uses_next : {A B : Type 0} (x : Mention) (r : Parsed A) (f : A × List ℕ → Parsed B) → Uses x r → Uses x (r >>= f)
unfolding Uses ◌>>=◌
uses_next x (got a m rest) f h = uses_before x m (f (a, rest)) h
uses_next x broken f h = tt

-- a name at the front is used
uses_name : (p : Purpose) (roles : List ℕ → List Role) (bs : List ℕ)
    → Uses (record { purpose = p; name = take (name_length bs) bs }) (name_as (λ n. usage p (roles n) n) bs)
unfolding Uses name_as name succeed usage mentioning ◌>>=◌ Reading.merge_mentions Reading.no_mentions any
uses_name p roles bs =
    let x : Mention = record { purpose = p; name = take (name_length bs) bs } in
    let n = name_length bs in
    test_cases
    (λ t. Uses x ((elim t [ true ↦ succeed (take n bs) (drop n bs) | false ↦ broken ]) >>= (λ (w, rest). got w (usage p (roles w) w) rest)))
    (leb 1 n) (λ _. ap (λ b. b || false) (same_mention_refl x)) (λ _. tt)

-- a replacement of no number uses the name at its front as a string
uses_string : (e : Edition) (is_number : List ℕ → Bool) (at : Resolution) (bs : List ℕ) → sets_number e is_number at bs ≡ false
    → Uses (record { purpose = for_string; name = take (name_length bs) bs }) (replacement e is_number at bs)
unfolding replacement part_name string_name
uses_string e is_number at bs h =
    let x : Mention = record { purpose = for_string; name = take (name_length bs) bs } in
    rw (h, replacement) (uses_next x _ _ (uses_next x _ _ (uses_next x _ _ (uses_name for_string no_role bs))))

-- what a statement's form uses the statement uses
uses_labelled : {A : Type 0} (x : Mention) (label : Parsed (Unit {0})) (whole : Bool) (form : Parsed A) → Uses x form
    → Uses x (with_label label whole form)
unfolding Uses with_label
uses_labelled x (got u m rest) true form h = uses_behind x m form h
uses_labelled x (got u m rest) false form h = tt
uses_labelled x broken whole form h = tt

-- labelled alike what is read alike stays so
alike_labelled : {A : Type 0} {R : A → A → Type 0} {x y : Parsed A} (label : Parsed (Unit {0})) (whole : Bool) → Alike R x y
    → Alike R (with_label label whole x) (with_label label whole y)
unfolding with_label
alike_labelled (got u m rest) true h = alike_mentioning m h
alike_labelled (got u m rest) false h = neither
alike_labelled broken whole h = neither

-- a string is no number
string_not_number : ¬ (for_string ≡ for_number)
unfolding purpose_number
string_not_number h = let z : ◌≡◌ {A = ℕ} 4 3 = ap purpose_number h in omega arith

-- two tests, each before the same test, agree where the second follows from the first and not without it
tests_agree : (a b c : Bool) → (a ≡ true → b ≡ true) → (a ≡ false → ¬ (b ≡ true)) → (a && c) ≡ (b && c)
tests_agree true b c follows only = ap (λ t. t && c) (sym (follows refl))
tests_agree false true c follows only = absurd (only refl refl)
tests_agree false false c follows only = refl

-- the kind of a statement, and what stands behind its keyword
abbrev kind_of : List ℕ → StatementKind
kind_of text = (leading text).kind

abbrev body_of : List ℕ → List ℕ
body_of text = drop (leading text).size text

-- a name is a number for a replacement of it where it is one for the whole deck
numbers-agree : (e : Edition) (k after : Environment) (label : List ℕ) (whole : Bool) (text : List ℕ) (s : Option Statement) (m : Mentions)
    (rest : List ℕ) (at : Resolution) → kind_of text ≡ REPLACEMENT → read_statement e (is_one_of (numbers_of k)) unresolved label whole text ≡ got s m rest
    → ((x : Mention) → Has x k.names → Has x after.names) → ((x : Mention) → Has x m.used → Has x after.names)
    → OnePurpose after.names
    → sets_number e (is_one_of (numbers_of k)) unresolved (body_of text) ≡ sets_number e (is_one_of (numbers_of after)) at (body_of text)
unfolding sets_number is_one_of numbers_of read_statement statement_form form_of Uses
numbers-agree e k after label whole text s m rest at kind q keeps adds one =
    let bs = body_of text in
    let w = take (name_length bs) bs in
    let equals = begins (bytes "=") (drop (name_length bs) bs) in
    let x : Mention = record { purpose = for_string; name = w } in
    let y : Mention = record { purpose = for_number; name = w } in
    let is_number : List ℕ → Bool = λ n. any (same n) (names_for for_number k.names) in
    tests_agree (is_number w) (any (same w) (names_for for_number after.names)) equals
    (λ h. names_for_lem for_number w after.names ∙ keeps y (sym (names_for_lem for_number w k.names) ∙ h))
    (λ h g.
    let form = uses_string e is_number unresolved bs (ap (λ t. t && equals) h) in
    let used = uses_labelled x (label_form label) whole _ form in
    let known = adds x (subst (Uses x) (rw kind at q) used) in
    string_not_number (one w for_string for_number known (sym (names_for_lem for_number w after.names) ∙ g)))

-- a statement is read alike with any places
alike_read_statement : (e : Edition) (at at' : Resolution) (is_number is_number' : List ℕ → Bool) (label : List ℕ) (whole : Bool) (text : List ℕ)
    → (kind_of text ≡ REPLACEMENT → sets_number e is_number at (body_of text) ≡ sets_number e is_number' at' (body_of text))
    → Alike (SameStep (is_step (kind_of text))) (read_statement e is_number at label whole text) (read_statement e is_number' at' label whole text)
unfolding read_statement statement_form is_step
alike_read_statement e at at' is_number is_number' label whole text agree =
    alike_labelled (label_form label) whole
    (alike_form_of e at at' is_number is_number' (kind_of text) (body_of text) (λ h. agree (same_kind_lem (kind_of text) REPLACEMENT h)))

-- a name in a list stands at a place in it
index_below : (w : List ℕ) (ws : List (List ℕ)) → any (same w) ws ≡ true → index_of w ws < length ws
unfolding index_of any
index_below w [] h = absurd (false≢true h)
index_below w (v ∷ ws) h =
    test_cases (λ t. (elim t [ true ↦ 0 | false ↦ suc (index_of w ws) ]) < suc (length ws)) (same w v) (λ _. omega arith)
    (λ differs. omega (arith, index_below w ws (rw differs at h)))

-- a label's step is below a bound of all, and so is that of no label
step-below : (b : ℕ) (ls : List Label) (n : List ℕ) → 0 < b → Each (LabelBelow b) ls → step_of ls n < b
unfolding step_of Each
step-below b [] n h g = h
step-below b (l ∷ ls) n h g =
    test_cases (λ t. (elim t [ true ↦ l.step | false ↦ step_of ls n ]) < b) (same n l.name) (λ _. g.0) (λ _. step-below b ls n h g.1)

-- a routine's steps are below a bound of all, and so are those of no routine
routine_below : (b : ℕ) (rs : List Routine) (n : List ℕ) → 0 < b → Each (RoutineBelow b) rs → RoutineBelow b (routine_named rs n)
unfolding routine_named Each
routine_below b [] n h g = (h, h)
routine_below b (r ∷ rs) n h g =
    test_cases (λ t. RoutineBelow b (elim t [ true ↦ r | false ↦ routine_named rs n ])) (same n r.name) (λ _. g.0)
    (λ _. routine_below b rs n h g.1)

-- the names of a deck
abbrev pub NamesOf : Environment → Mention → Type 0
NamesOf k x = Has x k.names

-- the counts of a deck
abbrev pub deck_sizes : Environment → Sizes
deck_sizes k = record { strings = length (strings_of k); numbers = length (numbers_of k); steps = k.steps }

-- the places of a deck that passes are below its counts
deck_placed : (k : Environment) (n : ℕ) → 0 < k.steps → TargetsBelow k.steps k → PlacedBy (NamesOf k) (deck_sizes k) (resolution k n)
unfolding resolution strings_of numbers_of
deck_placed k n h t =
    record {
      string = λ w g. index_below w (names_for for_string k.names) (names_for_lem for_string w k.names ∙ g);
      number = λ w g. index_below w (names_for for_number k.names) (names_for_lem for_number w k.names ∙ g);
      label = λ w. step-below k.steps k.labels w h t.labels;
      entry = λ w. (routine_below k.steps k.routines w h t.routines).0;
      exit = λ w. (routine_below k.steps k.routines w h t.routines).1;
    }

-- behind a step that is not END's another comes
next-below : {e : Edition} {after : Environment} {es : List Entry} (k : Environment) (kind : StatementKind) (m : Mentions)
    → Judging e (extend k kind m) es (passed after) → is_inner kind ≡ true → suc k.steps < after.steps
unfolding extend
next-below k kind m j inner =
    let parts = (and-eq-true_iff (is_step kind) (not (same_kind kind END))).0 inner in
    let below = passed_goes_on (not-true (same_kind kind END) parts.1) j in
    rw parts.0 at below

-- a statement that passes is read alike with the places of the deck, each name of which has one purpose
passed_alike : (e : Edition) (after : Environment) → OnePurpose after.names → (k : Environment) (label : List ℕ) (whole : Bool) (text : List ℕ)
    {es : List Entry} (s : Option Statement) (m : Mentions) (rest : List ℕ)
    → read_statement e (is_one_of (numbers_of k)) unresolved label whole text ≡ got s m rest
    → Judging e (extend k (kind_of text) m) es (passed after)
    → Alike (SameStep (is_step (kind_of text))) (got s m rest)
    (read_statement e (is_one_of (numbers_of after)) (resolution after (suc k.steps)) label whole text)
passed_alike e after one k label whole text s m rest q j =
    let at = resolution after (suc k.steps) in
    let is_number = is_one_of (numbers_of after) in
    let keeps : (x : Mention) → Has x k.names → Has x after.names = λ x h. passed_keeps j x (extend_keeps x k (kind_of text) m h) in
    let adds : (x : Mention) → Has x m.used → Has x after.names = λ x h. passed_keeps j x (extend_adds x k (kind_of text) m h) in
    subst (λ r. Alike (SameStep (is_step (kind_of text))) r (read_statement e is_number at label whole text)) q
    (alike_read_statement e unresolved at (is_one_of (numbers_of k)) is_number label whole text
    (λ h. numbers-agree e k after label whole text s m rest at h q keeps adds one))

-- before the first statement no label or routine is known
nothing_below : TargetsBelow 1 empty_environment
unfolding empty_environment Each
nothing_below = record { labels = tt; routines = tt }

-- and no name
nothing_one_purpose : OnePurpose empty_environment.names
unfolding empty_environment any
nothing_one_purpose w p q x y = absurd (false≢true x)

alike_number : {R : Option Statement → Option Statement → Type 0} {x y : Parsed (Option Statement)} (k : Environment) (kind : StatementKind)
    (sound : Bool) → Alike R x y → statement_number k kind sound y ≡ statement_number k kind sound x
unfolding statement_number form_number
alike_number k kind sound (both r) = refl
alike_number k kind sound neither = refl

alike_mentioned : {R : Option Statement → Option Statement → Type 0} {x y : Parsed (Option Statement)} → Alike R x y → mentions_of y ≡ mentions_of x
unfolding mentions_of
alike_mentioned (both r) = refl
alike_mentioned neither = refl

-- what a statement mentions, and its number, are the same with any places
module _ (e : Edition) (is_number : List ℕ → Bool) (at : Resolution) (label : List ℕ) (whole : Bool) (text : List ℕ) where
  anywhere : Alike (SameStep (is_step (kind_of text))) (read_statement e is_number at label whole text)
      (read_statement e is_number unresolved label whole text)
  unfolding sets_number
  anywhere = alike_read_statement e at unresolved is_number is_number label whole text (λ _. refl)

  pub number_anywhere : (k : Environment) (kind : StatementKind) (sound : Bool)
      → statement_number k kind sound (read_statement e is_number unresolved label whole text)
      ≡ statement_number k kind sound (read_statement e is_number at label whole text)
  number_anywhere k kind sound = alike_number k kind sound anywhere

  pub mentions_anywhere : mentions_of (read_statement e is_number unresolved label whole text) ≡ mentions_of (read_statement e is_number at label whole text)
  mentions_anywhere = alike_mentioned anywhere

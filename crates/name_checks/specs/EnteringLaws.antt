-- Names put behind those known in the symbol table, one by one. Assumes nothing.
use Rattle.std.specs.Prelude.{Bool, true, false, cond, ◌||◌, ◌≡◌, refl, ℕ, ◌+◌, ◌≤◌, ◌<◌, get_or, Result, Ok, Err}
use Rattle.std.specs.Bool.{beq}
use Rattle.std.specs.Result.{result_and}
use mathlib.Core.List.{List, [], ◌∷◌, ◌++◌, append-nil}
use Rattle.std.proofs.Common.{sym, ◌∙◌, ap, ap₂, subst, arith}
use Rattle.std.proofs.Math.ListN.{length, set, length-append}
use Rattle.std.proofs.Math.Seq.{get_or-set_same, get_or-set_other}
use Rattle.validation.specs.RefusalNumbers.{judged_number, refusal_number_some}
use Rattle.validation.specs.declared.Refusal.{Refusal}
use Rattle.validation.specs.declared.Refusal.TheVariants.{NameClash}
use Rattle.syntax.specs.Parsing.{Mention}
use Rattle.symbols.specs.declared.known.Names.{Names}
use Rattle.symbols.specs.declared.tags.Purpose.{Purpose}
use Rattle.symbols.specs.declared.tags.Purpose.TheVariants.{Program}
use Rattle.symbols.specs.declared.tags.Tag.{Tag}
use Rattle.symbols.specs.Clauses.{names_room}
use Rattle.symbols.specs.Entries.{NameEntry, entry, tag_purpose, tag_declares, mention_of, declares_name, gather}
use Rattle.symbols.specs.EntryLaws.{gather_append}
use Rattle.symbols.specs.From.{values_from, from_last}
use Rattle.symbols.specs.Holding.{mention_in, names_in}
use Rattle.name_checks.specs.declared.entries.Entries.{Entries}
use Rattle.name_checks.specs.Shown.{entry_count, entry_in, entries_to, entries_in, entries_left}
use Rattle.name_checks.specs.ShownLaws.{names_kept}
use Rattle.name_checks.specs.LoopLaws.{from_parts}
use Rattle.name_checks.specs.NameLaws.{enters-append, conflicts-append}
use Rattle.name_checks.specs.Names.{key_mention, standing, meet, enters, conflicts, chosen_by, chosen_in, Enters}

-- no name, and names behind names
pub enters_none : (names : Names) → Enters names [] names (Ok tt)
unfolding enters conflicts
enters_none names =
    record { clash = refl; so = refl; few = omega arith; more = omega arith; keys_kept = λ i h. refl; purposes_kept = λ i h. refl }

-- the first clash is told
clash_then : (r q : Result (Unit {0}) Refusal) (a b : Bool) → judged_number r ≡ cond a 6 0 → judged_number q ≡ cond b 6 0
    → judged_number (result_and r q) ≡ cond (a || b) 6 0
clash_then (Ok x) q true b e f = absurd (omega (arith, e))
clash_then (Ok x) q false b e f = f
clash_then (Err x) q true b e f = e
clash_then (Err x) q false b e f = absurd (refusal_number_some x e)

pub enters_then : (names names' names'' : Names) (xs ys : List Mention) (r q : Result (Unit {0}) Refusal) → Enters names xs names' r
    → Enters names' ys names'' q → Enters names (xs ++ ys) names'' (result_and r q)
enters_then names names' names'' xs ys r q m w =
    let first = names_in names in
    record {
      clash =
          clash_then r q (conflicts first xs) (conflicts (enters first xs) ys) m.clash (w.clash ∙ ap (λ ns. cond (conflicts ns ys) 6 0) m.so)
          ∙ ap (λ t. cond t 6 0) (sym (conflicts-append first xs ys));
      so = w.so ∙ ap (λ ns. enters ns ys) m.so ∙ sym (enters-append first xs ys);
      few = omega (arith, m.few, w.few, length-append xs ys);
      more = omega (arith, m.more, w.more);
      keys_kept = λ i h. w.keys_kept i (omega (arith, m.more)) ∙ m.keys_kept i h;
      purposes_kept = λ i h. w.purposes_kept i (omega (arith, m.more)) ∙ m.purposes_kept i h;
    }

-- one name: known with its purpose, known with another, new
module _ (names : Names) (key : ℕ) (p : Purpose) where
  abbrev known : List Mention
  known = names_in names

  pub enters-known : standing known (key_mention key p) ≡ 1 → Enters names (key_mention key p ∷ []) names (Ok tt)
  unfolding enters meet conflicts
  enters-known e =
      record { clash = rw e; so = rw e; few = omega arith; more = omega arith; keys_kept = λ i h. refl; purposes_kept = λ i h. refl }

  pub enters-other : standing known (key_mention key p) ≡ 2 → Enters names (key_mention key p ∷ []) names (Err NameClash)
  unfolding enters meet conflicts
  enters-other e =
      record { clash = rw e; so = rw e; few = omega arith; more = omega arith; keys_kept = λ i h. refl; purposes_kept = λ i h. refl }

  abbrev with_name : Names
  with_name = record { keys = set names.keys names.count key; purposes = set names.purposes names.count p; count = names.count + 1 }

  module _ (inside : names.count < length names.keys) (inside' : names.count < length names.purposes) where
    last : names_in with_name ≡ known ++ (key_mention key p ∷ [])
    unfolding names_in mention_in
    last =
        let n = names.count in
        let kept =
        names_kept names.keys names.purposes with_name.keys with_name.purposes 0 n
        (λ j h. get_or-set_other names.keys n j key 0 (λ e. omega arith))
        (λ j h. get_or-set_other names.purposes n j p Program (λ e. omega arith))
        in
        from_last (mention_in with_name.keys with_name.purposes) n
        ∙ ap (λ (l : List Mention). l ++ (key_mention (get_or with_name.keys n 0) (get_or with_name.purposes n Program) ∷ [])) kept
        ∙ ap₂ {C = List Mention} (λ k q. known ++ (key_mention k q ∷ []))
        (get_or-set_same names.keys n key 0 inside) (get_or-set_same names.purposes n p Program inside')

    pub enters_new : standing known (key_mention key p) ≡ 0 → Enters names (key_mention key p ∷ []) with_name (Ok tt)
    unfolding enters meet conflicts
    enters_new e =
        record {
          clash = rw e;
          so = rw e last;
          few = omega arith;
          more = omega arith;
          keys_kept = λ j h. get_or-set_other names.keys names.count j key 0 (λ z. omega arith);
          purposes_kept = λ j h. get_or-set_other names.purposes names.count j p Program (λ z. omega arith);
        }

-- the names of the entries, one by one
module _ (names : Names) (m : Entries) (declared : Bool) where
  abbrev pub chosen_to : ℕ → List Mention
  chosen_to i = chosen_in declared (entries_to m i)

  pub entering_none : Enters names (chosen_to 0) names (Ok tt)
  unfolding values_from gather
  entering_none = enters_none names

  -- the entry that comes at a place
  module _ (names' : Names) (r : Result (Unit {0}) Refusal) (i : ℕ) (n : Enters names (chosen_to i) names' r) (key : ℕ) (tag : Tag)
      (at : (i < entry_count m) × (entry key tag ≡ entry_in m i)) where
    abbrev f : NameEntry → List Mention
    f = chosen_by declared

    done : chosen_to (i + 1) ≡ chosen_to i ++ f (entry key tag)
    unfolding gather
    done =
        ap (gather f) (from_last (entry_in m) i ∙ ap (λ (x : NameEntry). entries_to m i ++ (x ∷ [])) (sym at.1))
        ∙ gather_append f (entries_to m i) (entry key tag ∷ [])
        ∙ ap (λ (l : List Mention). chosen_to i ++ l) (append-nil (f (entry key tag)))

    -- it is chosen
    module _ (e : beq (tag_declares tag) declared ≡ true) where
      abbrev it : Mention
      it = key_mention key (tag_purpose tag)

      is : f (entry key tag) ≡ it ∷ []
      unfolding chosen_by entry mention_of declares_name
      is = rw e

      next : chosen_to i ++ (it ∷ []) ≡ chosen_to (i + 1)
      next = sym (done ∙ ap (λ (l : List Mention). chosen_to i ++ l) is)

      pub entering_room : names.count + length (chosen_in declared (entries_in m)) ≤ names_room → names'.count < names_room
      entering_room room =
          let left = chosen_in declared (entries_left m (i + 1)) in
          let all : chosen_to (i + 1) ++ left ≡ chosen_in declared (entries_in m) =
          sym (gather_append f (entries_to m (i + 1)) (entries_left m (i + 1)))
          ∙ ap (gather f) (from_parts (entry_in m) (entry_count m) (i + 1) (omega (arith, at.0)))
          in
          let these = sym (ap length next) ∙ length-append (chosen_to i) (it ∷ []) in
          let those = sym (ap length all) ∙ length-append (chosen_to (i + 1)) left in
          omega (arith, n.few)

      pub entering_one : (names'' : Names) (q : Result (Unit {0}) Refusal) → Enters names' (it ∷ []) names'' q
          → Enters names (chosen_to (i + 1)) names'' (result_and r q)
      entering_one names'' q w =
          subst (λ l. Enters names l names'' (result_and r q)) next (enters_then names names' names'' (chosen_to i) (it ∷ []) r q n w)

    pub entering_other : beq (tag_declares tag) declared ≡ false → Enters names (chosen_to (i + 1)) names' r
    unfolding chosen_by entry declares_name
    entering_other e =
        let none : f (entry key tag) ≡ [] = rw e in
        subst (λ l. Enters names l names' r) (sym (done ∙ ap (λ (l : List Mention). chosen_to i ++ l) none ∙ append-nil (chosen_to i))) n

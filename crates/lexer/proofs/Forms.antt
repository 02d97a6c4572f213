-- Names, constants and kinds of statements by the tests that the code makes. Assumes nothing.
use mathlib.Core.Bool.{true, false, ◌&&◌, true≢false}
use lib.Dec.{leb, ltb}
use denote.Ref.{Bor}
use mathlib.Core.List.{List, [], ◌∷◌, ◌++◌, map}
use mathlib.Core.Path.{◌≡◌, refl, sym, ap, subst, ◌∙◌}
use Prim.Native.Nat.{ℕ, ◌+◌, ◌≤◌, ◌<◌}
use lib.ListN.{length, take, drop, get_or}
use lib.Seq.{drop-drop}
use native.Mathlib.Omega.{arith}
use borrow.Author.Tests.{le-leb, lt-leb, lt-ltb, le-ltb, leb-true, leb-false}
use Rattle.std.specs.Prelude.{Option, Some, None}
use Rattle.std.specs.Bool.{then_some}
use Rattle.base.specs.Choice.{test_cases}
use Rattle.std.proofs.lemmas.List.{map-append}
use Rattle.base.specs.Current.{current, limit}
use Rattle.base.specs.Lists.{begins}
use Rattle.base.specs.Text.{bytes}
use Rattle.cards.specs.Bytes.{between, is_letter, is_digit, is_name_byte}
use Rattle.numbers.specs.Laws.{small_is, not_small}
use Rattle.numbers.specs.Numbers.{if_small}
use Rattle.syntax.specs.Keywords.{StatementKind, Leading, REPLACEMENT, UNKNOWN, longest, keywords, leading, bound_length, is_replacement}
use Rattle.syntax.specs.Parsing.{broken, succeed}
use Rattle.syntax.specs.Lexemes.{run_length, name_length, decimal_from, unsigned}
use Rattle.lexer.specs.Kinds.{kind_of, leads}
use Rattle.lexer.specs.Places.{CountedBytes, NameFound, BoundFound}
use Rattle.lexer.specs.declared.keywords.Keyword.{Keyword}
use Rattle.lexer.specs.declared.keywords.Kind.{Kind}

-- names, constants and replacements in front of the bytes
module _ (bs : List ℕ) where
  -- no letter, a name, and more bytes than one has
  pub name_none : is_letter (get_or bs 0 0) ≡ false → 0 ≡ name_length bs
  unfolding name_length
  name_none e = rw (name_length, e)

  module _ (n : ℕ) (e : n ≡ run_length is_name_byte bs) (letter : is_letter (get_or bs 0 0) ≡ true) where
    name-is : n ≤ 8 → n ≡ name_length bs
    unfolding name_length
    name-is h = rw (name_length, letter, ← e, le-leb n 8 h)

    name_long : 8 < n → 0 ≡ name_length bs
    unfolding name_length
    name_long h = rw (name_length, letter, ← e, lt-leb n 8 h)

  -- what may stand behind `$`
  pub bound-digits : (n : ℕ) → n ≡ run_length is_digit bs → 1 ≤ n → n ≡ bound_length bs
  unfolding bound_length
  bound-digits n e h = rw (bound_length, ← e, le-leb 1 n h)

  pub bound-name : (n m : ℕ) → n ≡ run_length is_digit bs → n < 1 → m ≡ name_length bs → m ≡ bound_length bs
  unfolding bound_length
  bound-name n m e h name = rw (bound_length, ← e, lt-leb 1 n h, ← name)

  -- a constant: no digits, a value above the limit, and one in range
  pub unsigned_none : (n : ℕ) → n ≡ run_length is_digit bs → n ≡ 0 → broken ≡ unsigned current bs
  unfolding unsigned
  unsigned_none n e z = rw (unsigned, ← e, z)

  module _ (n : ℕ) (e : n ≡ run_length is_digit bs) (some : 1 ≤ n) where
    pub unsigned_above : if_small (decimal_from 0 (take n bs)) ≡ None → broken ≡ unsigned current bs
    unfolding unsigned current
    unsigned_above h = rw (unsigned, ← e, le-leb 1 n some, lt-leb (decimal_from 0 (take n bs)) limit (not_small _ h))

    pub unsigned_is : {v : ℕ} → if_small (decimal_from 0 (take n bs)) ≡ Some v → succeed v (drop n bs) ≡ unsigned current bs
    unfolding unsigned current
    unsigned_is {v} h =
        let small = small_is h in
        rw (unsigned, ← e, le-leb 1 n some, ← small.0, le-leb v limit small.1) (rw (← e, ← small.0))

  -- a replacement, by the tests in their order
  pub no_name : 0 ≡ name_length bs → false ≡ is_replacement bs
  unfolding is_replacement
  no_name e = rw (is_replacement, ← e)

  module _ (n : ℕ) (name : n ≡ name_length bs) (some : 1 ≤ n) where
    pub replaces : true ≡ begins (61 ∷ []) (drop n bs) → true ≡ is_replacement bs
    unfolding is_replacement bytes
    replaces e = rw (is_replacement, ← name, le-leb 1 n some, ← e)

    module _ (other : false ≡ begins (61 ∷ []) (drop n bs)) where
      pub no_bound : false ≡ begins (36 ∷ []) (drop n bs) → false ≡ is_replacement bs
      unfolding is_replacement bytes
      no_bound e = rw (is_replacement, ← name, le-leb 1 n some, ← other, ← e)

      module _ (dollar : true ≡ begins (36 ∷ []) (drop n bs)) where
        pub bad_bound : 0 ≡ bound_length (drop (n + 1) bs) → false ≡ is_replacement bs
        unfolding is_replacement bytes
        bad_bound e = rw (is_replacement, ← name, le-leb 1 n some, ← other, ← dollar, drop-drop 1 n bs, ← e)

        pub bound_replaces : (m : ℕ) → m ≡ bound_length (drop (n + 1) bs) → 1 ≤ m → begins (61 ∷ []) (drop (n + 1 + m) bs) ≡ is_replacement bs
        unfolding is_replacement bytes
        bound_replaces m bound h =
            rw (is_replacement, ← name, le-leb 1 n some, ← other, ← dollar, drop-drop 1 n bs, ← bound, le-leb 1 m h, drop-drop)

-- a run of letters and digits that begins with a letter has one, and is a name if it isn't too long
no_byte : is_letter 0 ≡ false
unfolding is_letter between
no_byte = refl

run_some : (bs : List ℕ) → is_letter (get_or bs 0 0) ≡ true → 1 ≤ run_length is_name_byte bs
unfolding run_length is_name_byte
run_some [] e = absurd (true≢false (sym e ∙ no_byte))
run_some (b ∷ bs) e =
    let letter : is_letter b ≡ true = e in
    let passes : is_name_byte b ≡ true = rw letter in
    rw (run_length, passes) (omega arith)

module _ (text : List ℕ) (at n : ℕ) where
  pub name_of_letters : CountedBytes text at (run_length is_name_byte (drop at text)) n → is_letter (get_or (drop at text) 0 0) ≡ true
      → {r : Option ℕ} → r ≡ then_some (leb n 8) n → NameFound text at r
  name_of_letters a first e =
      subst (NameFound text at) (sym e)
      (test_cases (λ t. NameFound text at (then_some t n)) (leb n 8)
      (λ s.
      let h = leb-true n 8 s in
      (record { is = name-is (drop at text) n a.is first h; short = h; inside = a.inside }, omega (arith, a.is, run_some (drop at text) first)))
      (λ s. record { is = name_long (drop at text) n a.is first (leb-false n 8 s); short = omega arith; inside = omega arith }))

  -- what may stand behind `$`, where no digit does
  pub bound_named : (r : Option ℕ) → n ≡ run_length is_digit (drop at text) → n < 1 → NameFound text at r → BoundFound text at r
  bound_named (Some m) e h a = (record { is = bound-name (drop at text) n m e h a.0.is; inside = a.0.inside }, a.1)
  bound_named None e h a = record { is = bound-name (drop at text) n 0 e h a.is; inside = a.inside }

-- the longest keyword: one more, and those behind it
module _ (w : List ℕ) (k : StatementKind) (bs : List ℕ) (best : Leading) where
  pub longest-other : begins w bs ≡ false → best ≡ longest ((w, k) ∷ []) bs best
  unfolding longest
  longest-other e = rw (longest, e)

  pub longest_kept : (begins w bs && ltb best.size (length w)) ≡ false → best ≡ longest ((w, k) ∷ []) bs best
  unfolding longest
  longest_kept e = rw (longest, e)

  pub longest_new : begins w bs ≡ true → best.size < length w → record { kind = k; size = length w } ≡ longest ((w, k) ∷ []) bs best
  unfolding longest
  longest_new e h = rw (longest, e, lt-ltb best.size (length w) h)

  pub longest_old : begins w bs ≡ true → length w ≤ best.size → best ≡ longest ((w, k) ∷ []) bs best
  unfolding longest
  longest_old e h = rw (longest, e, le-ltb best.size (length w) h)

longest_last : (ks : List (List ℕ × StatementKind)) (a : List ℕ × StatementKind) (bs : List ℕ) (r : Leading) {s t : Leading} → s ≡ longest ks bs r
    → t ≡ longest (a ∷ []) bs s → t ≡ longest (ks ++ a ∷ []) bs r
unfolding longest
longest_last [] a bs r e f = f ∙ ap (longest (a ∷ []) bs) e
longest_last (k ∷ ks) a bs r e f = longest_last ks a bs (longest (k ∷ []) bs r) e f

-- an entry of the code's table of keywords
abbrev pub entry : Bor (List ℕ) × Kind → List ℕ × StatementKind
entry k = (k.0.now, kind_of k.1)

pub longest_more : (ks : List (Bor (List ℕ) × Kind)) (k : Bor (List ℕ) × Kind) (bs : List ℕ) (r s t : Keyword) → leads s ≡ longest (map entry ks) bs (leads r)
    → leads t ≡ longest (entry k ∷ []) bs (leads s) → leads t ≡ longest (map entry (ks ++ k ∷ [])) bs (leads r)
longest_more ks k bs r s t e f =
    longest_last (map entry ks) (entry k) bs (leads r) e f
    ∙ ap (λ l. longest l bs (leads r)) (sym (map-append entry ks (k ∷ [])))

pub leading-replacement : (bs : List ℕ) → is_replacement bs ≡ true → record { kind = REPLACEMENT; size = 0 } ≡ leading bs
unfolding leading
leading-replacement bs e = rw (leading, e)

pub leading_keyword : (bs : List ℕ) → is_replacement bs ≡ false
    → longest keywords bs (record { kind = UNKNOWN; size = 0 }) ≡ leading bs
unfolding leading
leading_keyword bs e = rw (leading, e)

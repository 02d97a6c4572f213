-- One turn of a loop over joined forms, for terms and factors alike: a form is read, what waited is written, and the next operator waits.
-- Assumes nothing.
use Rattle.std.specs.Prelude.{Option, Some, None, is_some, Bool, true, false, ◌≡◌, refl, ℕ, ◌+◌, ◌-◌, ◌≤◌, ◌<◌, drop}
use mathlib.Core.List.{List, [], ◌∷◌, ◌++◌, append_assoc, append-nil}
use Rattle.std.proofs.Math.Path.{sym, ap}
use Rattle.std.proofs.Common.{subst, ◌∙◌, add-zero, arith}
use Rattle.std.proofs.Math.ListN.{length, length-append}
use Rattle.base.specs.Current.{current}
use Rattle.syntax.specs.Fuel.{Reader, More, expression_from, more_terms_from, term_from, more_factors_from, factor_from}
use Rattle.syntax.specs.Fuel.{expression_by, expression_is, more_terms_by, more_terms_is, term_by, term_is, more_factors_by, more_factors_is}
use Rattle.syntax.specs.Program.{Item, Operator, operator}
use Rattle.syntax.specs.Parsing.{Mentions, no_mentions, one_item, succeed, merge_mentions, Parsed, got, broken, ◌>>=◌, mentioning}
use Rattle.syntax.specs.Lexemes.{Resolution}
use Rattle.symbols.specs.Bounds.{far_enough}
use Rattle.symbols.specs.Entries.{gather, mentions_in}
use Rattle.symbols.specs.EntryLaws.{mentions_both}
use Rattle.symbols.specs.Items.{with_items, items-append}
use Rattle.symbols.specs.ParsingLaws.{mentioning_nothing}
use Rattle.symbols.specs.declared.Cursor.{Cursor}
use Rattle.symbols.specs.declared.Mentioned.{Mentioned}
use Rattle.card_reader.specs.Letters.{letters, letters_on}
use Rattle.numeric_parser.specs.Joins.{waited, Joins, WaitedRead, Joining}
use Rattle.numeric_parser.specs.declared.Mark.{Mark}
use Rattle.numeric_parser.specs.Kinds.{SignAt, OperatorAt, SumAt, ProductAt, ItemsPut}
use Rattle.numeric_parser.specs.KindLaws.{items_case, items_none, waiting_one}
use Rattle.numeric_parser.specs.OperandLaws.{noting_more, noting_none, onward_none, ready_on, ready_here, chosen}
use Rattle.numeric_parser.specs.Operands.{cursor_moved, ReaderReady}
use Rattle.numeric_parser.specs.Reads.{GetsItems, ItemsRead, waiting}

-- nothing more is read
nothing_read : (before : List Item) {text table : List ℕ} {m : Mentioned} {c : Cursor} → ReaderReady text c
    → GetsItems before text table m c (succeed before (drop c.at text)) table m c
unfolding succeed no_mentions mentions_in gather with_items
nothing_read before {text} {table} {m} {c} ready =
    record {
      items = [];
      entries = [];
      is = ap (λ (l : List Item). got l (mentions_in [] 0 [] 0) (drop c.at text)) (sym (append-nil before));
      written = refl;
      noting = noting_none c.names;
      goes = onward_none c;
      ready = ready;
      few = omega arith;
      short = omega arith;
    }

module _ (one : Reader) (more : More) (ps before : List Item) where
  -- a broken form breaks what it stands in
  waited_broken : (bs : List ℕ) → one bs ≡ broken → waited one more ps before bs ≡ broken
  unfolding ◌>>=◌ mentioning
  waited_broken bs h =
      ap (λ (z : Parsed (List Item)). mentioning (mentions_in [] (length ps) [] 0) (z >>= λ (u, rest). more (before ++ (u ++ ps)) rest)) h

  -- a form is read, ps are written, then more is read
  module _ (c : Cursor) {text table : List ℕ} {m : Mentioned} {t₁ : List ℕ} {m₁ : Mentioned} {d : Cursor}
      (a : GetsItems [] text table m (cursor_moved c (length ps)) (one (drop (c.at + length ps) text)) t₁ m₁ d) where
    waited_then : (r : Parsed (List Item)) → more (before ++ (a.items ++ ps)) (drop d.at text) ≡ r
        → waited one more ps before (drop (c.at + length ps) text)
        ≡ mentioning (mentions_in [] (length ps) [] 0) (mentioning (mentions_in a.entries (length a.items) [] 0) r)
    unfolding ◌>>=◌ mentioning
    waited_then r e =
        ap (λ (z : Parsed (List Item)). mentioning (mentions_in [] (length ps) [] 0) (z >>= λ (u, rest). more (before ++ (u ++ ps)) rest)) a.is
        ∙ ap (λ (z : Parsed (List Item)). mentioning (mentions_in [] (length ps) [] 0) (mentioning (mentions_in a.entries (length a.items) [] 0) z)) e

    waited-read : {t₂ : List ℕ} {e : Cursor} → ItemsPut t₁ d ps t₂ e → (r : Option Cursor)
        → {t₃ : List ℕ} {m₂ : Mentioned}
        → ItemsRead (before ++ (a.items ++ ps)) text t₂ m₁ e (more (before ++ (a.items ++ ps)) (drop e.at text)) r t₃ m₂
        → ItemsRead before text table m c (waited one more ps before (drop (c.at + length ps) text)) r t₃ m₂
    unfolding mentioning
    waited-read {t₂} {e} put (Some f) b =
        let q = b.answer in
        let us = a.items in
        let n = length ps in
        let on = put.goes in
        let behind = ap (λ j. more (before ++ (us ++ ps)) (drop j text)) (sym put.at) in
        let size = length-append (us ++ ps) q.items in
        let size' = length-append us ps in
        let names = length-append a.entries q.entries in
        let place : d.items ≡ c.items + length us = a.goes.items in
        let next : e.items ≡ c.items + length (us ++ ps) = omega (arith, on) in
        record {
          answer =
              record {
                items = (us ++ ps) ++ q.items;
                entries = a.entries ++ q.entries;
                is =
                    waited_then _ (behind ∙ q.is)
                    ∙ ap (λ (m : Mentions). got ((before ++ (us ++ ps)) ++ q.items) m (drop f.at text))
                    (ap (merge_mentions (mentions_in [] n [] 0)) (mentions_both a.entries q.entries (length us) (length q.items) [] [] 0 0)
                    ∙ mentions_both [] (a.entries ++ q.entries) n (length us + length q.items) [] [] 0 0
                    ∙ ap (λ j. mentions_in (a.entries ++ q.entries) j [] 0) (omega arith))
                    ∙ ap (λ (l : List Item). got l (mentions_in (a.entries ++ q.entries) (length ((us ++ ps) ++ q.items)) [] 0) (drop f.at text))
                    (append_assoc before (us ++ ps) q.items);
                written =
                    q.written
                    ∙ ap (λ (l : List ℕ). with_items l e.items q.items)
                    (put.written ∙ ap (λ (l : List ℕ). with_items l d.items ps) a.written
                    ∙ ap (λ j. with_items (with_items table c.items us) j ps) place
                    ∙ sym (items-append table c.items us ps))
                    ∙ ap (λ j. with_items (with_items table c.items (us ++ ps)) j q.items) next
                    ∙ sym (items-append table c.items (us ++ ps) q.items);
                noting = noting_more (omega (arith, a.goes, on)) a.noting q.noting;
                goes =
                    record {
                      names = omega (arith, a.goes, on, q.goes);
                      items = omega (arith, a.goes, on, q.goes);
                      elements = q.goes.elements ∙ on.elements ∙ a.goes.elements;
                      literals = q.goes.literals ∙ on.literals ∙ a.goes.literals;
                      longest = q.goes.longest ∙ on.longest ∙ a.goes.longest;
                    };
                ready = q.ready;
                few =
                    omega
                    (arith, a.few, q.few, ap (λ i. letters (drop i text)) put.at, letters_on text c.at (c.at + n) (omega arith));
                short = omega (arith, a.short, q.short, put.at);
              };
        }
    waited-read put None b =
        record {
          answer = waited_then broken (ap (λ j. more (before ++ (a.items ++ ps)) (drop j text)) (sym put.at) ∙ b.answer);
        }

-- a loop begins, where there is room for what waits
pub joining_begins : {one : Reader} {more : More} {text table : List ℕ} {m : Mentioned} {mark : Option Mark} {d : Cursor} → ReaderReady text d
    → d.items + length (waiting mark) + length text ≤ far_enough + d.at → Joining one more text table m mark d table m mark d
joining_begins ready room =
    record { later = omega arith; ready = ready; room = room; goes = λ r p. p }

-- and behind the sign of the first term
pub joining_signed : {one : Reader} {more : More} {text table : List ℕ} {m : Mentioned} {c : Cursor} {mark : Option Mark} {n : ℕ} {d : Cursor}
    → ReaderReady text c → SignAt text c.at mark → n ≡ length (waiting mark) → d ≡ cursor_moved c n
    → Joining one more text table m mark d table m mark d
joining_signed {text = text} {n = n} ready s size skips =
    let inside = s.inside ready.inside in
    let at = ap (λ (z : Cursor). z.at) skips in
    let items = ap (λ (z : Cursor). z.items) skips in
    joining_begins (ready_on n ready skips (omega (arith, inside, size)))
    (omega (arith, at, items, size, ready.items))

-- a turn: a form is read
module _ {one : Reader} {more : More} {text table₀ : List ℕ} {m₀ : Mentioned} {mark₀ : Option Mark} {d₀ : Cursor} {table : List ℕ}
    {m : Mentioned} {mark : Option Mark} {d : Cursor} (i : Joining one more text table₀ m₀ mark₀ d₀ table m mark d) {r₁ : Option Cursor}
    {t₁ : List ℕ} {m₁ : Mentioned} (a : ItemsRead [] text table m d (one (drop d.at text)) r₁ t₁ m₁) where
  pub joining_broken : r₁ ≡ None → {r : Option Cursor} → r ≡ None → {t : List ℕ} {m₂ : Mentioned}
      → WaitedRead one more text table₀ m₀ mark₀ d₀ r t m₂
  joining_broken e none {t} {m₂} =
      subst (λ z. WaitedRead one more text table₀ m₀ mark₀ d₀ z t m₂) (sym none) (i.goes None (λ c at before.
      record {
        answer =
            waited_broken one more (waiting mark) before (drop (c.at + length (waiting mark)) text)
            (ap (λ (z : Cursor). one (drop z.at text)) (sym at) ∙ items_none a e);
      }))

  module _ {e : Cursor} (is : r₁ ≡ Some e) {t₂ : List ℕ} {f : Cursor} (put : ItemsPut t₁ e (waiting mark) t₂ f) where
    -- what waited is written, and more is read
    joining_more : (r : Option Cursor) {t : List ℕ} {m₂ : Mentioned}
        → ((before : List Item) → ItemsRead before text t₂ m₁ f (more before (drop f.at text)) r t m₂)
        → WaitedRead one more text table m mark d r t m₂
    joining_more r b c at before =
        let x =
        subst (λ (z : Cursor). GetsItems [] text table m z (one (drop z.at text)) t₁ m₁ e) at (items_case a is) in
        waited-read one more (waiting mark) before c x put r (b _)

    pub ready_behind : ReaderReady text f
    ready_behind =
        let x = items_case a is in
        ready_here x.ready put.at (omega (arith, put.goes)) (omega (arith, i.room, x.goes, x.short, put.goes, put.at))
        (omega (arith, x.ready, put.goes, put.at)) (omega (arith, x.ready, put.goes, put.at))

    -- by the operator behind the form
    module _ {mark' : Option Mark} (o : Joins one more text f.at mark') where
      pub joining_ends : is_some mark' ≡ false → WaitedRead one more text table₀ m₀ mark₀ d₀ (Some f) t₂ m₁
      joining_ends none =
          i.goes (Some f) (joining_more (Some f) (λ before.
          record {
            answer = subst (λ y. GetsItems before text t₂ m₁ f y t₂ m₁ f) (sym (o.ends none before)) (nothing_read before ready_behind);
          }))

      module _ (some : is_some mark' ≡ true) {d' : Cursor} (skips : d' ≡ cursor_moved f 1) where
        pub joining_again : Joining one more text table₀ m₀ mark₀ d₀ t₂ m₁ mark' d'
        joining_again =
            let x = items_case a is in
            let at = ap (λ (z : Cursor). z.at) skips in
            let items = ap (λ (z : Cursor). z.items) skips in
            record {
              later = omega (arith, i.later, x.short, put.at, at);
              ready = ready_on 1 ready_behind skips (omega (arith, o.further some));
              room = omega (arith, at, items, ready_behind.items, waiting_one mark' some);
              goes =
                  λ r {t} {m'} p.
                  i.goes r (joining_more r (λ before.
                  subst (λ y. ItemsRead before text t₂ m₁ f y r t m') (sym (o.goes some before))
                  (p f (skips ∙ ap (cursor_moved f) (waiting_one mark' some)) before)));
            }

        pub joining_less : length text - d'.at < length text - d.at
        joining_less =
            let x = items_case a is in
            let at = ap (λ (z : Cursor). z.at) skips in
            omega (arith, at, x.short, put.at, o.further some)

-- the operators that join forms
operator_joins : {one : Reader} {more : More} {text : List ℕ} {at : ℕ} {mark : Option Mark} {test : Bool} {x : Parsed Operator}
    → ((before : List Item)
    → more before (drop at text)
    ≡ elim test [
      | true ↦ x >>= λ (o, rest). one rest >>= λ (u, rest). more (before ++ (u ++ (operator o ∷ []))) rest
      | false ↦ succeed before (drop at text)
    ])
    → OperatorAt test x text at mark → Joins one more text at mark
unfolding ◌>>=◌ mentioning one_item mentions_in gather
operator_joins {one} {more} {text} {at} is s =
    record {
      ends = λ e before. is before ∙ chosen _ _ (s.none e);
      goes =
          λ h before.
          let o = s.stands h in
          is before ∙ chosen _ _ (s.sign h)
          ∙ ap (λ (z : Parsed Operator). z >>= λ (o, rest). one rest >>= λ (u, rest). more (before ++ (u ++ (operator o ∷ []))) rest) o.is
          ∙ ap (λ (l : List Item). waited one more l before (drop (at + length l) text)) (sym o.waits);
      further = λ h. (s.stands h).further;
    }

module _ (p : Resolution) (depth : ℕ) {text : List ℕ} {at : ℕ} {mark : Option Mark} where
  pub sum-joins : SumAt text at mark → Joins (term_from current p depth) (more_terms_from current p depth) text at mark
  unfolding more_terms_by
  sum-joins = operator_joins (more_terms_is current p depth (drop at text))

  pub product-joins : ProductAt text at mark → Joins (factor_from current p depth) (more_factors_from current p depth) text at mark
  unfolding more_factors_by
  product-joins = operator_joins (more_factors_is current p depth (drop at text))

-- an expression is terms joined, the first with its sign
pub expression_joined : (p : Resolution) (depth : ℕ) {text table : List ℕ} {m : Mentioned} (c : Cursor) {mark : Option Mark} {n : ℕ} {d : Cursor}
    {r : Option Cursor} {t : List ℕ} {m₁ : Mentioned} → SignAt text c.at mark → n ≡ length (waiting mark) → d ≡ cursor_moved c n
    → WaitedRead (term_from current p depth) (more_terms_from current p depth) text table m mark d r t m₁
    → ItemsRead [] text table m c (expression_from current p depth (drop c.at text)) r t m₁
unfolding expression_by ◌>>=◌
expression_joined p depth {text} {table} {m} c {r = r} {t} {m₁} s size skips w =
    subst (λ y. ItemsRead [] text table m c y r t m₁)
    (sym
    (expression_is current p depth (drop c.at text)
    ∙ ap
    (λ (z : Parsed (List Item)).
    z >>= λ (s, rest). term_from current p depth rest >>= λ (u, rest). more_terms_from current p depth (u ++ s) rest)
    s.is))
    (w c (skips ∙ ap (cursor_moved c) size) [])

-- nothing was mentioned before what is read
none_mentioned : {A : Type 0} (x : Parsed A) → x ≡ mentioning (mentions_in [] 0 [] 0) x
unfolding mentions_in gather no_mentions
none_mentioned x = sym (mentioning_nothing x)

-- nothing waits for the first form
first_waits : (more : More) (x : Parsed (List Item))
    → (x >>= λ (u, rest). more u rest) ≡ mentioning (mentions_in [] 0 [] 0) (x >>= λ (u, rest). more (u ++ []) rest)
unfolding ◌>>=◌
first_waits more (got u m rest) =
    none_mentioned (mentioning m (more u rest))
    ∙ ap (λ (l : List Item). mentioning (mentions_in [] 0 [] 0) (mentioning m (more l rest))) (sym (append-nil u))
first_waits more broken = none_mentioned broken

-- a cursor moved by nothing
moved_none : (c : Cursor) → c ≡ cursor_moved c 0
moved_none c =
    λ t.
    record {
      at = sym (add-zero c.at) t;
      names = c.names;
      items = c.items;
      elements = c.elements;
      literals = c.literals;
      longest = c.longest;
    }

-- a term is factors joined
pub term_joined : (p : Resolution) (depth : ℕ) {text table : List ℕ} {m : Mentioned} (c : Cursor) {r : Option Cursor} {t : List ℕ} {m₁ : Mentioned}
    → WaitedRead (factor_from current p depth) (more_factors_from current p depth) text table m None c r t m₁
    → ItemsRead [] text table m c (term_from current p depth (drop c.at text)) r t m₁
unfolding term_by
term_joined p depth {text} {table} {m} c {r} {t} {m₁} w =
    subst (λ y. ItemsRead [] text table m c y r t m₁)
    (sym
    (term_is current p depth (drop c.at text)
    ∙ first_waits (more_factors_from current p depth) (factor_from current p depth (drop c.at text))
    ∙ ap (λ j. waited (factor_from current p depth) (more_factors_from current p depth) [] [] (drop j text)) (sym (add-zero c.at))))
    (w c (moved_none c) [])

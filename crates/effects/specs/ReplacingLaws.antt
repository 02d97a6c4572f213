-- Laws of a scan's replacement: it is a stretch of the string searched that is set, in either direction. Assumes nothing.
use Rattle.std.specs.Prelude.{List, ◌++◌, reverse, ◌≡◌, ℕ, ◌+◌, ◌-◌, ◌≤◌, ◌<◌, ℤ, length, take, drop}
use Rattle.std.proofs.Common.{append_assoc, sym, ap, ap₂, ◌∙◌, arith, length-append, length-drop, take-append-drop, drop_at, take_all, take_at}
use Rattle.std.proofs.lemmas.List.{reverse-append, reverse-reverse, length-reverse, drop-append-le, take-append-le}
use Rattle.std.proofs.Math.Option.{some}
use Rattle.std.proofs.Math.Seq.{drop-append-add, take-append-add}
use Rattle.std.proofs.lemmas.Bool.{lt-leb}
use Rattle.base.specs.Edition.{Edition}
use Rattle.base.specs.Lists.{total}
use Rattle.store.specs.Clauses.{string_of, string_replaced}
use Rattle.evaluator.specs.Values as Values
use Rattle.syntax.specs.Program as Program
use Rattle.syntax.specs.Program.{Direction, forward, backward}
use Rattle.machine.specs.Expressions.{string_in}
use Rattle.machine.specs.Scanning as Scanning
use Rattle.machine.specs.Scanning.{Searched, replacing, storing, turned}
use Rattle.machine.specs.State.{Memory}
use Rattle.scanning.specs.Splits.{Split}
use Rattle.values.specs.Conversion.{longest_string}
use Rattle.values.specs.Result.{Result, stop, with_notes, ◌>>=◌}
use Rattle.effects.specs.Leaving.{memory_of, BufferSpells}

-- a stretch of the middle of three lists
middle : (p r q v : List ℕ) (s e : ℕ) → s ≤ e → e ≤ length r
    → p ++ ((take s r ++ (v ++ drop e r)) ++ q) ≡ string_replaced (p ++ (r ++ q)) (length p + s) (length p + e) v
middle p r q v s e h k =
    let front : take (length p + s) (p ++ (r ++ q)) ≡ p ++ take s r =
    take-append-add p (r ++ q) s ∙ ap (λ (l : List ℕ). p ++ l) (take-append-le s r q (omega arith)) in
    let back : drop (length p + e) (p ++ (r ++ q)) ≡ drop e r ++ q = drop-append-add p (r ++ q) e ∙ drop-append-le e r q k in
    rw (front, back) (simp append_assoc)

-- a list turned round, cut, and turned back
module _ (r : List ℕ) (n : ℕ) (h : n ≤ length r) where
  cut : reverse r ≡ reverse (drop (length r - n) r) ++ reverse (take (length r - n) r)
  cut =
      ap reverse (sym (take-append-drop (length r - n) r)) ∙ reverse-append (take (length r - n) r) (drop (length r - n) r)

  tail_size : length (reverse (drop (length r - n) r)) ≡ n
  tail_size = length-reverse (drop (length r - n) r) ∙ length-drop (length r - n) r ∙ omega arith

  front-turned : reverse (take n (reverse r)) ≡ drop (length r - n) r
  front-turned =
      ap (λ (l : List ℕ). reverse (take n l)) cut
      ∙ ap reverse (take_at (reverse (drop (length r - n) r)) (reverse (take (length r - n) r)) n tail_size)
      ∙ reverse-reverse (drop (length r - n) r)

  back-turned : reverse (drop n (reverse r)) ≡ take (length r - n) r
  back-turned =
      ap (λ (l : List ℕ). reverse (drop n l)) cut
      ∙ ap reverse (drop_at (reverse (drop (length r - n) r)) (reverse (take (length r - n) r)) n tail_size)
      ∙ reverse-reverse (take (length r - n) r)

-- what is replaced in a list turned round is replaced, turned, in the list
turned_replaced : (r v : List ℕ) (s e : ℕ) → s ≤ e → e ≤ length r
    → reverse (take s (reverse r) ++ (v ++ drop e (reverse r))) ≡ take (length r - e) r ++ (reverse v ++ drop (length r - s) r)
turned_replaced r v s e h k =
    reverse-append (take s (reverse r)) (v ++ drop e (reverse r))
    ∙ ap₂ {C = List ℕ} ◌++◌ (reverse-append v (drop e (reverse r))) (front-turned r s (omega arith))
    ∙ ap (λ (l : List ℕ). (l ++ reverse v) ++ drop (length r - s) r) (back-turned r e k)
    ∙ append_assoc (take (length r - e) r) (reverse v) (drop (length r - s) r)

-- the bytes of the string searched where the pieces of a split lay
abbrev pub found_from : Direction → (before reference start total : ℕ) → ℕ
found_from forward before reference start total = before + start
found_from backward before reference start total = before + (reference - (start + total))

abbrev pub found_to : Direction → (before reference start total : ℕ) → ℕ
found_to forward before reference start total = before + (start + total)
found_to backward before reference start total = before + (reference - start)

-- the reference replaced and turned back, with what lies around it
replaced_found : (d : Direction) (p r q v : List ℕ) (s : Split) → s.start + total (λ l. l) s.lengths ≤ length r
    → p ++ (turned d (Scanning.with_replaced (turned d r) s v) ++ q)
    ≡ string_replaced (p ++ (r ++ q)) (found_from d (length p) (length r) s.start (total (λ l. l) s.lengths))
    (found_to d (length p) (length r) s.start (total (λ l. l) s.lengths)) (turned d v)
unfolding turned Scanning.with_replaced
replaced_found forward p r q v s h = middle p r q v s.start (s.start + total (λ l. l) s.lengths) (omega arith) h
replaced_found backward p r q v s h =
    let n = total (λ l. l) s.lengths in
    ap (λ (l : List ℕ). p ++ (l ++ q)) (turned_replaced r v s.start (s.start + n) (omega arith) h)
    ∙ middle p r q (reverse v) (length r - (s.start + n)) (length r - s.start) (omega arith) (omega arith)

-- so a replacement stores the string with that stretch set
pub replacing-found : (e : Edition) (d : Direction) (x : Searched) (s : Split) (xs : List Program.Element) (m : Memory)
    → s.start + total (λ l. l) s.lengths ≤ length x.reference
    → replacing e d x s (some xs) m
    ≡ (string_in e m xs >>= λ v.
    storing x.place
    (string_replaced (x.before ++ (x.reference ++ x.behind))
    (found_from d (length x.before) (length x.reference) s.start (total (λ l. l) s.lengths))
    (found_to d (length x.before) (length x.reference) s.start (total (λ l. l) s.lengths)) (turned d v)) m)
unfolding replacing
replacing-found e d x s xs m h i =
    string_in e m xs >>= λ v. storing x.place (replaced_found d x.before x.reference x.behind v s h i) m

-- a buffer whose first bytes, the value, were turned round spells it turned
pub turned_spelt : {after out : List ℕ} {n notes : ℕ} {w : Result (List ℕ)} (s : Values.ValueSpells n notes out w) → n ≤ 1024
    → after ≡ reverse (take n out) ++ drop n out → BufferSpells after n (turned backward s.value)
unfolding turned
turned_spelt {out = out} {n} s h e =
    let all : take n out ≡ s.value = ap (λ (j : ℕ). take j out) s.size ∙ s.kept ∙ take_all 1024 s.value (omega (arith, s.size)) in
    let size : length (reverse s.value) ≡ n = length-reverse s.value ∙ sym s.size in
    record {
      size = size;
      bytes =
          ap (take n) (e ∙ ap (λ (l : List ℕ). reverse l ++ drop n out) all)
          ∙ take_at (reverse s.value) (drop n out) n size
          ∙ sym (take_all 1024 (reverse s.value) (omega (arith, size)));
    }

-- a value too long to be stored
pub turned_long : (store : List ℕ) (place from to : ℕ) (zs : List ℤ) {out : List ℕ} {n notes : ℕ} {w : Result (List ℕ)}
    → Values.ValueSpells n notes out w → 1024 < n
    → (w >>= λ v. storing place (string_replaced (string_of store place) from to (turned backward v)) (memory_of store zs)) ≡ stop 20
unfolding ◌>>=◌ turned storing longest_string with_notes
turned_long store place from to zs s h =
    let new = string_replaced (string_of store place) from to (reverse s.value) in
    let long : 1024 < length new =
    omega (
      arith,
      length-append (take from (string_of store place)) (reverse s.value ++ drop to (string_of store place)),
      length-append (reverse s.value) (drop to (string_of store place)),
      length-reverse s.value,
      s.size,
    ) in
    ap (λ x. x >>= λ v. storing place (string_replaced (string_of store place) from to (turned backward v)) (memory_of store zs)) s.work
    ∙ rw (lt-leb _ _ long)

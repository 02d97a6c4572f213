-- The names that a statement mentions as pairs of a key and a tag, and loops over these. Assumes nothing.
use Rattle.std.specs.Prelude.{List, [], ◌∷◌, ◌≡◌, ℕ, ◌<◌, get_or, length, map, Option, Some, None}
use Rattle.std.specs.Iterator.{Yields}
use Rattle.std.specs.Iterator.Adapters.{zip_first, zip_second}
use Rattle.std.specs.List.{zip}
use Rattle.std.specs.Slice.Iter.{iter_rest}
use Rattle.std.specs.declared.iter.Zip.{Zip}
use Rattle.std.proofs.Common.{refl, sym, ap, ◌∙◌, arith, Bor, Iter}
use Rattle.std.proofs.lemmas.Fn.{fronts}
use Rattle.std.proofs.lemmas.Iterator.{YieldsList, YieldsList-from_slice, YieldsList-from_zip, zips}
use Rattle.std.proofs.lemmas.Iterator.Consumers.{YieldsList-turn, YieldsList-end}
use Rattle.std.proofs.lemmas.List.{get_or_read}
use Rattle.std.proofs.lemmas.Slice.Zip.{get_or-zip, length-zip}
use Rattle.symbols.specs.declared.tags.Tag.{Tag}
use Rattle.symbols.specs.declared.tags.Tag.TheVariants.{ProgramDeclared}
use Rattle.symbols.specs.Entries.{NameEntry, entry}
use Rattle.symbols.specs.From.{values_from}
use Rattle.name_checks.specs.declared.entries.Entries.{Entries}
use Rattle.name_checks.specs.Shown.{entry_at, entry_count, entry_in, entries_in}
use Rattle.name_checks.specs.ShownLaws.{from-behind}

-- the pairs of keys and tags, one behind the other
abbrev pub paired : ℕ × Tag → NameEntry
paired p = entry p.0 p.1

entries_paired : (keys : List ℕ) (tags : List Tag) → length keys ≡ length tags
    → map paired (zip keys tags) ≡ values_from (entry_at keys tags) 0 (length keys)
unfolding values_from
entries_paired [] tags e = refl
entries_paired (k ∷ keys) [] e = absurd (omega arith)
entries_paired (k ∷ keys) (t ∷ tags) e =
    ap (λ (es : List NameEntry). entry k t ∷ es)
    (entries_paired keys tags (omega arith)
    ∙ sym (from-behind (entry_at (k ∷ keys) (t ∷ tags)) (entry_at keys tags) 0 (length keys) (λ j. refl)))

module _ (m : Entries) where
  abbrev pub pairs : List (ℕ × Tag)
  pairs = zip m.keys.now m.tags.now

  pub all_paired : map paired pairs ≡ entries_in m
  all_paired = entries_paired m.keys.now m.tags.now m.same

  pairs_size : length pairs ≡ entry_count m
  pairs_size = omega (arith, length-zip m.keys.now m.tags.now, m.same)

  -- the pair that comes at a place
  pair_at : (i : ℕ) (p : ℕ × Tag) → (i < length pairs) × (p ≡ get_or pairs i p) → (i < entry_count m) × (paired p ≡ entry_in m i)
  pair_at i p h =
      let first : ℕ × Tag = (0, ProgramDeclared) in (
        omega (arith, h.0, pairs_size),
        ap paired
            (get_or_read pairs i p h.0 h.1 first
            ∙ get_or-zip m.keys.now m.tags.now i first (omega (arith, h.0, pairs_size)) (omega (arith, h.0, pairs_size, m.same))),
      )

-- a loop over the pairs, which has yielded xs
module _ (m : Entries) (s : Zip (Iter ℕ) (Iter Tag)) (first : iter_rest (zip_first s) ≡ m.keys.now) (second : iter_rest (zip_second s) ≡ m.tags.now)
    (xs : List (Bor ℕ × Bor Tag)) (t : Zip (Iter ℕ) (Iter Tag)) (y : Yields (zips fronts fronts) s xs t) where
  road : YieldsList (zips fronts fronts) (λ p. (p.0.now, p.1.now)) s (pairs m)
  road = YieldsList-from_zip (YieldsList-from_slice m.keys.now first) (YieldsList-from_slice m.tags.now second)

  pub entry_comes : (r : Option (Bor ℕ × Bor Tag)) (u : Zip (Iter ℕ) (Iter Tag)) (p : Bor ℕ × Bor Tag) → r ≡ Some p → zips fronts fronts t r u
      → (length xs < entry_count m) × (entry p.0.now p.1.now ≡ entry_in m (length xs))
  entry_comes r u p is step = pair_at m (length xs) (p.0.now, p.1.now) (YieldsList-turn road xs t y r u p is step)

  pub entries_end : (r : Option (Bor ℕ × Bor Tag)) (u : Zip (Iter ℕ) (Iter Tag)) → r ≡ None → zips fronts fronts t r u → length xs ≡ entry_count m
  entries_end r u is step = (YieldsList-end road xs t y r u is step).1 ∙ pairs_size m

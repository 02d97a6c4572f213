-- The statements of a deck that passes, read again with the places of the whole deck: each mentions what it did when it was judged.
-- Assumes nothing.
use Rattle.std.specs.Prelude.{Bool, true, false, List, [], ◌∷◌, ◌≡◌, refl, ℕ, suc, ◌<◌}
use Rattle.std.proofs.Math.Option.{Option, none, some}
use Rattle.base.specs.Edition.{Edition}
use Rattle.cards.specs.Entries.{Entry, skipped, statement}
use Rattle.syntax.specs.Alike.{Alike, both, SameStep}
use Rattle.syntax.specs.Keywords.{leading}
use Rattle.syntax.specs.Placed.{Each, PlacedBy}
use Rattle.syntax.specs.Program.{Statement}
use Rattle.syntax.specs.Parsing.{Mentions, Parsed, got}
use Rattle.validation.specs.Environment.{Environment, empty_environment, numbers_of, is_one_of, is_step, extend}
use Rattle.validation.specs.Refusals.{read_statement}
use Rattle.validation.specs.Deck.{passed, resolution}
use Rattle.validation.specs.Names.{OnePurpose, passed_one_purpose, used-known}
use Rattle.validation.specs.Placed.{NamesOf, deck_sizes, deck_placed, next-below, passed_alike, nothing_below, nothing_one_purpose}
use Rattle.validation.specs.Rules.{Passes, Judging, ended, skips, extending}
use Rattle.validation.specs.Targets.{is_inner, passed_goes_on, passed_below}

-- a statement is a step or none
abbrev pub IsStep : Bool → Option Statement → Type 0
IsStep true none = ⊥
IsStep true (some s) = Unit
IsStep false none = Unit
IsStep false (some s) = ⊥

-- entries that pass, from the environment before them, each statement read with the places of the whole deck
pub data Again (e : Edition) (whole : Environment) : Environment → List Entry → Type 0 where
  ends : Again e whole whole []
  past : {k : Environment} {card : ℕ} {es : List Entry} → Again e whole k es → Again e whole k (skipped card true ∷ es)
  reads : {k : Environment} {card : ℕ} {label : List ℕ} {complete : Bool} {text : List ℕ} {es : List Entry} (s : Option Statement) (m : Mentions) (rest : List ℕ)
      → read_statement e (is_one_of (numbers_of whole)) (resolution whole (suc k.steps)) label complete text ≡ got s m rest
      → IsStep (is_step (leading text).kind) s
      → Passes k (leading text).kind m
      → Each (NamesOf whole) m.used
      → (is_inner (leading text).kind ≡ true → suc k.steps < whole.steps)
      → Again e whole (extend k (leading text).kind m) es
      → Again e whole k (statement card true label complete text ∷ es)

-- a statement read alike is read again
again_reads : {e : Edition} {whole k : Environment} {card : ℕ} {label : List ℕ} {complete : Bool} {text : List ℕ} {es : List Entry}
    {s : Option Statement} {m : Mentions} {rest : List ℕ} {read : Parsed (Option Statement)} (step : Bool)
    → Alike (SameStep step) (got s m rest) read
    → read_statement e (is_one_of (numbers_of whole)) (resolution whole (suc k.steps)) label complete text ≡ read
    → is_step (leading text).kind ≡ step
    → Passes k (leading text).kind m
    → Each (NamesOf whole) m.used
    → (is_inner (leading text).kind ≡ true → suc k.steps < whole.steps)
    → Again e whole (extend k (leading text).kind m) es
    → Again e whole k (statement card true label complete text ∷ es)
again_reads true (both {a = some a} {b = some b} {m} {rest} r) q step p used next j = reads (some b) m rest q (rw step tt) p used next j
again_reads true (both {a = some a} {b = none} r) q step p used next j = absurd r
again_reads true (both {a = none} r) q step p used next j = absurd r
again_reads false (both {a = none} {b = none} {m} {rest} r) q step p used next j = reads none m rest q (rw step tt) p used next j
again_reads false (both {a = none} {b = some b} r) q step p used next j = absurd r
again_reads false (both {a = some a} r) q step p used next j = absurd r

-- the places of a deck that passes are below its counts, and its statements are read again with them
pub passed_again : {e : Edition} {whole : Environment} {es : List Entry} → Judging e empty_environment es (passed whole)
    → ((n : ℕ) → PlacedBy (NamesOf whole) (deck_sizes whole) (resolution whole n)) × Again e whole empty_environment es
unfolding empty_environment
passed_again {e} {whole} j = (placed, further j)
  where
    placed : (n : ℕ) → PlacedBy (NamesOf whole) (deck_sizes whole) (resolution whole n)
    placed n = deck_placed whole n (passed_goes_on refl j) (passed_below j nothing_below)

    one : OnePurpose whole.names
    one = passed_one_purpose j nothing_one_purpose

    further : {k : Environment} {es : List Entry} → Judging e k es (passed whole) → Again e whole k es
    further (ended _) = ends
    further (skips j) = past (further j)
    further (extending {k} {card} {label} {whole = complete} {text} s m rest q p j) =
        again_reads (is_step (leading text).kind)
        (passed_alike e whole one k label complete text s m rest q j) refl refl p
        (used-known k (leading text).kind m j) (next-below k (leading text).kind m j) (further j)

-- `lexer::names::key_of` meets its contract: a name has at most 8 bytes, and no blank among them.
use mathlib.Core.List.{List}
use mathlib.Core.Path.{◌≡◌, sym, ap, ◌∙◌}
use Prim.Native.Nat.{ℕ, ◌+◌, ◌-◌, ◌≤◌}
use native.Mathlib.Omega.{arith}
use lib.ListN.{length, take, drop, length-take}
use lib.Seq.{take_all}
use Rattle.cards.specs.Cards.{without_blanks}
use Rattle.syntax.specs.Lexemes.{name_length}
use Rattle.card_reader.specs.KeyLaws.{name-whole}
use Rattle.card_reader.specs.Keys.{key_of}
use Rattle.lexer.specs.Laws.{name_short, name-letters}
use Rattle.lexer.proofs.names.key_of.Goals as goal

-- a name is all that its first 8 bytes without blanks are
whole : (bs : List ℕ) → without_blanks (take 8 (take (name_length bs) bs)) ≡ take (name_length bs) bs
whole bs =
    let name = take (name_length bs) bs in
    let short : length name ≤ 8 = omega (arith, length-take (name_length bs) bs, name_short bs) in
    ap without_blanks (take_all 8 name short) ∙ name-whole name (name-letters bs)

pub returns : goal.returns
returns c =
    let bs = drop c.args.at c.args.text.now in
    let count : c.args.at + c.args.n - c.args.at ≡ name_length bs = omega (arith, c.requires.is) in
    c.key_of.ensures
    ∙ ap (λ (n : ℕ). key_of (without_blanks (take 8 (take n bs)))) count
    ∙ ap key_of (whole bs)
    ∙ ap (λ (n : ℕ). key_of (take n bs)) (sym c.requires.is)

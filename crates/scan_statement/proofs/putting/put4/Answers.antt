-- `putting::put4` writes a number's four bytes.
use Rattle.std.proofs.Common.{List, ℕ, [], ◌∷◌, ◌≡◌, refl, ◌+◌, ◌-◌, ◌/◌, ◌%◌, arith}
use Rattle.std.proofs.lemmas.Slice.{put_mid-paste}
use Rattle.encoding.specs.Splices.{paste_splice}
use Rattle.scan_statement.proofs.Bytes.{put-bytes}
use Rattle.scan_statement.proofs.putting.put4.Goals as goal

pub returns : goal.returns
returns c =
    let a = c.args in
    let n = a.n in
    let w = n % 256 in
    let x = n / 256 % 256 in
    let y = n / 65536 % 256 in
    let z = n / 16777216 % 256 in
    let v : List ℕ = w ∷ x ∷ y ∷ z ∷ [] in
    let four : 4 ≡ a.at + 4 - a.at = omega arith in
    rw (
      c.copy_from_slice.ensures.after,
      c.to_le_bytes.ensures,
      put_mid-paste a.at (a.at + 4 - a.at) a.rows.now v v 4 refl four refl,
      paste_splice a.rows.now a.at v 4 (omega arith),
    )
    (put-bytes a.rows.now a.at w x y z n c.requires.0 (omega (arith, c.requires.1)))

-- Tests that hold together hold each, from the first on. Assumes nothing.
use Rattle.std.specs.Prelude.{Bool, true, ◌&&◌, ◌≡◌}
use Rattle.base.specs.Choice.{both_true}

pub three : (a b c : Bool) → ((a && b) && c) ≡ true
    → (a ≡ true) × (b ≡ true) × (c ≡ true)
three a b c h =
    let l = both_true (a && b) c h in
    let r = both_true a b l.0 in
    (r.0, r.1, l.1)

pub four : (a b c d : Bool) → (((a && b) && c) && d) ≡ true
    → (a ≡ true) × (b ≡ true) × (c ≡ true) × (d ≡ true)
four a b c d h =
    let l = both_true ((a && b) && c) d h in
    let r = three a b c l.0 in
    (r.0, r.1, r.2, l.1)

pub five : (a b c d e : Bool) → ((((a && b) && c) && d) && e) ≡ true
    → (a ≡ true) × (b ≡ true) × (c ≡ true) × (d ≡ true) × (e ≡ true)
five a b c d e h =
    let l = both_true (((a && b) && c) && d) e h in
    let r = four a b c d l.0 in
    (r.0, r.1, r.2, r.3, l.1)

pub six : (a b c d e f : Bool) → (((((a && b) && c) && d) && e) && f) ≡ true
    → (a ≡ true) × (b ≡ true) × (c ≡ true) × (d ≡ true) × (e ≡ true) × (f ≡ true)
six a b c d e f h =
    let l = both_true ((((a && b) && c) && d) && e) f h in
    let r = five a b c d e l.0 in
    (r.0, r.1, r.2, r.3, r.4, l.1)

pub seven : (a b c d e f g : Bool) → ((((((a && b) && c) && d) && e) && f) && g) ≡ true
    → (a ≡ true) × (b ≡ true) × (c ≡ true) × (d ≡ true) × (e ≡ true) × (f ≡ true) × (g ≡ true)
seven a b c d e f g h =
    let l = both_true (((((a && b) && c) && d) && e) && f) g h in
    let r = six a b c d e f l.0 in
    (r.0, r.1, r.2, r.3, r.4, r.5, l.1)

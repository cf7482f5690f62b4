-- The first entry with the reference has its place.
use Rattle.std.proofs.Common.{◌≡◌, true, false, rules, tests}
use Rattle.std.specs.Str.{bytes_eq}
use Rattle.std.proofs.lemmas.Iterator.{IsFirst-from_position, YieldsList-from_slice}
use Rattle.register.specs.Pairs.{key}
use Rattle.register.specs.Spelling.{spelling}
use Rattle.register.proofs.Pairs.{placed_first, placed_there}
use Rattle.register.proofs.row.place_in.Goals as goal

pub returns : goal.returns
returns g c =
    let k = spelling c.args.reference.now in
    let first = placed_first c.args.entries.now k c.position.result
    (IsFirst-from_position _ _ _ (λ e. bytes_eq (key e) k ≡ true) (λ e. bytes_eq (key e) k ≡ false) c.position.ensures.ran (YieldsList-from_slice c.args.entries.now cc) (λ x q r. search (rules, tests)) (λ x q r. search (rules, tests))) in
    record { placed = first; there = placed_there c.args.entries.now k c.position.result first }

use Rattle.std.proofs.Common.{◌≡◌, ℕ, nat_eq, take}
use Rattle.std.specs.HashSet as bag
use Rattle.std.specs.List.{list_any}
use Rattle.spec_lang.specs.Named.{each_once}
use Rattle.spec_lang.proofs.named.each_once.Given as goal

abbrev pub invariant-loop-number : goal.invariant-loop-number
invariant-loop-number l =
    (l.found.items ≡ each_once (take l.number-index l.numbers))
    × ((q : ℕ) → bag.contains nat_eq l.seen q ≡ list_any (nat_eq q) (take l.number-index l.numbers))

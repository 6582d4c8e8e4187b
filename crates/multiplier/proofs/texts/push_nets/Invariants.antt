use Rattle.std.proofs.Common.{◌≡◌, ◌++◌, take}
use Rattle.std.specs.List.{flat_map}
use Rattle.std.specs.String.{string_bytes}
use Rattle.multiplier.specs.Texts.{between}
use Rattle.multiplier.proofs.texts.push_nets.Given as goal

abbrev pub invariant-loop-net : goal.invariant-loop-net
invariant-loop-net l =
    string_bytes l.text ≡ string_bytes l.initial.text ++ flat_map (between l.before l.after) (take l.net-index l.nets)

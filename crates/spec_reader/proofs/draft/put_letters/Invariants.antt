use Rattle.std.proofs.Common.{◌≡◌, ◌++◌, map, take}
use Rattle.spec_reader.proofs.draft.put_letters.Given as goal

abbrev pub invariant-loop-net : goal.invariant-loop-net
invariant-loop-net l = l.letters.items ≡ l.initial.letters.items ++ map (λ n. (n, l.letter)) (take l.net-index l.nets)

use Rattle.std.proofs.Common.{◌≡◌, length}
use Rattle.settings.specs.Pairs.{nothing, pairs}
use Rattle.settings.specs.Words.{texts}
use Rattle.settings.proofs.given.pairs.Given as goal

abbrev pub invariant-loop-rest : goal.invariant-loop-rest
invariant-loop-rest l = pairs l.given (texts l.rest) ≡ pairs nothing (texts l.words)

abbrev pub decreases-loop-rest : goal.decreases-loop-rest
decreases-loop-rest l = length l.rest

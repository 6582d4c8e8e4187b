use Rattle.std.proofs.Common.{◌≡◌, take}
use Rattle.check_run.proofs.decide.levels_of.Given as goal

abbrev pub invariant-loop-level : goal.invariant-loop-level
invariant-loop-level l = l.letters.items ≡ take l.level l.spec.letters

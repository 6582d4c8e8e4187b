use Rattle.checks.proofs.FirstDifference.{walk_finds_first}
use Rattle.checks.proofs.laws.walk_finds_first.Goals as goal

pub returns : goal.returns
returns c = walk_finds_first

use Rattle.std.proofs.Common.{length}
use Rattle.word_apply.proofs.fold.+fold.Given as goal

abbrev pub decreases-fold : goal.decreases-fold
decreases-fold g l = length l.rest.now

use Rattle.std.proofs.Common.{length}
use Rattle.word_apply.proofs.words.+add_multiples.Given as goal

abbrev pub decreases-add_multiples : goal.decreases-add_multiples
decreases-add_multiples g l = length l.bits.now

use Rattle.spec_lang.proofs.Sizes.{depth_at_most_size}
use Rattle.spec_lang.proofs.laws.depth_is_at_most_size.Goals as goal

pub returns : goal.returns
returns c = depth_at_most_size

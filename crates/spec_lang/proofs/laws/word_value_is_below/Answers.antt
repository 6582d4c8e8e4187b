use Rattle.spec_lang.proofs.Words.{word_value_below}
use Rattle.spec_lang.proofs.laws.word_value_is_below.Goals as goal

pub returns : goal.returns
returns c = word_value_below

use Rattle.spec_grammar.proofs.Drafts.{reading_is_well_formed}
use Rattle.spec_grammar.proofs.laws.reading_is_well_formed.Goals as goal

pub returns : goal.returns
returns c = reading_is_well_formed

use Rattle.tables.proofs.FitsLaws.{content_of_parts}
use Rattle.tables.proofs.laws.content_laws.Goals as goal

pub returns : goal.returns
returns c = record { content_of_parts = content_of_parts }

use Rattle.table_rule.proofs.Stores.{passes_are_sound, passes_join}
use Rattle.table_rule.proofs.laws.store_laws.Goals as goal

pub returns : goal.returns
returns c = record { sound = passes_are_sound; join = passes_join }

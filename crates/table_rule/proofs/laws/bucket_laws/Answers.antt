use Rattle.table_rule.proofs.Passes.{buckets_left}
use Rattle.table_rule.proofs.laws.bucket_laws.Goals as goal

pub returns : goal.returns
returns c = record { left = buckets_left }

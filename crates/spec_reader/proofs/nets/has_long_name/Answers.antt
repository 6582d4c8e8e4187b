use Rattle.std.proofs.Common.{◌∙◌}
use Rattle.circuits.specs.Limits.{is_long}
use Rattle.spec_reader.proofs.LineFaults.{list_any-map}
use Rattle.spec_reader.proofs.nets.has_long_name.Goals as goal

pub returns : goal.returns
returns c = c.is_some_long.ensures ∙ list_any-map is_long (λ name. name.now) c.args.names.now

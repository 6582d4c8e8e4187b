use Rattle.std.proofs.Common.{◌∙◌}
use Rattle.word_base.specs.declared.kind_name.KindName.TheVariants.{Hdd}
use Rattle.kind_laws.proofs.EdgeLaws.{without_extra}
use Rattle.hdd.proofs.hdd.HddKind.unpack.Goals as goal

pub returns : goal.returns
returns c = λ e fits words. c.edge.ensures ∙ without_extra e _ _ _ (c.unpack_edge-weight.ensures Hdd e fits words) fits.leaves

use Rattle.std.proofs.Common.{◌∙◌}
use Rattle.word_base.specs.declared.kind_name.KindName.TheVariants.{StarBmd}
use Rattle.kind_laws.proofs.EdgeLaws.{without_extra}
use Rattle.star_bmd.proofs.star_bmd.StarBmdKind.unpack.Goals as goal

pub returns : goal.returns
returns c = λ e fits words. c.make_edge.ensures ∙ without_extra e _ _ _ (c.unpack_edge-weight.ensures StarBmd e fits words) fits.leaves

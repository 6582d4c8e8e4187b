use Rattle.std.proofs.Common.{◌∙◌}
use Rattle.word_base.specs.declared.kind_name.KindName.TheVariants.{KStarBmd}
use Rattle.k_star_bmd.proofs.k_star_bmd.KStarBmdKind.unpack.Goals as goal

pub returns : goal.returns
returns c = λ e fits words. c.make_edge.ensures ∙ c.unpack_edge-weight.ensures KStarBmd e fits words

use Rattle.std.proofs.Common.{refl, arith}
use Rattle.kind_laws.specs.Plain.{plain}
use Rattle.diagram.specs.ProductFrames.{plain_product}
use Rattle.diagram.specs.declared.product_walk.Stage.TheVariants.{LowHigh}
use Rattle.diagram.proofs.ProductWalk.{fewer_left, waits_for_high_low}
use Rattle.diagram.proofs.product_walk.after_low_high.Goals as goal

pub returns : goal.returns
returns g c = λ v at.
    let f = plain_product g.K.Kind.extra_of c.args.frame.now in
    (waits_for_high_low g.K.Kind.NAME f v (plain g.K.Kind.extra_of c.args.known) at c.requires, refl, fewer_left 1 f.stage LowHigh c.requires (omega arith))

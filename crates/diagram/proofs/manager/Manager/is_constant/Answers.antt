use Rattle.kind_laws.specs.Plain.{plain}
use Rattle.diagram.proofs.BothLaws.{constant_is}
use Rattle.diagram.proofs.manager.Manager.is_constant.Goals as goal

pub value-requires : goal.value-requires
value-requires g c = constant_is g.K.Kind.NAME c.args.self.now (plain g.K.Kind.extra_of c.args.edge) c.requires c.if-edge-eq0.true

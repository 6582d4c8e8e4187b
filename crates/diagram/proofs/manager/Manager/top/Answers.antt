use Rattle.diagram.proofs.PartLaws.{level_read}
use Rattle.diagram.proofs.manager.Manager.top.Goals as goal

pub returns-clause-level : goal.returns-clause-level
returns-clause-level g c =
    level_read g.K.Kind.NAME c.args.self.now c.args.edge.node c.level_of.result c.body_of.result c.body_of.ensures.known c.body_of.ensures.body c.level_of.ensures

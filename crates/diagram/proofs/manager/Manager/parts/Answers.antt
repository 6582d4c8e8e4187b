use Rattle.kind_laws.specs.Plain.{plain}
use Rattle.diagram.proofs.PartLaws.{letter_allowed}
use Rattle.diagram.proofs.SplitLaws.{body_there, parts_by_node}
use Rattle.diagram.proofs.manager.Manager.parts.Goals as goal

pub parts_by-requires-clause-allowed : goal.parts_by-requires-clause-allowed
parts_by-requires-clause-allowed g c κs within =
    letter_allowed g.K.Kind.NAME c.args.self.now c.args.level c.letter-letter.result c.requires.good.1.allowed c.requires.below c.letter-letter.ensures.letter

pub parts_by-requires-clause-body : goal.parts_by-requires-clause-body
parts_by-requires-clause-body g c κs within =
    let node = c.node_of-node.result in
    body_there g.K.Kind.NAME c.args.self.now c.args.level (plain g.K.Kind.extra_of c.args.edge) node.level node.body c.requires c.node_of-node.ensures.node

pub returns-clause-parts : goal.returns-clause-parts
returns-clause-parts g c =
    let node = c.node_of-node.result in
    parts_by_node g.K.Kind.NAME c.args.self.now c.args.level c.letter-letter.result (plain g.K.Kind.extra_of c.args.edge) node.level node.body _ c.requires
    c.letter-letter.ensures.letter c.node_of-node.ensures.node c.parts_by.ensures

use Rattle.std.proofs.Common.{sym, ◌∙◌, ap}
use Rattle.diagram.specs.View.{top_of}
use Rattle.diagram.proofs.LevelLaws.{top_of-leaf}
use Rattle.diagram.proofs.PartLaws.{level_read}
use Rattle.diagram.proofs.manager.Manager.node_of.Goals as goal

pub returns-then-edge-eq0-clause-node : goal.returns-then-edge-eq0-clause-node
returns-then-edge-eq0-clause-node g c =
    let v = c.args.self.now in
    let leaf = c.if-edge-eq0.true in
    record {
      level_is = c.levels.ensures.count ∙ sym (ap (top_of v) leaf ∙ top_of-leaf v c.requires.1.no_zero);
      known = λ some. absurd (some leaf);
      is_body = λ some. absurd (some leaf);
    }

pub returns-clause-node : goal.returns-clause-node
returns-clause-node g c =
    record {
      level_is = level_read g.K.Kind.NAME c.args.self.now c.args.edge.node c.level_of.result c.body_of-body.result c.body_of-body.ensures.known c.body_of-body.ensures.body c.level_of.ensures;
      known = λ some. c.body_of-body.ensures.known;
      is_body = λ some. c.body_of-body.ensures.body;
    }

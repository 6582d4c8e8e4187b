use Rattle.kind_laws.specs.Plain.{plain}
use Rattle.diagram.proofs.EachLaws.{good_answer}
use Rattle.diagram.proofs.LevelLaws.{still_edge}
use Rattle.diagram_tests.proofs.halves.one_more.Goals as goal

pub add-requires-clause-a_good : goal.add-requires-clause-a_good
add-requires-clause-a_good g c κs within =
    still_edge g.K.Kind.NAME c.args.builder.now c.edge.new.builder (plain g.K.Kind.extra_of c.args.sum) c.in_ok-multiple.ensures.keeps c.requires

pub returns : goal.returns
returns g c =
    let k = g.K.Kind.NAME in
    let w = c.edge.new.builder in
    let a = still_edge k c.args.builder.now w (plain g.K.Kind.extra_of c.args.sum) c.in_ok-multiple.ensures.keeps c.requires in
    let b = c.in_ok-multiple.ensures.good in
    good_answer k w c.add.new.self _ 0 _ (plain g.K.Kind.extra_of) c.add.result (c.add.ensures.sum 0 a.0 b.0 a.1 b.1)

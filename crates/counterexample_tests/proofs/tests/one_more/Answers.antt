use Rattle.kind_laws.specs.Plain.{plain}
use Rattle.diagram.proofs.EachLaws.{good_answer}
use Rattle.diagram.proofs.LevelLaws.{still_edge}
use Rattle.diagram.proofs.StoreLaws.{keeps_on}
use Rattle.counterexample_tests.proofs.tests.one_more.Goals as goal

pub add-requires-clause-a_good : goal.add-requires-clause-a_good
add-requires-clause-a_good g c κs within =
    still_edge g.K.Kind.NAME c.args.builder.now c.edge.new.builder (plain g.K.Kind.extra_of c.args.sum) c.in_ok-product.ensures.keeps c.requires

pub returns-clause-keeps : goal.returns-clause-keeps
returns-clause-keeps g c = keeps_on c.args.builder.now c.edge.new.builder c.add.new.self c.in_ok-product.ensures.keeps c.add.ensures.keeps

pub returns-clause-good : goal.returns-clause-good
returns-clause-good g c =
    let k = g.K.Kind.NAME in
    let w = c.edge.new.builder in
    let a = still_edge k c.args.builder.now w (plain g.K.Kind.extra_of c.args.sum) c.in_ok-product.ensures.keeps c.requires in
    let b = c.in_ok-product.ensures.good in
    good_answer k w c.add.new.self _ 0 _ (plain g.K.Kind.extra_of) c.add.result (c.add.ensures.sum 0 a.0 b.0 a.1 b.1)

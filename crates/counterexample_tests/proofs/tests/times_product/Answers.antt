use Rattle.kind_laws.specs.Plain.{plain}
use Rattle.diagram.proofs.EachLaws.{good_answer}
use Rattle.diagram.proofs.LevelLaws.{still_edge}
use Rattle.counterexample_tests.proofs.tests.times_product.Goals as goal

pub mul-requires-clause-a_good : goal.mul-requires-clause-a_good
mul-requires-clause-a_good g c κs within =
    still_edge g.K.Kind.NAME c.args.builder.now c.edge.new.builder (plain g.K.Kind.extra_of c.args.edge) c.in_ok-product.ensures.keeps c.requires

pub returns : goal.returns
returns g c =
    let k = g.K.Kind.NAME in
    let w = c.edge.new.builder in
    let a = still_edge k c.args.builder.now w (plain g.K.Kind.extra_of c.args.edge) c.in_ok-product.ensures.keeps c.requires in
    let b = c.in_ok-product.ensures.good in
    record { good = good_answer k w c.mul.new.self _ 0 _ (plain g.K.Kind.extra_of) c.mul.result (c.mul.ensures.product 0 a.0 b.0 a.1 b.1) }

use Rattle.kind_laws.specs.Plain.{plain}
use Rattle.diagram.proofs.EachLaws.{good_answer}
use Rattle.diagram.proofs.LevelLaws.{still_edge}
use Rattle.diagram.proofs.StoreLaws.{keeps_on}
use Rattle.counterexample_tests.proofs.tests.times.Goals as goal

pub mul-requires-clause-a_good : goal.mul-requires-clause-a_good
mul-requires-clause-a_good g c κs within =
    still_edge g.K.Kind.NAME c.args.builder.now c.var.new.self (plain g.K.Kind.extra_of c.args.edge) c.in_ok-variable.ensures.keeps c.requires

pub returns-clause-keeps : goal.returns-clause-keeps
returns-clause-keeps g c = keeps_on c.args.builder.now c.var.new.self c.mul.new.self c.in_ok-variable.ensures.keeps c.mul.ensures.keeps

pub returns-clause-good : goal.returns-clause-good
returns-clause-good g c =
    let k = g.K.Kind.NAME in
    let w = c.var.new.self in
    let a = still_edge k c.args.builder.now w (plain g.K.Kind.extra_of c.args.edge) c.in_ok-variable.ensures.keeps c.requires in
    let b = c.in_ok-variable.ensures.table.stands in
    good_answer k w c.mul.new.self _ 0 _ (plain g.K.Kind.extra_of) c.mul.result (c.mul.ensures.product 0 a.0 _ a.1 b)

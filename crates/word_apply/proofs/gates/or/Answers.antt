use Rattle.checks.specs.Work.{step_table}
use Rattle.circuits.specs.declared.gate_word.GateWord.TheVariants.{Or}
use Rattle.diagram.proofs.LevelLaws.{still_edge, good_at}
use Rattle.diagram.proofs.StoreLaws.{keeps_on}
use Rattle.kind_laws.specs.Plain.{plain, answered}
use Rattle.word_apply.proofs.CoverLaws.{or_made}
use Rattle.word_apply.proofs.GateCalls.{product_refuses, or_sum_refuses, or_answers}
use Rattle.word_apply.proofs.gates.or.Goals as goal

pub returns-in_err-product-clause-disjunction : goal.returns-in_err-product-clause-disjunction
returns-in_err-product-clause-disjunction g c =
    product_refuses or_made (step_table Or) g.K.Kind.NAME c.args.builder.now c.mul.new.self (plain g.K.Kind.extra_of c.args.a) (plain g.K.Kind.extra_of c.args.b)
    (plain g.K.Kind.extra_of) c.from_residual.result c.in_err-product.field-0.0 c.from_residual.ensures.1 c.in_err-product.ensures.keeps c.in_err-product.ensures.product

pub add-requires-clause-a_good : goal.add-requires-clause-a_good
add-requires-clause-a_good g c κs within =
    still_edge g.K.Kind.NAME c.args.builder.now c.mul.new.self (plain g.K.Kind.extra_of c.args.a) c.in_ok-product.ensures.keeps c.requires.a_good

pub add-requires-clause-b_good : goal.add-requires-clause-b_good
add-requires-clause-b_good g c κs within =
    still_edge g.K.Kind.NAME c.args.builder.now c.mul.new.self (plain g.K.Kind.extra_of c.args.b) c.in_ok-product.ensures.keeps c.requires.b_good

pub returns-in_err-sum-clause-keeps : goal.returns-in_err-sum-clause-keeps
returns-in_err-sum-clause-keeps g c =
    keeps_on c.args.builder.now c.mul.new.self c.add.new.self c.in_ok-product.ensures.keeps c.in_err-sum.ensures.keeps

pub returns-in_err-sum-clause-disjunction : goal.returns-in_err-sum-clause-disjunction
returns-in_err-sum-clause-disjunction g c =
    or_sum_refuses g.K.Kind.NAME c.args.builder.now c.mul.new.self c.add.new.self (plain g.K.Kind.extra_of c.args.a) (plain g.K.Kind.extra_of c.args.b)
    (plain g.K.Kind.extra_of c.in_ok-product.product) (plain g.K.Kind.extra_of) c.from_residual-in_err-sum.result c.in_err-sum.field-0.0
    c.from_residual-in_err-sum.ensures.1 c.in_ok-product.ensures.keeps c.in_ok-product.ensures.product c.in_err-sum.ensures.keeps c.in_err-sum.ensures.sum

pub sub-requires-clause-a_good : goal.sub-requires-clause-a_good
sub-requires-clause-a_good g c κs within =
    let k = g.K.Kind.NAME in
    let w = c.mul.new.self in
    let a = still_edge k c.args.builder.now w (plain g.K.Kind.extra_of c.args.a) c.in_ok-product.ensures.keeps c.requires.a_good in
    let b = still_edge k c.args.builder.now w (plain g.K.Kind.extra_of c.args.b) c.in_ok-product.ensures.keeps c.requires.b_good in
    good_at k c.add.new.self (plain g.K.Kind.extra_of c.in_ok-sum.sum) 0 _ (c.in_ok-sum.ensures.sum 0 a.0 b.0 a.1 b.1).stands

pub sub-requires-clause-b_good : goal.sub-requires-clause-b_good
sub-requires-clause-b_good g c κs within =
    let k = g.K.Kind.NAME in
    let a = c.requires.a_good in
    let b = c.requires.b_good in
    let product = plain g.K.Kind.extra_of c.in_ok-product.product in
    still_edge k c.mul.new.self c.add.new.self product c.in_ok-sum.ensures.keeps
    (good_at k c.mul.new.self product 0 _ (c.in_ok-product.ensures.product 0 a.0 b.0 a.1 b.1).stands)

pub returns-clause-keeps : goal.returns-clause-keeps
returns-clause-keeps g c =
    keeps_on c.args.builder.now c.add.new.self c.sub.new.self
    (keeps_on c.args.builder.now c.mul.new.self c.add.new.self c.in_ok-product.ensures.keeps c.in_ok-sum.ensures.keeps) c.sub.ensures.keeps

pub returns-clause-disjunction : goal.returns-clause-disjunction
returns-clause-disjunction g c =
    or_answers g.K.Kind.NAME c.args.builder.now c.mul.new.self c.add.new.self c.sub.new.self (plain g.K.Kind.extra_of c.args.a) (plain g.K.Kind.extra_of c.args.b)
    (plain g.K.Kind.extra_of c.in_ok-product.product) (plain g.K.Kind.extra_of c.in_ok-sum.sum) (answered (plain g.K.Kind.extra_of) c.sub.result)
    c.in_ok-product.ensures.keeps c.in_ok-product.ensures.product c.in_ok-sum.ensures.keeps c.in_ok-sum.ensures.sum c.sub.ensures.keeps c.sub.ensures.difference

use Rattle.std.proofs.Common.{refl, ◌∙◌}
use Rattle.checks.specs.Work.{step_table}
use Rattle.circuits.specs.declared.gate_word.GateWord.TheVariants.{Xor}
use Rattle.diagram.proofs.LevelLaws.{still_edge, good_at}
use Rattle.diagram.proofs.StoreLaws.{keeps_on}
use Rattle.kind_laws.specs.Plain.{plain, answered}
use Rattle.word_apply.proofs.CoverLaws.{xor_made}
use Rattle.word_apply.proofs.GateCalls.{product_refuses, xor_twice_refuses, xor_sum_refuses, xor_answers}
use Rattle.word_apply.proofs.gates.xor.Goals as goal

pub returns-in_err-product-clause-exclusive_or : goal.returns-in_err-product-clause-exclusive_or
returns-in_err-product-clause-exclusive_or g c =
    product_refuses xor_made (step_table Xor) g.K.Kind.NAME c.args.builder.now c.mul.new.self (plain g.K.Kind.extra_of c.args.a) (plain g.K.Kind.extra_of c.args.b)
    (plain g.K.Kind.extra_of) c.from_residual.result c.in_err-product.field-0.0 c.from_residual.ensures.1 c.in_err-product.ensures.keeps c.in_err-product.ensures.product

pub scale-requires-after_bounds : goal.scale-requires-after_bounds
scale-requires-after_bounds g c = λ lives bounds.
    let a = c.requires.a_good in
    let b = c.requires.b_good in
    good_at g.K.Kind.NAME c.mul.new.self (plain g.K.Kind.extra_of c.in_ok-product.product) 0 _ (c.in_ok-product.ensures.product 0 a.0 b.0 a.1 b.1).stands

pub returns-in_err-twice-clause-keeps : goal.returns-in_err-twice-clause-keeps
returns-in_err-twice-clause-keeps g c =
    keeps_on c.args.builder.now c.mul.new.self c.scale.new.self c.in_ok-product.ensures.keeps c.in_err-twice.ensures.keeps

pub returns-in_err-twice-clause-exclusive_or : goal.returns-in_err-twice-clause-exclusive_or
returns-in_err-twice-clause-exclusive_or g c =
    xor_twice_refuses g.K.Kind.NAME c.args.builder.now c.mul.new.self c.scale.new.self _ (plain g.K.Kind.extra_of c.args.a) (plain g.K.Kind.extra_of c.args.b)
    (plain g.K.Kind.extra_of c.in_ok-product.product) (plain g.K.Kind.extra_of) c.from_residual-in_err-twice.result c.in_err-twice.field-0.0 refl
    c.from_residual-in_err-twice.ensures.1 c.in_ok-product.ensures.keeps c.in_ok-product.ensures.product c.in_err-twice.ensures.keeps c.in_err-twice.ensures.multiple

pub add-requires-clause-a_good : goal.add-requires-clause-a_good
add-requires-clause-a_good g c κs within =
    still_edge g.K.Kind.NAME c.args.builder.now c.scale.new.self (plain g.K.Kind.extra_of c.args.a)
    (keeps_on c.args.builder.now c.mul.new.self c.scale.new.self c.in_ok-product.ensures.keeps c.in_ok-twice.ensures.keeps) c.requires.a_good

pub add-requires-clause-b_good : goal.add-requires-clause-b_good
add-requires-clause-b_good g c κs within =
    still_edge g.K.Kind.NAME c.args.builder.now c.scale.new.self (plain g.K.Kind.extra_of c.args.b)
    (keeps_on c.args.builder.now c.mul.new.self c.scale.new.self c.in_ok-product.ensures.keeps c.in_ok-twice.ensures.keeps) c.requires.b_good

pub returns-in_err-sum-clause-keeps : goal.returns-in_err-sum-clause-keeps
returns-in_err-sum-clause-keeps g c =
    keeps_on c.args.builder.now c.scale.new.self c.add.new.self
    (keeps_on c.args.builder.now c.mul.new.self c.scale.new.self c.in_ok-product.ensures.keeps c.in_ok-twice.ensures.keeps) c.in_err-sum.ensures.keeps

pub returns-in_err-sum-clause-exclusive_or : goal.returns-in_err-sum-clause-exclusive_or
returns-in_err-sum-clause-exclusive_or g c =
    xor_sum_refuses g.K.Kind.NAME c.args.builder.now c.mul.new.self c.scale.new.self c.add.new.self _ (plain g.K.Kind.extra_of c.args.a)
    (plain g.K.Kind.extra_of c.args.b) (plain g.K.Kind.extra_of c.in_ok-product.product) (plain g.K.Kind.extra_of c.in_ok-twice.twice) (plain g.K.Kind.extra_of)
    c.from_residual-in_err-sum.result c.in_err-sum.field-0.0 refl c.from_residual-in_err-sum.ensures.1 c.in_ok-product.ensures.keeps
    c.in_ok-product.ensures.product c.in_ok-twice.ensures.keeps c.in_ok-twice.ensures.multiple c.in_err-sum.ensures.keeps c.in_err-sum.ensures.sum

pub sub-requires-clause-a_good : goal.sub-requires-clause-a_good
sub-requires-clause-a_good g c κs within =
    let k = g.K.Kind.NAME in
    let x = c.scale.new.self in
    let keeps = keeps_on c.args.builder.now c.mul.new.self x c.in_ok-product.ensures.keeps c.in_ok-twice.ensures.keeps in
    let a = still_edge k c.args.builder.now x (plain g.K.Kind.extra_of c.args.a) keeps c.requires.a_good in
    let b = still_edge k c.args.builder.now x (plain g.K.Kind.extra_of c.args.b) keeps c.requires.b_good in
    good_at k c.add.new.self (plain g.K.Kind.extra_of c.in_ok-sum.sum) 0 _ (c.in_ok-sum.ensures.sum 0 a.0 b.0 a.1 b.1).stands

pub sub-requires-clause-b_good : goal.sub-requires-clause-b_good
sub-requires-clause-b_good g c κs within =
    let k = g.K.Kind.NAME in
    let a = c.requires.a_good in
    let b = c.requires.b_good in
    let twice = plain g.K.Kind.extra_of c.in_ok-twice.twice in
    still_edge k c.scale.new.self c.add.new.self twice c.in_ok-sum.ensures.keeps
    (good_at k c.scale.new.self twice 0 _ (c.in_ok-twice.ensures.multiple 0 _ (c.in_ok-product.ensures.product 0 a.0 b.0 a.1 b.1).stands).stands)

pub returns-clause-keeps : goal.returns-clause-keeps
returns-clause-keeps g c =
    keeps_on c.args.builder.now c.add.new.self c.sub.new.self
    (keeps_on c.args.builder.now c.scale.new.self c.add.new.self
    (keeps_on c.args.builder.now c.mul.new.self c.scale.new.self c.in_ok-product.ensures.keeps c.in_ok-twice.ensures.keeps) c.in_ok-sum.ensures.keeps)
    c.sub.ensures.keeps

pub returns-clause-exclusive_or : goal.returns-clause-exclusive_or
returns-clause-exclusive_or g c =
    xor_answers g.K.Kind.NAME c.args.builder.now c.mul.new.self c.scale.new.self c.add.new.self c.sub.new.self _ (plain g.K.Kind.extra_of c.args.a)
    (plain g.K.Kind.extra_of c.args.b) (plain g.K.Kind.extra_of c.in_ok-product.product) (plain g.K.Kind.extra_of c.in_ok-twice.twice)
    (plain g.K.Kind.extra_of c.in_ok-sum.sum) (answered (plain g.K.Kind.extra_of) c.sub.result) refl c.in_ok-product.ensures.keeps c.in_ok-product.ensures.product
    c.in_ok-twice.ensures.keeps c.in_ok-twice.ensures.multiple c.in_ok-sum.ensures.keeps c.in_ok-sum.ensures.sum c.sub.ensures.keeps c.sub.ensures.difference

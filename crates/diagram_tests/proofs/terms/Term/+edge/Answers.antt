use Rattle.std.proofs.Common.{arith}
use Rattle.kind_laws.specs.Plain.{plain}
use Rattle.diagram.proofs.EachLaws.{good_answer}
use Rattle.diagram.proofs.LevelLaws.{still_edge}
use Rattle.diagram.proofs.StoreLaws.{keeps_itself, keeps_on}
use Rattle.diagram_tests.proofs.terms.Term.+edge.Goals as goal

pub returns-in_err-b-in-Sum-clause-keeps : goal.returns-in_err-b-in-Sum-clause-keeps
returns-in_err-b-in-Sum-clause-keeps g t c =
    keeps_on c.args.builder.now c.edge.new.builder c.edge-in-Sum.new.builder c.in_ok-a-in-Sum.ensures.keeps c.in_err-b-in-Sum.ensures.keeps

pub add-requires-clause-a_good : goal.add-requires-clause-a_good
add-requires-clause-a_good g t c κs within =
    still_edge g.K.Kind.NAME c.edge.new.builder c.edge-in-Sum.new.builder (plain g.K.Kind.extra_of c.in_ok-a-in-Sum.a) c.in_ok-b-in-Sum.ensures.keeps
    c.in_ok-a-in-Sum.ensures.good

pub returns-in_err-b-in-Difference-clause-keeps : goal.returns-in_err-b-in-Difference-clause-keeps
returns-in_err-b-in-Difference-clause-keeps g t c =
    keeps_on c.args.builder.now c.edge-in-Difference.new.builder c.edge-in-Difference-2.new.builder c.in_ok-a-in-Difference.ensures.keeps
    c.in_err-b-in-Difference.ensures.keeps

pub sub-requires-clause-a_good : goal.sub-requires-clause-a_good
sub-requires-clause-a_good g t c κs within =
    still_edge g.K.Kind.NAME c.edge-in-Difference.new.builder c.edge-in-Difference-2.new.builder (plain g.K.Kind.extra_of c.in_ok-a-in-Difference.a)
    c.in_ok-b-in-Difference.ensures.keeps c.in_ok-a-in-Difference.ensures.good

pub returns-in_err-b-in-Product-clause-keeps : goal.returns-in_err-b-in-Product-clause-keeps
returns-in_err-b-in-Product-clause-keeps g t c =
    keeps_on c.args.builder.now c.edge-in-Product.new.builder c.edge-in-Product-2.new.builder c.in_ok-a-in-Product.ensures.keeps
    c.in_err-b-in-Product.ensures.keeps

pub mul-requires-clause-a_good : goal.mul-requires-clause-a_good
mul-requires-clause-a_good g t c κs within =
    still_edge g.K.Kind.NAME c.edge-in-Product.new.builder c.edge-in-Product-2.new.builder (plain g.K.Kind.extra_of c.in_ok-a-in-Product.a)
    c.in_ok-b-in-Product.ensures.keeps c.in_ok-a-in-Product.ensures.good

pub returns-in-Constant-clause-keeps : goal.returns-in-Constant-clause-keeps
returns-in-Constant-clause-keeps g t c = keeps_itself c.args.builder.now

pub returns-in-Constant-clause-good : goal.returns-in-Constant-clause-good
returns-in-Constant-clause-good g t c = (_, c.constant.ensures.table 0 (omega arith))

pub returns-in_ok-b-in-Sum-clause-keeps : goal.returns-in_ok-b-in-Sum-clause-keeps
returns-in_ok-b-in-Sum-clause-keeps g t c =
    keeps_on c.args.builder.now c.edge-in-Sum.new.builder c.add.new.self
    (keeps_on c.args.builder.now c.edge.new.builder c.edge-in-Sum.new.builder c.in_ok-a-in-Sum.ensures.keeps c.in_ok-b-in-Sum.ensures.keeps) c.add.ensures.keeps

pub returns-in_ok-b-in-Sum-clause-good : goal.returns-in_ok-b-in-Sum-clause-good
returns-in_ok-b-in-Sum-clause-good g t c =
    let k = g.K.Kind.NAME in
    let w = c.edge-in-Sum.new.builder in
    let a = still_edge k c.edge.new.builder w (plain g.K.Kind.extra_of c.in_ok-a-in-Sum.a) c.in_ok-b-in-Sum.ensures.keeps c.in_ok-a-in-Sum.ensures.good in
    let b = c.in_ok-b-in-Sum.ensures.good in
    good_answer k w c.add.new.self _ 0 _ (plain g.K.Kind.extra_of) c.add.result (c.add.ensures.sum 0 a.0 b.0 a.1 b.1)

pub returns-in_ok-b-in-Difference-clause-keeps : goal.returns-in_ok-b-in-Difference-clause-keeps
returns-in_ok-b-in-Difference-clause-keeps g t c =
    keeps_on c.args.builder.now c.edge-in-Difference-2.new.builder c.sub.new.self
    (keeps_on c.args.builder.now c.edge-in-Difference.new.builder c.edge-in-Difference-2.new.builder c.in_ok-a-in-Difference.ensures.keeps
    c.in_ok-b-in-Difference.ensures.keeps) c.sub.ensures.keeps

pub returns-in_ok-b-in-Difference-clause-good : goal.returns-in_ok-b-in-Difference-clause-good
returns-in_ok-b-in-Difference-clause-good g t c =
    let k = g.K.Kind.NAME in
    let w = c.edge-in-Difference-2.new.builder in
    let a = still_edge k c.edge-in-Difference.new.builder w (plain g.K.Kind.extra_of c.in_ok-a-in-Difference.a) c.in_ok-b-in-Difference.ensures.keeps
    c.in_ok-a-in-Difference.ensures.good in
    let b = c.in_ok-b-in-Difference.ensures.good in
    good_answer k w c.sub.new.self _ 0 _ (plain g.K.Kind.extra_of) c.sub.result (c.sub.ensures.difference 0 a.0 b.0 a.1 b.1)

pub returns-in_ok-b-in-Product-clause-keeps : goal.returns-in_ok-b-in-Product-clause-keeps
returns-in_ok-b-in-Product-clause-keeps g t c =
    keeps_on c.args.builder.now c.edge-in-Product-2.new.builder c.mul.new.self
    (keeps_on c.args.builder.now c.edge-in-Product.new.builder c.edge-in-Product-2.new.builder c.in_ok-a-in-Product.ensures.keeps
    c.in_ok-b-in-Product.ensures.keeps) c.mul.ensures.keeps

pub returns-in_ok-b-in-Product-clause-good : goal.returns-in_ok-b-in-Product-clause-good
returns-in_ok-b-in-Product-clause-good g t c =
    let k = g.K.Kind.NAME in
    let w = c.edge-in-Product-2.new.builder in
    let a = still_edge k c.edge-in-Product.new.builder w (plain g.K.Kind.extra_of c.in_ok-a-in-Product.a) c.in_ok-b-in-Product.ensures.keeps
    c.in_ok-a-in-Product.ensures.good in
    let b = c.in_ok-b-in-Product.ensures.good in
    good_answer k w c.mul.new.self _ 0 _ (plain g.K.Kind.extra_of) c.mul.result (c.mul.ensures.product 0 a.0 b.0 a.1 b.1)

pub returns-in_ok-a-in-Multiple-clause-keeps : goal.returns-in_ok-a-in-Multiple-clause-keeps
returns-in_ok-a-in-Multiple-clause-keeps g t c =
    keeps_on c.args.builder.now c.edge-in-Multiple.new.builder c.scale.new.self c.in_ok-a-in-Multiple.ensures.keeps c.scale.ensures.keeps

pub returns-in_ok-a-in-Negative-clause-keeps : goal.returns-in_ok-a-in-Negative-clause-keeps
returns-in_ok-a-in-Negative-clause-keeps g t c =
    keeps_on c.args.builder.now c.edge-in-Negative.new.builder c.neg.new.self c.in_ok-a-in-Negative.ensures.keeps c.neg.ensures.keeps

pub returns-in_ok-a-in-Multiple-clause-good : goal.returns-in_ok-a-in-Multiple-clause-good
returns-in_ok-a-in-Multiple-clause-good g t c =
    let a = c.in_ok-a-in-Multiple.ensures.good in
    good_answer g.K.Kind.NAME c.edge-in-Multiple.new.builder c.scale.new.self _ 0 _ (plain g.K.Kind.extra_of) c.scale.result (c.scale.ensures.multiple 0 a.0 a.1)

pub returns-in_ok-a-in-Negative-clause-good : goal.returns-in_ok-a-in-Negative-clause-good
returns-in_ok-a-in-Negative-clause-good g t c =
    let a = c.in_ok-a-in-Negative.ensures.good in
    good_answer g.K.Kind.NAME c.edge-in-Negative.new.builder c.neg.new.self _ 0 _ (plain g.K.Kind.extra_of) c.neg.result (c.neg.ensures.negative 0 a.0 a.1)

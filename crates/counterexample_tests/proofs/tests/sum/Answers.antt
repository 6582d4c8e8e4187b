use Rattle.std.proofs.Common.{arith}
use Rattle.diagram.proofs.StoreLaws.{keeps_itself, keeps_on}
use Rattle.counterexample_tests.proofs.tests.sum.Goals as goal

pub loop-product-init : goal.loop-product-init
loop-product-init g c = record { keeps = keeps_itself c.args.builder.now; good = (_, c.constant-sum.ensures.table 0 (omega arith)) }

pub returns-in_err-sum-clause-keeps : goal.returns-in_err-sum-clause-keeps
returns-in_err-sum-clause-keeps g c =
    keeps_on c.args.builder.now c.loop-product.builder c.one_more.new.builder c.loop-product.invariant.keeps c.in_err-sum.ensures.keeps

pub loop-product-preserved : goal.loop-product-preserved
loop-product-preserved g c = record {
  keeps = keeps_on c.args.builder.now c.loop-product.builder c.one_more.new.builder c.loop-product.invariant.keeps c.in_ok-sum.ensures.keeps;
  good = c.in_ok-sum.ensures.good;
}

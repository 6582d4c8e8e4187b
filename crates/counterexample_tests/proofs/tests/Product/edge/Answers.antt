use Rattle.std.proofs.Common.{arith}
use Rattle.diagram.proofs.StoreLaws.{keeps_on}
use Rattle.counterexample_tests.proofs.tests.Product.edge.Goals as goal

pub times-requires-after_bounds : goal.times-requires-after_bounds
times-requires-after_bounds g c κs within = (_, c.constant-product.ensures.table 0 (omega arith))

pub returns-in_err-product-2-clause-keeps : goal.returns-in_err-product-2-clause-keeps
returns-in_err-product-2-clause-keeps g c =
    keeps_on c.args.builder.now c.times.new.builder c.times-2.new.builder c.in_ok-product.ensures.keeps c.in_err-product-2.ensures.keeps

pub returns-clause-keeps : goal.returns-clause-keeps
returns-clause-keeps g c =
    keeps_on c.args.builder.now c.times-2.new.builder c.times-3.new.builder
    (keeps_on c.args.builder.now c.times.new.builder c.times-2.new.builder c.in_ok-product.ensures.keeps c.in_ok-product-2.ensures.keeps) c.times-3.ensures.keeps

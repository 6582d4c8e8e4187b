use Rattle.diagram.specs.ProductFrames.{plain_product}
use Rattle.diagram.proofs.ProductWalk.{goes_on_refused}
use Rattle.diagram.proofs.product_walk.resume.Goals as goal

pub returns-in-Low-clause-resumes : goal.returns-in-Low-clause-resumes
returns-in-Low-clause-resumes g c = λ at. c.after_low.ensures at

pub returns-in-LowHigh-clause-resumes : goal.returns-in-LowHigh-clause-resumes
returns-in-LowHigh-clause-resumes g c = λ at. c.after_low_high.ensures c.args.manager.now at

pub returns-in-HighLow-clause-resumes : goal.returns-in-HighLow-clause-resumes
returns-in-HighLow-clause-resumes g c = λ at. c.after_high_low.ensures.resumes at

pub returns-in_err-product-in-High-clause-resumes : goal.returns-in_err-product-in-High-clause-resumes
returns-in_err-product-in-High-clause-resumes g c = λ at.
    let f = plain_product g.K.Kind.extra_of c.args.frame.now in
    goes_on_refused g.K.Kind.NAME g.K.Kind.extra_of at.outer c.after_high.new.manager f f c.from_residual.result c.in_err-product-in-High.field-0.0 c.from_residual.ensures.1
    (c.in_err-product-in-High.ensures.product at)

pub returns-in_ok-product-in-High-clause-resumes : goal.returns-in_ok-product-in-High-clause-resumes
returns-in_ok-product-in-High-clause-resumes g c = λ at. c.in_ok-product-in-High.ensures.product at

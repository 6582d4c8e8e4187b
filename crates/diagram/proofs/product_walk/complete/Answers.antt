use Rattle.std.proofs.Common.{sym, subst, ℤ}
use Rattle.kind_laws.specs.Plain.{plain, answered}
use Rattle.kind_laws.specs.Scale.{MayScale}
use Rattle.kind_laws.proofs.ScaleLaws.{scale-taken}
use Rattle.diagram.specs.ProductFrames.{plain_product}
use Rattle.diagram.proofs.ProductWalk.{both_can_join, both_refuse, both_kept, both_answer, product_refused}
use Rattle.diagram.proofs.product_walk.complete.Goals as goal

pub join-requires-after_bounds : goal.join-requires-after_bounds
join-requires-after_bounds g c = λ lives bounds.
    both_can_join g.K.Kind.NAME c.args.manager.now (plain_product g.K.Kind.extra_of c.args.frame.now) (plain g.K.Kind.extra_of c.args.high) c.requires

pub returns-in_err-rest-clause-product : goal.returns-in_err-rest-clause-product
returns-in_err-rest-clause-product g c = λ both.
    let k = g.K.Kind.NAME in
    let f = plain_product g.K.Kind.extra_of c.args.frame.now in
    product_refused k both.outer.view c.join.new.self both.outer.operands.0 both.outer.operands.1 (plain g.K.Kind.extra_of) c.from_residual.result c.in_err-rest.field-0.0
    c.from_residual.ensures.1
    (both_refuse k c.args.manager.now c.join.new.self f (plain g.K.Kind.extra_of c.args.high) c.in_err-rest.field-0.0 both c.in_err-rest.ensures.keeps c.in_err-rest.ensures.join)

pub remember-requires-after_bounds : goal.remember-requires-after_bounds
remember-requires-after_bounds g c = λ lives bounds.
    both_kept g.K.Kind.NAME c.args.manager.now c.join.new.self (plain_product g.K.Kind.extra_of c.args.frame.now) (plain g.K.Kind.extra_of c.args.high) _ c.requires
    c.in_ok-rest.ensures.keeps c.in_ok-rest.ensures.join

pub put_back-requires-clause-first : goal.put_back-requires-clause-first
put_back-requires-clause-first g c κs within =
    let k = g.K.Kind.NAME in subst (λ (s : ℤ). MayScale k s) (sym c.requires.begun.first_scale) (scale-taken k c.requires.outer.operands.0.root)

pub put_back-requires-clause-second : goal.put_back-requires-clause-second
put_back-requires-clause-second g c κs within =
    let k = g.K.Kind.NAME in subst (λ (s : ℤ). MayScale k s) (sym c.requires.begun.second_scale) (scale-taken k c.requires.outer.operands.1.root)

pub returns-clause-product : goal.returns-clause-product
returns-clause-product g c = λ both.
    both_answer g.K.Kind.NAME c.args.manager.now c.join.new.self c.remember.new.self (plain_product g.K.Kind.extra_of c.args.frame.now) (plain g.K.Kind.extra_of c.args.high)
    (plain g.K.Kind.extra_of c.in_ok-rest.rest) (answered (plain g.K.Kind.extra_of) c.put_back.result) both c.in_ok-rest.ensures.keeps c.in_ok-rest.ensures.join c.remember.ensures
    c.put_back.ensures

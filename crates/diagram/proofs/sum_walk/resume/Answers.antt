use Rattle.std.proofs.Common.{refl, sym, subst}
use Rattle.std.specs.Prelude.{Ok, Err}
use Rattle.kind_laws.specs.Plain.{plain}
use Rattle.diagram.specs.SumFrames.{plain_sum}
use Rattle.diagram.specs.SumRests.{IsSum}
use Rattle.diagram.specs.View.{View}
use Rattle.diagram.specs.declared.limit.Limit.TheVariants as limit
use Rattle.diagram.proofs.SumWalk.{waits_for_high, waiting_can_join, waiting_may_scale, waiting_may_shift, waiting_join_refused, waiting_overflows, waiting_answers, waiting_kept, goes_on_refused}
use Rattle.diagram.proofs.sum_walk.resume.Goals as goal

pub join-requires-after_bounds : goal.join-requires-after_bounds
join-requires-after_bounds g c = λ lives bounds.
    let k = g.K.Kind.NAME in
    let f = plain_sum g.K.Kind.extra_of c.args.frame.now in
    let known = plain g.K.Kind.extra_of c.args.known in
    waiting_can_join c.args.walk k f c.args.manager.now known c.if-frame.true c.requires.waiting

pub returns-in_err-rest-clause-resumes : goal.returns-in_err-rest-clause-resumes
returns-in_err-rest-clause-resumes g c = λ at.
    let k = g.K.Kind.NAME in
    let f = plain_sum g.K.Kind.extra_of c.args.frame.now in
    let known = plain g.K.Kind.extra_of c.args.known in
    let w = c.join.new.self in
    goes_on_refused c.args.walk k g.K.Kind.extra_of at.outer w f f c.from_residual.result c.in_err-rest.field-0.0 c.from_residual.ensures.1
    (waiting_join_refused c.args.walk k f c.args.manager.now w known c.in_err-rest.field-0.0 c.if-frame.true at c.in_err-rest.ensures.keeps c.in_err-rest.ensures.join)

pub remember-requires-after_bounds : goal.remember-requires-after_bounds
remember-requires-after_bounds g c = λ lives bounds.
    let k = g.K.Kind.NAME in
    let f = plain_sum g.K.Kind.extra_of c.args.frame.now in
    let known = plain g.K.Kind.extra_of c.args.known in
    let w = c.join.new.self in
    waiting_kept c.args.walk k f c.args.manager.now w known (plain g.K.Kind.extra_of c.in_ok-rest.rest) c.if-frame.true c.requires.waiting c.in_ok-rest.ensures.keeps
    c.in_ok-rest.ensures.join

pub put_back-requires-clause-may_scale : goal.put_back-requires-clause-may_scale
put_back-requires-clause-may_scale g c κs within =
    let k = g.K.Kind.NAME in
    let f = plain_sum g.K.Kind.extra_of c.args.frame.now in
    let known = plain g.K.Kind.extra_of c.args.known in
    waiting_may_scale c.args.walk k f c.args.manager.now known c.requires.waiting

pub put_back-requires-clause-may_shift : goal.put_back-requires-clause-may_shift
put_back-requires-clause-may_shift g c κs within =
    let k = g.K.Kind.NAME in
    let f = plain_sum g.K.Kind.extra_of c.args.frame.now in
    let known = plain g.K.Kind.extra_of c.args.known in
    waiting_may_shift c.args.walk k f c.args.manager.now known c.requires.waiting

pub returns-in_err-sum-clause-resumes : goal.returns-in_err-sum-clause-resumes
returns-in_err-sum-clause-resumes g c = λ at.
    let k = g.K.Kind.NAME in
    let f = plain_sum g.K.Kind.extra_of c.args.frame.now in
    let known = plain g.K.Kind.extra_of c.args.known in
    let w = c.join.new.self in
    goes_on_refused c.args.walk k g.K.Kind.extra_of at.outer c.remember.new.self f f c.from_residual-in_err-sum.result limit.Overflow c.from_residual-in_err-sum.ensures.1
    (subst (λ (x : View). IsSum c.args.walk k at.outer.view x at.outer.operands (Err limit.Overflow)) (sym c.remember.ensures)
    (waiting_overflows c.args.walk k f c.args.manager.now w known (plain g.K.Kind.extra_of c.in_ok-rest.rest) c.if-frame.true at c.in_ok-rest.ensures.keeps
    c.in_ok-rest.ensures.join c.in_err-sum.ensures))

pub returns-then-frame-clause-resumes : goal.returns-then-frame-clause-resumes
returns-then-frame-clause-resumes g c = λ at.
    let k = g.K.Kind.NAME in
    let f = plain_sum g.K.Kind.extra_of c.args.frame.now in
    let known = plain g.K.Kind.extra_of c.args.known in
    let w = c.join.new.self in
    let total = plain g.K.Kind.extra_of c.in_ok-sum.sum in
    subst (λ (x : View). IsSum c.args.walk k at.outer.view x at.outer.operands (Ok total)) (sym c.remember.ensures)
    (waiting_answers c.args.walk k f c.args.manager.now w known (plain g.K.Kind.extra_of c.in_ok-rest.rest) total c.if-frame.true at c.in_ok-rest.ensures.keeps
    c.in_ok-rest.ensures.join c.in_ok-sum.ensures)

pub returns-clause-resumes : goal.returns-clause-resumes
returns-clause-resumes g c = λ at.
    let k = g.K.Kind.NAME in
    let f = plain_sum g.K.Kind.extra_of c.args.frame.now in
    let known = plain g.K.Kind.extra_of c.args.known in
    (waits_for_high c.args.walk k at.outer at.inner f c.args.manager.now known at.waits c.if-frame.false at.keeps at.is_known, refl, c.if-frame.false, refl)

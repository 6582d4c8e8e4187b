use Rattle.std.proofs.Common.{refl, sym, subst}
use Rattle.std.specs.Prelude.{Ok, Err}
use Rattle.kind_laws.specs.Plain.{plain}
use Rattle.diagram.specs.Multiples.{IsMultiple, plain_multiple}
use Rattle.diagram.specs.View.{View}
use Rattle.diagram.proofs.MultipleWalk.{waits_for_high, waiting_can_join, waiting_joins, waiting_kept, goes_on_refused}
use Rattle.diagram.proofs.multiple_walk.resume.Goals as goal

pub join-requires-after_bounds : goal.join-requires-after_bounds
join-requires-after_bounds g c = λ lives bounds.
    waiting_can_join c.args.factor g.K.Kind.NAME (plain_multiple g.K.Kind.extra_of c.args.frame.now) c.args.manager.now (plain g.K.Kind.extra_of c.args.known)
    c.if-frame.true c.requires.waiting

pub returns-in_err-multiple-clause-resumes : goal.returns-in_err-multiple-clause-resumes
returns-in_err-multiple-clause-resumes g c = λ at.
    let k = g.K.Kind.NAME in
    let f = plain_multiple g.K.Kind.extra_of c.args.frame.now in
    goes_on_refused c.args.factor k g.K.Kind.extra_of at.outer c.join.new.self f f c.from_residual.result c.in_err-multiple.field-0.0 c.from_residual.ensures.1
    (waiting_joins c.args.factor k f c.args.manager.now c.join.new.self (plain g.K.Kind.extra_of c.args.known) (Err c.in_err-multiple.field-0.0) c.if-frame.true at
    c.in_err-multiple.ensures.keeps c.in_err-multiple.ensures.join)

pub remember-requires-after_bounds : goal.remember-requires-after_bounds
remember-requires-after_bounds g c = λ lives bounds.
    waiting_kept c.args.factor g.K.Kind.NAME (plain_multiple g.K.Kind.extra_of c.args.frame.now) c.args.manager.now c.join.new.self (plain g.K.Kind.extra_of c.args.known) _
    c.if-frame.true c.requires.waiting c.in_ok-multiple.ensures.keeps c.in_ok-multiple.ensures.join

pub returns-then-frame-clause-resumes : goal.returns-then-frame-clause-resumes
returns-then-frame-clause-resumes g c = λ at.
    let k = g.K.Kind.NAME in
    subst (λ (w : View). IsMultiple c.args.factor k at.outer.view w at.outer.operands (Ok (plain g.K.Kind.extra_of c.in_ok-multiple.multiple))) (sym c.remember.ensures)
    (waiting_joins c.args.factor k (plain_multiple g.K.Kind.extra_of c.args.frame.now) c.args.manager.now c.join.new.self (plain g.K.Kind.extra_of c.args.known) _ c.if-frame.true at
    c.in_ok-multiple.ensures.keeps c.in_ok-multiple.ensures.join)

pub returns-clause-resumes : goal.returns-clause-resumes
returns-clause-resumes g c = λ at.
    let k = g.K.Kind.NAME in (
      waits_for_high c.args.factor k at.outer at.inner (plain_multiple g.K.Kind.extra_of c.args.frame.now) c.args.manager.now (plain g.K.Kind.extra_of c.args.known)
          at.waits c.if-frame.false at.keeps at.is_known,
      refl,
      c.if-frame.false,
      refl,
    )

use Rattle.std.proofs.Common.{refl, sym, subst}
use Rattle.kind_laws.specs.Plain.{plain, answered}
use Rattle.diagram.specs.SumRests.{IsPutBack}
use Rattle.diagram.specs.declared.walk.Walk.{Walk}
use Rattle.diagram.proofs.SumRestLaws.{shifts_put, refused_back}
use Rattle.diagram.proofs.sum_rests.put_back.Goals as goal

pub returns-in-Plain : goal.returns-in-Plain
returns-in-Plain g c =
    let k = g.K.Kind.NAME in
    let rest = plain g.K.Kind.extra_of c.args.rest in
    subst (λ (walk : Walk). IsPutBack walk k c.args.factor c.args.shift rest rest) (sym c.in-Plain.is) refl

pub returns-in_err-multiple-in-Stripping : goal.returns-in_err-multiple-in-Stripping
returns-in_err-multiple-in-Stripping g c =
    refused_back c.args.walk g.K.Kind.NAME c.args.factor c.args.shift (plain g.K.Kind.extra_of c.args.rest) (plain g.K.Kind.extra_of) c.from_residual.result
    c.from_residual.ensures.0 c.in-Stripping.is

pub returns-in_ok-multiple-in-Stripping : goal.returns-in_ok-multiple-in-Stripping
returns-in_ok-multiple-in-Stripping g c =
    shifts_put c.args.walk g.K.Kind.NAME c.args.factor c.args.shift (plain g.K.Kind.extra_of c.args.rest) (plain g.K.Kind.extra_of c.in_ok-multiple-in-Stripping.multiple)
    (answered (plain g.K.Kind.extra_of) c.put_shift.result) c.in-Stripping.is c.in_ok-multiple-in-Stripping.ensures.1 c.put_shift.ensures

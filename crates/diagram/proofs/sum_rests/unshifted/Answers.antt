use Rattle.std.proofs.Common.{refl, sym, ◌∙◌, ap, subst, ℤ, pos, ◌+ℤ◌}
use Rattle.kind_laws.specs.Plain.{plain}
use Rattle.kind_laws.specs.Scale.{shift_of}
use Rattle.diagram.specs.SumRests.{IsUnshifted}
use Rattle.diagram.specs.declared.walk.Walk.{Walk}
use Rattle.diagram.proofs.SumRestLaws.{refused_unshift}
use Rattle.diagram.proofs.sum_rests.unshifted.Goals as goal

pub returns-in-Plain : goal.returns-in-Plain
returns-in-Plain g c =
    let k = g.K.Kind.NAME in
    let a = plain g.K.Kind.extra_of c.args.a in
    let b = plain g.K.Kind.extra_of c.args.b in
    subst (λ (walk : Walk). IsUnshifted walk k (a, b) (pos 0, a, b)) (sym c.in-Plain.is) (refl, refl, refl)

pub returns-in_err-shift-in-Stripping : goal.returns-in_err-shift-in-Stripping
returns-in_err-shift-in-Stripping g c =
    let k = g.K.Kind.NAME in
    let a = plain g.K.Kind.extra_of c.args.a in
    let b = plain g.K.Kind.extra_of c.args.b in
    refused_unshift c.args.walk k (a, b) _ c.from_residual.result c.from_residual.ensures.0 c.in-Stripping.is

pub returns-in_ok-shift-in-Stripping : goal.returns-in_ok-shift-in-Stripping
returns-in_ok-shift-in-Stripping g c =
    let k = g.K.Kind.NAME in
    let a = plain g.K.Kind.extra_of c.args.a in
    let b = plain g.K.Kind.extra_of c.args.b in
    let first = c.take_shift-first_shift.ensures in
    let second = c.take_shift-second_shift.ensures in
    let x = plain g.K.Kind.extra_of c.take_shift-first_shift.result.1 in
    let y = plain g.K.Kind.extra_of c.take_shift-second_shift.result.1 in
    let shift = c.in_ok-shift-in-Stripping.ensures.1 ∙ ap (λ (z : ℤ). z +ℤ c.take_shift-second_shift.result.0) first.shift ∙ ap (λ (z : ℤ). shift_of k a.root +ℤ z) second.shift in
    subst (λ (walk : Walk). IsUnshifted walk k (a, b) (c.in_ok-shift-in-Stripping.shift, x, y)) (sym c.in-Stripping.is) (shift, first.rest, second.rest)

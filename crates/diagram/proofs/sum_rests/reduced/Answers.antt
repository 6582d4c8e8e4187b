use Rattle.std.proofs.Common.{refl, inl}
use Rattle.kind_laws.specs.Plain.{plain}
use Rattle.diagram.proofs.SumRestLaws.{reduced_by}
use Rattle.diagram.proofs.sum_rests.reduced.Goals as goal

pub returns-in-Plain : goal.returns-in-Plain
returns-in-Plain g c = inl (refl, refl, refl)

pub returns-in-Stripping : goal.returns-in-Stripping
returns-in-Stripping g c =
    let k = g.K.Kind.NAME in
    let a = plain g.K.Kind.extra_of c.args.a in
    let b = plain g.K.Kind.extra_of c.args.b in
    reduced_by c.args.walk k (a, b) _ c.in-Stripping.is c.quotients.ensures

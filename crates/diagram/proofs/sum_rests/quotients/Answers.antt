use Rattle.std.proofs.Common.{refl, inl, inr}
use Rattle.kind_laws.specs.Plain.{plain}
use Rattle.diagram.specs.SumRests.{AreQuotients}
use Rattle.diagram.specs.declared.walk.Walk.TheVariants.{Stripping}
use Rattle.diagram.proofs.FactoredSums.{IsCommon, common_nonzero, common_divides_first, common_divides_second, may_scale_first, may_scale_second, common_quotients}
use Rattle.diagram.proofs.SumRestLaws.{refused_reduction}
use Rattle.diagram.proofs.sum_rests.quotients.Goals as goal

pub returns-then-not-has_factors : goal.returns-then-not-has_factors
returns-then-not-has_factors g c = inl (refl, refl, refl)

pub exact_div-requires-clause-nonzero : goal.exact_div-requires-clause-nonzero
exact_div-requires-clause-nonzero g c =
    let k = g.K.Kind.NAME in
    let a = plain g.K.Kind.extra_of c.args.a in
    let b = plain g.K.Kind.extra_of c.args.b in
    let s = c.take_scale-first_factor.result.0 in
    let r = c.take_scale-second_factor.result.0 in
    let factor = c.signed_gcd-factor.result in
    let common : IsCommon k s r factor a b = record {
      some_a = c.requires.a_some;
      some_b = c.requires.b_some;
      first = c.take_scale-first_factor.ensures.scale;
      second = c.take_scale-second_factor.ensures.scale;
      is = c.signed_gcd-factor.ensures;
    } in
    common_nonzero k s r factor a b common

pub exact_div-requires-clause-divides : goal.exact_div-requires-clause-divides
exact_div-requires-clause-divides g c =
    let k = g.K.Kind.NAME in
    let a = plain g.K.Kind.extra_of c.args.a in
    let b = plain g.K.Kind.extra_of c.args.b in
    let s = c.take_scale-first_factor.result.0 in
    let r = c.take_scale-second_factor.result.0 in
    let factor = c.signed_gcd-factor.result in
    let common : IsCommon k s r factor a b = record {
      some_a = c.requires.a_some;
      some_b = c.requires.b_some;
      first = c.take_scale-first_factor.ensures.scale;
      second = c.take_scale-second_factor.ensures.scale;
      is = c.signed_gcd-factor.ensures;
    } in
    common_divides_first k s r factor a b common

pub put_scale-requires : goal.put_scale-requires
put_scale-requires g c =
    let k = g.K.Kind.NAME in
    let a = plain g.K.Kind.extra_of c.args.a in
    let b = plain g.K.Kind.extra_of c.args.b in
    let s = c.take_scale-first_factor.result.0 in
    let r = c.take_scale-second_factor.result.0 in
    let factor = c.signed_gcd-factor.result in
    let common : IsCommon k s r factor a b = record {
      some_a = c.requires.a_some;
      some_b = c.requires.b_some;
      first = c.take_scale-first_factor.ensures.scale;
      second = c.take_scale-second_factor.ensures.scale;
      is = c.signed_gcd-factor.ensures;
    } in
    may_scale_first k s r factor _ a b common c.exact_div.ensures.exact

pub exact_div-requires-2-clause-nonzero : goal.exact_div-requires-2-clause-nonzero
exact_div-requires-2-clause-nonzero g c =
    let k = g.K.Kind.NAME in
    let a = plain g.K.Kind.extra_of c.args.a in
    let b = plain g.K.Kind.extra_of c.args.b in
    let s = c.take_scale-first_factor.result.0 in
    let r = c.take_scale-second_factor.result.0 in
    let factor = c.signed_gcd-factor.result in
    let common : IsCommon k s r factor a b = record {
      some_a = c.requires.a_some;
      some_b = c.requires.b_some;
      first = c.take_scale-first_factor.ensures.scale;
      second = c.take_scale-second_factor.ensures.scale;
      is = c.signed_gcd-factor.ensures;
    } in
    common_nonzero k s r factor a b common

pub exact_div-requires-2-clause-divides : goal.exact_div-requires-2-clause-divides
exact_div-requires-2-clause-divides g c =
    let k = g.K.Kind.NAME in
    let a = plain g.K.Kind.extra_of c.args.a in
    let b = plain g.K.Kind.extra_of c.args.b in
    let s = c.take_scale-first_factor.result.0 in
    let r = c.take_scale-second_factor.result.0 in
    let factor = c.signed_gcd-factor.result in
    let common : IsCommon k s r factor a b = record {
      some_a = c.requires.a_some;
      some_b = c.requires.b_some;
      first = c.take_scale-first_factor.ensures.scale;
      second = c.take_scale-second_factor.ensures.scale;
      is = c.signed_gcd-factor.ensures;
    } in
    common_divides_second k s r factor a b common

pub put_scale-requires-2 : goal.put_scale-requires-2
put_scale-requires-2 g c =
    let k = g.K.Kind.NAME in
    let a = plain g.K.Kind.extra_of c.args.a in
    let b = plain g.K.Kind.extra_of c.args.b in
    let s = c.take_scale-first_factor.result.0 in
    let r = c.take_scale-second_factor.result.0 in
    let factor = c.signed_gcd-factor.result in
    let common : IsCommon k s r factor a b = record {
      some_a = c.requires.a_some;
      some_b = c.requires.b_some;
      first = c.take_scale-first_factor.ensures.scale;
      second = c.take_scale-second_factor.ensures.scale;
      is = c.signed_gcd-factor.ensures;
    } in
    may_scale_second k s r factor _ a b common c.exact_div-2.ensures.exact

pub returns-in_err-first : goal.returns-in_err-first
returns-in_err-first g c =
    let k = g.K.Kind.NAME in
    let a = plain g.K.Kind.extra_of c.args.a in
    let b = plain g.K.Kind.extra_of c.args.b in
    refused_reduction Stripping k (a, b) _ c.from_residual.result c.from_residual.ensures.0 refl

pub returns-in_err-second : goal.returns-in_err-second
returns-in_err-second g c =
    let k = g.K.Kind.NAME in
    let a = plain g.K.Kind.extra_of c.args.a in
    let b = plain g.K.Kind.extra_of c.args.b in
    refused_reduction Stripping k (a, b) _ c.from_residual-in_err-second.result c.from_residual-in_err-second.ensures.0 refl

pub returns : goal.returns
returns g c =
    let k = g.K.Kind.NAME in
    let a = plain g.K.Kind.extra_of c.args.a in
    let b = plain g.K.Kind.extra_of c.args.b in
    let s = c.take_scale-first_factor.result.0 in
    let r = c.take_scale-second_factor.result.0 in
    let factor = c.signed_gcd-factor.result in
    let common : IsCommon k s r factor a b = record {
      some_a = c.requires.a_some;
      some_b = c.requires.b_some;
      first = c.take_scale-first_factor.ensures.scale;
      second = c.take_scale-second_factor.ensures.scale;
      is = c.signed_gcd-factor.ensures;
    } in
    let x = plain g.K.Kind.extra_of c.in_ok-first.first in
    let y = plain g.K.Kind.extra_of c.in_ok-second.second in
    let are : AreQuotients k factor a b x y = common_quotients k s r factor _ _ a b _ _ x y common
    (record { exact = c.exact_div.ensures.exact; rest_is = c.take_scale-first_factor.ensures.rest; is = c.in_ok-first.ensures.1 })
    (record { exact = c.exact_div-2.ensures.exact; rest_is = c.take_scale-second_factor.ensures.rest; is = c.in_ok-second.ensures.1 }) in
    inr (refl, are)

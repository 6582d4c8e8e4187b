use Rattle.std.proofs.Common.{refl}
use Rattle.kind_laws.specs.Plain.{PlainEdge, plain}
use Rattle.k_star_bmd.specs.Additive.{own_extra}
use Rattle.k_star_bmd.proofs.JoinLaws.{divides_low, divides_high, divides_rest, divisor-nonzero, skip-fits, rest-fits, node_is}
use Rattle.k_star_bmd.proofs.SkipLaws.{skip_told, no_skip}
use Rattle.k_star_bmd.proofs.k_star_bmd.KStarBmdKind.join.Goals as goal

pub returns-then-skips : goal.returns-then-skips
returns-then-skips c =
    let low : PlainEdge = plain own_extra c.args.low in
    let high : PlainEdge = plain own_extra c.args.high in
    let skip = c.skips.ensures.0 c.if-skips.true in (
      skip-fits c.args.letter low high skip,
      record { joins = λ s r shapes. (skip_told c.args.letter low high s r shapes skip, refl) },
    )

pub exact_div-requires-clause-nonzero : goal.exact_div-requires-clause-nonzero
exact_div-requires-clause-nonzero c =
    divisor-nonzero c.args.letter (plain own_extra c.args.low) (plain own_extra c.args.high) c.in_ok-rest.rest c.signed_gcd-divisor.result
    c.requires.low_rooted c.requires.high_rooted (λ e. let t = c.skips.ensures.1 e in let f = c.if-skips.false in absurd (cc))
    c.in_ok-rest.ensures.1 c.signed_gcd-divisor.ensures

pub exact_div-requires-2-clause-nonzero : goal.exact_div-requires-2-clause-nonzero
exact_div-requires-2-clause-nonzero c =
    divisor-nonzero c.args.letter (plain own_extra c.args.low) (plain own_extra c.args.high) c.in_ok-rest.rest c.signed_gcd-divisor.result
    c.requires.low_rooted c.requires.high_rooted (λ e. let t = c.skips.ensures.1 e in let f = c.if-skips.false in absurd (cc))
    c.in_ok-rest.ensures.1 c.signed_gcd-divisor.ensures

pub exact_div-requires-clause-divides : goal.exact_div-requires-clause-divides
exact_div-requires-clause-divides c =
    divides_low c.args.low.weight c.args.high.weight c.in_ok-rest.rest c.signed_gcd-divisor.result c.signed_gcd-divisor.ensures

pub exact_div-requires-2-clause-divides : goal.exact_div-requires-2-clause-divides
exact_div-requires-2-clause-divides c =
    divides_rest c.args.low.weight c.args.high.weight c.in_ok-rest.rest c.signed_gcd-divisor.result c.signed_gcd-divisor.ensures

pub exact_div-requires-3-clause-divides : goal.exact_div-requires-3-clause-divides
exact_div-requires-3-clause-divides c =
    divides_high c.args.low.weight c.args.high.weight c.in_ok-rest.rest c.signed_gcd-divisor.result c.signed_gcd-divisor.ensures

pub returns : goal.returns
returns c =
    let low : PlainEdge = plain own_extra c.args.low in
    let high : PlainEdge = plain own_extra c.args.high in (
      rest-fits c.args.letter low high c.in_ok-rest.ensures.0,
      record {
        joins = λ s r shapes. record {
          no_skip = no_skip c.args.letter low high s r shapes (λ e. let t = c.skips.ensures.1 e in let f = c.if-skips.false in absurd (cc));
          fields = record {
            level = c.args.level;
            low = c.args.low.node;
            high = c.args.high.node;
            low_weight = c.exact_div.result;
            added = c.exact_div-2.result;
            high_weight = c.exact_div-3.result;
          };
          fits = c.pack_body-body.ensures.fits;
          zeros = tt;
          body_is = c.pack_body-body.ensures.body;
          level_is = refl;
          low_is = refl;
          high_is = refl;
          joins = node_is c.args.letter c.args.level low high s r c.in_ok-rest.rest c.signed_gcd-divisor.result
              c.exact_div.result c.exact_div-2.result c.exact_div-3.result
              c.in_ok-rest.ensures.1 c.signed_gcd-divisor.ensures
              c.exact_div.ensures.quotient c.exact_div-2.ensures.quotient c.exact_div-3.ensures.quotient;
        };
      },
    )

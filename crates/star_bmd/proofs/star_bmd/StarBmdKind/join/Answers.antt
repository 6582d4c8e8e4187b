use Rattle.std.proofs.Common.{refl, sym, ◌∙◌, pos}
use Rattle.star_bmd.proofs.JoinLaws.{divisor-nonzero, divides_low, divides_high, node_is}
use Rattle.star_bmd.proofs.star_bmd.StarBmdKind.join.Goals as goal

pub exact_div-requires-clause-nonzero : goal.exact_div-requires-clause-nonzero
exact_div-requires-clause-nonzero c =
    divisor-nonzero c.args.low.weight c.args.high.weight c.signed_gcd-divisor.result c.signed_gcd-divisor.ensures (sym c.eq.ensures ∙ c.if-eq.false)

pub exact_div-requires-clause-divides : goal.exact_div-requires-clause-divides
exact_div-requires-clause-divides c = divides_low c.args.low.weight c.args.high.weight c.signed_gcd-divisor.result c.signed_gcd-divisor.ensures

pub exact_div-requires-2-clause-divides : goal.exact_div-requires-2-clause-divides
exact_div-requires-2-clause-divides c = divides_high c.args.low.weight c.args.high.weight c.signed_gcd-divisor.result c.signed_gcd-divisor.ensures

pub returns-then-eq : goal.returns-then-eq
returns-then-eq c = (refl, record { joins = λ s r shapes. (sym c.eq.ensures ∙ c.if-eq.true, refl) })

pub returns : goal.returns
returns c = (
  refl,
  record {
    joins = λ s r shapes. record {
      no_skip = sym c.eq.ensures ∙ c.if-eq.false;
      fields = record {
        level = c.args.level;
        low = c.args.low.node;
        high = c.args.high.node;
        low_weight = c.exact_div.result;
        added = pos 0;
        high_weight = c.exact_div-2.result;
      };
      fits = c.pack_body-body.ensures.fits;
      zeros = refl;
      body_is = c.pack_body-body.ensures.body;
      level_is = refl;
      low_is = refl;
      high_is = refl;
      joins = node_is c.args.level c.args.low.weight c.args.high.weight c.signed_gcd-divisor.result c.exact_div.result c.exact_div-2.result s r
          c.signed_gcd-divisor.ensures c.exact_div.ensures.quotient c.exact_div-2.ensures.quotient;
    };
  },
)

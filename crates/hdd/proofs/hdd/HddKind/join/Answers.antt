use Rattle.std.proofs.Common.{refl, pos}
use Rattle.kind_laws.specs.Plain.{plain, no_extra}
use Rattle.hdd.proofs.SkipLaws.{skip_told, no_skip}
use Rattle.hdd.proofs.hdd.HddKind.join.Goals as goal

pub returns-then-skips : goal.returns-then-skips
returns-then-skips c = (
  refl,
  record {
    joins = λ s r shapes. (skip_told c.args.letter (plain no_extra c.args.low) (plain no_extra c.args.high) s r shapes (c.skips.ensures.0 c.if-skips.true), refl);
  },
)

pub returns : goal.returns
returns c = (
  refl,
  record {
    joins = λ s r shapes. record {
      no_skip = no_skip c.args.letter (plain no_extra c.args.low) (plain no_extra c.args.high) s r shapes (λ e. let t = c.skips.ensures.1 e in let f = c.if-skips.false in absurd (cc));
      fields = record {
        level = c.args.level;
        low = c.args.low.node;
        high = c.args.high.node;
        low_weight = c.args.low.weight;
        added = pos 0;
        high_weight = c.args.high.weight;
      };
      fits = c.pack_body-body.ensures.fits;
      zeros = refl;
      body_is = c.pack_body-body.ensures.body;
      level_is = refl;
      low_is = refl;
      high_is = refl;
      joins = refl;
    };
  },
)

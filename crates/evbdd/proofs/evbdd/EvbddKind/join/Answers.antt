use Rattle.std.proofs.Common.{refl, sym, ◌∙◌, pos, ◌-ℤ◌}
use Rattle.word_base.proofs.RangeLaws.{in_range_if}
use Rattle.evbdd.proofs.SkipLaws.{skip_told, no_skip, node_is}
use Rattle.evbdd.proofs.evbdd.EvbddKind.join.Goals as goal

pub returns-then-is_skip : goal.returns-then-is_skip
returns-then-is_skip c = (
  in_range_if (c.args.high.weight -ℤ c.args.low.weight) c.in_ok-added.ensures.0,
  record {
    joins = λ s r shapes. (
      skip_told c.args.letter c.args.low.weight c.args.high.weight c.args.low.node c.args.high.node s r shapes (c.is_skip.ensures.0 c.if-is_skip.true).0
          (sym c.in_ok-added.ensures.1 ∙ (c.is_skip.ensures.0 c.if-is_skip.true).1),
      refl,
    );
  },
)

pub returns : goal.returns
returns c = (
  in_range_if (c.args.high.weight -ℤ c.args.low.weight) c.in_ok-added.ensures.0,
  record {
    joins = λ s r shapes. record {
      no_skip = no_skip c.args.letter c.args.low.weight c.args.high.weight c.args.low.node c.args.high.node s r shapes
          (λ both. let t = c.is_skip.ensures.1 (both.0, c.in_ok-added.ensures.1 ∙ both.1) in let f = c.if-is_skip.false in absurd (cc));
      fields = record {
        level = c.args.level;
        low = c.args.low.node;
        high = c.args.high.node;
        low_weight = pos 0;
        added = c.in_ok-added.added;
        high_weight = pos 0;
      };
      fits = c.pack_body-body.ensures.fits;
      zeros = (refl, refl);
      body_is = c.pack_body-body.ensures.body;
      level_is = refl;
      low_is = refl;
      high_is = refl;
      joins = node_is c.args.level c.args.low.weight c.args.high.weight c.in_ok-added.added s r (sym c.in_ok-added.ensures.1);
    };
  },
)

use Rattle.std.proofs.Common.{◌∙◌, ap, sym, arith}
use Rattle.marks.specs.Inside.{padded}
use Rattle.marks.proofs.PaddedLaws.{padded_push, padded_whole}
use Rattle.marks.proofs.marks.extend.Goals as goal

pub loop-stamps-preserved : goal.loop-stamps-preserved
loop-stamps-preserved c = record {
  items =
      ap (λ ss. padded ss c.args.len) c.push_reserved.ensures.items
      ∙ padded_push c.loop-stamps.stamps.items c.args.len (omega arith) ∙ c.loop-stamps.invariant.items;
  capacity = c.push_reserved.ensures.capacity ∙ c.loop-stamps.invariant.capacity;
}

pub returns-clause-items : goal.returns-clause-items
returns-clause-items c =
    sym (padded_whole c.loop-stamps.stamps.items c.args.len (omega arith)) ∙ c.loop-stamps.invariant.items

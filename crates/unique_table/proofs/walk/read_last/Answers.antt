use Rattle.std.proofs.Common.{arith, refl}
use Rattle.table_rule.specs.declared.layout.Layout.{Layout}
use Rattle.table_rule.specs.declared.view.PassView.{PassView}
use Rattle.unique_table.proofs.Reading.{met_within, can_read_last, reads_other, reads_last}
use Rattle.unique_table.proofs.walk.read_last.Goals as goal

pub read_at-requires : goal.read_at-requires
read_at-requires c =
    let within = met_within c.args.table.now.layout c.args.place.now.me.0 c.requires.possible c.requires.live c.args.id c.requires.met in
    record {
      own = c.requires.own;
      some = within.0;
      small = within.1;
      first = c.requires.first;
      few = omega arith;
      key = refl;
      allowed = can_read_last c.args.table.now.layout c.args.place.now.me.0 c.args.id c.args.wanted c.requires.live c.requires.met c.requires.read;
    }

pub returns : goal.returns
returns c =
    let L : Layout = c.args.table.now.layout in
    let v : PassView = c.args.place.now.me.0 in
    let w : PassView = c.read_at.new.place.me.0 in
    let h = c.read_at.ensures.taken in
    record {
      own = c.read_at.ensures.own;
      other = reads_other L v w c.args.id c.args.wanted c.read_at.result h;
      last = reads_last L v w c.args.id c.args.wanted c.read_at.result h;
      possible = h.after;
    }

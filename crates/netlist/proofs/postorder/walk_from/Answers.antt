use Rattle.netlist.proofs.DepthFirst.{mark-kept, input_within, goes_on, goes_on_less, leaves, leaves_less}
use Rattle.netlist.proofs.postorder.walk_from.Goals as goal

pub enter-requires-then-visit-inputs : goal.enter-requires-then-visit-inputs
enter-requires-then-visit-inputs c =
    input_within c.args.nets.now c.requires.sound.inputs c.loop-visit.seen c.loop-visit.order.items c.loop-visit.visits.items c.pop.new.self.items c.in-Some.visit c.fanin-inputs.result.now c.loop-visit.invariant.walk c.in-Some.ensures.items c.fanin-inputs.ensures c.if-visit-inputs.true

pub loop-visit-smaller-in-Continue-branch-3 : goal.loop-visit-smaller-in-Continue-branch-3
loop-visit-smaller-in-Continue-branch-3 c =
    goes_on_less c.args.nets.now c.requires.sound.inputs c.loop-visit.seen c.loop-visit.order.items c.loop-visit.visits.items c.pop.new.self.items c.in-Some.visit c.fanin-inputs.result.now c.loop-visit.invariant.walk c.in-Some.ensures.items c.fanin-inputs.ensures c.if-visit-inputs.true
    c.push.new.self.items
    c.enter-then-visit-inputs.new.visits.items
    c.enter-then-visit-inputs.new.seen
    c.in_ok-push.ensures.items
    c.in_ok-enter-2.ensures.seen
    c.in_ok-enter-2.ensures.visits
    c.requires.sound.limits

pub loop-visit-preserved-in-Continue-branch-3 : goal.loop-visit-preserved-in-Continue-branch-3
loop-visit-preserved-in-Continue-branch-3 c =
    let low = input_within c.args.nets.now c.requires.sound.inputs c.loop-visit.seen c.loop-visit.order.items c.loop-visit.visits.items c.pop.new.self.items c.in-Some.visit c.fanin-inputs.result.now c.loop-visit.invariant.walk c.in-Some.ensures.items c.fanin-inputs.ensures c.if-visit-inputs.true in
    record {
      walk = goes_on c.args.nets.now c.requires.sound.inputs c.loop-visit.seen c.loop-visit.order.items c.loop-visit.visits.items c.pop.new.self.items c.in-Some.visit c.fanin-inputs.result.now c.loop-visit.invariant.walk c.in-Some.ensures.items c.fanin-inputs.ensures c.if-visit-inputs.true
          c.push.new.self.items
          c.enter-then-visit-inputs.new.visits.items
          c.enter-then-visit-inputs.new.seen
          c.in_ok-push.ensures.items
          c.in_ok-enter-2.ensures.seen
          c.in_ok-enter-2.ensures.visits;
      seen = rw c.in_ok-enter-2.ensures.seen (mark-kept c.loop-visit.seen _ c.args.net low c.loop-visit.invariant.seen);
      kept = λ other was. rw c.in_ok-enter-2.ensures.seen (mark-kept c.loop-visit.seen _ other low (c.loop-visit.invariant.kept other was));
    }

pub loop-visit-smaller : goal.loop-visit-smaller
loop-visit-smaller c =
    leaves_less c.args.nets.now c.requires.sound.inputs c.loop-visit.seen c.loop-visit.order.items c.loop-visit.visits.items c.pop.new.self.items c.in-Some.visit c.fanin-inputs.result.now c.loop-visit.invariant.walk c.in-Some.ensures.items c.fanin-inputs.ensures
    c.requires.sound.limits

pub loop-visit-preserved : goal.loop-visit-preserved
loop-visit-preserved c = record {
  walk = leaves c.args.nets.now c.requires.sound.inputs c.loop-visit.seen c.loop-visit.order.items c.loop-visit.visits.items c.pop.new.self.items c.in-Some.visit c.fanin-inputs.result.now c.loop-visit.invariant.walk c.in-Some.ensures.items c.fanin-inputs.ensures
      c.if-visit-inputs.false
      c.push-else-visit-inputs.new.self.items
      c.in_ok-push-2.ensures.items;
  seen = c.loop-visit.invariant.seen;
  kept = c.loop-visit.invariant.kept;
}

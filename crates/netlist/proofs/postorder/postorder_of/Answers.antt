use Rattle.std.proofs.Common.{◌≡◌, ◌∙◌, ap, length, arith, false, replicate}
use Rattle.std.proofs.lemmas.List.{length-replicate}
use Rattle.netlist.proofs.DepthFirst.{walk_starts, order-has_seen, order-within}
use Rattle.netlist.proofs.Counts.{zeros_at}
use Rattle.circuits.specs.Valuation.{bit_of}
use Rattle.netlist.proofs.postorder.postorder_of.Goals as goal

pub loop-net-init : goal.loop-net-init
loop-net-init c =
    let zeros : c.in_ok-seen.seen.items ≡ replicate c.count-count.result false = c.in_ok-seen.ensures.items_if_clones_equal (λ bit e. e) in
    record {
      walk = rw c.in_ok-order.ensures.items
          (walk_starts c.args.nets.now c.in_ok-seen.seen.items (ap length zeros ∙ (length-replicate c.count-count.result false ∙ c.count-count.ensures.count)) (λ net. ap (λ bits. bit_of bits net) zeros ∙ zeros_at c.count-count.result net));
      each = λ other low. absurd (omega (arith, low));
    }

pub returns-clause-each : goal.returns-clause-each
returns-clause-each c = λ net low. order-has_seen c.args.nets.now c.loop-net.seen.items c.loop-net.order.items c.loop-net.invariant.walk net (c.loop-net.invariant.each net (omega (arith, low, c.loop-net-test.false, c.count-net-end.ensures.count)))

pub returns-clause-within : goal.returns-clause-within
returns-clause-within c = order-within c.args.nets.now c.loop-net.seen.items c.loop-net.order.items c.loop-net.invariant.walk

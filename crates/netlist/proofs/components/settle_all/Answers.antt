use Rattle.std.proofs.Common.{◌≡◌, ◌∙◌, sym, ap, length, arith, false, replicate}
use Rattle.std.proofs.lemmas.List.{length-replicate}
use Rattle.std.proofs.lemmas.List.Elements.{Contains-push}
use Rattle.circuits.proofs.Members.{among-from_Contains}
use Rattle.netlist.proofs.Kosaraju.{settling_begins, settling_more, lists_closed}
use Rattle.netlist.proofs.Counts.{zeros_at, refilled}
use Rattle.circuits.specs.Circuit.{net_count}
use Rattle.circuits.specs.Valuation.{bit_of}
use Rattle.netlist.proofs.components.settle_all.Goals as goal

pub loop-net-init : goal.loop-net-init
loop-net-init c =
    let zeros : c.in_ok-settled.settled.items ≡ replicate c.count-count.result false = c.in_ok-settled.ensures.items_if_clones_equal (λ bit e. e) in
    let zeros_too : c.in_ok-alone.alone.items ≡ replicate c.count-count.result false = c.in_ok-alone.ensures.items_if_clones_equal (λ bit e. e) in
    let many : length (replicate c.count-count.result false) ≡ net_count c.args.nets.now = length-replicate c.count-count.result false ∙ c.count-count.ensures.count in
    settling_begins c.args.nets.now c.args.order.items c.in_ok-settled.settled.items c.in_ok-alone.alone.items (ap length zeros ∙ many) (ap length zeros_too ∙ many)
    (λ net. ap (λ bits. bit_of bits net) zeros ∙ zeros_at c.count-count.result net)
    (λ net. ap (λ bits. bit_of bits net) zeros_too ∙ zeros_at c.count-count.result net)
    c.requires.in_order
    c.requires.within
    c.requires.each

pub settle-requires-clause-net : goal.settle-requires-clause-net
settle-requires-clause-net c =
    let found = c.loop-net.invariant.within c.in-Some.net (rw c.in-Some.ensures.items (among-from_Contains _ c.in-Some.net (Contains-push c.pop.new.self.items c.in-Some.net))) in
    omega (arith, found, c.requires.long)

pub settle-requires-clause-closed : goal.settle-requires-clause-closed
settle-requires-clause-closed c = rw c.deref_mut.ensures.value
    (lists_closed c.args.nets.now c.args.readers.now c.requires.long c.requires.counts c.count-count.ensures.sound.inputs c.loop-net.order.items c.loop-net.settled.items c.loop-net.alone.items c.loop-net.invariant)

pub loop-net-preserved : goal.loop-net-preserved
loop-net-preserved c =
    let before : c.deref_mut.result.now ≡ c.loop-net.settled.items = c.deref_mut.ensures.value in
    let before_too : c.deref_mut-in-Some.result.now ≡ c.loop-net.alone.items = c.deref_mut-in-Some.ensures.value in
    let same : length c.settle.new.settled ≡ length c.loop-net.settled.items = c.settle.auto.settled ∙ ap length before in
    let same_too : length c.settle.new.alone ≡ length c.loop-net.alone.items = c.settle.auto.alone ∙ ap length before_too in
    rw (refilled c.settle.new.settled c.loop-net.settled.items c.loop-net.settled.len (c.loop-net.settled.ok.0 ∙ sym same), refilled c.settle.new.alone c.loop-net.alone.items c.loop-net.alone.len (c.loop-net.alone.ok.0 ∙ sym same_too))
    (settling_more c.args.nets.now c.args.readers.now c.requires.long c.requires.counts c.count-count.ensures.sound.inputs c.loop-net.order.items c.loop-net.settled.items c.loop-net.alone.items c.loop-net.invariant
    c.pop.new.self.items
    c.in-Some.net
    c.in-Some.ensures.items
    c.settle.new.settled
    c.settle.new.alone
    (same ∙ c.loop-net.invariant.long)
    (same_too ∙ c.loop-net.invariant.same)
    (λ net low. rw (← before) (c.in_ok-settle.ensures.settled net (rw (before, c.loop-net.invariant.long) low)))
    (λ net low. rw (← before, ← before_too) (c.in_ok-settle.ensures.alone net (rw (before, c.loop-net.invariant.long) low))))

use Rattle.std.proofs.Common.{◌≡◌, ◌<◌, false, ◌||◌, ◌∙◌, sym, ap, length, Contains, replicate, refl}
use Rattle.std.proofs.lemmas.List.{length-replicate, nil_from_length}
use Rattle.std.proofs.lemmas.List.Elements.{All-contains, Contains-get_or}
use Rattle.netlist.proofs.Marking.{walk_more}
use Rattle.netlist.proofs.ConeWalks.{cone_begins, reached_onwards, marks-cone}
use Rattle.netlist.proofs.Counts.{refilled, zeros_at}
use Rattle.circuits.specs.Circuit.{net_count, fanin}
use Rattle.circuits.specs.Cone.{IsReachedFrom}
use Rattle.circuits.specs.Order.{is_among}
use Rattle.circuits.specs.Valuation.{bit_of}
use Rattle.netlist.proofs.cone.reached_from.Goals as goal

pub loop-net-init : goal.loop-net-init
loop-net-init c =
    let before : c.deref_mut.result.now ≡ c.in_ok-marks.marks.items = c.deref_mut.ensures.value in
    let same : length c.mark_all.new.marks ≡ length c.in_ok-marks.marks.items = c.mark_all.auto.marks ∙ ap length before in
    let zeros : c.in_ok-marks.marks.items ≡ replicate c.count-count.result false = c.in_ok-marks.ensures.items_if_clones_equal (λ bit e. e) in
    let many : length c.in_ok-marks.marks.items ≡ net_count c.args.nets.now = ap length zeros ∙ (length-replicate c.count-count.result false ∙ c.count-count.ensures.count) in
    rw (refilled c.mark_all.new.marks c.in_ok-marks.marks.items c.in_ok-marks.marks.len (c.in_ok-marks.marks.ok.0 ∙ sym same))
    (cone_begins c.args.nets.now c.args.from.now c.count-count.ensures.sound.inputs (λ net has. All-contains (λ n. n < net_count c.args.nets.now) c.args.from.now net c.requires has) c.in_ok-marks.marks.items c.mark_all.new.marks c.mark_all.new.unvisited.items
    (same ∙ many)
    (λ net. ap (λ bits. bit_of bits net) zeros ∙ zeros_at c.count-count.result net)
    (λ net low. c.in_ok-mark_all.ensures.marks net (rw (before, many) low) ∙ ap (λ bits. bit_of bits net || is_among c.args.from.now net) before)
    (λ net. c.in_ok-mark_all.ensures.unvisited net ∙ rw (c.in_ok-unvisited.ensures.items, before) refl))

pub mark_all-requires-in-Some : goal.mark_all-requires-in-Some
mark_all-requires-in-Some c = λ k d low.
    rw (c.deref_mut-in-Some.ensures.value, c.loop-net.invariant.long) (c.count-count.ensures.sound.inputs c.in-Some.net _ (rw (← c.fanin.ensures) (Contains-get_or c.fanin.result.now k d low)))

pub returns-clause-marks : goal.returns-clause-marks
returns-clause-marks c = marks-cone c.args.nets.now c.args.from.now c.count-count.ensures.sound.inputs (λ net has. All-contains (λ n. n < net_count c.args.nets.now) c.args.from.now net c.requires has) c.loop-net.marks.items c.loop-net.unvisited.items c.loop-net.invariant (nil_from_length c.loop-net.unvisited.items (sym c.loop-net.unvisited.ok.0 ∙ c.in_default.ensures.cases.0))

pub loop-net-preserved : goal.loop-net-preserved
loop-net-preserved c =
    let before : c.deref_mut-in-Some.result.now ≡ c.loop-net.marks.items = c.deref_mut-in-Some.ensures.value in
    let same : length c.mark_all-in-Some.new.marks ≡ length c.loop-net.marks.items = c.mark_all-in-Some.auto.marks ∙ ap length before in
    rw (refilled c.mark_all-in-Some.new.marks c.loop-net.marks.items c.loop-net.marks.len (c.loop-net.marks.ok.0 ∙ sym same))
    (walk_more (fanin c.args.nets.now) (Contains c.args.from.now) (IsReachedFrom c.args.nets.now c.args.from.now) (net_count c.args.nets.now) c.count-count.ensures.sound.inputs c.loop-net.marks.items c.loop-net.unvisited.items c.loop-net.invariant (reached_onwards c.args.nets.now c.args.from.now) c.pop.new.self.items c.in-Some.net c.in-Some.ensures.items c.mark_all-in-Some.new.marks c.mark_all-in-Some.new.unvisited.items
    (same ∙ c.loop-net.invariant.long)
    (λ y low. c.in_ok-mark_all-2.ensures.marks y (rw (before, c.loop-net.invariant.long) low) ∙ rw (before, c.fanin.ensures) refl)
    (λ y. c.in_ok-mark_all-2.ensures.unvisited y ∙ rw (before, c.fanin.ensures) refl))

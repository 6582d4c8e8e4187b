use Rattle.std.proofs.Common.{◌≡◌, ◌<◌, ◌∙◌, ℕ, false, sym, ap, arith, slice_index, [], ◌∷◌, ◌++◌}
use Rattle.std.proofs.lemmas.List.{append-nil}
use Rattle.netlist.proofs.ConeWalks.{topological-is_gate}
use Rattle.std.proofs.lemmas.List.{get_or_default}
use Rattle.netlist.proofs.Counts.{filter_more}
use Rattle.circuits.specs.Circuit.{net_count}
use Rattle.circuits.specs.Cone.{is_in_cone}
use Rattle.netlist.proofs.cone.cone_of.Goals.{then-index+in_ok-push, else-index}
use Rattle.netlist.proofs.cone.cone_of.Goals as goal

pub index-requires : goal.index-requires
index-requires c =
    let is = topological-is_gate c.args.nets.now c.args.order.now c.loop-net.net-index c.requires.order c.loop-net-test.true in
    let low : slice_index c.args.order.now c.loop-net.net-index < net_count c.args.nets.now = is.1 in
    omega (arith, low, c.in_ok-marks.ensures.length, c.in_ok-marks.marks.ok.0)

pub loop-net-preserved : goal.loop-net-preserved
loop-net-preserved c =
    let net : ℕ = slice_index c.args.order.now c.loop-net.net-index in
    let is = topological-is_gate c.args.nets.now c.args.order.now c.loop-net.net-index c.requires.order c.loop-net-test.true in
    let low : net < net_count c.args.nets.now = is.1 in
    let mark : c.index.result.now ≡ is_in_cone c.args.nets.now c.args.from.now net =
    c.index.ensures ∙ (get_or_default c.in_ok-marks.marks.items net c.index.result.now false (rw c.in_ok-marks.ensures.length low) ∙ c.in_ok-marks.ensures.marks net low)
    in
    let more = filter_more (is_in_cone c.args.nets.now c.args.from.now) c.args.order.now c.loop-net.net-index c.loop-net-test.true in
    elim c.if-index.branch [
      | then-index+in_ok-push w ↦ rw (w.gates-is, w.in_ok-push.ensures.items, more, sym mark ∙ w.if-index.true) (ap (λ xs. xs ++ net ∷ []) c.loop-net.invariant)
      | else-index w ↦ rw (w.gates-is, more, sym mark ∙ w.if-index.false) (c.loop-net.invariant ∙ sym (append-nil _))
    ]

use Rattle.std.proofs.Common.{◌≡◌, ◌==◌, ℕ, ◌+◌, false, ◌&&◌, ◌∙◌, sym, ap, subst, length, arith, nat_cmp, slice_index}
use Rattle.std.proofs.lemmas.Bool.{false≢true}
use Rattle.std.proofs.lemmas.List.{length_push}
use Rattle.std.proofs.lemmas.Map.Keys.{le_from_not_gt}
use Rattle.std.specs.BTreeSet.{contains}
use Rattle.netlist.proofs.Kahn.{kahn_first, kahn_more, topological-if_none, net-is_gate, readers_enough, readers_within, more-few, contains-none}
use Rattle.netlist.proofs.Counts.{contains-updated, reader_counts, refilled}
use Rattle.circuits.specs.Circuit.{IsGate}
use Rattle.netlist.specs.Inside.Waiting.{is_gate, count_of}
use Rattle.netlist.proofs.order.order_of.Goals as goal

pub loop-net-init : goal.loop-net-init
loop-net-init c = record {
  kahn = rw c.in_ok-order.ensures.items (kahn_first c.args.nets.now (slice_index c.in_ok-waiting.waiting.items) (contains nat_cmp c.in_ok-ready.ready) c.in_ok-waiting.ensures.counts (subst (λ xs. (net : ℕ) → contains nat_cmp c.in_ok-ready.ready net ≡ (is_gate c.args.nets.now net && slice_index xs net == 0)) c.deref.ensures.value c.in_ok-ready.ensures));
  waiting = c.in_ok-waiting.ensures.length;
}

pub returns : goal.returns
returns c = topological-if_none c.args.nets.now c.loop-net.order.items (slice_index c.loop-net.waiting.items) (contains nat_cmp c.loop-net.ready) c.loop-net.invariant.kahn
    (contains-none c.loop-net.ready (λ some. false≢true (c.in_default.ensures.variant.1 some)))

pub loop-net-smaller : goal.loop-net-smaller
loop-net-smaller c =
    let few = more-few c.args.nets.now c.loop-net.order.items (slice_index c.loop-net.waiting.items) (contains nat_cmp c.loop-net.ready) c.loop-net.invariant.kahn c.in-Some.net c.in-Some.ensures.member (λ other has. le_from_not_gt c.in-Some.net other (c.in-Some.ensures.least other has)) in
    omega (arith, few, ap length c.in_ok-push.ensures.items, length_push c.loop-net.order.items c.in-Some.net)

pub release-requires-clause-within : goal.release-requires-clause-within
release-requires-clause-within c = λ k d low.
    let is : IsGate c.args.nets.now c.in-Some.net = net-is_gate c.args.nets.now c.loop-net.order.items (slice_index c.loop-net.waiting.items) (contains nat_cmp c.loop-net.ready) c.loop-net.invariant.kahn c.in-Some.net c.in-Some.ensures.member (λ other has. le_from_not_gt c.in-Some.net other (c.in-Some.ensures.least other has)) in
    let counts = reader_counts c.args.nets.now c.in_ok-readers.readers.items c.in-Some.net c.index.result.now c.deref-in-Some.result.now c.in_ok-readers.ensures.counts c.in_ok-readers.ensures.length is.1 c.index.ensures c.deref-in-Some.ensures.value in
    rw (c.deref_mut.ensures.value, c.loop-net.invariant.waiting) (readers_within c.args.nets.now c.deref-in-Some.result.now c.in-Some.net counts k d low)

pub release-requires-clause-enough : goal.release-requires-clause-enough
release-requires-clause-enough c = λ net.
    let is : IsGate c.args.nets.now c.in-Some.net = net-is_gate c.args.nets.now c.loop-net.order.items (slice_index c.loop-net.waiting.items) (contains nat_cmp c.loop-net.ready) c.loop-net.invariant.kahn c.in-Some.net c.in-Some.ensures.member (λ other has. le_from_not_gt c.in-Some.net other (c.in-Some.ensures.least other has)) in
    let counts = reader_counts c.args.nets.now c.in_ok-readers.readers.items c.in-Some.net c.index.result.now c.deref-in-Some.result.now c.in_ok-readers.ensures.counts c.in_ok-readers.ensures.length is.1 c.index.ensures c.deref-in-Some.ensures.value in
    rw c.deref_mut.ensures.value (readers_enough c.args.nets.now c.loop-net.order.items (slice_index c.loop-net.waiting.items) (contains nat_cmp c.loop-net.ready) c.loop-net.invariant.kahn c.in-Some.net c.in-Some.ensures.member (λ other has. le_from_not_gt c.in-Some.net other (c.in-Some.ensures.least other has)) c.deref-in-Some.result.now counts net)

pub loop-net-preserved : goal.loop-net-preserved
loop-net-preserved c =
    let is : IsGate c.args.nets.now c.in-Some.net = net-is_gate c.args.nets.now c.loop-net.order.items (slice_index c.loop-net.waiting.items) (contains nat_cmp c.loop-net.ready) c.loop-net.invariant.kahn c.in-Some.net c.in-Some.ensures.member (λ other has. le_from_not_gt c.in-Some.net other (c.in-Some.ensures.least other has)) in
    let counts = reader_counts c.args.nets.now c.in_ok-readers.readers.items c.in-Some.net c.index.result.now c.deref-in-Some.result.now c.in_ok-readers.ensures.counts c.in_ok-readers.ensures.length is.1 c.index.ensures c.deref-in-Some.ensures.value in
    let before : c.deref_mut.result.now ≡ c.loop-net.waiting.items = c.deref_mut.ensures.value in
    let same : length c.release.new.waiting ≡ length c.loop-net.waiting.items = c.release.auto.waiting ∙ ap length before in
    let left : (y : ℕ) → slice_index c.release.new.waiting y + count_of c.deref-in-Some.result.now y ≡ slice_index c.loop-net.waiting.items y =
    subst (λ xs. (y : ℕ) → slice_index c.release.new.waiting y + count_of c.deref-in-Some.result.now y ≡ slice_index xs y) before c.in_ok-release.ensures.waiting
    in
    rw (refilled c.release.new.waiting c.loop-net.waiting.items c.loop-net.waiting.len (c.loop-net.waiting.ok.0 ∙ sym same), c.in_ok-push.ensures.items)
    (record {
      kahn = kahn_more c.args.nets.now c.loop-net.order.items (slice_index c.loop-net.waiting.items) (contains nat_cmp c.loop-net.ready) c.loop-net.invariant.kahn c.in-Some.net c.in-Some.ensures.member
          (λ other has. le_from_not_gt c.in-Some.net other (c.in-Some.ensures.least other has))
          (slice_index c.release.new.waiting)
          c.deref-in-Some.result.now
          (contains nat_cmp c.pop_first.new.self)
          (contains nat_cmp c.release.new.ready)
          counts
          left
          (contains-updated c.loop-net.ready c.pop_first.new.self c.in-Some.net false c.in-Some.ensures.updates)
          c.in_ok-release.ensures.ready;
      waiting = same ∙ c.loop-net.invariant.waiting;
    })

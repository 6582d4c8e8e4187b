use Rattle.std.proofs.Common.{◌≡◌, vec_capacity}
use Rattle.record_store.specs.StoreView.{find_in}
use Rattle.diagram.proofs.NodeWalk.{IsUnderWay, steps_left}
use Rattle.diagram.proofs.node_walk.gather_below.Given as goal

abbrev pub invariant-loop-next : goal.invariant-loop-next
invariant-loop-next g l = record {
  same : g.S.Store.view l.store ≡ g.S.Store.view l.fn.store;
  way : IsUnderWay g.K.Kind.NAME (find_in (g.S.Store.view l.fn.store)) (vec_capacity l.fn.frames)
      (record { id = l.fn.id; marks = l.fn.marks; content = l.fn.content }) l.frames.items l.marks l.gathered l.next;
  room : vec_capacity l.frames ≡ vec_capacity l.fn.frames;
}

abbrev pub decreases-loop-next : goal.decreases-loop-next
decreases-loop-next g l = steps_left (find_in (g.S.Store.view l.fn.store)) (vec_capacity l.fn.frames) l.frames.items l.next

use Rattle.std.proofs.Common.{◌<◌, length, true, false, slice_index, refl, sym}
use Rattle.std.proofs.lemmas.Bool.{eq-eqb, ne_eqb}
use Rattle.std.specs.BTreeSet.{contains}
use Rattle.std.specs.Ordering.{nat_cmp}
use Rattle.netlist.proofs.Counts.{waits_for_more, released, ready_more, contains-updated}
use Rattle.netlist.proofs.order.release.Goals.{then-left-eq0+in_ok-insert, else-left-eq0}
use Rattle.netlist.proofs.order.release.Goals as goal

pub overflow_sub-left : goal.overflow_sub-left
overflow_sub-left c = waits_for_more c.args.waiting.now c.loop-reader.waiting c.args.readers.now c.loop-reader.reader-index c.loop-reader-test.true c.loop-reader.invariant.waiting c.requires.enough

pub loop-reader-preserved : goal.loop-reader-preserved
loop-reader-preserved c =
    let some = waits_for_more c.args.waiting.now c.loop-reader.waiting c.args.readers.now c.loop-reader.reader-index c.loop-reader-test.true c.loop-reader.invariant.waiting c.requires.enough in
    let within : slice_index c.args.readers.now c.loop-reader.reader-index < length c.loop-reader.waiting = rw c.loop-reader.auto.waiting (c.requires.within c.loop-reader.reader-index 0 c.loop-reader-test.true) in
    let step = ready_more c.loop-reader.waiting c.args.readers.now c.loop-reader.reader-index (contains nat_cmp c.args.ready.now) (contains nat_cmp c.loop-reader.ready) in
    let waiting = released c.args.waiting.now c.loop-reader.waiting c.args.readers.now c.loop-reader.reader-index c.loop-reader-test.true within some c.loop-reader.invariant.waiting in
    elim c.if-left-eq0.branch [
      | then-left-eq0+in_ok-insert w ↦ record {
        waiting = waiting;
        ready = rw w.ready-is (step (contains nat_cmp w.insert.new.self) true c.loop-reader-test.true within some (sym (eq-eqb _ 0 w.if-left-eq0.true)) c.loop-reader.invariant.ready (contains-updated c.loop-reader.ready w.insert.new.self _ true w.in_ok-insert.ensures.updates));
      }
      | else-left-eq0 w ↦ record {
        waiting = waiting;
        ready = rw w.ready-is (step (contains nat_cmp c.loop-reader.ready) false c.loop-reader-test.true within some (sym (ne_eqb _ 0 w.if-left-eq0.false)) c.loop-reader.invariant.ready (λ net. refl));
      }
    ]

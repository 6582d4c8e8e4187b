use Rattle.std.proofs.Common.{◌<◌, length, slice_index}
use Rattle.netlist.proofs.Counts.{note_more}
use Rattle.netlist.proofs.order.note_reader.Goals as goal

pub loop-input-preserved : goal.loop-input-preserved
loop-input-preserved c =
    let within : slice_index c.args.inputs.now c.loop-input.input-index < length c.loop-input.readers = rw c.loop-input.auto.readers (c.requires c.loop-input.input-index 0 c.loop-input-test.true) in
    note_more c.args.readers.now c.loop-input.readers c.args.reader c.args.inputs.now c.loop-input.input-index c.index-readers-input.result c.push.new.self c.loop-input-test.true within c.loop-input.auto.readers c.in_ok-push.ensures.items c.loop-input.invariant

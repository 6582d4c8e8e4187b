use Rattle.std.proofs.Common.{◌-◌, ◌<◌, Ok, Err, length, slice_index, arith, sym, ap, ◌∙◌}
use Rattle.std.proofs.lemmas.List.{get_or_read}
use Rattle.bench_reader.specs.Faults.{fault}
use Rattle.bench_reader.proofs.Readings.{whole_reading, fault_reading, fault_within}
use Rattle.bench_reader.proofs.reader.read.Goals as goal

pub returns-in-Ok-clause-netlist : goal.returns-in-Ok-clause-netlist
returns-in-Ok-clause-netlist c =
    let g = c.in_ok-maker.field-0 in
    whole_reading c.args.bytes.now g.maker g.saying.items (omega (arith, c.requires)) c.in_ok-maker.ensures c.in-Ok.ensures.fault
    ∙ ap Ok (sym c.in-Ok.ensures.circuit)

pub overflow_sub-fault : goal.overflow_sub-fault
overflow_sub-fault c =
    let g = c.in_ok-maker.field-0 in
    let some = rw c.in-Err-Fault.field-0-is at c.in-Err-Fault.ensures.fault in
    let within = fault_within c.args.bytes.now g.maker g.saying.items c.in-Err-Fault.fault (omega (arith, c.requires)) c.in_ok-maker.ensures some in
    omega (arith, within.0)

pub index-line-requires : goal.index-line-requires
index-line-requires c =
    let g = c.in_ok-maker.field-0 in
    let some = rw c.in-Err-Fault.field-0-is at c.in-Err-Fault.ensures.fault in
    let within = fault_within c.args.bytes.now g.maker g.saying.items c.in-Err-Fault.fault (omega (arith, c.requires)) c.in_ok-maker.ensures some in
    omega (arith, within.0, within.1, g.saying.ok)

pub returns-in-Err-Fault-clause-fault : goal.returns-in-Err-Fault-clause-fault
returns-in-Err-Fault-clause-fault c =
    let g = c.in_ok-maker.field-0 in
    let f = c.in-Err-Fault.fault in
    let some = rw c.in-Err-Fault.field-0-is at c.in-Err-Fault.ensures.fault in
    let within = fault_within c.args.bytes.now g.maker g.saying.items f (omega (arith, c.requires)) c.in_ok-maker.ensures some in
    let inside : f.at - 1 < length g.saying.items = omega (arith, within.0, within.1) in
    fault_reading c.args.bytes.now g.maker g.saying.items f (omega (arith, c.requires)) c.in_ok-maker.ensures some
    ∙ ap (λ cause. Err (fault (slice_index g.saying.items (f.at - 1)) cause)) (sym c.bench_cause-cause.ensures)
    ∙ ap (λ n. Err (fault n c.bench_cause-cause.result)) (sym (get_or_read g.saying.items (f.at - 1) c.index-line.result.now inside c.index-line.ensures 0))

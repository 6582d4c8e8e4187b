use Rattle.std.proofs.Common.{refl, subst}
use Rattle.std.specs.Prelude.{Err, string_bytes}
use Rattle.check_run.specs.declared.command.Outcome.{Outcome}
use Rattle.check_run.specs.declared.stop.Stop.{Stop}
use Rattle.check_run.specs.Loading.{Loads}
use Rattle.settings.specs.Words.{texts}
use Rattle.check_run.specs.Outside.{seen, shelf_seen, sink_seen}
use Rattle.check_run.specs.Words.{plain_asked}
use Rattle.check_run.proofs.RunLaws.{check_run, failed_to_read, refusal_run, wanted_memory}
use Rattle.check_run.proofs.command.run.Goals as goal

pub returns-in-Ok : goal.returns-in-Ok
returns-in-Ok g c =
    check_run (λ (o : Outcome). string_bytes o.text) (λ o. o.status) (texts c.args.words.now)
    (seen (shelf_seen g.F.Shelf.files g.F.Shelf.fetches g.F.Shelf.faults c.args.shelf.now) (sink_seen g.O.Sink.written g.O.Sink.faults c.args.out.now))
    (seen (shelf_seen g.F.Shelf.files g.F.Shelf.fetches g.F.Shelf.faults c.load.new.shelf) (sink_seen g.O.Sink.written g.O.Sink.faults c.put.new.out))
    (plain_asked c.in-Ok.asked) c.in-Ok.netlist c.in-Ok.spec c.checked.result c.put.result c.in-Ok.ensures.files c.in-Ok.ensures.loads.1 c.in-Ok.ensures.loads.0 c.checked.ensures c.put.ensures.put
    c.put.ensures.not_made c.put.ensures.nothing

pub returns-in-Err-Refused : goal.returns-in-Err-Refused
returns-in-Err-Refused g c =
    let loads = subst (λ (s : Stop). Loads (texts c.args.words.now) (shelf_seen g.F.Shelf.files g.F.Shelf.fetches g.F.Shelf.faults c.args.shelf.now) (shelf_seen g.F.Shelf.files g.F.Shelf.fetches g.F.Shelf.faults c.load.new.shelf) (Err s))
    c.in-Err-Refused.field-0-is c.in-Err-Refused.ensures.loads in
    refusal_run (λ (o : Outcome). string_bytes o.text) (λ o. o.status) (texts c.args.words.now)
    (seen (shelf_seen g.F.Shelf.files g.F.Shelf.fetches g.F.Shelf.faults c.args.shelf.now) (sink_seen g.O.Sink.written g.O.Sink.faults c.args.out.now))
    (seen (shelf_seen g.F.Shelf.files g.F.Shelf.fetches g.F.Shelf.faults c.load.new.shelf) (sink_seen g.O.Sink.written g.O.Sink.faults c.put-in-Err-Refused.new.out))
    c.in-Err-Refused.refusal c.refused.result c.put-in-Err-Refused.result c.in-Err-Refused.ensures.files loads.1 loads.0 c.refused.ensures
    c.put-in-Err-Refused.ensures.put c.put-in-Err-Refused.ensures.not_made c.put-in-Err-Refused.ensures.nothing

pub returns-in-Err-ReadFault : goal.returns-in-Err-ReadFault
returns-in-Err-ReadFault g c =
    let loads = subst (λ (s : Stop). Loads (texts c.args.words.now) (shelf_seen g.F.Shelf.files g.F.Shelf.fetches g.F.Shelf.faults c.args.shelf.now) (shelf_seen g.F.Shelf.files g.F.Shelf.fetches g.F.Shelf.faults c.load.new.shelf) (Err s))
    c.in-Err-ReadFault.field-0-is c.in-Err-ReadFault.ensures.loads in
    failed_to_read (texts c.args.words.now)
    (seen (shelf_seen g.F.Shelf.files g.F.Shelf.fetches g.F.Shelf.faults c.args.shelf.now) (sink_seen g.O.Sink.written g.O.Sink.faults c.args.out.now))
    (seen (shelf_seen g.F.Shelf.files g.F.Shelf.fetches g.F.Shelf.faults c.load.new.shelf) (sink_seen g.O.Sink.written g.O.Sink.faults c.args.out.now))
    c.in-Err-ReadFault.ensures.files loads refl

pub returns-in-Err-Memory : goal.returns-in-Err-Memory
returns-in-Err-Memory g c =
    let loads = subst (λ (s : Stop). Loads (texts c.args.words.now) (shelf_seen g.F.Shelf.files g.F.Shelf.fetches g.F.Shelf.faults c.args.shelf.now) (shelf_seen g.F.Shelf.files g.F.Shelf.fetches g.F.Shelf.faults c.load.new.shelf) (Err s))
    c.in-Err-Memory.field-0-is c.in-Err-Memory.ensures.loads in
    wanted_memory (texts c.args.words.now)
    (seen (shelf_seen g.F.Shelf.files g.F.Shelf.fetches g.F.Shelf.faults c.args.shelf.now) (sink_seen g.O.Sink.written g.O.Sink.faults c.args.out.now))
    (seen (shelf_seen g.F.Shelf.files g.F.Shelf.fetches g.F.Shelf.faults c.load.new.shelf) (sink_seen g.O.Sink.written g.O.Sink.faults c.args.out.now))
    c.in-Err-Memory.ensures.files loads.1 loads.0 refl

use Rattle.std.proofs.Common.{refl}
use Rattle.check_run.specs.Outside.{shelf_seen}
use Rattle.check_run.specs.Sources.{in_files}
use Rattle.check_run.proofs.LoadLaws.{both_taken, netlist_stops, spec_stops}
use Rattle.check_run.proofs.load.load_files.Goals as goal

pub returns-in_err-netlist-clause-loads : goal.returns-in_err-netlist-clause-loads
returns-in_err-netlist-clause-loads g c =
    netlist_stops c.args.kind (in_files c.args.netlist.now c.args.spec.now)
    (shelf_seen g.F.Shelf.files g.F.Shelf.fetches g.F.Shelf.faults c.args.shelf.now)
    (shelf_seen g.F.Shelf.files g.F.Shelf.fetches g.F.Shelf.faults c.load_netlist.new.shelf)
    c.in_err-netlist.field-0.0 c.from_residual.result (λ _. tt) c.in_err-netlist.ensures.once c.in_err-netlist.ensures.netlist
    c.from_residual.ensures.1

pub returns-in_err-spec-clause-loads : goal.returns-in_err-spec-clause-loads
returns-in_err-spec-clause-loads g c =
    spec_stops c.args.kind (in_files c.args.netlist.now c.args.spec.now)
    (shelf_seen g.F.Shelf.files g.F.Shelf.fetches g.F.Shelf.faults c.args.shelf.now)
    (shelf_seen g.F.Shelf.files g.F.Shelf.fetches g.F.Shelf.faults c.load_netlist.new.shelf)
    (shelf_seen g.F.Shelf.files g.F.Shelf.fetches g.F.Shelf.faults c.load_spec.new.shelf)
    c.in_ok-netlist.netlist c.in_err-spec.field-0.0 c.from_residual-in_err-spec.result (λ _. tt)
    (record { files = c.in_ok-netlist.ensures.files; fetches = c.in_ok-netlist.ensures.once; faults = c.in_ok-netlist.ensures.netlist.1 })
    c.in_ok-netlist.ensures.netlist.0 c.in_err-spec.ensures.once c.in_err-spec.ensures.spec c.from_residual-in_err-spec.ensures.1

pub returns-clause-loads : goal.returns-clause-loads
returns-clause-loads g c =
    both_taken c.args.kind (in_files c.args.netlist.now c.args.spec.now)
    (shelf_seen g.F.Shelf.files g.F.Shelf.fetches g.F.Shelf.faults c.args.shelf.now)
    (shelf_seen g.F.Shelf.files g.F.Shelf.fetches g.F.Shelf.faults c.load_netlist.new.shelf)
    (shelf_seen g.F.Shelf.files g.F.Shelf.fetches g.F.Shelf.faults c.load_spec.new.shelf)
    c.in_ok-netlist.netlist c.in_ok-spec.spec
    (record { files = c.in_ok-netlist.ensures.files; fetches = c.in_ok-netlist.ensures.once; faults = c.in_ok-netlist.ensures.netlist.1 })
    c.in_ok-netlist.ensures.netlist.0 c.in_ok-spec.ensures.once c.in_ok-spec.ensures.spec

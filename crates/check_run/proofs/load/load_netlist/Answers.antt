use Rattle.std.proofs.Common.{sym, ap, subst, ◌∙◌, ℕ, List}
use Rattle.bench_reader.specs.Reading.{IsFaultOf, reading}
use Rattle.outside.specs.Shelf.{told}
use Rattle.check_run.specs.Files.{RefusesNetlist, SaysNetlist}
use Rattle.check_run.specs.Outside.{shelf_seen}
use Rattle.check_run.proofs.FileLaws.{comes_of_text, netlist_not_read, text_is_there}
use Rattle.check_run.proofs.load.load_netlist.Goals as goal

pub returns-in_err-read-clause-netlist : goal.returns-in_err-read-clause-netlist
returns-in_err-read-clause-netlist g c =
    let text = told (g.F.Shelf.files c.args.shelf.now) c.args.name.now in
    let bytes = c.in_ok-bytes.bytes.items in
    let is = c.in_ok-bytes.ensures.text.0 in
    comes_of_text (SaysNetlist text) (shelf_seen g.F.Shelf.files g.F.Shelf.fetches g.F.Shelf.faults c.args.shelf.now)
    (shelf_seen g.F.Shelf.files g.F.Shelf.fetches g.F.Shelf.faults c.fetch.new.shelf) text (RefusesNetlist text) c.from_residual-in_err-read.result
    (text_is_there text bytes is) c.in_ok-bytes.ensures.text.1
    (netlist_not_read text bytes c.in_err-read.field-0.0 c.from_residual-in_err-read.result is
    (subst (λ (t : List ℕ). IsFaultOf c.in_err-read.field-0.0 (reading t)) c.deref.ensures.value c.in_err-read.ensures.fault)
    c.from_residual-in_err-read.ensures.1)

pub returns-clause-netlist : goal.returns-clause-netlist
returns-clause-netlist g c =
    ((c.in_ok-bytes.bytes.items, c.in_ok-bytes.ensures.text.0, ap reading (sym c.deref.ensures.value) ∙ c.in_ok-read.ensures.netlist), c.in_ok-bytes.ensures.text.1)

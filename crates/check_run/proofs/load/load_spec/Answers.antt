use Rattle.std.proofs.Common.{sym, ap, subst, ◌∙◌, ℕ, List}
use Rattle.spec_grammar.specs.Reading.{IsFaultOf, reading}
use Rattle.outside.specs.Shelf.{told}
use Rattle.check_run.specs.Files.{RefusesSpec, SaysSpec}
use Rattle.check_run.specs.Outside.{shelf_seen}
use Rattle.check_run.proofs.FileLaws.{comes_of_text, spec_not_read, text_is_there}
use Rattle.check_run.proofs.load.load_spec.Goals as goal

pub returns-in_err-read-clause-spec : goal.returns-in_err-read-clause-spec
returns-in_err-read-clause-spec g c =
    let text = told (g.F.Shelf.files c.args.shelf.now) c.args.name.now in
    let bytes = c.in_ok-bytes.bytes.items in
    let is = c.in_ok-bytes.ensures.text.0 in
    let k = c.args.kind in
    let n = c.args.netlist.now in
    comes_of_text (SaysSpec k n text) (shelf_seen g.F.Shelf.files g.F.Shelf.fetches g.F.Shelf.faults c.args.shelf.now)
    (shelf_seen g.F.Shelf.files g.F.Shelf.fetches g.F.Shelf.faults c.fetch.new.shelf) text (RefusesSpec k n text) c.from_residual-in_err-read.result
    (text_is_there text bytes is) c.in_ok-bytes.ensures.text.1
    (spec_not_read k n text bytes c.in_err-read.field-0.0 c.from_residual-in_err-read.result is
    (subst (λ (t : List ℕ). IsFaultOf c.in_err-read.field-0.0 (reading n k t)) c.deref.ensures.value c.in_err-read.ensures.fault)
    c.from_residual-in_err-read.ensures.1)

pub returns-clause-spec : goal.returns-clause-spec
returns-clause-spec g c =
    ((c.in_ok-bytes.bytes.items, c.in_ok-bytes.ensures.text.0, ap (reading c.args.netlist.now c.args.kind) (sym c.deref.ensures.value) ∙ c.in_ok-read.ensures.spec), c.in_ok-bytes.ensures.text.1)

use Rattle.std.proofs.Common.{◌∙◌, ap, map}
use Rattle.std.proofs.lemmas.List.{take_all}
use Rattle.std.specs.String.{string_bytes}
use Rattle.circuits.specs.Circuit.{name_of}
use Rattle.report.specs.Lines.{report}
use Rattle.report.proofs.Reports.{report-more}
use Rattle.report.proofs.lines.verdict_lines.Goals as goal

pub loop-place-preserved : goal.loop-place-preserved
loop-place-preserved c =
    report-more (map (name_of c.args.netlist.now) c.args.order.now) c.args.verdicts.now c.loop-place.place c.index-verdicts-place.result
    (string_bytes c.loop-place.text) (string_bytes c.push_line.new.text) c.loop-place-test.true c.index-verdicts-place.is c.loop-place.invariant c.in_ok-push_line.ensures

pub returns : goal.returns
returns c =
    c.loop-place.invariant
    ∙ ap (report (map (name_of c.args.netlist.now) c.args.order.now)) (take_all c.loop-place.place c.args.verdicts.now c.loop-place-test.false)

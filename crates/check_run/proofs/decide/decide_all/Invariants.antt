use Rattle.std.proofs.Common.{◌≡◌, length}
use Rattle.check_run.proofs.ReportLaws.{ReportedSoFar}
use Rattle.check_run.proofs.decide.decide_all.Given as goal

abbrev pub invariant-loop-check : goal.invariant-loop-check
invariant-loop-check g l = (length l.verdicts.items ≡ l.check) × ReportedSoFar l.settings.kind l.settings.cells l.netlist l.spec l.verdicts.items

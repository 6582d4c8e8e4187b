use Rattle.std.proofs.Common.{refl}
use Rattle.std.specs.Prelude.{Some}
use Rattle.check_run.proofs.FileLaws.{spec_not_read}
use Rattle.check_run.proofs.load.made_spec.Goals as goal

pub returns-in_err-read-clause-spec : goal.returns-in_err-read-clause-spec
returns-in_err-read-clause-spec c =
    spec_not_read c.args.kind c.args.netlist.now (Some (Some c.args.text.now)) c.args.text.now c.in_err-read.field-0.0 c.from_residual.result
    (record { whole = refl; within = c.if-text-gt-MOST_BYTES.false }) c.in_err-read.ensures.fault c.from_residual.ensures.1

use Rattle.std.proofs.Common.{refl}
use Rattle.std.specs.Prelude.{Some}
use Rattle.check_run.proofs.FileLaws.{netlist_not_read}
use Rattle.check_run.proofs.load.made_netlist.Goals as goal

pub returns-in_err-read : goal.returns-in_err-read
returns-in_err-read c =
    netlist_not_read (Some (Some c.args.text.now)) c.args.text.now c.in_err-read.field-0.0 c.from_residual.result
    (record { whole = refl; within = c.if-text-gt-MOST_BYTES.false }) c.in_err-read.ensures.fault c.from_residual.ensures.1

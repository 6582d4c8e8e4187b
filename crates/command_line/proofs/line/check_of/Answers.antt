use Rattle.std.proofs.Common.{◌∙◌, ap}
use Rattle.clap.specs.Words.{is_simple_and_free}
use Rattle.command_line.proofs.FoundLaws.{check_is_told}
use Rattle.command_line.proofs.line.check_of.Goals as goal

pub found-requires : goal.found-requires
found-requires c = ap is_simple_and_free c.in_ok-check_app.ensures ∙ check_is_told

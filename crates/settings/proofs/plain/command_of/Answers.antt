use Rattle.std.proofs.Common.{arith}
use Rattle.std.proofs.lemmas.Grind.{common_steps}
use Rattle.settings.proofs.LimitLaws.{said_within}
use Rattle.settings.specs.Words.{texts}
use Rattle.settings.proofs.plain.command_of.Goals as goal

pub returns-clause-limits : goal.returns-clause-limits
returns-clause-limits c = said_within (texts c.args.words.now) c.command_by.result (grind (arith, common_steps))

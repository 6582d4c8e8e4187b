use Rattle.check_run.proofs.ReportLaws.{allowed_letters}
use Rattle.check_run.proofs.decide.check_one.Goals as goal

pub decide-requires-clause-allowed : goal.decide-requires-clause-allowed
decide-requires-clause-allowed g c = allowed_letters c.args.settings.kind c.args.spec.now.letters c.requires.read_for.letters

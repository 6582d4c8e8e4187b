use Rattle.settings.specs.Words.{texts}
use Rattle.check_run.specs.Outside.{shelf_seen}
use Rattle.check_run.specs.Words.{plain_asked}
use Rattle.check_run.proofs.LoadLaws.{texts_stop, words_stop}
use Rattle.check_run.proofs.load.load.Goals as goal

pub returns-in_err-asked-clause-loads : goal.returns-in_err-asked-clause-loads
returns-in_err-asked-clause-loads g c =
    words_stop (texts c.args.words.now) (shelf_seen g.F.Shelf.files g.F.Shelf.fetches g.F.Shelf.faults c.args.shelf.now) c.in_err-asked.field-0.0 c.from_residual.result
    c.in_err-asked.ensures.stops c.from_residual.ensures.1

use Rattle.std.proofs.Common.{sym, subst}
use Rattle.check_run.specs.declared.asked.Source as declared
use Rattle.check_run.specs.Loading.{LoadsTexts}
use Rattle.check_run.specs.Outside.{shelf_seen}
use Rattle.check_run.specs.Sources.{plain_source}
use Rattle.check_run.proofs.load.load_texts.Goals as goal

pub returns-in-Multiplier-clause-loads : goal.returns-in-Multiplier-clause-loads
returns-in-Multiplier-clause-loads g c =
    let shelf = shelf_seen g.F.Shelf.files g.F.Shelf.fetches g.F.Shelf.faults c.args.shelf.now in
    subst (λ (source : declared.Source). LoadsTexts c.args.asked.settings.kind (plain_source source) shelf shelf c.load_multiplier.result)
    (sym c.in-Multiplier.is) (c.load_multiplier.ensures.loads shelf)

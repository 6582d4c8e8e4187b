use Rattle.unique_table.proofs.Probing.{still_covered, added_after}
use Rattle.unique_table.proofs.probe.settle.Goals as goal

pub publish_draft-found-requires-clause-covered : goal.publish_draft-found-requires-clause-covered
publish_draft-found-requires-clause-covered c = still_covered c.args.table.now.layout c.args.place.now.me.0 c.prepare.new.place.me.0 c.args.body.now c.args.bucket c.prepare.ensures.explored c.requires.covered

pub returns-then-found-eq0-clause-came : goal.returns-then-found-eq0-clause-came
returns-then-found-eq0-clause-came c = added_after c.args.place.now.me.0 c.prepare.new.place.me.0 c.publish_draft-found.new.place.me.0 c.publish_draft-found.new.stock.next c.args.body.now c.prepare.ensures.explored (c.publish_draft-found.ensures.made c.if-found-eq0.true)

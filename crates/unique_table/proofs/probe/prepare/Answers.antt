use Rattle.unique_table.proofs.Probing.{next_is_first, holds_some}
use Rattle.unique_table.proofs.probe.prepare.Goals as goal

pub write_draft-requires-clause-cell : goal.write_draft-requires-clause-cell
write_draft-requires-clause-cell c = next_is_first c.args.table.now.layout c.restock.new.place.me.0 c.restock.new.stock c.restock.ensures.pass.stock (c.restock.ensures.yes c.if-not-restock.false)

pub write_draft-requires-clause-held : goal.write_draft-requires-clause-held
write_draft-requires-clause-held c = holds_some c.args.table.now.layout c.restock.new.place.me.0 c.restock.new.stock c.restock.ensures.pass.stock (c.restock.ensures.yes c.if-not-restock.false)

use Rattle.std.proofs.Common.{arith}
use Rattle.unique_table.proofs.Stocked.{stock_spent}
use Rattle.unique_table.proofs.stock.restock.Goals as goal

pub returns-clause-no : goal.returns-clause-no
returns-clause-no c =
    let i = c.loop-stock.invariant in
    let done = c.loop-stock-test.false in
    λ _. stock_spent c.args.table.now.layout c.loop-stock.place.me.0 c.loop-stock.stock i.pass.stock i.empty (omega (arith, i.count))

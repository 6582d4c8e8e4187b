use Rattle.std.proofs.Common.{arith, ap, subst, refl, ◌∙◌}
use Rattle.table_rule.specs.declared.view.PassView.{PassView}
use Rattle.unique_table.specs.Values.{IsShape}
use Rattle.unique_table.specs.declared.table.TableValue.{TableValue}
use Rattle.unique_table.proofs.Probing.{next_is_first, stock_published, added}
use Rattle.unique_table.proofs.probe.publish_draft.Goals as goal

pub publish_at-found-requires-clause-cell : goal.publish_at-found-requires-clause-cell
publish_at-found-requires-clause-cell c = next_is_first c.args.table.now.layout c.args.place.now.me.0 c.args.stock.now c.requires.pass.stock c.requires.drafted.1

pub overflow_cast-found : goal.overflow_cast-found
overflow_cast-found c =
    let shape = subst IsShape (ap (λ (t : TableValue). t.layout) c.table.view_is) c.table.invariant.0 in
    let few = shape.few in
    omega (arith, c.publish_at-found.ensures.within)

pub returns-then-found-eq0-clause-pass : goal.returns-then-found-eq0-clause-pass
returns-then-found-eq0-clause-pass c =
    let made = c.publish_at-found.ensures.made c.if-found-eq0.true in
    record {
      own = c.publish_at-found.ensures.own;
      live = ap (λ (x : PassView). x.ended) made ∙ c.requires.pass.live;
      possible = c.publish_at-found.ensures.possible;
      stock = stock_published c.args.table.now.layout c.args.place.now.me.0 c.args.stock.now c.requires.pass.stock c.requires.drafted.1 c.args.bucket c.publish_at-found.new.place.me.0 _ made refl refl refl;
    }

pub returns-then-found-eq0-clause-made : goal.returns-then-found-eq0-clause-made
returns-then-found-eq0-clause-made c =
    let shape = subst IsShape (ap (λ (t : TableValue). t.layout) c.table.view_is) c.table.invariant.0 in
    let made = c.publish_at-found.ensures.made c.if-found-eq0.true in
    λ _. added c.args.table.now.layout c.args.place.now.me.0 c.args.stock.now c.requires.pass.stock c.requires.drafted.1 shape.layout c.requires.pass.possible c.args.bucket c.publish_at-found.new.place.me.0 c.args.body.now c.requires.drafted.0 made

use Rattle.std.proofs.Common.{◌≡◌, ℕ, ◌+◌, ◌-◌, arith, ap, sym, subst, ◌∙◌}
use Rattle.table_rule.specs.Words.{word_at}
use Rattle.table_rule.specs.declared.layout.Layout.{Layout}
use Rattle.unique_table.specs.Taking.{CanTake}
use Rattle.unique_table.specs.declared.table.TableValue.{TableValue}
use Rattle.unique_table.proofs.Values.{same_names}
use Rattle.unique_table.proofs.walk.read_at.Goals as goal

pub load-requires : goal.load-requires
load-requires g c =
    let shared = c.table.inside.table.shared in
    let L : Layout = g.E.Taking.layout in
    let key : c.table.inside.table.shared.key ≡ c.args.table.now.layout = c.table.invariant.1 ∙ ap (λ (t : TableValue). t.layout) c.table.view_is in
    let same = same_names c.args.place.now.table_id shared.table_id (c.requires.own.0 ∙ sym (ap (λ (t : TableValue). t.names) c.table.view_is)) in
    let cells = ap (λ (L : Layout). L.cells) key in
    let key_buckets = ap (λ (L : Layout). L.buckets) key in
    let inside_buckets = ap (λ (L : Layout). L.buckets) c.table.invariant.1 in
    let inside_cells = ap (λ (L : Layout). L.cells) c.table.invariant.1 in
    let picked = c.requires.key ∙ sym key in
    let buckets = ap (λ (L : Layout). L.buckets) picked in
    let some = c.requires.some in
    let small = c.requires.small in
    let few = c.requires.few in
    let count = c.table.invariant.2 in
    let first = c.requires.first in
    let word : ℕ = c.args.first + c.args.i in
    let at : word_at L (c.args.id - 1) c.args.i ≡ word = omega arith in
    record {
      own = same;
      within = omega arith;
      key = sym picked;
      allowed = subst (λ (x : ℕ). CanTake L g.E.Taking.event c.args.place.now.me.0 x (λ n. n)) at c.requires.allowed;
    }

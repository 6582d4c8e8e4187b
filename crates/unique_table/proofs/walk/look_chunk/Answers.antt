use Rattle.std.proofs.Common.{◌≡◌, ℕ, ◌+◌, ◌-◌, ◌*◌, ◌<◌, rules, arith, ap, sym, subst, ◌∙◌}
use Rattle.table_rule.specs.Steps.{load_chunk}
use Rattle.table_rule.specs.Words.{chunk_at, chunks}
use Rattle.table_rule.specs.declared.layout.Layout.{Layout}
use Rattle.table_rule.specs.declared.view.PassView.{PassView}
use Rattle.unique_table.specs.Taking.{CanTake}
use Rattle.unique_table.specs.declared.table.TableValue.{TableValue}
use Rattle.unique_table.proofs.Values.{same_names}
use Rattle.unique_table.proofs.Walking.{can_look_chunk}
use Rattle.unique_table.proofs.walk.look_chunk.Goals as goal

pub load-requires : goal.load-requires
load-requires c =
    let shared = c.table.inside.table.shared in
    let v : PassView = c.args.place.now.me.0 in
    let key : c.table.inside.table.shared.key ≡ c.args.table.now.layout = c.table.invariant.1 ∙ ap (λ (t : TableValue). t.layout) c.table.view_is in
    let same = same_names c.args.place.now.table_id shared.table_id (c.requires.own.0 ∙ sym (ap (λ (t : TableValue). t.names) c.table.view_is)) in
    let buckets = ap (λ (L : Layout). L.buckets) key in
    let cells = ap (λ (L : Layout). L.cells) key in
    let inside_buckets = ap (λ (L : Layout). L.buckets) c.table.invariant.1 in
    let inside_cells = ap (λ (L : Layout). L.cells) c.table.invariant.1 in
    let count = c.table.invariant.2 in
    let inside_chunks : chunks shared.key ≡ chunks c.table.inside.layout = ap chunks c.table.invariant.1 in
    let h : ℕ = c.args.chunk in
    let word : ℕ = 1 + c.table.inside.layout.buckets + 8 * c.table.inside.layout.cells + h in
    let few = c.requires.within in
    let within : h < chunks shared.key = subst (λ (L : Layout). h < chunks L) (sym key) few in
    let index : h ≡ word - chunk_at shared.key 0 = omega arith in
    let at : chunk_at shared.key h ≡ word = omega arith in
    record {
      own = same;
      within = omega arith;
      key = search rules;
      allowed = subst (λ (x : ℕ × ℕ). CanTake shared.key (λ _. load_chunk x.0) v x.1 (λ n. n)) (λ j. (index j, at j)) (can_look_chunk shared.key v h c.requires.live within);
    }

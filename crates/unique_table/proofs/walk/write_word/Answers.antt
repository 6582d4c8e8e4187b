use Rattle.std.proofs.Common.{◌≡◌, ℕ, ◌+◌, ◌-◌, rules, arith, ap, sym, subst, ◌∙◌}
use Rattle.table_rule.specs.Steps.{store_word, draft_cell}
use Rattle.table_rule.specs.Words.{word_at}
use Rattle.table_rule.specs.declared.layout.Layout.{Layout}
use Rattle.table_rule.specs.declared.view.PassView.{PassView}
use Rattle.unique_table.specs.Taking.{CanTake}
use Rattle.unique_table.specs.declared.table.TableValue.{TableValue}
use Rattle.unique_table.proofs.Values.{same_names}
use Rattle.unique_table.proofs.Walking.{can_write}
use Rattle.unique_table.proofs.walk.write_word.Goals as goal

pub store-requires : goal.store-requires
store-requires c =
    let shared = c.table.inside.table.shared in
    let v : PassView = c.args.place.now.me.0 in
    let key : c.table.inside.table.shared.key ≡ c.args.table.now.layout = c.table.invariant.1 ∙ ap (λ (t : TableValue). t.layout) c.table.view_is in
    let same = same_names c.args.place.now.table_id shared.table_id (c.requires.own.0 ∙ sym (ap (λ (t : TableValue). t.names) c.table.view_is)) in
    let buckets = ap (λ (L : Layout). L.buckets) key in
    let cells = ap (λ (L : Layout). L.cells) key in
    let inside_buckets = ap (λ (L : Layout). L.buckets) c.table.invariant.1 in
    let inside_cells = ap (λ (L : Layout). L.cells) c.table.invariant.1 in
    let count = c.table.invariant.2 in
    let i : ℕ = c.args.i in
    let new : ℕ = c.args.word in
    let first = c.requires.first in
    let word : ℕ = c.args.first + i in
    let small = c.requires.small in
    let few = c.requires.few in
    let cell = c.requires.cell in
    let index : i ≡ word - word_at shared.key (draft_cell v) 0 = omega arith in
    let at : word_at shared.key (draft_cell v) i ≡ word = omega arith in
    record {
      own = same;
      within = omega arith;
      key = search rules;
      allowed = subst (λ (x : ℕ × ℕ). CanTake shared.key (λ _. store_word x.0 new) v x.1 (λ _. new)) (λ j. (index j, at j)) (can_write shared.key v i new c.requires.live few c.requires.next c.requires.held);
    }

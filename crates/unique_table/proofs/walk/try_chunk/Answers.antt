use Rattle.std.proofs.Common.{◌≡◌, ℕ, ◌+◌, ◌-◌, ◌*◌, ◌<◌, ◌==◌, rules, arith, ap, sym, subst, ◌∙◌}
use prog.Atomic.{either}
use Rattle.table_rule.specs.Steps.{exchange_chunk}
use Rattle.table_rule.specs.Views.{take_chunk}
use Rattle.table_rule.specs.Words.{chunk_at, chunks}
use Rattle.table_rule.specs.declared.layout.Layout.{Layout}
use Rattle.table_rule.specs.declared.view.PassView.{PassView}
use Rattle.unique_table.specs.Taking.{CanTake, HasTaken}
use Rattle.unique_table.specs.declared.table.TableValue.{TableValue}
use Rattle.unique_table.proofs.Values.{same_names}
use Rattle.unique_table.proofs.Walking.{can_take_chunk, chunk_took}
use Rattle.unique_table.proofs.walk.try_chunk.Goals as goal

pub exchange-requires : goal.exchange-requires
exchange-requires c =
    let shared = c.table.inside.table.shared in
    let v : PassView = c.args.place.now.me.0 in
    let key : c.table.inside.table.shared.key ≡ c.args.table.now.layout = c.table.invariant.1 ∙ ap (λ (t : TableValue). t.layout) c.table.view_is in
    let same = same_names c.args.place.now.table_id shared.table_id (c.requires.own.0 ∙ sym (ap (λ (t : TableValue). t.names) c.table.view_is)) in
    let buckets = ap (λ (L : Layout). L.buckets) key in
    let cells = ap (λ (L : Layout). L.cells) key in
    let inside_buckets = ap (λ (L : Layout). L.buckets) c.table.invariant.1 in
    let inside_cells = ap (λ (L : Layout). L.cells) c.table.invariant.1 in
    let count = c.table.invariant.2 in
    let inside_chunks : chunks shared.key ≡ chunks c.table.inside.layout = ap chunks c.table.invariant.1 in
    let h : ℕ = c.args.chunk in
    let word : ℕ = 1 + c.table.inside.layout.buckets + 8 * c.table.inside.layout.cells + h in
    let few = c.requires.within in
    let within : h < chunks shared.key = subst (λ (L : Layout). h < chunks L) (sym key) few in
    let index : h ≡ word - chunk_at shared.key 0 = omega arith in
    let at : chunk_at shared.key h ≡ word = omega arith in
    record {
      own = same;
      within = omega arith;
      key = search rules;
      allowed = subst (λ (x : ℕ × ℕ). CanTake shared.key (λ _. exchange_chunk x.0) v x.1 (λ n. either (n == 0) 1 n)) (λ j. (index j, at j)) (can_take_chunk shared.key v h c.requires.live within c.requires.none);
    }

pub returns-clause-took : goal.returns-clause-took
returns-clause-took c =
    let shared = c.table.inside.table.shared in
    let v : PassView = c.args.place.now.me.0 in
    let key : c.table.inside.table.shared.key ≡ c.args.table.now.layout = c.table.invariant.1 ∙ ap (λ (t : TableValue). t.layout) c.table.view_is in
    let same = same_names c.args.place.now.table_id shared.table_id (c.requires.own.0 ∙ sym (ap (λ (t : TableValue). t.names) c.table.view_is)) in
    let buckets = ap (λ (L : Layout). L.buckets) key in
    let cells = ap (λ (L : Layout). L.cells) key in
    let inside_buckets = ap (λ (L : Layout). L.buckets) c.table.invariant.1 in
    let inside_cells = ap (λ (L : Layout). L.cells) c.table.invariant.1 in
    let count = c.table.invariant.2 in
    let h : ℕ = c.args.chunk in
    let word : ℕ = 1 + c.table.inside.layout.buckets + 8 * c.table.inside.layout.cells + h in
    let few = c.requires.within in
    let within : h < chunks shared.key = subst (λ (L : Layout). h < chunks L) (sym key) few in
    let index : h ≡ word - chunk_at shared.key 0 = omega arith in
    let at : chunk_at shared.key h ≡ word = omega arith in
    let index_at : word - chunk_at shared.key 0 ≡ h = sym index in
    let taken : HasTaken shared.key (λ _. exchange_chunk h) v (chunk_at shared.key h) c.exchange.result c.exchange.new.place.me.0 = subst (λ (x : ℕ × ℕ). HasTaken shared.key (λ _. exchange_chunk x.0) v x.1 c.exchange.result c.exchange.new.place.me.0) (λ j. (sym index j, sym at j)) c.exchange.ensures.taken in
    λ none. subst (λ (L : Layout). c.exchange.new.place.me.0 ≡ take_chunk L h v) key (chunk_took shared.key v c.exchange.new.place.me.0 h c.exchange.result taken none)

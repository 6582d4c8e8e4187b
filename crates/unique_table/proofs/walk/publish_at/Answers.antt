use Rattle.std.proofs.Common.{◌≡◌, ℕ, ◌+◌, ◌-◌, ◌==◌, rules, arith, ap, sym, subst, ◌∙◌}
use prog.Atomic.{either}
use Rattle.table_rule.specs.Steps.{exchange_bucket, draft_cell, IsCovered}
use Rattle.table_rule.specs.Words.{bucket_at}
use Rattle.table_rule.specs.declared.layout.Layout.{Layout}
use Rattle.table_rule.specs.declared.view.PassView.{PassView}
use Rattle.unique_table.specs.Taking.{CanTake, HasTaken}
use Rattle.unique_table.specs.declared.table.TableValue.{TableValue}
use Rattle.unique_table.proofs.Values.{same_names}
use Rattle.unique_table.proofs.Walking.{can_publish, publish_within}
use Rattle.unique_table.proofs.walk.publish_at.Goals as goal

pub exchange-requires : goal.exchange-requires
exchange-requires c =
    let shared = c.table.inside.table.shared in
    let v : PassView = c.args.place.now.me.0 in
    let key : c.table.inside.table.shared.key ≡ c.args.table.now.layout = c.table.invariant.1 ∙ ap (λ (t : TableValue). t.layout) c.table.view_is in
    let same = same_names c.args.place.now.table_id shared.table_id (c.requires.own.0 ∙ sym (ap (λ (t : TableValue). t.names) c.table.view_is)) in
    let buckets = ap (λ (L : Layout). L.buckets) key in
    let cells = ap (λ (L : Layout). L.cells) key in
    let inside_buckets = ap (λ (L : Layout). L.buckets) c.table.invariant.1 in
    let inside_cells = ap (λ (L : Layout). L.cells) c.table.invariant.1 in
    let count = c.table.invariant.2 in
    let b : ℕ = c.args.bucket in
    let new : ℕ = c.from.result in
    let few = c.requires.within in
    let here : 1 + b - 1 ≡ b = omega arith in
    let is : new ≡ draft_cell v + 1 = omega (arith, c.from.ensures, c.requires.cell) in
    let can = can_publish shared.key v b new c.requires.live (omega arith) c.requires.drafted (subst (λ (L : Layout). IsCovered L v v.draft b) (sym key) c.requires.covered) is in
    record {
      own = same;
      within = omega arith;
      key = search rules;
      allowed = subst (λ (x : ℕ). CanTake shared.key (λ _. exchange_bucket x) v (1 + b) (λ n. either (n == 0) new n)) (sym here) can;
    }

pub returns-clause-within : goal.returns-clause-within
returns-clause-within c =
    let v : PassView = c.args.place.now.me.0 in
    let b : ℕ = c.args.bucket in
    let key : c.table.inside.table.shared.key ≡ c.args.table.now.layout = c.table.invariant.1 ∙ ap (λ (t : TableValue). t.layout) c.table.view_is in
    let here : 1 + b - 1 ≡ b = omega arith in
    let taken : HasTaken c.args.table.now.layout (λ _. exchange_bucket b) v (bucket_at b) c.exchange.result c.exchange.new.place.me.0 = subst (λ (x : Layout × ℕ). HasTaken x.0 (λ _. exchange_bucket x.1) v (bucket_at b) c.exchange.result c.exchange.new.place.me.0) (λ i. (key i, here i)) c.exchange.ensures.taken in
    publish_within c.args.table.now.layout v c.exchange.new.place.me.0 b c.exchange.result c.requires.within taken

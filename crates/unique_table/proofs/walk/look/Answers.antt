use Rattle.std.proofs.Common.{◌≡◌, ℕ, ◌+◌, ◌-◌, rules, arith, ap, sym, subst, ◌∙◌}
use Rattle.table_rule.specs.Steps.{load_bucket}
use Rattle.table_rule.specs.declared.layout.Layout.{Layout}
use Rattle.unique_table.specs.Taking.{HasTaken}
use Rattle.unique_table.specs.declared.table.TableValue.{TableValue}
use Rattle.unique_table.proofs.Values.{same_names}
use Rattle.unique_table.proofs.Walking.{can_look, look_within, look_is_new}
use Rattle.unique_table.proofs.walk.look.Goals as goal

pub load-requires : goal.load-requires
load-requires c =
    let shared = c.table.inside.table.shared in
    let key : shared.key ≡ c.args.table.now.layout = c.table.invariant.1 ∙ ap (λ (t : TableValue). t.layout) c.table.view_is in
    let few = c.requires.within in
    let buckets = ap (λ (L : Layout). L.buckets) key in
    record {
      own = same_names c.args.place.now.table_id shared.table_id (c.requires.own.0 ∙ sym (ap (λ (t : TableValue). t.names) c.table.view_is));
      within = omega (arith, c.table.invariant.2, ap (λ (L : Layout). L.buckets) c.table.invariant.1);
      key = search rules;
      allowed = can_look shared.key c.args.place.now.me.0 (1 + c.args.bucket) (1 + c.args.bucket - 1) c.requires.live (omega arith);
    }

pub returns-clause-within : goal.returns-clause-within
returns-clause-within c =
    let key : c.table.inside.table.shared.key ≡ c.args.table.now.layout = c.table.invariant.1 ∙ ap (λ (t : TableValue). t.layout) c.table.view_is in
    let here : 1 + c.args.bucket - 1 ≡ c.args.bucket = omega arith in
    let taken : HasTaken c.args.table.now.layout (λ _. load_bucket c.args.bucket) c.args.place.now.me.0 (1 + c.args.bucket) c.load.result c.load.new.place.me.0 = subst (λ (x : Layout × ℕ). HasTaken x.0 (λ _. load_bucket x.1) c.args.place.now.me.0 (1 + c.args.bucket) c.load.result c.load.new.place.me.0) (λ i. (key i, here i)) c.load.ensures.taken in
    look_within c.args.table.now.layout c.args.place.now.me.0 c.load.new.place.me.0 (1 + c.args.bucket) c.args.bucket c.load.result c.requires.within (search rules) taken

pub returns-clause-empty : goal.returns-clause-empty
returns-clause-empty c =
    let key : c.table.inside.table.shared.key ≡ c.args.table.now.layout = c.table.invariant.1 ∙ ap (λ (t : TableValue). t.layout) c.table.view_is in
    let here : 1 + c.args.bucket - 1 ≡ c.args.bucket = omega arith in
    let taken : HasTaken c.args.table.now.layout (λ _. load_bucket c.args.bucket) c.args.place.now.me.0 (1 + c.args.bucket) c.load.result c.load.new.place.me.0 = subst (λ (x : Layout × ℕ). HasTaken x.0 (λ _. load_bucket x.1) c.args.place.now.me.0 (1 + c.args.bucket) c.load.result c.load.new.place.me.0) (λ i. (key i, here i)) c.load.ensures.taken in
    look_is_new c.args.table.now.layout c.args.place.now.me.0 c.load.new.place.me.0 (1 + c.args.bucket) c.args.bucket c.load.result c.requires.within (search rules) taken c.requires.live

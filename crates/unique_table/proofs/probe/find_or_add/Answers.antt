use Rattle.std.proofs.Common.{◌≡◌, ◌≤◌, ◌^◌, ◌+◌, ◌-◌, ℕ, arith, ap, sym, subst, ◌∙◌, bit_and, true≢false}
use Rattle.table_rule.specs.declared.layout.Layout.{Layout}
use Rattle.table_rule.specs.declared.view.PassView.{PassView}
use Rattle.unique_table.specs.Values.{IsShape}
use Rattle.unique_table.specs.declared.table.TableValue.{TableValue}
use Rattle.unique_table.proofs.Exploring.{explored_same, explored_on}
use Rattle.unique_table.proofs.Paths.{first_on_path, next_on_path, passed_next, not_round}
use Rattle.unique_table.proofs.probe.find_or_add.Goals as goal

pub loop-distance-init : goal.loop-distance-init
loop-distance-init c =
    let L : Layout = c.args.table.now.layout in
    let shape = subst IsShape (ap (λ (t : TableValue). t.layout) c.table.view_is) c.table.invariant.0 in
    let inside : c.table.inside.layout.buckets ≡ L.buckets = ap (λ (t : TableValue). t.layout.buckets) c.table.view_is in
    let few : L.buckets ≤ 2 ^ 32 = let f = shape.few_buckets in omega arith in
    record {
      pass = c.requires.pass;
      explored = explored_same c.args.place.now.me.0;
      drafted = λ e. absurd (true≢false (sym e));
      count = inside;
      here = first_on_path c.args.body.now L.buckets 32 shape.buckets.0 few ∙ (λ i. bit_and (sym c.start.ensures i) (sym inside i - 1));
      passed = λ d none. absurd (omega arith);
    }

pub loop-distance-preserved : goal.loop-distance-preserved
loop-distance-preserved c =
    let L : Layout = c.args.table.now.layout in
    let shape = subst IsShape (ap (λ (t : TableValue). t.layout) c.table.view_is) c.table.invariant.0 in
    let i = c.loop-distance.invariant in
    let v : PassView = c.loop-distance.place.me.0 in
    let w : PassView = c.visit_bucket.new.place.me.0 in
    let e = c.in-Other.ensures in
    let came = e.came in
    let mask : L.buckets - 1 ≡ c.table.inside.layout.buckets - 1 = ap (λ (n : ℕ). n - 1) (sym i.count) in
    record {
      pass = e.pass;
      explored = explored_on c.args.place.now.me.0 v w i.explored came.0;
      drafted = came.2;
      count = i.count;
      here = next_on_path c.args.body.now L.buckets c.loop-distance.distance c.loop-distance.bucket shape.buckets.0 i.here ∙ ap (bit_and (c.loop-distance.bucket + 1)) mask;
      passed = passed_next L v w c.args.body.now c.loop-distance.distance c.loop-distance.bucket came.0 i.passed i.here came.1;
    }

pub unreachable-requires : goal.unreachable-requires
unreachable-requires c =
    let L : Layout = c.args.table.now.layout in
    let shape = subst IsShape (ap (λ (t : TableValue). t.layout) c.table.view_is) c.table.invariant.0 in
    let i = c.loop-distance.invariant in
    let done = c.loop-distance-test.false in
    not_round L shape.layout c.loop-distance.place.me.0 i.pass.possible c.args.body.now c.loop-distance.distance (omega (arith, i.count)) i.passed

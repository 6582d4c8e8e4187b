use Rattle.std.proofs.Common.{◌≡◌, ℕ, ◌+◌, ◌-◌, ◌<◌, ◌≤◌, length, get_or, bit_and, slice_get, Some, arith, sym, ap, subst, ◌∙◌, below_more}
use Rattle.std.proofs.Math.Nat.{mod-lt}
use Rattle.std.proofs.lemmas.Nat.{and_le_r}
use Rattle.record_store.specs.Path.{start_of}
use Rattle.record_store.proofs.BucketLaws.{masked_bucket, passed_below, new_at_empty, found_body, other_body}
use Rattle.record_store.proofs.probe.probe.Goals as goal

pub overflow_add-bucket : goal.overflow_add-bucket
overflow_add-bucket c =
    let below = passed_below c.args.buckets.now c.args.bodies.now c.args.body.now c.loop-mask.distance c.requires c.loop-mask.invariant in
    let start = and_le_r c.hash.result (length c.args.buckets.now - 1) in
    omega (arith, below, start, c.requires.few)

pub returns-then-id-eq0 : goal.returns-then-id-eq0
returns-then-id-eq0 c =
    let is = masked_bucket c.hash.result (length c.args.buckets.now) c.loop-mask.distance c.args.body.now c.hash.ensures c.requires.power in
    let empty = sym (ap (λ b. get_or c.args.buckets.now b 0) is) ∙ c.if-id-eq0.true in (
      subst (λ b. b < length c.args.buckets.now) (sym is) (mod-lt (start_of c.args.body.now (length c.args.buckets.now) + c.loop-mask.distance) (omega (arith, c.requires.more))),
      c.if-id-eq0.true,
      record { distance = c.loop-mask.distance; here = sym is; taken = λ d before. (c.loop-mask.invariant d before).0 },
      new_at_empty c.args.buckets.now c.args.bodies.now c.args.body.now c.loop-mask.distance c.requires c.loop-mask.invariant empty,
    )

pub returns-then-eq : goal.returns-then-eq
returns-then-eq c =
    let id : ℕ = get_or c.args.buckets.now (bit_and (bit_and c.hash.result (length c.args.buckets.now - 1) + c.loop-mask.distance) (length c.args.buckets.now - 1)) 0 in
    let taken : 0 < id = omega (arith, c.if-id-eq0.false) in
    let within : id ≤ length c.args.bodies.now = c.requires.ids _ in
    (taken, found_body c.args.bodies.now (id - 1) c.args.body.now (omega arith) c.if-eq.ensures)

pub overflow_add-distance : goal.overflow_add-distance
overflow_add-distance c =
    let below = passed_below c.args.buckets.now c.args.bodies.now c.args.body.now c.loop-mask.distance c.requires c.loop-mask.invariant in
    omega (arith, below, c.requires.few)

pub loop-mask-smaller : goal.loop-mask-smaller
loop-mask-smaller c =
    let below = passed_below c.args.buckets.now c.args.bodies.now c.args.body.now c.loop-mask.distance c.requires c.loop-mask.invariant in
    omega (arith, below)

pub loop-mask-preserved : goal.loop-mask-preserved
loop-mask-preserved c =
    let is = masked_bucket c.hash.result (length c.args.buckets.now) c.loop-mask.distance c.args.body.now c.hash.ensures c.requires.power in
    below_more _ _ c.loop-mask.invariant
    (subst (λ b. (0 < get_or c.args.buckets.now b 0) × (slice_get c.args.bodies.now (get_or c.args.buckets.now b 0 - 1) ≡ Some c.args.body.now → ⊥)) is
    (omega (arith, c.if-id-eq0.false), other_body c.args.bodies.now _ c.args.body.now c.if-eq.ensures))

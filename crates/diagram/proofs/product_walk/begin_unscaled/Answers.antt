use Rattle.std.proofs.Common.{refl, length, arith}
use Rattle.std.specs.Prelude.{Ok, Err}
use Rattle.kind_laws.specs.Plain.{plain}
use Rattle.diagram.specs.Calls.{plain_split}
use Rattle.diagram.specs.ProductFrames.{products}
use Rattle.diagram.specs.declared.limit.Limit.TheVariants as limit
use Rattle.diagram.specs.declared.operation.Operation.TheVariants.{Product}
use Rattle.diagram.proofs.ProductWalk.{known_product, split_refused, waits_for_low, rests_level}
use Rattle.diagram.proofs.SumWalk.{split_has_room}
use Rattle.diagram.proofs.WalkSteps.{begins_refused}
use Rattle.diagram.proofs.product_walk.begin_unscaled.Goals as goal

pub returns-in_err-product-clause-begins : goal.returns-in_err-product-clause-begins
returns-in_err-product-clause-begins g c = λ a b are.
    let k = g.K.Kind.NAME in
    let v = c.args.manager.now in
    begins_refused (products k g.K.Kind.extra_of) v (a, b) c.args.frames.now.items c.args.frames.now.items c.from_residual.result c.in_err-product.field-0.0 c.from_residual.ensures.1
    (known_product k v a b (plain g.K.Kind.extra_of c.args.first) (plain g.K.Kind.extra_of c.args.second) (plain g.K.Kind.extra_of c.in-Some.rest) c.args.first_scale
    c.args.second_scale (Err c.in_err-product.field-0.0) are c.in-Some.ensures c.in_err-product.ensures)

pub returns-in-Some-clause-begins : goal.returns-in-Some-clause-begins
returns-in-Some-clause-begins g c = λ a b are.
    let k = g.K.Kind.NAME in (
      refl,
      known_product k c.args.manager.now a b (plain g.K.Kind.extra_of c.args.first) (plain g.K.Kind.extra_of c.args.second) (plain g.K.Kind.extra_of c.in-Some.rest)
          c.args.first_scale c.args.second_scale (Ok (plain g.K.Kind.extra_of c.in_ok-product.product)) are c.in-Some.ensures c.in_ok-product.ensures,
    )

pub returns-in_err-whole-clause-begins : goal.returns-in_err-whole-clause-begins
returns-in_err-whole-clause-begins g c = λ a b are.
    let k = g.K.Kind.NAME in
    let v = c.args.manager.now in
    let first = plain g.K.Kind.extra_of c.args.first in
    let second = plain g.K.Kind.extra_of c.args.second in
    begins_refused (products k g.K.Kind.extra_of) v (a, b) c.args.frames.now.items c.args.frames.now.items c.from_residual-in_err-whole.result c.in_err-whole.field-0.0 c.from_residual-in_err-whole.ensures.1
    (known_product k v a b first second (plain g.K.Kind.extra_of c.in-Some-look_up.rest) c.args.first_scale c.args.second_scale (Err c.in_err-whole.field-0.0) are
    (c.in-Some-look_up.ensures Product first second c.key-key.ensures) c.in_err-whole.ensures)

pub returns-in-Some-look_up-clause-begins : goal.returns-in-Some-look_up-clause-begins
returns-in-Some-look_up-clause-begins g c = λ a b are.
    let k = g.K.Kind.NAME in
    let first = plain g.K.Kind.extra_of c.args.first in
    let second = plain g.K.Kind.extra_of c.args.second in (
      refl,
      known_product k c.args.manager.now a b first second (plain g.K.Kind.extra_of c.in-Some-look_up.rest) c.args.first_scale c.args.second_scale
          (Ok (plain g.K.Kind.extra_of c.in_ok-whole.whole)) are (c.in-Some-look_up.ensures Product first second c.key-key.ensures) c.in_ok-whole.ensures,
    )

pub returns-in_err-split-clause-begins : goal.returns-in_err-split-clause-begins
returns-in_err-split-clause-begins g c = λ a b are.
    let k = g.K.Kind.NAME in
    let v = c.args.manager.now in
    begins_refused (products k g.K.Kind.extra_of) v (a, b) c.args.frames.now.items c.args.frames.now.items c.from_residual-in_err-split.result limit.Overflow c.from_residual-in_err-split.ensures.1
    (split_refused k v a b (plain g.K.Kind.extra_of c.args.first) (plain g.K.Kind.extra_of c.args.second) c.args.first_scale c.args.second_scale c.in_err-split.field-0.0 are
    (record { first = c.requires.first_good; second = c.requires.second_good; some = c.requires.some_node }) c.in_err-split.ensures.splits)

pub returns-clause-begins : goal.returns-clause-begins
returns-clause-begins g c = λ a b are.
    let k = g.K.Kind.NAME in
    let v = c.args.manager.now in
    let first = plain g.K.Kind.extra_of c.args.first in
    let second = plain g.K.Kind.extra_of c.args.second in
    record {
      frame = _;
      pushed = c.push_reserved.ensures.items;
      waits = waits_for_low k v a b first second c.args.first_scale c.args.second_scale (plain_split g.K.Kind.extra_of c.in_ok-split.split) c.key-key.result are
          (record { first = c.requires.first_good; second = c.requires.second_good; some = c.requires.some_node }) c.key-key.ensures c.in_ok-split.ensures.splits;
      level_is = rests_level k v a b first second c.args.first_scale c.args.second_scale _ are c.in_ok-split.ensures.splits.0;
      few = omega arith;
    }

pub push_reserved-requires : goal.push_reserved-requires
push_reserved-requires g c =
    let k = g.K.Kind.NAME in
    let first = plain g.K.Kind.extra_of c.args.first in
    let second = plain g.K.Kind.extra_of c.args.second in
    let split = plain_split g.K.Kind.extra_of c.in_ok-split.split in
    let room = split_has_room k c.args.manager.now first second split (length c.args.frames.now.items) c.requires.first_good c.requires.second_good c.requires.some_node
    c.in_ok-split.ensures.splits c.requires.place in
    omega (arith, room, c.args.frames.now.ok.0, c.requires.room)

use Rattle.std.proofs.Common.{refl, subst, ◌≤◌, ◌*ℤ◌, length, arith}
use Rattle.tables.specs.Table.{multiple}
use Rattle.tables.specs.Pieces.{scale_work}
use Rattle.kind_laws.specs.Plain.{PlainEdge, plain}
use Rattle.diagram.specs.Multiples.{multiples}
use Rattle.diagram.specs.Remembered.{IsKeyOf}
use Rattle.diagram.specs.declared.limit.Limit.TheVariants as limit
use Rattle.diagram.specs.declared.operation.Operation.TheVariants.{Product}
use Rattle.diagram.proofs.BothLaws.{constant_is, constant_answers_each}
use Rattle.diagram.proofs.EachLaws.{each_unfit}
use Rattle.diagram.proofs.MultipleLaws.{scale_by_halves, scale_covers_multiple, scale_covers_operand}
use Rattle.diagram.proofs.MultipleWalk.{waits_for_low, split_has_room}
use Rattle.diagram.proofs.RememberedLaws.{known_each}
use Rattle.diagram.proofs.WalkSteps.{begins_refused}
use Rattle.diagram.proofs.multiple_walk.begin.Goals as goal

pub value-requires : goal.value-requires
value-requires g c = constant_is g.K.Kind.NAME c.args.manager.now (plain g.K.Kind.extra_of c.args.a) c.requires.good c.if-a-eq0.true

pub product_at_once-requires-clause-a_good : goal.product_at_once-requires-clause-a_good
product_at_once-requires-clause-a_good g c κs within =
    let start : 0 ≤ length c.args.manager.now.letters = omega arith in (_, c.constant-constant.ensures.table 0 start)

pub returns-then-a-eq0-clause-begins : goal.returns-then-a-eq0-clause-begins
returns-then-a-eq0-clause-begins g c =
    let k = g.K.Kind.NAME in
    let v = c.args.manager.now in
    let factor = c.args.factor in (
      refl,
      λ l x h.
          constant_answers_each k v (λ n. factor *ℤ n) (scale_work factor l x) l x (plain g.K.Kind.extra_of c.args.a) c.value.result c.mul.result _ c.value.ensures c.mul.ensures
          c.in_ok-multiple.ensures h (scale_covers_multiple k v.letters factor l x),
    )

pub returns-in-Some-clause-begins : goal.returns-in-Some-clause-begins
returns-in-Some-clause-begins g c =
    let constant = plain g.K.Kind.extra_of c.constant-constant.result in
    let a = plain g.K.Kind.extra_of c.args.a in (
      refl,
      known_each g.K.Kind.NAME c.args.factor (scale_work c.args.factor) c.args.manager.now constant a (plain g.K.Kind.extra_of c.in-Some.multiple)
          c.constant-constant.ensures.edge c.in-Some.ensures,
    )

pub returns-in-Some-look_up-clause-begins : goal.returns-in-Some-look_up-clause-begins
returns-in-Some-look_up-clause-begins g c =
    let constant = plain g.K.Kind.extra_of c.constant-constant.result in
    let a = plain g.K.Kind.extra_of c.args.a in (
      refl,
      known_each g.K.Kind.NAME c.args.factor (scale_work c.args.factor) c.args.manager.now constant a (plain g.K.Kind.extra_of c.in-Some-look_up.multiple)
          c.constant-constant.ensures.edge (c.in-Some-look_up.ensures Product constant a c.key-key.ensures),
    )

pub returns-in_err-multiple-clause-begins : goal.returns-in_err-multiple-clause-begins
returns-in_err-multiple-clause-begins g c =
    let k = g.K.Kind.NAME in
    let v = c.args.manager.now in
    let a = plain g.K.Kind.extra_of c.args.a in
    let factor = c.args.factor in
    begins_refused (multiples factor k g.K.Kind.extra_of) v a c.args.frames.now.items c.args.frames.now.items c.from_residual.result c.in_err-multiple.field-0.0 c.from_residual.ensures.1 (λ l x h.
    constant_answers_each k v (λ n. factor *ℤ n) (scale_work factor l x) l x a c.value.result c.mul.result _ c.value.ensures c.mul.ensures
    c.in_err-multiple.ensures h (scale_covers_multiple k v.letters factor l x))

pub returns-in_err-level-clause-begins : goal.returns-in_err-level-clause-begins
returns-in_err-level-clause-begins g c =
    let k = g.K.Kind.NAME in
    let v = c.args.manager.now in
    let a = plain g.K.Kind.extra_of c.args.a in
    let factor = c.args.factor in
    begins_refused (multiples factor k g.K.Kind.extra_of) v a c.args.frames.now.items c.args.frames.now.items c.from_residual-in_err-level.result limit.Overflow c.from_residual-in_err-level.ensures.1
    (each_unfit k (multiple factor) (scale_work factor) v v a c.in_err-level.field-0.0 refl c.requires.good (scale_by_halves k v factor c.requires.good.1.allowed)
    (λ l x. scale_covers_operand k v.letters factor l x) c.in_err-level.ensures.splits)

pub push_reserved-requires : goal.push_reserved-requires
push_reserved-requires g c =
    let a = plain g.K.Kind.extra_of c.args.a in
    let room = split_has_room g.K.Kind.NAME c.args.manager.now a _ _ _ (length c.args.frames.now.items) c.requires.good c.if-a-eq0.false c.in_ok-level.ensures.splits c.requires.place in
    omega (arith, room, c.args.frames.now.ok.0, c.requires.room)

pub returns-clause-begins : goal.returns-clause-begins
returns-clause-begins g c =
    let k = g.K.Kind.NAME in
    let v = c.args.manager.now in
    let a = plain g.K.Kind.extra_of c.args.a in
    record {
      frame = _;
      pushed = c.push_reserved.ensures.items;
      waits = waits_for_low c.args.factor k v a _ _ _ _ c.requires.good c.if-a-eq0.false c.in_ok-level.ensures.splits
          (subst (λ (e : PlainEdge). IsKeyOf Product k e a c.key-key.result) c.constant-constant.ensures.edge c.key-key.ensures);
      level_is = c.in_ok-level.ensures.splits.0;
      few = omega arith;
    }

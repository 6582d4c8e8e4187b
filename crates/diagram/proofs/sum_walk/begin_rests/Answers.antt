use Rattle.std.proofs.Common.{refl, length, arith}
use Rattle.kind_laws.specs.Plain.{plain}
use Rattle.diagram.specs.Calls.{plain_split}
use Rattle.diagram.specs.SumFrames.{sums}
use Rattle.diagram.specs.declared.limit.Limit.TheVariants as limit
use Rattle.diagram.specs.declared.operation.Operation.TheVariants.{Sum}
use Rattle.diagram.proofs.SumRestLaws.{known_put_back, known_overflows}
use Rattle.diagram.proofs.SumWalk.{waits_for_low, rests_level, split_has_room, rests_unfit}
use Rattle.diagram.proofs.WalkSteps.{begins_refused}
use Rattle.diagram.proofs.sum_walk.begin_rests.Goals as goal

pub returns-in_err-sum-clause-begins : goal.returns-in_err-sum-clause-begins
returns-in_err-sum-clause-begins g c = λ both are.
    let k = g.K.Kind.NAME in
    let v = c.args.manager.now in
    let a = plain g.K.Kind.extra_of c.args.a in
    let b = plain g.K.Kind.extra_of c.args.b in
    begins_refused (sums c.args.walk k g.K.Kind.extra_of) v both c.args.frames.now.items c.args.frames.now.items c.from_residual.result limit.Overflow c.from_residual.ensures.1
    (known_overflows c.args.walk k v both (a, b) c.args.factor c.args.shift (plain g.K.Kind.extra_of c.in-Some.rest) are (c.in-Some.ensures Sum a b c.key-key.ensures)
    c.in_err-sum.ensures)

pub returns-in-Some-clause-begins : goal.returns-in-Some-clause-begins
returns-in-Some-clause-begins g c = λ both are.
    let k = g.K.Kind.NAME in
    let v = c.args.manager.now in
    let a = plain g.K.Kind.extra_of c.args.a in
    let b = plain g.K.Kind.extra_of c.args.b in (
      refl,
      known_put_back c.args.walk k v both (a, b) c.args.factor c.args.shift (plain g.K.Kind.extra_of c.in-Some.rest) (plain g.K.Kind.extra_of c.in_ok-sum.sum) are
          (c.in-Some.ensures Sum a b c.key-key.ensures) c.in_ok-sum.ensures,
    )

pub returns-in_err-split-clause-begins : goal.returns-in_err-split-clause-begins
returns-in_err-split-clause-begins g c = λ both are.
    let k = g.K.Kind.NAME in
    let v = c.args.manager.now in
    let a = plain g.K.Kind.extra_of c.args.a in
    let b = plain g.K.Kind.extra_of c.args.b in
    begins_refused (sums c.args.walk k g.K.Kind.extra_of) v both c.args.frames.now.items c.args.frames.now.items c.from_residual-in_err-split.result limit.Overflow c.from_residual-in_err-split.ensures.1
    (rests_unfit c.args.walk k v both (a, b) c.in_err-split.field-0.0 c.args.factor c.args.shift are c.in_err-split.ensures.splits)

pub returns-clause-begins : goal.returns-clause-begins
returns-clause-begins g c = λ both are.
    let k = g.K.Kind.NAME in
    let v = c.args.manager.now in
    let a = plain g.K.Kind.extra_of c.args.a in
    let b = plain g.K.Kind.extra_of c.args.b in
    let split = plain_split g.K.Kind.extra_of c.in_ok-split.split in
    record {
      frame = _;
      pushed = c.push_reserved.ensures.items;
      waits = waits_for_low c.args.walk k v both (a, b) split c.key-key.result c.args.factor c.args.shift are c.requires.some_node c.in_ok-split.ensures.splits c.key-key.ensures;
      level_is = rests_level c.args.walk k v both (a, b) split c.args.factor c.args.shift are c.in_ok-split.ensures.splits;
      few = omega arith;
    }

pub push_reserved-requires : goal.push_reserved-requires
push_reserved-requires g c =
    let k = g.K.Kind.NAME in
    let v = c.args.manager.now in
    let a = plain g.K.Kind.extra_of c.args.a in
    let b = plain g.K.Kind.extra_of c.args.b in
    let split = plain_split g.K.Kind.extra_of c.in_ok-split.split in
    let room = split_has_room k v a b split (length c.args.frames.now.items) c.requires.a_good c.requires.b_good c.requires.some_node c.in_ok-split.ensures.splits c.requires.place in
    omega (arith, room, c.args.frames.now.ok.0, c.requires.room)

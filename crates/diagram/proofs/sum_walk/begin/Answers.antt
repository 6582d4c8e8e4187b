use Rattle.std.proofs.Common.{sym, ◌∙◌, ◌+ℤ◌, pos, length, refl}
use Rattle.kind_laws.specs.Plain.{plain}
use Rattle.diagram.specs.SumFrames.{sums}
use Rattle.diagram.specs.Sums.{sum_work}
use Rattle.diagram.specs.declared.limit.Limit.TheVariants as limit
use Rattle.diagram.proofs.BothLaws.{constant_is, constants_answer}
use Rattle.diagram.proofs.ScaledEdges.{some_scale}
use Rattle.diagram.proofs.SumLaws.{sum_covers_sum}
use Rattle.diagram.proofs.SumRestLaws.{rests_are, unshifted_rests, strips_and_overflows, known_put_back, known_overflows}
use Rattle.diagram.proofs.SumWalk.{rests_place}
use Rattle.diagram.proofs.WalkSteps.{begins_refused}
use Rattle.diagram.proofs.sum_walk.begin.Goals as goal

pub value-requires : goal.value-requires
value-requires g c =
    constant_is g.K.Kind.NAME c.args.manager.now (plain g.K.Kind.extra_of c.args.a) c.requires.a_good (c.are_constants.ensures.0 c.if-are_constants.true).0

pub value-requires-then-are_constants : goal.value-requires-then-are_constants
value-requires-then-are_constants g c =
    constant_is g.K.Kind.NAME c.args.manager.now (plain g.K.Kind.extra_of c.args.b) c.requires.b_good (c.are_constants.ensures.0 c.if-are_constants.true).1

pub returns-in_err-constant-clause-begins : goal.returns-in_err-constant-clause-begins
returns-in_err-constant-clause-begins g c =
    let k = g.K.Kind.NAME in
    let v = c.args.manager.now in
    let a = plain g.K.Kind.extra_of c.args.a in
    let b = plain g.K.Kind.extra_of c.args.b in
    begins_refused (sums c.args.walk k g.K.Kind.extra_of) v (a, b) c.args.frames.now.items c.args.frames.now.items c.from_residual.result c.in_err-constant.field-0.0 c.from_residual.ensures.1 (λ l t u h e.
    constants_answer k v (λ m n. m +ℤ n) (sum_work c.args.walk l t u) l t u a b c.value.result c.value-then-are_constants.result c.add.result _ c.value.ensures
    c.value-then-are_constants.ensures c.add.ensures c.in_err-constant.ensures h e (sum_covers_sum c.args.walk k v.letters l t u))

pub returns-then-are_constants-clause-begins : goal.returns-then-are_constants-clause-begins
returns-then-are_constants-clause-begins g c =
    let k = g.K.Kind.NAME in
    let v = c.args.manager.now in
    let a = plain g.K.Kind.extra_of c.args.a in
    let b = plain g.K.Kind.extra_of c.args.b in (
      refl,
      λ l t u h e.
          constants_answer k v (λ m n. m +ℤ n) (sum_work c.args.walk l t u) l t u a b c.value.result c.value-then-are_constants.result c.add.result _ c.value.ensures
          c.value-then-are_constants.ensures c.add.ensures c.in_ok-constant.ensures h e (sum_covers_sum c.args.walk k v.letters l t u),
    )

pub returns-in_err-shift-clause-begins : goal.returns-in_err-shift-clause-begins
returns-in_err-shift-clause-begins g c =
    let k = g.K.Kind.NAME in
    let v = c.args.manager.now in
    let a = plain g.K.Kind.extra_of c.args.a in
    let b = plain g.K.Kind.extra_of c.args.b in
    begins_refused (sums c.args.walk k g.K.Kind.extra_of) v (a, b) c.args.frames.now.items c.args.frames.now.items c.from_residual-in_err-shift.result limit.Overflow c.from_residual-in_err-shift.ensures.1
    (strips_and_overflows c.args.walk k v (a, b) c.in_err-shift.ensures)

pub sum_at_once-requires-clause-a_good : goal.sum_at_once-requires-clause-a_good
sum_at_once-requires-clause-a_good g c κs within =
    let k = g.K.Kind.NAME in
    let v = c.args.manager.now in
    let a = plain g.K.Kind.extra_of c.args.a in
    let b = plain g.K.Kind.extra_of c.args.b in
    let x = plain g.K.Kind.extra_of c.in_ok-shift.first in
    let y = plain g.K.Kind.extra_of c.in_ok-shift.second in
    let are = unshifted_rests c.args.walk k v (a, b) (c.in_ok-shift.shift, x, y) c.requires.a_good c.requires.b_good c.in_ok-shift.ensures in
    are.first_good

pub sum_at_once-requires-clause-b_good : goal.sum_at_once-requires-clause-b_good
sum_at_once-requires-clause-b_good g c κs within =
    let k = g.K.Kind.NAME in
    let v = c.args.manager.now in
    let a = plain g.K.Kind.extra_of c.args.a in
    let b = plain g.K.Kind.extra_of c.args.b in
    let x = plain g.K.Kind.extra_of c.in_ok-shift.first in
    let y = plain g.K.Kind.extra_of c.in_ok-shift.second in
    let are = unshifted_rests c.args.walk k v (a, b) (c.in_ok-shift.shift, x, y) c.requires.a_good c.requires.b_good c.in_ok-shift.ensures in
    are.second_good

pub put_back-requires-clause-may_scale : goal.put_back-requires-clause-may_scale
put_back-requires-clause-may_scale g c κs within =
    let k = g.K.Kind.NAME in
    let v = c.args.manager.now in
    let a = plain g.K.Kind.extra_of c.args.a in
    let b = plain g.K.Kind.extra_of c.args.b in
    let x = plain g.K.Kind.extra_of c.in_ok-shift.first in
    let y = plain g.K.Kind.extra_of c.in_ok-shift.second in
    let are = unshifted_rests c.args.walk k v (a, b) (c.in_ok-shift.shift, x, y) c.requires.a_good c.requires.b_good c.in_ok-shift.ensures in
    are.may_scale

pub put_back-requires-clause-may_shift : goal.put_back-requires-clause-may_shift
put_back-requires-clause-may_shift g c κs within =
    let k = g.K.Kind.NAME in
    let v = c.args.manager.now in
    let a = plain g.K.Kind.extra_of c.args.a in
    let b = plain g.K.Kind.extra_of c.args.b in
    let x = plain g.K.Kind.extra_of c.in_ok-shift.first in
    let y = plain g.K.Kind.extra_of c.in_ok-shift.second in
    let are = unshifted_rests c.args.walk k v (a, b) (c.in_ok-shift.shift, x, y) c.requires.a_good c.requires.b_good c.in_ok-shift.ensures in
    are.may_shift

pub returns-in_err-sum-in-Some-clause-begins : goal.returns-in_err-sum-in-Some-clause-begins
returns-in_err-sum-in-Some-clause-begins g c =
    let k = g.K.Kind.NAME in
    let v = c.args.manager.now in
    let a = plain g.K.Kind.extra_of c.args.a in
    let b = plain g.K.Kind.extra_of c.args.b in
    let x = plain g.K.Kind.extra_of c.in_ok-shift.first in
    let y = plain g.K.Kind.extra_of c.in_ok-shift.second in
    let are = unshifted_rests c.args.walk k v (a, b) (c.in_ok-shift.shift, x, y) c.requires.a_good c.requires.b_good c.in_ok-shift.ensures in
    begins_refused (sums c.args.walk k g.K.Kind.extra_of) v (a, b) c.args.frames.now.items c.args.frames.now.items c.from_residual-in_err-sum-in-Some.result limit.Overflow c.from_residual-in_err-sum-in-Some.ensures.1
    (known_overflows c.args.walk k v (a, b) (x, y) (pos 1) c.in_ok-shift.shift (plain g.K.Kind.extra_of c.in-Some.rest) are c.in-Some.ensures c.in_err-sum-in-Some.ensures)

pub returns-in_ok-sum-in-Some-clause-begins : goal.returns-in_ok-sum-in-Some-clause-begins
returns-in_ok-sum-in-Some-clause-begins g c =
    let k = g.K.Kind.NAME in
    let v = c.args.manager.now in
    let a = plain g.K.Kind.extra_of c.args.a in
    let b = plain g.K.Kind.extra_of c.args.b in
    let x = plain g.K.Kind.extra_of c.in_ok-shift.first in
    let y = plain g.K.Kind.extra_of c.in_ok-shift.second in
    let are = unshifted_rests c.args.walk k v (a, b) (c.in_ok-shift.shift, x, y) c.requires.a_good c.requires.b_good c.in_ok-shift.ensures in (
      refl,
      known_put_back c.args.walk k v (a, b) (x, y) (pos 1) c.in_ok-shift.shift (plain g.K.Kind.extra_of c.in-Some.rest) (plain g.K.Kind.extra_of c.in_ok-sum-in-Some.sum) are
          c.in-Some.ensures c.in_ok-sum-in-Some.ensures,
    )

pub reduced-requires-clause-a_some : goal.reduced-requires-clause-a_some
reduced-requires-clause-a_some g c κs within =
    let k = g.K.Kind.NAME in
    let v = c.args.manager.now in
    let a = plain g.K.Kind.extra_of c.args.a in
    let b = plain g.K.Kind.extra_of c.args.b in
    let x = plain g.K.Kind.extra_of c.in_ok-shift.first in
    let y = plain g.K.Kind.extra_of c.in_ok-shift.second in
    let are = unshifted_rests c.args.walk k v (a, b) (c.in_ok-shift.shift, x, y) c.requires.a_good c.requires.b_good c.in_ok-shift.ensures in
    some_scale k v 0 are.first_good.0 x are.first_good.1 c.in-None.ensures.first

pub reduced-requires-clause-b_some : goal.reduced-requires-clause-b_some
reduced-requires-clause-b_some g c κs within =
    let k = g.K.Kind.NAME in
    let v = c.args.manager.now in
    let a = plain g.K.Kind.extra_of c.args.a in
    let b = plain g.K.Kind.extra_of c.args.b in
    let x = plain g.K.Kind.extra_of c.in_ok-shift.first in
    let y = plain g.K.Kind.extra_of c.in_ok-shift.second in
    let are = unshifted_rests c.args.walk k v (a, b) (c.in_ok-shift.shift, x, y) c.requires.a_good c.requires.b_good c.in_ok-shift.ensures in
    some_scale k v 0 are.second_good.0 y are.second_good.1 c.in-None.ensures.second

pub returns-in_err-factor-in-None-clause-begins : goal.returns-in_err-factor-in-None-clause-begins
returns-in_err-factor-in-None-clause-begins g c =
    let k = g.K.Kind.NAME in
    let v = c.args.manager.now in
    let a = plain g.K.Kind.extra_of c.args.a in
    let b = plain g.K.Kind.extra_of c.args.b in
    begins_refused (sums c.args.walk k g.K.Kind.extra_of) v (a, b) c.args.frames.now.items c.args.frames.now.items c.from_residual-in_err-factor-in-None.result limit.Overflow c.from_residual-in_err-factor-in-None.ensures.1
    (strips_and_overflows c.args.walk k v (a, b) c.in_err-factor-in-None.ensures)

pub begin_rests-requires-clause-a_good : goal.begin_rests-requires-clause-a_good
begin_rests-requires-clause-a_good g c κs within =
    let k = g.K.Kind.NAME in
    let v = c.args.manager.now in
    let a = plain g.K.Kind.extra_of c.args.a in
    let b = plain g.K.Kind.extra_of c.args.b in
    let x = plain g.K.Kind.extra_of c.in_ok-shift.first in
    let y = plain g.K.Kind.extra_of c.in_ok-shift.second in
    let p = plain g.K.Kind.extra_of c.in_ok-factor-in-None.first_rest in
    let q = plain g.K.Kind.extra_of c.in_ok-factor-in-None.second_rest in
    let are = rests_are c.args.walk k v (a, b) (c.in_ok-shift.shift, x, y) (c.in_ok-factor-in-None.factor, p, q) c.requires.a_good c.requires.b_good c.in_ok-shift.ensures
    c.in_ok-factor-in-None.ensures in
    are.first_good

pub begin_rests-requires-clause-b_good : goal.begin_rests-requires-clause-b_good
begin_rests-requires-clause-b_good g c κs within =
    let k = g.K.Kind.NAME in
    let v = c.args.manager.now in
    let a = plain g.K.Kind.extra_of c.args.a in
    let b = plain g.K.Kind.extra_of c.args.b in
    let x = plain g.K.Kind.extra_of c.in_ok-shift.first in
    let y = plain g.K.Kind.extra_of c.in_ok-shift.second in
    let p = plain g.K.Kind.extra_of c.in_ok-factor-in-None.first_rest in
    let q = plain g.K.Kind.extra_of c.in_ok-factor-in-None.second_rest in
    let are = rests_are c.args.walk k v (a, b) (c.in_ok-shift.shift, x, y) (c.in_ok-factor-in-None.factor, p, q) c.requires.a_good c.requires.b_good c.in_ok-shift.ensures
    c.in_ok-factor-in-None.ensures in
    are.second_good

pub begin_rests-requires-clause-some_node : goal.begin_rests-requires-clause-some_node
begin_rests-requires-clause-some_node g c κs within =
    let k = g.K.Kind.NAME in
    let v = c.args.manager.now in
    let a = plain g.K.Kind.extra_of c.args.a in
    let b = plain g.K.Kind.extra_of c.args.b in
    let x = plain g.K.Kind.extra_of c.in_ok-shift.first in
    let y = plain g.K.Kind.extra_of c.in_ok-shift.second in
    let p = plain g.K.Kind.extra_of c.in_ok-factor-in-None.first_rest in
    let q = plain g.K.Kind.extra_of c.in_ok-factor-in-None.second_rest in
    let are = rests_are c.args.walk k v (a, b) (c.in_ok-shift.shift, x, y) (c.in_ok-factor-in-None.factor, p, q) c.requires.a_good c.requires.b_good c.in_ok-shift.ensures
    c.in_ok-factor-in-None.ensures in
    λ none. let yes = c.are_constants.ensures.1 (sym are.first_node ∙ none.0, sym are.second_node ∙ none.1) in absurd (cc)

pub begin_rests-requires-clause-place : goal.begin_rests-requires-clause-place
begin_rests-requires-clause-place g c κs within =
    let k = g.K.Kind.NAME in
    let v = c.args.manager.now in
    let a = plain g.K.Kind.extra_of c.args.a in
    let b = plain g.K.Kind.extra_of c.args.b in
    let x = plain g.K.Kind.extra_of c.in_ok-shift.first in
    let y = plain g.K.Kind.extra_of c.in_ok-shift.second in
    let p = plain g.K.Kind.extra_of c.in_ok-factor-in-None.first_rest in
    let q = plain g.K.Kind.extra_of c.in_ok-factor-in-None.second_rest in
    let are = rests_are c.args.walk k v (a, b) (c.in_ok-shift.shift, x, y) (c.in_ok-factor-in-None.factor, p, q) c.requires.a_good c.requires.b_good c.in_ok-shift.ensures
    c.in_ok-factor-in-None.ensures in
    rests_place c.args.walk k v (a, b) (p, q) c.in_ok-factor-in-None.factor c.in_ok-shift.shift (length c.args.frames.now.items) are c.requires.place

pub begin_rests-requires-clause-may_scale : goal.begin_rests-requires-clause-may_scale
begin_rests-requires-clause-may_scale g c κs within =
    let k = g.K.Kind.NAME in
    let v = c.args.manager.now in
    let a = plain g.K.Kind.extra_of c.args.a in
    let b = plain g.K.Kind.extra_of c.args.b in
    let x = plain g.K.Kind.extra_of c.in_ok-shift.first in
    let y = plain g.K.Kind.extra_of c.in_ok-shift.second in
    let p = plain g.K.Kind.extra_of c.in_ok-factor-in-None.first_rest in
    let q = plain g.K.Kind.extra_of c.in_ok-factor-in-None.second_rest in
    let are = rests_are c.args.walk k v (a, b) (c.in_ok-shift.shift, x, y) (c.in_ok-factor-in-None.factor, p, q) c.requires.a_good c.requires.b_good c.in_ok-shift.ensures
    c.in_ok-factor-in-None.ensures in
    are.may_scale

pub begin_rests-requires-clause-may_shift : goal.begin_rests-requires-clause-may_shift
begin_rests-requires-clause-may_shift g c κs within =
    let k = g.K.Kind.NAME in
    let v = c.args.manager.now in
    let a = plain g.K.Kind.extra_of c.args.a in
    let b = plain g.K.Kind.extra_of c.args.b in
    let x = plain g.K.Kind.extra_of c.in_ok-shift.first in
    let y = plain g.K.Kind.extra_of c.in_ok-shift.second in
    let p = plain g.K.Kind.extra_of c.in_ok-factor-in-None.first_rest in
    let q = plain g.K.Kind.extra_of c.in_ok-factor-in-None.second_rest in
    let are = rests_are c.args.walk k v (a, b) (c.in_ok-shift.shift, x, y) (c.in_ok-factor-in-None.factor, p, q) c.requires.a_good c.requires.b_good c.in_ok-shift.ensures
    c.in_ok-factor-in-None.ensures in
    are.may_shift

pub returns-in_ok-factor-in-None-clause-begins : goal.returns-in_ok-factor-in-None-clause-begins
returns-in_ok-factor-in-None-clause-begins g c =
    let k = g.K.Kind.NAME in
    let v = c.args.manager.now in
    let a = plain g.K.Kind.extra_of c.args.a in
    let b = plain g.K.Kind.extra_of c.args.b in
    let x = plain g.K.Kind.extra_of c.in_ok-shift.first in
    let y = plain g.K.Kind.extra_of c.in_ok-shift.second in
    let p = plain g.K.Kind.extra_of c.in_ok-factor-in-None.first_rest in
    let q = plain g.K.Kind.extra_of c.in_ok-factor-in-None.second_rest in
    let are = rests_are c.args.walk k v (a, b) (c.in_ok-shift.shift, x, y) (c.in_ok-factor-in-None.factor, p, q) c.requires.a_good c.requires.b_good c.in_ok-shift.ensures
    c.in_ok-factor-in-None.ensures in
    c.begin_rests.ensures.begins (a, b) are

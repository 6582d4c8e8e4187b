use Rattle.std.proofs.Common.{◌+◌, ◌<◌, Bool, List, length, arith, subst, sym}
use Rattle.kind_laws.specs.Plain.{plain}
use Rattle.diagram.proofs.StoreLaws.{keeps_on}
use Rattle.counterexample.specs.Steps.{plain_turn}
use Rattle.counterexample.proofs.StepLaws.{err_is}
use Rattle.counterexample.proofs.WalkLaws.{IsWalked, left_can_part, right_can_part, one_step_more, walk_refuses, walk_ends, walk_causes}
use Rattle.counterexample.proofs.walk.first_difference.Goals as goal

pub step-requires-clause-left : goal.step-requires-clause-left
step-requires-clause-left g c κs within =
    let v = c.args.builder.now in
    let at = c.loop-level in
    let below : at.level < length v.letters = omega arith in
    left_can_part g.K.Kind.NAME v at.builder c.args.top at.level (plain g.K.Kind.extra_of c.args.left) (plain g.K.Kind.extra_of c.args.right)
    (plain g.K.Kind.extra_of at.left) (plain g.K.Kind.extra_of at.right) at.into c.requires.left_lies c.requires.right_lies below at.invariant

pub step-requires-clause-right : goal.step-requires-clause-right
step-requires-clause-right g c κs within =
    let v = c.args.builder.now in
    let at = c.loop-level in
    let below : at.level < length v.letters = omega arith in
    right_can_part g.K.Kind.NAME v at.builder c.args.top at.level (plain g.K.Kind.extra_of c.args.left) (plain g.K.Kind.extra_of c.args.right)
    (plain g.K.Kind.extra_of at.left) (plain g.K.Kind.extra_of at.right) at.into c.requires.left_lies c.requires.right_lies below at.invariant

pub returns-in_err-turn-clause-keeps : goal.returns-in_err-turn-clause-keeps
returns-in_err-turn-clause-keeps g c =
    keeps_on c.args.builder.now c.loop-level.builder c.step.new.builder c.loop-level.invariant.keeps c.in_err-turn.ensures.keeps

pub returns-in_err-turn-clause-causes : goal.returns-in_err-turn-clause-causes
returns-in_err-turn-clause-causes g c =
    let v = c.args.builder.now in
    let at = c.loop-level in
    let below : at.level < length v.letters = omega arith in
    let limit = c.in_err-turn.field-0.0 in
    walk_refuses g.K.Kind.NAME v at.builder c.step.new.builder c.args.top at.level (plain g.K.Kind.extra_of c.args.left) (plain g.K.Kind.extra_of c.args.right)
    (plain g.K.Kind.extra_of at.left) (plain g.K.Kind.extra_of at.right) at.into limit c.from_residual.result
    (err_is c.from_residual.result limit c.from_residual.ensures.1) below at.invariant c.in_err-turn.ensures.keeps c.in_err-turn.ensures.turn

pub loop-level-preserved : goal.loop-level-preserved
loop-level-preserved g c =
    let k = g.K.Kind.NAME in
    let v = c.args.builder.now in
    let x = c.step.new.builder in
    let at = c.loop-level in
    let below : at.level < length v.letters = omega arith in
    let first_left = plain g.K.Kind.extra_of c.args.left in
    let first_right = plain g.K.Kind.extra_of c.args.right in
    let turn = plain_turn g.K.Kind.extra_of c.in_ok-turn.turn in
    subst (λ (bits : List Bool). IsWalked k v x c.args.top (at.level + 1) first_left first_right turn.left turn.right bits) (sym c.set.ensures)
    (one_step_more k v at.builder x c.args.top at.level first_left first_right (plain g.K.Kind.extra_of at.left) (plain g.K.Kind.extra_of at.right) turn at.into
    at.auto.level below at.invariant c.in_ok-turn.ensures.keeps c.in_ok-turn.ensures.turn)

pub returns-clause-first : goal.returns-clause-first
returns-clause-first g c =
    let at = c.loop-level in
    walk_ends g.K.Kind.NAME c.args.builder.now at.builder c.args.top at.level (plain g.K.Kind.extra_of c.args.left) (plain g.K.Kind.extra_of c.args.right)
    (plain g.K.Kind.extra_of at.left) (plain g.K.Kind.extra_of at.right) at.into (omega arith) c.requires.differ at.invariant

pub returns-clause-causes : goal.returns-clause-causes
returns-clause-causes g c =
    let at = c.loop-level in
    walk_causes g.K.Kind.NAME c.args.builder.now at.builder c.args.top at.level (plain g.K.Kind.extra_of c.args.left) (plain g.K.Kind.extra_of c.args.right)
    (plain g.K.Kind.extra_of at.left) (plain g.K.Kind.extra_of at.right) at.into tt at.invariant

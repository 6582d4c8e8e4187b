use Rattle.std.proofs.Common.{sym, subst}
use Rattle.kind_laws.specs.Plain.{plain}
use Rattle.diagram.proofs.StoreLaws.{keeps_on}
use Rattle.counterexample.specs.Steps.{plain_choice, plain_turn, IsTurn}
use Rattle.counterexample.proofs.StepLaws.{err_is_answered, still_can_part, left_refuses, right_refuses, step_turns}
use Rattle.counterexample.proofs.walk.step.Goals as goal

pub returns-in_err-first-clause-turn : goal.returns-in_err-first-clause-turn
returns-in_err-first-clause-turn g c =
    let k = g.K.Kind.NAME in
    let v = c.args.builder.now in
    let w = c.split.new.builder in
    let left = plain g.K.Kind.extra_of c.args.left in
    let right = plain g.K.Kind.extra_of c.args.right in
    let limit = c.in_err-first.field-0.0 in
    subst (IsTurn k v w c.args.level left right) (sym (err_is_answered (plain_turn g.K.Kind.extra_of) c.from_residual.result limit c.from_residual.ensures.1))
    (left_refuses k v w c.args.level left right limit c.in_err-first.ensures.keeps c.in_err-first.ensures.choice)

pub split-requires-2-after_bounds : goal.split-requires-2-after_bounds
split-requires-2-after_bounds g c = λ lives bounds.
    still_can_part g.K.Kind.NAME c.args.builder.now c.split.new.builder c.args.level (plain g.K.Kind.extra_of c.args.right) c.in_ok-first.ensures.keeps c.requires.right

pub returns-in_err-second-clause-keeps : goal.returns-in_err-second-clause-keeps
returns-in_err-second-clause-keeps g c =
    keeps_on c.args.builder.now c.split.new.builder c.split-2.new.builder c.in_ok-first.ensures.keeps c.in_err-second.ensures.keeps

pub returns-in_err-second-clause-turn : goal.returns-in_err-second-clause-turn
returns-in_err-second-clause-turn g c =
    let k = g.K.Kind.NAME in
    let v = c.args.builder.now in
    let x = c.split-2.new.builder in
    let left = plain g.K.Kind.extra_of c.args.left in
    let right = plain g.K.Kind.extra_of c.args.right in
    let limit = c.in_err-second.field-0.0 in
    let is = err_is_answered (plain_turn g.K.Kind.extra_of) c.from_residual-in_err-second.result limit c.from_residual-in_err-second.ensures.1 in
    subst (IsTurn k v x c.args.level left right) (sym is)
    (right_refuses k v c.split.new.builder x c.args.level left right (plain_choice g.K.Kind.extra_of c.in_ok-first.first) limit c.in_ok-first.ensures.keeps
    c.in_ok-first.ensures.choice c.in_err-second.ensures.keeps c.in_err-second.ensures.choice)

pub returns-clause-keeps : goal.returns-clause-keeps
returns-clause-keeps g c =
    keeps_on c.args.builder.now c.split.new.builder c.split-2.new.builder c.in_ok-first.ensures.keeps c.in_ok-second.ensures.keeps

pub returns-clause-turn : goal.returns-clause-turn
returns-clause-turn g c =
    step_turns g.K.Kind.NAME c.args.builder.now c.split.new.builder c.split-2.new.builder c.args.level (plain g.K.Kind.extra_of c.args.left)
    (plain g.K.Kind.extra_of c.args.right) (plain_choice g.K.Kind.extra_of c.in_ok-first.first) (plain_choice g.K.Kind.extra_of c.in_ok-second.second)
    (plain_turn g.K.Kind.extra_of c.choose.result) c.in_ok-first.ensures.keeps c.in_ok-first.ensures.choice c.in_ok-second.ensures.keeps
    c.in_ok-second.ensures.choice c.choose.ensures

use Rattle.counterexample.specs.Steps.{plain_choice}
use Rattle.counterexample.proofs.StepLaws.{goes_on, goes_to_tried}
use Rattle.counterexample.proofs.walk.choose.Goals as goal

pub returns-then-same : goal.returns-then-same
returns-then-same g c = λ d level t u lefts rights.
    goes_on g.K.Kind.NAME c.args.builder.now d level t u (plain_choice g.K.Kind.extra_of c.args.left) (plain_choice g.K.Kind.extra_of c.args.right) c.same.result
    lefts rights c.same.ensures c.if-same.true

pub returns-else-same : goal.returns-else-same
returns-else-same g c = λ d level t u lefts rights.
    goes_to_tried g.K.Kind.NAME c.args.builder.now d level t u (plain_choice g.K.Kind.extra_of c.args.left) (plain_choice g.K.Kind.extra_of c.args.right) c.same.result
    lefts rights c.same.ensures c.if-same.false

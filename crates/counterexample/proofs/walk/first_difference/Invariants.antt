use Rattle.kind_laws.specs.Plain.{plain}
use Rattle.counterexample.proofs.WalkLaws.{IsWalked}
use Rattle.counterexample.proofs.walk.first_difference.Given as goal

abbrev pub invariant-loop-level : goal.invariant-loop-level
invariant-loop-level g l =
    let number = g.K.Kind.extra_of in
    IsWalked g.K.Kind.NAME l.fn.builder l.builder l.top l.level (plain number l.fn.left) (plain number l.fn.right) (plain number l.left) (plain number l.right) l.into

use Rattle.word_apply.specs.Applied.{plain_edges}
use Rattle.cone_builder.proofs.InputLaws.{InputsSoFar}
use Rattle.cone_builder.proofs.inputs.build_inputs.Given as goal

abbrev pub invariant-loop-level : goal.invariant-loop-level
invariant-loop-level g l =
    InputsSoFar g.K.Kind.NAME l.fn.builder l.builder l.order l.marks l.level (plain_edges g.K.Kind.extra_of l.fn.edges) (plain_edges g.K.Kind.extra_of l.edges)

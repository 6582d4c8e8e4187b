use Rattle.word_apply.specs.Applied.{plain_edges}
use Rattle.cone_builder.proofs.WordLaws.{WordsSoFar}
use Rattle.cone_builder.proofs.words.build_words.Given as goal

abbrev pub invariant-loop-number : goal.invariant-loop-number
invariant-loop-number g l =
    WordsSoFar g.K.Kind.NAME l.spec.words l.fn.builder l.builder l.numbers l.number-index (plain_edges g.K.Kind.extra_of l.nets)
    (plain_edges g.K.Kind.extra_of l.fn.words) (plain_edges g.K.Kind.extra_of l.words)

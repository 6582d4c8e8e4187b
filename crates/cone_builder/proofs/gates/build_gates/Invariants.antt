use Rattle.word_apply.specs.Applied.{plain_edges}
use Rattle.cone_builder.proofs.GateLaws.{GatesSoFar}
use Rattle.cone_builder.proofs.gates.build_gates.Given as goal

abbrev pub invariant-loop-net : goal.invariant-loop-net
invariant-loop-net g l =
    GatesSoFar g.K.Kind.NAME l.netlist l.fn.builder l.builder l.gates l.net-index (plain_edges g.K.Kind.extra_of l.fn.edges) (plain_edges g.K.Kind.extra_of l.edges)

use Rattle.std.proofs.Common.{◌≡◌, replicate}
use Rattle.cone_builder.proofs.inputs.repeated.Given as goal

abbrev pub invariant-loop : goal.invariant-loop
invariant-loop g l = l.edges.items ≡ replicate l.counter l.edge

use Rattle.std.proofs.Common.{◌≡◌, take, map}
use Rattle.std.specs.Prelude.{slice_index_or}
use Rattle.kind_laws.specs.Plain.{PlainEdge}
use Rattle.word_apply.specs.Applied.{plain_edges}
use Rattle.cone_builder.proofs.gates.gather.Given as goal

abbrev pub invariant-loop-net : goal.invariant-loop-net
invariant-loop-net g l =
    (d : PlainEdge) → plain_edges g.K.Kind.extra_of l.into.items ≡ map (λ net. slice_index_or (plain_edges g.K.Kind.extra_of l.edges) net d) (take l.net-index l.nets)

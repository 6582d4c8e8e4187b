-- When two edges of a K*BMD join to the low one. Private functions and proofs alone use it.
use Rattle.std.specs.Prelude.{◌≡◌, pos}
use Rattle.word_base.specs.declared.decomp.Decomp.{Decomp}
use Rattle.word_base.specs.declared.decomp.Decomp.TheVariants.{S, P, N}
use Rattle.kind_laws.specs.Plain.{PlainEdge, plain_edge}

abbrev pub IsSkip : Decomp → PlainEdge → PlainEdge → Type 0
IsSkip S low high = low ≡ high
IsSkip P low high = high ≡ plain_edge (pos 0) (pos 0) 0
IsSkip N low high = high ≡ plain_edge (pos 0) (pos 0) 0

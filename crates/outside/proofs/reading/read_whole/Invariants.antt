use Rattle.std.proofs.Common.{◌≡◌, ◌++◌, length, List, ℕ, ◌+◌}
use Rattle.std.specs.Io.KnownBytes.{Consumes}
use Rattle.outside.proofs.reading.read_whole.Given as goal

-- what was read so far was appended, and takes up what is no longer left of the limit
abbrev pub invariant-loop : goal.invariant-loop
invariant-loop g l = (bytes : List ℕ) × (l.into.items ≡ l.initial.into.items ++ bytes) × (length bytes + l.left ≡ l.limit)
    × Consumes (g.F.Read.remaining l.initial.file) (g.F.Read.remaining l.file) bytes

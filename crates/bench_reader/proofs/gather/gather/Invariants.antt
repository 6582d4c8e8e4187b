use Rattle.std.proofs.Common.{◌+◌, ◌≤◌, length}
use Rattle.texts.specs.Lines.{lines}
use Rattle.bench_reader.proofs.Gathering.{IsGathered}
use Rattle.bench_reader.proofs.gather.gather.Given as goal

abbrev pub invariant-loop-rest : goal.invariant-loop-rest
invariant-loop-rest l = record {
  short : l.line + length l.rest ≤ length l.bytes;
  gathered : IsGathered (lines l.bytes) l.line l.maker l.saying.items (lines l.rest);
}

abbrev pub decreases-loop-rest : goal.decreases-loop-rest
decreases-loop-rest l = length l.rest

use Rattle.std.proofs.Common.{◌≡◌, ◌+◌, ◌≤◌, length}
use Rattle.spec_grammar.specs.GoodDraft.{IsGood}
use Rattle.spec_grammar.specs.Reading.{reading, reading_from}
use Rattle.spec_reader.specs.Views.{seen_draft}
use Rattle.texts.specs.Lines.{lines}
use Rattle.spec_reader.proofs.reader.read.Given as goal

abbrev pub invariant-loop-rest : goal.invariant-loop-rest
invariant-loop-rest l = record {
  short : l.line + length l.rest ≤ length l.bytes;
  good : IsGood l.netlist l.kind (seen_draft l.draft);
  reads : reading_from l.netlist l.kind (l.line + 1) (seen_draft l.draft) (lines l.rest) ≡ reading l.netlist l.kind l.bytes;
}

abbrev pub decreases-loop-rest : goal.decreases-loop-rest
decreases-loop-rest l = length l.rest

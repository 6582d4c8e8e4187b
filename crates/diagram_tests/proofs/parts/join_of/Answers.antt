use Rattle.kind_laws.specs.Plain.{plain}
use Rattle.diagram.proofs.LevelLaws.{still_edge}
use Rattle.diagram_tests.proofs.parts.join_of.Goals as goal

pub join_at-requires-clause-low : goal.join_at-requires-clause-low
join_at-requires-clause-low g c κs within =
    still_edge g.K.Kind.NAME c.edge.new.builder c.edge-2.new.builder (plain g.K.Kind.extra_of c.in_ok-low.low) c.in_ok-high.ensures.keeps c.in_ok-low.ensures.good

use Rattle.diagram.proofs.builder.Builder.scale.Goals as goal

pub scaled-requires-clause-good : goal.scaled-requires-clause-good
scaled-requires-clause-good g c κs within = rw c.self.view_is c.requires

pub returns-clause-multiple : goal.returns-clause-multiple
returns-clause-multiple g c = rw (← c.self.view_is) c.scaled.ensures.multiple

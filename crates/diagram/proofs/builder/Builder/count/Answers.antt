use Rattle.diagram.proofs.builder.Builder.count.Goals as goal

pub count-requires-clause-good : goal.count-requires-clause-good
count-requires-clause-good g c κs within = rw c.self.view_is c.requires

pub returns-clause-count : goal.returns-clause-count
returns-clause-count g c = rw (← c.self.view_is) c.count.ensures.count

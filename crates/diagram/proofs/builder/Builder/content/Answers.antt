use Rattle.diagram.proofs.builder.Builder.content.Goals as goal

pub content-requires-clause-good : goal.content-requires-clause-good
content-requires-clause-good g c κs within = rw c.self.view_is c.requires

pub returns-clause-content : goal.returns-clause-content
returns-clause-content g c = rw (← c.self.view_is) c.content.ensures.content

use Rattle.diagram.proofs.builder.Builder.parts.Goals as goal

pub returns-clause-parts : goal.returns-clause-parts
returns-clause-parts g c = rw (← c.self.view_is) c.parts.ensures.parts

use Rattle.diagram.proofs.builder.Builder.join.Goals as goal

pub returns-clause-join : goal.returns-clause-join
returns-clause-join g c = rw (← c.self.view_is) c.join.ensures.join

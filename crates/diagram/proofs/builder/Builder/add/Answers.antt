use Rattle.diagram.proofs.builder.Builder.add.Goals as goal

pub sum_of-requires-clause-a_good : goal.sum_of-requires-clause-a_good
sum_of-requires-clause-a_good g c κs within = rw c.self.view_is c.requires.a_good

pub sum_of-requires-clause-b_good : goal.sum_of-requires-clause-b_good
sum_of-requires-clause-b_good g c κs within = rw c.self.view_is c.requires.b_good

pub returns-clause-sum : goal.returns-clause-sum
returns-clause-sum g c = rw (← c.self.view_is) c.sum_of.ensures.sum

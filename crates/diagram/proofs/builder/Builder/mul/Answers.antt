use Rattle.diagram.proofs.builder.Builder.mul.Goals as goal

pub product_of-requires-clause-a_good : goal.product_of-requires-clause-a_good
product_of-requires-clause-a_good g c κs within = rw c.self.view_is c.requires.a_good

pub product_of-requires-clause-b_good : goal.product_of-requires-clause-b_good
product_of-requires-clause-b_good g c κs within = rw c.self.view_is c.requires.b_good

pub returns-clause-product : goal.returns-clause-product
returns-clause-product g c = rw (← c.self.view_is) c.product_of.ensures.product

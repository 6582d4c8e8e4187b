use Rattle.diagram.proofs.builder.Builder.top.Goals as goal

pub top-requires-after_bounds : goal.top-requires-after_bounds
top-requires-after_bounds g c κs within = rw c.self.view_is c.requires

use Rattle.std.proofs.Common.{length, [], vec_capacity}
use Rattle.record_store.specs.StoreView.{find_in}
use Rattle.kind_laws.specs.Plain.{plain}
use Rattle.diagram.proofs.BelowLaws.{sound_has_levels, started, cleared, counted}
use Rattle.diagram.proofs.manager.Manager.count.Goals as goal

pub gather_below-requires-clause-start : goal.gather_below-requires-clause-start
gather_below-requires-clause-start g c κs within =
    started g.K.Kind.NAME c.args.self.now (record { store = g.S.Store.view c.self.inside.store; letters = c.self.inside.levels }) (plain g.K.Kind.extra_of c.args.edge) c.self.view_is c.requires.good

pub gather_below-requires-clause-met : goal.gather_below-requires-clause-met
gather_below-requires-clause-met g c κs within =
    ([], cleared g.K.Kind.NAME (find_in (g.S.Store.view c.self.inside.store)) (length c.self.inside.marks) c.clear.new.self c.clear.ensures)

pub gather_below-requires-clause-room : goal.gather_below-requires-clause-room
gather_below-requires-clause-room g c κs within =
    sound_has_levels g.K.Kind.NAME c.args.self.now (record { store = g.S.Store.view c.self.inside.store; letters = c.self.inside.levels }) c.self.inside.cache c.self.inside.marks
    (vec_capacity c.args.frames.now) c.self.view_is c.self.invariant c.requires.room

pub returns-clause-count : goal.returns-clause-count
returns-clause-count g c =
    counted g.K.Kind.NAME c.args.self.now (record { store = g.S.Store.view c.self.inside.store; letters = c.self.inside.levels }) (plain g.K.Kind.extra_of c.args.edge)
    (length c.self.inside.marks) c.clear.new.self c.gather_below.new.marks c.len.result c.self.view_is c.clear.ensures c.gather_below.ensures.marks c.len.ensures

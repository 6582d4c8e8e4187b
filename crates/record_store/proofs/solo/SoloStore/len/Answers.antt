use Rattle.std.proofs.Common.{sym, subst, ◌∙◌}
use Rattle.record_store.specs.Solo.{Solo, solo_view, IsSoloView}
use Rattle.record_store.proofs.SoloLaws.{is_solo_view}
use Rattle.record_store.proofs.solo.SoloStore.len.Goals as goal

pub returns-clause-view : goal.returns-clause-view
returns-clause-view c =
    let s : Solo = record { bodies = c.self.inside.bodies.items; cells = c.self.inside.cells } in
    let held = c.self.invariant in
    let all = is_solo_view s held.index.distinct held.within held.some_cells held.cells_within in
    subst (λ v. IsSoloView (solo_view v) c.len.result) c.self.view_is
    (subst (IsSoloView (solo_view s)) (sym (c.len.ensures ∙ c.self.inside.bodies.ok.0)) all)

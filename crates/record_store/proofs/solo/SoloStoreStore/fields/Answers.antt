use Rattle.std.proofs.Common.{◌≡◌, ◌-◌, ◌<◌, get_or, ap, sym, subst, ◌∙◌, arith, Some, length}
use Rattle.std.proofs.lemmas.Option.{slice_get_within, slice_get-get_or}
use Rattle.record_store.specs.Solo.{Solo, solo_view}
use Rattle.record_store.specs.StoreView.{find_in, IsKnown}
use Rattle.record_store.proofs.SoloLaws.{at_place, place_of}
use Rattle.record_store.proofs.solo.SoloStoreStore.fields.Goals as goal

pub overflow_sub-id : goal.overflow_sub-id
overflow_sub-id c =
    let place = place_of c.args.self.now c.args.id c.requires.0 c.requires.1 in
    omega (arith, place.1)

pub index-requires : goal.index-requires
index-requires c =
    let s : Solo = record { bodies = c.self.inside.bodies.items; cells = c.self.inside.cells } in
    let known = subst (λ v. IsKnown (solo_view v) c.args.id) (sym c.self.view_is) c.requires in
    let place = place_of s c.args.id known.0 known.1 in
    let within = slice_get_within s.bodies place.0 known.0 place.2 in
    omega (arith, place.1, within, c.self.inside.bodies.ok.0)

pub returns-clause-body : goal.returns-clause-body
returns-clause-body c =
    let s : Solo = record { bodies = c.self.inside.bodies.items; cells = c.self.inside.cells } in
    let known = subst (λ v. IsKnown (solo_view v) c.args.id) (sym c.self.view_is) c.requires in
    let place = place_of s c.args.id known.0 known.1 in
    let within : place.0 < length s.bodies = slice_get_within s.bodies place.0 known.0 place.2 in
    let at : c.args.id - 1 ≡ place.0 = omega (arith, place.1) in
    subst (λ v. find_in (solo_view v) c.args.id ≡ Some c.index.result.now) c.self.view_is
    (ap (find_in (solo_view s)) place.1 ∙ at_place s place.0 ∙ slice_get-get_or s.bodies place.0 c.index.result.now within
    ∙ ap Some (ap (λ k. get_or s.bodies k c.index.result.now) (sym at) ∙ sym c.index.ensures))

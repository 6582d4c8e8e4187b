use Rattle.std.proofs.Common.{◌≡◌, sym, subst, ◌∙◌, ap, ℕ, ◌-◌, ◌<◌, ◌≤◌, List, Bool, length, get_or}
use Rattle.std.proofs.lemmas.Bool.{ltb-true, ltb-false}
use Rattle.marks.specs.Marked.{is_marked}
use Rattle.marks.proofs.PaddedLaws.{marked_by, not_marked}
use Rattle.marks.proofs.marks.Marks.has.Goals as goal

pub returns-in-None : goal.returns-in-None
returns-in-None c =
    let past : length c.deref.result.now ≤ c.args.id - 1 = ltb-false _ _ (sym c.in-None.ensures.lookup.0) in
    not_marked c.self.inside.stamps.items c.self.inside.cells c.self.inside.stamp (c.args.id - 1) c.self.invariant.sound.some_stamp
    (subst (λ (ss : List ℕ). length ss ≤ c.args.id - 1) c.deref.ensures.value past)
    ∙ ap (λ (m : List Bool). is_marked m c.args.id) c.self.view_is

pub returns-in-Some : goal.returns-in-Some
returns-in-Some c =
    let within : c.args.id - 1 < length c.deref.result.now = ltb-true _ _ (sym c.in-Some.ensures.lookup.0) in
    let found = c.in-Some.stamp.now in
    marked_by c.self.inside.stamps.items c.self.inside.cells c.self.inside.stamp (c.args.id - 1) found c.self.invariant.sound.some_stamp
    (subst (λ (ss : List ℕ). c.args.id - 1 < length ss) c.deref.ensures.value within)
    (subst (λ (ss : List ℕ). found ≡ get_or ss (c.args.id - 1) found) c.deref.ensures.value c.in-Some.ensures.lookup.1)
    ∙ ap (λ (m : List Bool). is_marked m c.args.id) c.self.view_is

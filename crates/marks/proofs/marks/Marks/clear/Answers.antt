use Rattle.std.proofs.Common.{◌≡◌, refl, sym, subst, ap, ◌∙◌, ℕ, ◌<◌, ◌≤◌, ◌^◌, List, length, arith}
use Rattle.std.specs.Prelude.{◌==◌, replicate}
use Rattle.std.specs.Vec.{vec_capacity}
use Rattle.std.proofs.lemmas.List.{length-map, length-replicate}
use Rattle.marks.specs.Inside.{padded}
use Rattle.marks.specs.Marked.{none_of}
use Rattle.marks.specs.declared.marks.Marks.TheInside.{Inside}
use Rattle.marks.proofs.MarkLaws.{AreUsed, zeros_used, cleared_sound, none_marked}
use Rattle.marks.proofs.PaddedLaws.{length-padded, padded_zeros}
use Rattle.marks.proofs.marks.Marks.clear.Goals as goal
use Rattle.marks.proofs.marks.Marks.clear.Goals.{then-self, else-self}

-- before the stamp is raised
record IsReady (old new : Inside) : Type 0 where
  used : AreUsed (padded new.stamps.items new.cells) new.stamp
  within : length new.stamps.items ≤ new.cells
  capacious : new.cells ≤ vec_capacity new.stamps
  same_cells : new.cells ≡ old.cells

filled : (old new : Inside) (n : ℕ) → new.stamps.items ≡ replicate n 0 → n ≡ length old.stamps.items → new.cells ≡ old.cells → vec_capacity new.stamps ≡ vec_capacity old.stamps →
    length old.stamps.items ≤ old.cells → old.cells ≤ vec_capacity old.stamps → IsReady old new
filled old new n zeros same cells capacity within capacious = record {
  used = subst (λ (ss : List ℕ). AreUsed ss new.stamp) (sym (ap (λ (ss : List ℕ). padded ss new.cells) zeros ∙ padded_zeros n new.cells (omega arith))) (zeros_used new.cells new.stamp);
  within = omega (arith, ap length zeros, length-replicate {A = ℕ} n 0);
  capacious = omega arith;
  same_cells = cells;
}

kept : (old new : Inside) → new ≡ old → IsReady old old → IsReady old new
kept old new is ready = subst (IsReady old) (sym is) ready

ready : (c : goal.After-self-3-1) → IsReady c.self.inside c.if-self.self-inside
ready c =
    let old = c.self.inside in
    let new = c.if-self.self-inside in
    let held = c.self.invariant in
    elim c.if-self.branch as (λ _. IsReady old new) [
      | then-self w ↦ filled old new _ (ap (λ (x : Inside). x.stamps.items) w.self-inside-is ∙ w.fill.ensures.items (λ y e. e)) old.stamps.ok.0 (ap (λ (x : Inside). x.cells) w.self-inside-is)
          (ap (λ (x : Inside). vec_capacity x.stamps) w.self-inside-is ∙ w.fill.ensures.capacity) held.within held.capacious
      | else-self w ↦ kept old new w.self-inside-is (record { used = held.sound.used; within = held.within; capacious = held.capacious; same_cells = refl })
    ]

pub invariant_of-self : goal.invariant_of-self
invariant_of-self c =
    let old = c.self.inside in
    let new = c.if-self.self-inside in
    let r = ready c in
    let few : length (padded new.stamps.items new.cells) < 2 ^ 32 = omega (
      arith,
      c.self.invariant.sound.few,
      r.same_cells,
      length-padded new.stamps.items new.cells r.within,
      length-padded old.stamps.items old.cells c.self.invariant.within,
    ) in
    record { sound = cleared_sound (padded new.stamps.items new.cells) new.stamp r.used few; within = r.within; capacious = r.capacious }

pub returns : goal.returns
returns c =
    let old = c.self.inside in
    let new = c.if-self.self-inside in
    let r = ready c in
    none_marked (padded new.stamps.items new.cells) new.stamp r.used
    ∙ ap none_of (length-padded new.stamps.items new.cells r.within
    ∙ r.same_cells
    ∙ sym (length-padded old.stamps.items old.cells c.self.invariant.within)
    ∙ sym (length-map (padded old.stamps.items old.cells) (λ s. s == old.stamp))
    ∙ ap length c.self.view_is)

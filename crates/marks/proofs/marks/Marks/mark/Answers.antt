use Rattle.std.proofs.Common.{◌≡◌, sym, subst, ap, ◌∙◌, ℕ, ◌-◌, ◌≤◌, ◌+◌, List, Bool, false, length, get_or, set, arith}
use Rattle.std.specs.Prelude.{◌==◌}
use Rattle.std.specs.Vec.{vec_capacity}
use Rattle.std.proofs.lemmas.List.{length-map}
use Rattle.marks.specs.Inside.{marked_under, padded, IsStored}
use Rattle.marks.specs.Marked.{with_mark}
use Rattle.marks.specs.declared.marks.Marks.TheInside.{Inside}
use Rattle.marks.proofs.MarkLaws.{room_for_one, marked_with}
use Rattle.marks.proofs.PaddedLaws.{length-padded, padded_long, padded_mark, stored_mark}
use Rattle.marks.proofs.marks.Marks.mark.Goals as goal

-- the id is one of the set's, and its stamp is not the last one
record IsFree (old : Inside) (id : ℕ) : Type 0 where
  within : id ≤ old.cells
  free : get_or (marked_under old.stamp (padded old.stamps.items old.cells)) (id - 1) false ≡ false

free_place : (old : Inside) (id : ℕ) (marks : List Bool) → marked_under old.stamp (padded old.stamps.items old.cells) ≡ marks → length old.stamps.items ≤ old.cells → id ≤ length marks →
    get_or marks (id - 1) false ≡ false → IsFree old id
free_place old id marks is whole within free =
    let all = padded old.stamps.items old.cells in
    let same : length marks ≡ length all = ap length (sym is) ∙ length-map all (λ s. s == old.stamp) in record {
      within = omega (arith, length-padded old.stamps.items old.cells whole);
      free = subst (λ (m : List Bool). get_or m (id - 1) false ≡ false) (sym is) free;
    }

pub extend-requires : goal.extend-requires
extend-requires c = let place = free_place c.self.inside c.args.id _ c.self.view_is c.self.invariant.within c.requires.within c.requires.free in omega (arith, place.within, c.self.invariant.capacious)

pub index_mut-requires : goal.index_mut-requires
index_mut-requires c =
    omega (arith, c.extend.new.stamps.ok.0, ap length c.extend.ensures.items, padded_long c.self.inside.stamps.items c.args.id, c.requires.above)

pub overflow_add-self : goal.overflow_add-self
overflow_add-self c =
    let old = c.self.inside in
    let all = padded old.stamps.items old.cells in
    let place = free_place c.self.inside c.args.id _ c.self.view_is c.self.invariant.within c.requires.within c.requires.free in
    let above = c.requires.above in
    let many = length-padded old.stamps.items old.cells c.self.invariant.within in
    let room = room_for_one all old.stamp (c.args.id - 1) old.count (omega (arith, many, place.within)) place.free c.self.invariant.sound in
    let few = c.self.invariant.sound.few in
    omega arith

pub invariant_of-self : goal.invariant_of-self
invariant_of-self c =
    let old = c.self.inside in
    let id = c.args.id in
    let place = free_place c.self.inside c.args.id _ c.self.view_is c.self.invariant.within c.requires.within c.requires.free in
    subst (λ (ss : List ℕ). IsStored (set ss (id - 1) old.stamp) old.cells old.stamp (old.count + 1) (vec_capacity c.extend.new.stamps)) (sym c.extend.ensures.items)
    (subst (λ (n : ℕ). IsStored (set (padded old.stamps.items id) (id - 1) old.stamp) old.cells old.stamp (old.count + 1) n) (sym c.extend.ensures.capacity)
    (stored_mark old.stamps.items old.cells old.stamp old.count (vec_capacity old.stamps) id c.self.invariant c.requires.above place.within place.free))

pub returns : goal.returns
returns c =
    let old = c.self.inside in
    let id = c.args.id in
    let place = free_place c.self.inside c.args.id _ c.self.view_is c.self.invariant.within c.requires.within c.requires.free in
    ap (λ (ss : List ℕ). marked_under old.stamp (padded (set ss (id - 1) old.stamp) old.cells)) c.extend.ensures.items
    ∙ ap (marked_under old.stamp) (padded_mark old.stamps.items old.cells old.stamp id c.requires.above place.within)
    ∙ marked_with (padded old.stamps.items old.cells) old.stamp (id - 1)
    ∙ ap (λ (m : List Bool). with_mark m id) c.self.view_is

use Rattle.std.proofs.Common.{◌≡◌, refl, sym, ◌∙◌, subst, inl, arith, vec_capacity}
use Rattle.std.specs.Prelude.{Some}
use Rattle.std.proofs.lemmas.Option.{same_Some}
use Rattle.kind_laws.specs.Body.{body_of}
use Rattle.record_store.specs.StoreView.{StoreView, find_in}
use Rattle.diagram.specs.Below.{IsDone}
use Rattle.diagram.proofs.BelowLaws.{inner_at}
use Rattle.diagram.proofs.NodeWalk.{Visit, visit_within, entered, way_starts, way_can_visit, way_done, way_has_room, way_enters, way_innermost, way_can_mark, way_marks, way_turns, fewer_at_once, fewer_entered, fewer_turned, fewer_marked}
use Rattle.diagram.proofs.node_walk.gather_below.Goals as goal

pub loop-next-init : goal.loop-next-init
loop-next-init g c = record {
  same = refl;
  way = way_starts g.K.Kind.NAME (find_in (g.S.Store.view c.args.store.now)) (vec_capacity c.args.frames.now)
      (record { id = c.args.id; marks = c.args.marks.now; content = c.args.content }) c.clear.new.self.items c.clear.ensures.items
      (record { start = c.requires.start; numbered = c.requires.numbered; found = c.requires.met.0; met = c.requires.met.1 });
  room = c.clear.ensures.capacity;
}

pub is_done-requires : goal.is_done-requires
is_done-requires g c =
    let k = g.K.Kind.NAME in
    let find = find_in (g.S.Store.view c.args.store.now) in
    let levels = vec_capacity c.args.frames.now in
    let first : Visit = record { id = c.args.id; marks = c.args.marks.now; content = c.args.content } in
    let id = c.in-Some.id in
    let good = way_can_visit k find levels first c.loop-next.frames.items c.loop-next.marks c.loop-next.gathered c.loop-next.next id c.in-Some.is c.loop-next.invariant.way in
    visit_within k find _ good

pub loop-next-smaller-then-is_done : goal.loop-next-smaller-then-is_done
loop-next-smaller-then-is_done g c =
    fewer_at_once (find_in (g.S.Store.view c.args.store.now)) (vec_capacity c.args.frames.now) c.loop-next.frames.items c.loop-next.next c.in-Some.id c.in-Some.is

pub loop-next-preserved-then-is_done : goal.loop-next-preserved-then-is_done
loop-next-preserved-then-is_done g c =
    let k = g.K.Kind.NAME in
    let find = find_in (g.S.Store.view c.args.store.now) in
    let levels = vec_capacity c.args.frames.now in
    let first : Visit = record { id = c.args.id; marks = c.args.marks.now; content = c.args.content } in
    record {
      same = c.loop-next.invariant.same;
      way = way_done k find levels first c.loop-next.frames.items c.loop-next.marks c.loop-next.gathered c.loop-next.next c.in-Some.id c.in-Some.is c.loop-next.invariant.way
          (c.is_done.ensures.0 c.if-is_done.true);
      room = c.loop-next.invariant.room;
    }

pub fields-body-requires : goal.fields-body-requires
fields-body-requires g c =
    let k = g.K.Kind.NAME in
    let find = find_in (g.S.Store.view c.args.store.now) in
    let levels = vec_capacity c.args.frames.now in
    let first : Visit = record { id = c.args.id; marks = c.args.marks.now; content = c.args.content } in
    let id = c.in-Some.id in
    let good = way_can_visit k find levels first c.loop-next.frames.items c.loop-next.marks c.loop-next.gathered c.loop-next.next id c.in-Some.is c.loop-next.invariant.way in
    let n = inner_at k find id good.numbered.no_zero good.start (λ leaf. let done = c.is_done.ensures.1 (inl leaf) in let not = c.if-is_done.false in cc) in
    (body_of n.fields, subst (λ (v : StoreView). find_in v id ≡ Some (body_of n.fields)) (sym c.loop-next.invariant.same) n.known)

pub children-low-requires : goal.children-low-requires
children-low-requires g c =
    let k = g.K.Kind.NAME in
    let find = find_in (g.S.Store.view c.args.store.now) in
    let levels = vec_capacity c.args.frames.now in
    let first : Visit = record { id = c.args.id; marks = c.args.marks.now; content = c.args.content } in
    let id = c.in-Some.id in
    let good = way_can_visit k find levels first c.loop-next.frames.items c.loop-next.marks c.loop-next.gathered c.loop-next.next id c.in-Some.is c.loop-next.invariant.way in
    let n = inner_at k find id good.numbered.no_zero good.start (λ leaf. let done = c.is_done.ensures.1 (inl leaf) in let not = c.if-is_done.false in cc) in
    let known : find id ≡ Some c.fields-body.result = subst (λ (v : StoreView). find_in v id ≡ Some c.fields-body.result) c.loop-next.invariant.same c.fields-body.ensures.body in
    (n.fields, n.fits, same_Some _ _ (sym known ∙ n.known))

pub with_content_of-gathered-requires-after_bounds : goal.with_content_of-gathered-requires-after_bounds
with_content_of-gathered-requires-after_bounds g c κs within =
    let k = g.K.Kind.NAME in
    let find = find_in (g.S.Store.view c.args.store.now) in
    let levels = vec_capacity c.args.frames.now in
    let first : Visit = record { id = c.args.id; marks = c.args.marks.now; content = c.args.content } in
    let id = c.in-Some.id in
    let good = way_can_visit k find levels first c.loop-next.frames.items c.loop-next.marks c.loop-next.gathered c.loop-next.next id c.in-Some.is c.loop-next.invariant.way in
    let n = inner_at k find id good.numbered.no_zero good.start (λ leaf. let done = c.is_done.ensures.1 (inl leaf) in let not = c.if-is_done.false in cc) in
    let known : find id ≡ Some c.fields-body.result = subst (λ (v : StoreView). find_in v id ≡ Some c.fields-body.result) c.loop-next.invariant.same c.fields-body.ensures.body in
    (n.fields, n.fits, n.zeros, same_Some _ _ (sym known ∙ n.known))

pub push_reserved-requires : goal.push_reserved-requires
push_reserved-requires g c =
    let k = g.K.Kind.NAME in
    let find = find_in (g.S.Store.view c.args.store.now) in
    let levels = vec_capacity c.args.frames.now in
    let first : Visit = record { id = c.args.id; marks = c.args.marks.now; content = c.args.content } in
    let id = c.in-Some.id in
    let good = way_can_visit k find levels first c.loop-next.frames.items c.loop-next.marks c.loop-next.gathered c.loop-next.next id c.in-Some.is c.loop-next.invariant.way in
    let known : find id ≡ Some c.fields-body.result = subst (λ (v : StoreView). find_in v id ≡ Some c.fields-body.result) c.loop-next.invariant.same c.fields-body.ensures.body in
    let new : IsDone c.loop-next.marks id → ⊥ = λ done. let is = c.is_done.ensures.1 done in let not = c.if-is_done.false in cc in
    let node = entered k find c.loop-next.marks c.loop-next.gathered id c.children-low.result.0 c.children-low.result.1 c.with_content_of-gathered.result c.fields-body.result good new known
    c.children-low.ensures.low c.children-low.ensures.high c.with_content_of-gathered.ensures in
    let fits = way_has_room k find levels first c.loop-next.frames.items c.loop-next.marks c.loop-next.gathered c.loop-next.next id c.children-low.result.0 c.children-low.result.1 c.in-Some.is
    c.requires.room c.loop-next.invariant.way node.step in
    let count = c.loop-next.frames.ok.0 in
    let room = c.loop-next.invariant.room in
    omega arith

pub loop-next-smaller-else-is_done : goal.loop-next-smaller-else-is_done
loop-next-smaller-else-is_done g c =
    let k = g.K.Kind.NAME in
    let find = find_in (g.S.Store.view c.args.store.now) in
    let levels = vec_capacity c.args.frames.now in
    let first : Visit = record { id = c.args.id; marks = c.args.marks.now; content = c.args.content } in
    let id = c.in-Some.id in
    let good = way_can_visit k find levels first c.loop-next.frames.items c.loop-next.marks c.loop-next.gathered c.loop-next.next id c.in-Some.is c.loop-next.invariant.way in
    let known : find id ≡ Some c.fields-body.result = subst (λ (v : StoreView). find_in v id ≡ Some c.fields-body.result) c.loop-next.invariant.same c.fields-body.ensures.body in
    let new : IsDone c.loop-next.marks id → ⊥ = λ done. let is = c.is_done.ensures.1 done in let not = c.if-is_done.false in cc in
    let node = entered k find c.loop-next.marks c.loop-next.gathered id c.children-low.result.0 c.children-low.result.1 c.with_content_of-gathered.result c.fields-body.result good new known
    c.children-low.ensures.low c.children-low.ensures.high c.with_content_of-gathered.ensures in
    fewer_entered k find levels first c.loop-next.frames.items c.push_reserved.new.self.items c.loop-next.marks c.loop-next.gathered c.loop-next.next id
    c.children-low.result.0 c.children-low.result.1 c.in-Some.is c.requires.room c.loop-next.invariant.way node.step c.push_reserved.ensures.items

pub loop-next-preserved-else-is_done : goal.loop-next-preserved-else-is_done
loop-next-preserved-else-is_done g c =
    let k = g.K.Kind.NAME in
    let find = find_in (g.S.Store.view c.args.store.now) in
    let levels = vec_capacity c.args.frames.now in
    let first : Visit = record { id = c.args.id; marks = c.args.marks.now; content = c.args.content } in
    let id = c.in-Some.id in
    let good = way_can_visit k find levels first c.loop-next.frames.items c.loop-next.marks c.loop-next.gathered c.loop-next.next id c.in-Some.is c.loop-next.invariant.way in
    let known : find id ≡ Some c.fields-body.result = subst (λ (v : StoreView). find_in v id ≡ Some c.fields-body.result) c.loop-next.invariant.same c.fields-body.ensures.body in
    let new : IsDone c.loop-next.marks id → ⊥ = λ done. let is = c.is_done.ensures.1 done in let not = c.if-is_done.false in cc in
    let node = entered k find c.loop-next.marks c.loop-next.gathered id c.children-low.result.0 c.children-low.result.1 c.with_content_of-gathered.result c.fields-body.result good new known
    c.children-low.ensures.low c.children-low.ensures.high c.with_content_of-gathered.ensures in
    record {
      same = c.fields-body.ensures.unchanged ∙ c.loop-next.invariant.same;
      way = way_enters k find levels first c.loop-next.frames.items c.push_reserved.new.self.items c.loop-next.marks c.loop-next.gathered c.loop-next.next id
          c.children-low.result.0 c.children-low.result.1 c.with_content_of-gathered.result c.in-Some.is c.requires.room c.loop-next.invariant.way node c.push_reserved.ensures.items;
      room = c.push_reserved.ensures.capacity ∙ c.loop-next.invariant.room;
    }

pub mark-requires-clause-above : goal.mark-requires-clause-above
mark-requires-clause-above g c =
    let k = g.K.Kind.NAME in
    let find = find_in (g.S.Store.view c.args.store.now) in
    let levels = vec_capacity c.args.frames.now in
    let first : Visit = record { id = c.args.id; marks = c.args.marks.now; content = c.args.content } in
    let f = c.in-Some-pop.frame in
    let m = way_innermost k find levels first c.loop-next.frames.items c.pop.new.self.items f c.loop-next.marks c.loop-next.gathered c.loop-next.next c.in-None.is c.in-Some-pop.ensures.items
    c.loop-next.invariant.way in
    (way_can_mark k find levels first c.pop.new.self.items f c.loop-next.marks c.loop-next.gathered c.if-frame.true m).above

pub mark-requires-clause-within : goal.mark-requires-clause-within
mark-requires-clause-within g c =
    let k = g.K.Kind.NAME in
    let find = find_in (g.S.Store.view c.args.store.now) in
    let levels = vec_capacity c.args.frames.now in
    let first : Visit = record { id = c.args.id; marks = c.args.marks.now; content = c.args.content } in
    let f = c.in-Some-pop.frame in
    let m = way_innermost k find levels first c.loop-next.frames.items c.pop.new.self.items f c.loop-next.marks c.loop-next.gathered c.loop-next.next c.in-None.is c.in-Some-pop.ensures.items
    c.loop-next.invariant.way in
    (way_can_mark k find levels first c.pop.new.self.items f c.loop-next.marks c.loop-next.gathered c.if-frame.true m).within

pub mark-requires-clause-free : goal.mark-requires-clause-free
mark-requires-clause-free g c =
    let k = g.K.Kind.NAME in
    let find = find_in (g.S.Store.view c.args.store.now) in
    let levels = vec_capacity c.args.frames.now in
    let first : Visit = record { id = c.args.id; marks = c.args.marks.now; content = c.args.content } in
    let f = c.in-Some-pop.frame in
    let m = way_innermost k find levels first c.loop-next.frames.items c.pop.new.self.items f c.loop-next.marks c.loop-next.gathered c.loop-next.next c.in-None.is c.in-Some-pop.ensures.items
    c.loop-next.invariant.way in
    (way_can_mark k find levels first c.pop.new.self.items f c.loop-next.marks c.loop-next.gathered c.if-frame.true m).free

pub loop-next-smaller-then-frame : goal.loop-next-smaller-then-frame
loop-next-smaller-then-frame g c =
    fewer_marked (find_in (g.S.Store.view c.args.store.now)) (vec_capacity c.args.frames.now) c.loop-next.frames.items c.pop.new.self.items c.in-Some-pop.frame c.loop-next.next c.in-Some-pop.ensures.items

pub loop-next-preserved-then-frame : goal.loop-next-preserved-then-frame
loop-next-preserved-then-frame g c =
    let k = g.K.Kind.NAME in
    let find = find_in (g.S.Store.view c.args.store.now) in
    let levels = vec_capacity c.args.frames.now in
    let first : Visit = record { id = c.args.id; marks = c.args.marks.now; content = c.args.content } in
    let f = c.in-Some-pop.frame in
    let m = way_innermost k find levels first c.loop-next.frames.items c.pop.new.self.items f c.loop-next.marks c.loop-next.gathered c.loop-next.next c.in-None.is c.in-Some-pop.ensures.items
    c.loop-next.invariant.way in
    record {
      same = c.loop-next.invariant.same;
      way = way_marks k find levels first c.pop.new.self.items f c.loop-next.marks c.mark.new.self c.loop-next.gathered c.loop-next.next c.in-None.is c.if-frame.true c.mark.ensures m;
      room = c.pop.ensures.capacity ∙ c.loop-next.invariant.room;
    }

pub loop-next-smaller : goal.loop-next-smaller
loop-next-smaller g c =
    let k = g.K.Kind.NAME in
    let find = find_in (g.S.Store.view c.args.store.now) in
    let levels = vec_capacity c.args.frames.now in
    let first : Visit = record { id = c.args.id; marks = c.args.marks.now; content = c.args.content } in
    let f = c.in-Some-pop.frame in
    let m = way_innermost k find levels first c.loop-next.frames.items c.pop.new.self.items f c.loop-next.marks c.loop-next.gathered c.loop-next.next c.in-None.is c.in-Some-pop.ensures.items
    c.loop-next.invariant.way in
    fewer_turned k find levels first c.loop-next.frames.items c.pop.new.self.items c.push_reserved-else-frame.new.self.items f c.loop-next.marks c.loop-next.gathered c.loop-next.next c.in-None.is
    c.requires.room c.in-Some-pop.ensures.items c.if-frame.false c.push_reserved-else-frame.ensures.items m

pub loop-next-preserved : goal.loop-next-preserved
loop-next-preserved g c =
    let k = g.K.Kind.NAME in
    let find = find_in (g.S.Store.view c.args.store.now) in
    let levels = vec_capacity c.args.frames.now in
    let first : Visit = record { id = c.args.id; marks = c.args.marks.now; content = c.args.content } in
    let f = c.in-Some-pop.frame in
    let m = way_innermost k find levels first c.loop-next.frames.items c.pop.new.self.items f c.loop-next.marks c.loop-next.gathered c.loop-next.next c.in-None.is c.in-Some-pop.ensures.items
    c.loop-next.invariant.way in
    record {
      same = c.loop-next.invariant.same;
      way = way_turns k find levels first c.pop.new.self.items c.push_reserved-else-frame.new.self.items f c.loop-next.marks c.loop-next.gathered c.requires.room
          c.if-frame.false c.push_reserved-else-frame.ensures.items m;
      room = c.push_reserved-else-frame.ensures.capacity ∙ c.pop.ensures.capacity ∙ c.loop-next.invariant.room;
    }

-- The walk over the nodes below an id, whose pending work stands in frames.
use Rattle.std.proofs.Common.{◌≡◌, refl, sym, ◌∙◌, ap, subst, ℕ, ◌+◌, ◌-◌, ◌*◌, ◌<◌, ◌≤◌, ℤ, pos, Bool, true, false, List, [], ◌∷◌, ◌++◌, length, arith, inl, inr}
use Rattle.std.specs.Prelude.{Option, Some, None, slice_index, unsigned_abs}
use Rattle.std.specs.Option.{option_map_or}
use Rattle.std.proofs.Math.ListN.{length-set}
use Rattle.std.proofs.lemmas.Bool.{false_from_ne_true}
use Rattle.std.proofs.lemmas.List.{length-append}
use Rattle.std.proofs.lemmas.Option.{same_Some}
use Rattle.integers.specs.Gcd.{gcd}
use Rattle.word_base.specs.declared.kind_name.KindName.{KindName}
use Rattle.marks.specs.Marked.{is_marked, with_mark}
use Rattle.tables.specs.Tree.{Shape, leaf, node}
use Rattle.kind_laws.specs.Body.{body_of, FitsBody, Reads}
use Rattle.kind_laws.specs.Content.{content_of_fields}
use Rattle.kind_laws.specs.Graph.{Lookup, HasShape}
use Rattle.kind_laws.specs.declared.fields.Fields.{Fields}
use Rattle.diagram.specs.Below.{IsStart, IsNumbered, HasLevels, IsDone, AreMarked, MarksNodes}
use Rattle.diagram.specs.Contents.{GathersContents}
use Rattle.diagram.specs.Frames.{Chain, Climbs, cost, fuel, rest_of}
use Rattle.diagram.specs.declared.node_walk.NodeFrame.{NodeFrame}
use Rattle.diagram.proofs.BelowLaws.{IsStep, step_at, AddsNone, done_adds_none, none_marks, low_starts, high_starts, AreBothWalked, still_free, marks_node, low_marked}
use Rattle.diagram.proofs.ChainLaws.{chain_push, chain_pop, climbs_push, climbs_pop, fuel_push, cost_falls, cost_below, cost_some}
use Rattle.diagram.proofs.GatherLaws.{none_gathers, gathers_node}

-- ---- visits
-- a visit of an id that began with these marks and this content
pub record Visit : Type 0 where
  pub id : ℕ
  pub marks : List Bool
  pub content : ℤ

pub record CanVisit (k : KindName) (find : Lookup) (visit : Visit) : Type 0 where
  pub start : IsStart k find visit.id
  pub numbered : IsNumbered find (length visit.marks)
  pub found : List Shape
  pub met : AreMarked k find visit.marks found

-- the visit is done, and left these marks and this content
pub record IsVisited (k : KindName) (find : Lookup) (visit : Visit) (marks : List Bool) (content : ℤ) : Type 0 where
  pub cells : length marks ≡ length visit.marks
  pub nodes : MarksNodes k find visit.id visit.marks marks
  pub contents : GathersContents k find visit.id visit.marks visit.content content

-- that of a node's low child, with the node's content
abbrev pub low_visit : Visit → ℕ → ℤ → Visit
low_visit outer low here = record { id = low; marks = outer.marks; content = here }

-- the node waits for the visit of its low child, or for that of its high one
abbrev pub IsAt : KindName → Lookup → Visit → ℕ → ℕ → ℤ → Visit → Bool → Type 0
IsAt k find outer low high here inner false = inner ≡ low_visit outer low here
IsAt k find outer low high here inner true = (inner.id ≡ high) × IsVisited k find (low_visit outer low here) inner.marks inner.content

-- a node waits in a frame for the visit of a child
pub record Waits (k : KindName) (find : Lookup) (outer : Visit) (f : NodeFrame) (inner : Visit) : Type 0 where
  pub good : CanVisit k find outer
  pub apart : outer.id ≡ 0 → ⊥
  pub free : is_marked outer.marks outer.id ≡ false
  pub id_is : f.id ≡ outer.id
  pub low : ℕ
  pub step : IsStep k find outer.id low f.high
  pub here : ℤ
  pub here_is : here ≡ pos (gcd (unsigned_abs outer.content) (content_of_fields k step.inner.fields))
  pub at : IsAt k find outer low f.high here inner f.has_low

-- ---- a visit that adds no node
visited_at_once : (k : KindName) (find : Lookup) (visit : Visit) → AddsNone k find visit.id visit.marks → IsVisited k find visit visit.marks visit.content
visited_at_once k find visit none = record {
  cells = refl;
  nodes = none_marks k find visit.id visit.marks none;
  contents = none_gathers k find visit.id visit.marks visit.content none;
}

-- ---- a visit of the low child
can_visit_low : (k : KindName) (find : Lookup) (outer : Visit) (low high : ℕ) (here : ℤ) → CanVisit k find outer → IsStep k find outer.id low high →
    CanVisit k find (low_visit outer low here)
can_visit_low k find outer low high here good step = record {
  start = low_starts k find outer.id low high step;
  numbered = good.numbered;
  found = good.found;
  met = good.met;
}

-- ---- the visit of the low child is done
at_low : (k : KindName) (find : Lookup) (outer inner : Visit) (f : NodeFrame) (w : Waits k find outer f inner) → f.has_low ≡ false → inner ≡ low_visit outer w.low w.here
at_low k find outer inner f w is = subst (IsAt k find outer w.low f.high w.here inner) is w.at

low_visited : (k : KindName) (find : Lookup) (outer inner : Visit) (f : NodeFrame) (marks : List Bool) (content : ℤ) (w : Waits k find outer f inner) → f.has_low ≡ false →
    IsVisited k find inner marks content → IsVisited k find (low_visit outer w.low w.here) marks content
low_visited k find outer inner f marks content w is done = subst (λ (v : Visit). IsVisited k find v marks content) (at_low k find outer inner f w is) done

can_visit_high : (k : KindName) (find : Lookup) (outer : Visit) (low high : ℕ) (here : ℤ) (marks : List Bool) (content : ℤ) → CanVisit k find outer → IsStep k find outer.id low high →
    IsVisited k find (low_visit outer low here) marks content → CanVisit k find (record { id = high; marks = marks; content = content })
can_visit_high k find outer low high here marks content good step done =
    let met = low_marked k find outer.id low high outer.marks marks good.found step done.nodes good.met in
    record {
      start = high_starts k find outer.id low high step;
      numbered = subst (IsNumbered find) (sym done.cells) good.numbered;
      found = met.0;
      met = met.1;
    }

abbrev with_low : NodeFrame → NodeFrame
with_low f = record { id = f.id; high = f.high; has_low = true }

waits_for_high : (k : KindName) (find : Lookup) (outer inner : Visit) (f : NodeFrame) (marks : List Bool) (content : ℤ) → Waits k find outer f inner → f.has_low ≡ false →
    IsVisited k find inner marks content → Waits k find outer (with_low f) (record { id = f.high; marks = marks; content = content })
waits_for_high k find outer inner f marks content w is done = record {
  good = w.good;
  apart = w.apart;
  free = w.free;
  id_is = w.id_is;
  low = w.low;
  step = w.step;
  here = w.here;
  here_is = w.here_is;
  at = (refl, low_visited k find outer inner f marks content w is done);
}

-- ---- both visits are done
abbrev both_visited : (k : KindName) (find : Lookup) (outer inner : Visit) (f : NodeFrame) (marks : List Bool) (content : ℤ) (w : Waits k find outer f inner) → f.has_low ≡ true →
    IsVisited k find inner marks content → AreBothWalked k find outer.id w.low f.high outer.marks inner.marks marks
both_visited k find outer inner f marks content w is done =
    let at = subst (IsAt k find outer w.low f.high w.here inner) is w.at in
    record {
      numbered = w.good.numbered;
      start = w.good.start;
      apart = w.apart;
      free = w.free;
      cells = done.cells ∙ at.1.cells;
      step = w.step;
      lows = at.1.nodes;
      highs = subst (λ (i : ℕ). MarksNodes k find i inner.marks marks) at.0 done.nodes;
    }

-- the node can be marked
pub record CanMark (marks : List Bool) (id : ℕ) : Type 0 where
  pub above : 0 < id
  pub within : id ≤ length marks
  pub free : is_marked marks id ≡ false

can_mark : (k : KindName) (find : Lookup) (outer inner : Visit) (f : NodeFrame) (marks : List Bool) (content : ℤ) → Waits k find outer f inner → f.has_low ≡ true →
    IsVisited k find inner marks content → CanMark marks f.id
can_mark k find outer inner f marks content w is done =
    let both = both_visited k find outer inner f marks content w is done in
    let n = w.step.inner in
    let apart = w.apart in
    let cells = both.cells in
    let within = w.good.numbered.within outer.id (body_of n.fields) n.known in
    subst (CanMark marks) (sym w.id_is)
    (record {
      above = omega arith;
      within = omega arith;
      free = still_free k find outer.id w.low f.high outer.marks inner.marks marks w.good.found both w.good.met;
    })

node_visited : (k : KindName) (find : Lookup) (outer inner : Visit) (f : NodeFrame) (marks : List Bool) (content : ℤ) → Waits k find outer f inner → f.has_low ≡ true →
    IsVisited k find inner marks content → IsVisited k find outer (with_mark marks f.id) content
node_visited k find outer inner f marks content w is done =
    let at = subst (IsAt k find outer w.low f.high w.here inner) is w.at in
    let both = both_visited k find outer inner f marks content w is done in
    let highs = subst (λ (i : ℕ). GathersContents k find i inner.marks inner.content content) at.0 done.contents in
    record {
      cells = length-set marks (f.id - 1) true ∙ both.cells;
      nodes = subst (λ (i : ℕ). MarksNodes k find outer.id outer.marks (with_mark marks i)) (sym w.id_is)
          (marks_node k find outer.id w.low f.high outer.marks inner.marks marks both);
      contents = gathers_node k find outer.id w.low f.high outer.marks inner.marks marks both outer.content w.here inner.content content w.here_is at.1.contents highs;
    }

-- ---- levels
-- the level of an id, and the number of levels for the leaf's
abbrev pub level_at : Lookup → ℕ → ℕ → ℕ
level_at find levels id = option_map_or (λ body. slice_index body 0 - 1) (find id) levels

child_deeper : (k : KindName) (find : Lookup) (levels child : ℕ) (f : Fields) → find 0 ≡ None → f.level < levels → IsStart k find child →
    ((g : Fields) → FitsBody g → find child ≡ Some (body_of g) → f.level < g.level) → f.level < level_at find levels child
child_deeper k find levels child f no_zero inside start deeper = at start.shape start.has_shape
  where
    at : (s : Shape) → HasShape k find child s → f.level < level_at find levels child
    at leaf h = rw (h, no_zero) inside
    at (node l a s b r) h = let low = deeper h.fields h.fits h.known in rw h.known (omega arith)

-- a node stands at a level, and its children below it
record IsAbove (find : Lookup) (levels id low high : ℕ) : Type 0 where
  inside : level_at find levels id < levels
  low_deeper : level_at find levels id < level_at find levels low
  high_deeper : level_at find levels id < level_at find levels high

step_above : (k : KindName) (find : Lookup) (levels id low high : ℕ) → find 0 ≡ None → HasLevels find levels → IsStep k find id low high → IsAbove find levels id low high
step_above k find levels id low high no_zero has_levels step =
    let n = step.inner in
    let inside = has_levels id n.fields n.fits n.known in
    let level : level_at find levels id ≡ n.fields.level = rw n.known (omega arith) in
    let Deeper : ℕ → Type 0 = λ i. level_at find levels id < level_at find levels i in
    let lows = child_deeper k find levels n.fields.low n.fields no_zero inside n.low n.low_deeper in
    let highs = child_deeper k find levels n.fields.high n.fields no_zero inside n.high n.high_deeper in
    record {
      inside = omega arith;
      low_deeper = subst Deeper (sym step.low_is) (omega arith);
      high_deeper = subst Deeper (sym step.high_is) (omega arith);
    }

-- ---- a walk that is under way
-- where it is: at an id that is to be visited, or at the end of the innermost visit
abbrev pub IsNext : KindName → Lookup → ℕ → List NodeFrame → Visit → List Bool → ℤ → Option ℕ → Type 0
IsNext k find levels frames inner marks content (Some id) =
    (inner ≡ record { id = id; marks = marks; content = content }) × CanVisit k find (record { id = id; marks = marks; content = content }) × (length frames ≤ level_at find levels id)
IsNext k find levels frames inner marks content None = IsVisited k find inner marks content

-- its frames lead from the first visit to the innermost one
pub record IsUnderWay (k : KindName) (find : Lookup) (levels : ℕ) (first : Visit) (frames : List NodeFrame) (marks : List Bool) (content : ℤ) (next : Option ℕ) : Type 0 where
  pub inner : Visit
  pub chain : Chain (Waits k find) first frames inner
  pub climbs : Climbs (λ f. level_at find levels f.id) 0 frames
  pub at : IsNext k find levels frames inner marks content next

-- more than the steps that are left
abbrev pub next_cost : Lookup → ℕ → Option ℕ → ℕ
next_cost find levels (Some id) = cost levels (level_at find levels id)
next_cost find levels None = 0

abbrev pub steps_left : Lookup → ℕ → List NodeFrame → Option ℕ → ℕ
steps_left find levels frames next = fuel (λ f. level_at find levels f.id) (λ f. rest_of f.has_low) levels frames + next_cost find levels next

-- ---- the beginning
pub way_starts : (k : KindName) (find : Lookup) (levels : ℕ) (first : Visit) (frames : List NodeFrame) → frames ≡ [] → CanVisit k find first →
    IsUnderWay k find levels first frames first.marks first.content (Some first.id)
way_starts k find levels first frames empty good =
    subst (λ (fs : List NodeFrame). IsUnderWay k find levels first fs first.marks first.content (Some first.id)) (sym empty)
    (record { inner = first; chain = refl; climbs = tt; at = (refl, good, omega arith) })

-- ---- at an id
at_next : (k : KindName) (find : Lookup) (levels : ℕ) (first : Visit) (frames : List NodeFrame) (marks : List Bool) (content : ℤ) (next : Option ℕ) (id : ℕ) → next ≡ Some id →
    (way : IsUnderWay k find levels first frames marks content next) → IsNext k find levels frames way.inner marks content (Some id)
at_next k find levels first frames marks content next id is way = subst (IsNext k find levels frames way.inner marks content) is way.at

pub way_can_visit : (k : KindName) (find : Lookup) (levels : ℕ) (first : Visit) (frames : List NodeFrame) (marks : List Bool) (content : ℤ) (next : Option ℕ) (id : ℕ) → next ≡ Some id →
    IsUnderWay k find levels first frames marks content next → CanVisit k find (record { id = id; marks = marks; content = content })
way_can_visit k find levels first frames marks content next id is way = (at_next k find levels first frames marks content next id is way).1

pub way_done : (k : KindName) (find : Lookup) (levels : ℕ) (first : Visit) (frames : List NodeFrame) (marks : List Bool) (content : ℤ) (next : Option ℕ) (id : ℕ) → next ≡ Some id →
    IsUnderWay k find levels first frames marks content next → IsDone marks id → IsUnderWay k find levels first frames marks content None
way_done k find levels first frames marks content next id is way done =
    let at = at_next k find levels first frames marks content next id is way in
    let visit : Visit = record { id = id; marks = marks; content = content } in
    record {
      inner = visit;
      chain = subst (Chain (Waits k find) first frames) at.0 way.chain;
      climbs = way.climbs;
      at = visited_at_once k find visit (done_adds_none k find id marks at.1.numbered.no_zero done);
    }

-- there is a mark for the id
pub visit_within : (k : KindName) (find : Lookup) (visit : Visit) → CanVisit k find visit → visit.id ≤ length visit.marks
visit_within k find visit good = at good.start.shape good.start.has_shape
  where
    at : (s : Shape) → HasShape k find visit.id s → visit.id ≤ length visit.marks
    at leaf h = omega arith
    at (node l a s b r) h = good.numbered.within visit.id (body_of h.fields) h.known

-- a node that was not met
pub record IsEntered (k : KindName) (find : Lookup) (marks : List Bool) (content : ℤ) (id low high : ℕ) (here : ℤ) : Type 0 where
  pub apart : id ≡ 0 → ⊥
  pub free : is_marked marks id ≡ false
  pub step : IsStep k find id low high
  pub here_is : here ≡ pos (gcd (unsigned_abs content) (content_of_fields k step.inner.fields))

pub entered : (k : KindName) (find : Lookup) (marks : List Bool) (content : ℤ) (id low high : ℕ) (here : ℤ) (body : List ℕ) →
    CanVisit k find (record { id = id; marks = marks; content = content }) → (IsDone marks id → ⊥) → find id ≡ Some body → Reads body (λ f. low ≡ f.low) → Reads body (λ f. high ≡ f.high) →
    Reads body (λ f. here ≡ pos (gcd (unsigned_abs content) (content_of_fields k f))) → IsEntered k find marks content id low high here
entered k find marks content id low high here body good new known low_reads high_reads here_reads =
    let apart : id ≡ 0 → ⊥ = λ leaf. new (inl leaf) in
    let step = step_at k find id low high body good.numbered.no_zero good.start apart known low_reads high_reads in
    record {
      apart = apart;
      free = false_from_ne_true (is_marked marks id) (λ met. new (inr met));
      step = step;
      here_is = here_reads step.inner.fields step.inner.fits (same_Some _ _ (sym known ∙ step.inner.known));
    }

abbrev new_frame : ℕ → ℕ → NodeFrame
new_frame id high = record { id = id; high = high; has_low = false }

-- where a frame is pushed there is room
pub way_has_room : (k : KindName) (find : Lookup) (levels : ℕ) (first : Visit) (frames : List NodeFrame) (marks : List Bool) (content : ℤ) (next : Option ℕ) (id low high : ℕ) → next ≡ Some id →
    HasLevels find levels → IsUnderWay k find levels first frames marks content next → IsStep k find id low high → length frames < levels
way_has_room k find levels first frames marks content next id low high is has_levels way step =
    let at = at_next k find levels first frames marks content next id is way in
    let above = step_above k find levels id low high at.1.numbered.no_zero has_levels step in
    let inside = above.inside in
    let long = at.2 in
    omega arith

pub way_enters : (k : KindName) (find : Lookup) (levels : ℕ) (first : Visit) (frames new : List NodeFrame) (marks : List Bool) (content : ℤ) (next : Option ℕ) (id low high : ℕ) (here : ℤ) →
    next ≡ Some id → HasLevels find levels → IsUnderWay k find levels first frames marks content next → IsEntered k find marks content id low high here →
    new ≡ frames ++ new_frame id high ∷ [] → IsUnderWay k find levels first new marks here (Some low)
way_enters k find levels first frames new marks content next id low high here is has_levels way entered pushed =
    let at = at_next k find levels first frames marks content next id is way in
    let visit : Visit = record { id = id; marks = marks; content = content } in
    let below : Visit = low_visit visit low here in
    let f = new_frame id high in
    let above = step_above k find levels id low high at.1.numbered.no_zero has_levels entered.step in
    let deeper = above.low_deeper in
    let long = at.2 in
    let high_enough : 0 + length frames ≤ level_at find levels id = omega arith in
    let longer : length (frames ++ f ∷ []) ≤ level_at find levels low = omega (arith, length-append frames (f ∷ [])) in
    let waits : Waits k find visit f below = record {
      good = at.1;
      apart = entered.apart;
      free = entered.free;
      id_is = refl;
      low = low;
      step = entered.step;
      here = here;
      here_is = entered.here_is;
      at = refl;
    } in
    subst (λ (fs : List NodeFrame). IsUnderWay k find levels first fs marks here (Some low)) (sym pushed)
    (record {
      inner = below;
      chain = chain_push (Waits k find) first visit below frames f (subst (Chain (Waits k find) first frames) at.0 way.chain) waits;
      climbs = climbs_push (λ (g : NodeFrame). level_at find levels g.id) 0 frames f way.climbs high_enough;
      at = (refl, can_visit_low k find visit low high here at.1 entered.step, longer);
    })

-- ---- at the end of the innermost visit
-- the innermost frame, and those that are left without it
pub record IsInnermost (k : KindName) (find : Lookup) (levels : ℕ) (first : Visit) (rest : List NodeFrame) (f : NodeFrame) (marks : List Bool) (content : ℤ) : Type 0 where
  pub outer : Visit
  pub inner : Visit
  pub waits : Waits k find outer f inner
  pub visited : IsVisited k find inner marks content
  pub chain : Chain (Waits k find) first rest outer
  pub climbs : Climbs (λ g. level_at find levels g.id) 0 rest
  pub high : length rest ≤ level_at find levels f.id

pub way_innermost : (k : KindName) (find : Lookup) (levels : ℕ) (first : Visit) (frames rest : List NodeFrame) (f : NodeFrame) (marks : List Bool) (content : ℤ) (next : Option ℕ) → next ≡ None →
    frames ≡ rest ++ f ∷ [] → IsUnderWay k find levels first frames marks content next → IsInnermost k find levels first rest f marks content
way_innermost k find levels first frames rest f marks content next is are way =
    let at = subst (IsNext k find levels frames way.inner marks content) is way.at in
    let level : NodeFrame → ℕ = λ g. level_at find levels g.id in
    let popped = chain_pop (Waits k find) first way.inner rest f (subst (λ (fs : List NodeFrame). Chain (Waits k find) first fs way.inner) are way.chain) in
    let climbs = climbs_pop level 0 rest f (subst (λ (fs : List NodeFrame). Climbs level 0 fs) are way.climbs) in
    record {
      outer = popped.middle;
      inner = way.inner;
      waits = popped.waits;
      visited = at;
      chain = popped.chain;
      climbs = climbs.0;
      high = omega (arith, climbs.1);
    }

pub way_can_mark : (k : KindName) (find : Lookup) (levels : ℕ) (first : Visit) (rest : List NodeFrame) (f : NodeFrame) (marks : List Bool) (content : ℤ) → f.has_low ≡ true →
    IsInnermost k find levels first rest f marks content → CanMark marks f.id
way_can_mark k find levels first rest f marks content is m = can_mark k find m.outer m.inner f marks content m.waits is m.visited

pub way_marks : (k : KindName) (find : Lookup) (levels : ℕ) (first : Visit) (rest : List NodeFrame) (f : NodeFrame) (marks new : List Bool) (content : ℤ) (next : Option ℕ) → next ≡ None →
    f.has_low ≡ true → new ≡ with_mark marks f.id → IsInnermost k find levels first rest f marks content → IsUnderWay k find levels first rest new content next
way_marks k find levels first rest f marks new content next none is marked m =
    subst (λ (x : Option ℕ). IsUnderWay k find levels first rest new content x) (sym none)
    (record {
      inner = m.outer;
      chain = m.chain;
      climbs = m.climbs;
      at = subst (λ (x : List Bool). IsVisited k find m.outer x content) (sym marked) (node_visited k find m.outer m.inner f marks content m.waits is m.visited);
    })

pub way_turns : (k : KindName) (find : Lookup) (levels : ℕ) (first : Visit) (rest new : List NodeFrame) (f : NodeFrame) (marks : List Bool) (content : ℤ) → HasLevels find levels →
    f.has_low ≡ false → new ≡ rest ++ with_low f ∷ [] → IsInnermost k find levels first rest f marks content → IsUnderWay k find levels first new marks content (Some f.high)
way_turns k find levels first rest new f marks content has_levels is pushed m =
    let visit : Visit = record { id = f.high; marks = marks; content = content } in
    let g = with_low f in
    let w = m.waits in
    let above = step_above k find levels m.outer.id w.low f.high w.good.numbered.no_zero has_levels w.step in
    let level : level_at find levels f.id ≡ level_at find levels m.outer.id = ap (level_at find levels) w.id_is in
    let deeper = above.high_deeper in
    let high = m.high in
    let high_enough : 0 + length rest ≤ level_at find levels f.id = omega arith in
    let longer : length (rest ++ g ∷ []) ≤ level_at find levels f.high = omega (arith, length-append rest (g ∷ [])) in
    subst (λ (fs : List NodeFrame). IsUnderWay k find levels first fs marks content (Some f.high)) (sym pushed)
    (record {
      inner = visit;
      chain = chain_push (Waits k find) first m.outer visit rest g m.chain (waits_for_high k find m.outer m.inner f marks content w is m.visited);
      climbs = climbs_push (λ (h : NodeFrame). level_at find levels h.id) 0 rest g m.climbs high_enough;
      at = (
        refl,
        can_visit_high k find m.outer w.low f.high w.here marks content w.good w.step (low_visited k find m.outer m.inner f marks content w is m.visited),
        longer,
      );
    })

-- ---- each step leaves fewer
pub fewer_at_once : (find : Lookup) (levels : ℕ) (frames : List NodeFrame) (next : Option ℕ) (id : ℕ) → next ≡ Some id →
    steps_left find levels frames None < steps_left find levels frames next
fewer_at_once find levels frames next id is =
    let some = cost_some levels (level_at find levels id) in
    subst (λ (x : Option ℕ). steps_left find levels frames None < steps_left find levels frames x) (sym is) (omega arith)

pub fewer_entered : (k : KindName) (find : Lookup) (levels : ℕ) (first : Visit) (frames new : List NodeFrame) (marks : List Bool) (content : ℤ) (next : Option ℕ) (id low high : ℕ) →
    next ≡ Some id → HasLevels find levels → IsUnderWay k find levels first frames marks content next → IsStep k find id low high → new ≡ frames ++ new_frame id high ∷ [] →
    steps_left find levels new (Some low) < steps_left find levels frames next
fewer_entered k find levels first frames new marks content next id low high is has_levels way step pushed =
    let at = at_next k find levels first frames marks content next id is way in
    let level : NodeFrame → ℕ = λ g. level_at find levels g.id in
    let rest : NodeFrame → ℕ = λ g. rest_of g.has_low in
    let f = new_frame id high in
    let here = level_at find levels id in
    let above = step_above k find levels id low high at.1.numbered.no_zero has_levels step in
    let inside = above.inside in
    let deeper = above.low_deeper in
    let last = fuel_push level rest levels frames f in
    let sixth = cost_below levels here (omega arith) in
    let falls = cost_falls levels (here + 1) (level_at find levels low) (omega arith) in
    let some = cost_some levels (here + 1) in
    subst (λ (x : Option ℕ). steps_left find levels new (Some low) < steps_left find levels frames x) (sym is)
    (subst (λ (fs : List NodeFrame). steps_left find levels fs (Some low) < steps_left find levels frames (Some id)) (sym pushed) (omega arith))

pub fewer_turned : (k : KindName) (find : Lookup) (levels : ℕ) (first : Visit) (frames rest new : List NodeFrame) (f : NodeFrame) (marks : List Bool) (content : ℤ) (next : Option ℕ) →
    next ≡ None → HasLevels find levels → frames ≡ rest ++ f ∷ [] → f.has_low ≡ false → new ≡ rest ++ with_low f ∷ [] → IsInnermost k find levels first rest f marks content →
    steps_left find levels new (Some f.high) < steps_left find levels frames next
fewer_turned k find levels first frames under new f marks content next none has_levels are is pushed m =
    let level : NodeFrame → ℕ = λ g. level_at find levels g.id in
    let rest : NodeFrame → ℕ = λ g. rest_of g.has_low in
    let g = with_low f in
    let w = m.waits in
    let above = step_above k find levels m.outer.id w.low f.high w.good.numbered.no_zero has_levels w.step in
    let same : level_at find levels f.id ≡ level_at find levels m.outer.id = ap (level_at find levels) w.id_is in
    let deeper = above.high_deeper in
    let here = level_at find levels f.id in
    let before = ap (fuel level rest levels) are ∙ fuel_push level rest levels under f
    ∙ ap (λ (b : Bool). fuel level rest levels under + (rest_of b * (cost levels (here + 1) + 1) + 1)) is in
    let after = ap (fuel level rest levels) pushed ∙ fuel_push level rest levels under g in
    let falls = cost_falls levels (here + 1) (level_at find levels f.high) (omega arith) in
    subst (λ (x : Option ℕ). steps_left find levels new (Some f.high) < steps_left find levels frames x) (sym none) (omega arith)

pub fewer_marked : (find : Lookup) (levels : ℕ) (frames under : List NodeFrame) (f : NodeFrame) (next : Option ℕ) → frames ≡ under ++ f ∷ [] →
    steps_left find levels under next < steps_left find levels frames next
fewer_marked find levels frames under f next are =
    let level : NodeFrame → ℕ = λ g. level_at find levels g.id in
    let rest : NodeFrame → ℕ = λ g. rest_of g.has_low in
    let before = ap (fuel level rest levels) are ∙ fuel_push level rest levels under f in
    omega arith

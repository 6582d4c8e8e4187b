-- What a walk over a store marks.
use Rattle.std.proofs.Common.{◌≡◌, refl, sym, ◌∙◌, ap, subst, ℕ, zero, suc, ◌+◌, ◌<◌, ◌≤◌, List, [], ◌∷◌, Bool, true, false, length, drop, arith, add-one, inl, inr}
use Rattle.std.specs.Prelude.{Some, None, if◌then◌else◌}
use Rattle.std.proofs.lemmas.Bool.{or_cases, or_left, or_right, false_from_ne_true}
use Rattle.std.proofs.lemmas.Option.{same_Some}
use Rattle.word_base.specs.declared.decomp.Decomp.{Decomp}
use Rattle.word_base.specs.declared.kind_name.KindName.{KindName}
use Rattle.word_base.specs.declared.kind_name.KindName.TheVariants.{Evbdd, StarBmd, Hdd, KStarBmd}
use Rattle.marks.specs.Marked.{none_of, is_marked, with_mark, marked_count}
use Rattle.marks.proofs.SetLaws.{none_has, none_count, has_the_new, has_from, has_still, one_more_counted}
use Rattle.record_store.specs.StoreView.{find_in}
use Rattle.tables.specs.Tree.{Weights, Shape, leaf, node, Tree, same_shape, skips, node_join}
use Rattle.tables.specs.Canonical.{canonical, IsCanonical, IsNodeOf, has, add_nodes, nodes}
use Rattle.tables.proofs.CanonicalLaws.{rule_of}
use Rattle.tables.proofs.KindLaws.{constant-leaf, canonical_stands}
use Rattle.tables.proofs.NodeLaws.{nodes_are_added}
use Rattle.tables.proofs.TreeLaws.{chosen, same_shape-same, same_shape-refl}
use Rattle.kind_laws.specs.Body.{body_of, FitsBody, LeavesZeros, Reads}
use Rattle.kind_laws.specs.Graph.{Lookup, HasShape}
use Rattle.kind_laws.specs.Plain.{PlainEdge}
use Rattle.kind_laws.specs.declared.fields.Fields.{Fields}
use Rattle.kind_laws.proofs.BodyLaws.{body_of-tells}
use Rattle.kind_laws.proofs.GraphLaws.{same_shape_of_id, same_id_of_shape, leaf_of_zero}
use Rattle.diagram.specs.Below.{Descends, IsStart, IsNumbered, HasLevels, IsDone, IsClosed, AreMarked, MarksNodes}
use Rattle.result_cache.specs.Cache.{Places}
use Rattle.diagram.specs.Inside.{IsSound}
use Rattle.diagram.specs.Totals.{IsCount}
use Rattle.diagram.specs.View.{View, StandsAt, IsEdge}
use Rattle.diagram.proofs.LevelLaws.{node_of_edge}
use Rattle.diagram.proofs.NodeLists.{from_level, added_closed, known_adds_none}

-- ---- levels
descends_from : (m n : ℕ) (s : Shape) → m ≤ n → Descends n s → Descends m s
descends_from m n leaf h d = tt
descends_from m n (node l a s b r) h d = let from = d.0 in (omega arith, d.1, d.2)

descends_at_join : (k : KindName) (d : Decomp) (l : ℕ) (low high : Tree) → Descends (l + 1) low.shape → Descends (l + 1) high.shape →
    Descends l (node_join k d l low high).shape
descends_at_join Evbdd d l low high p q = (omega arith, p, q)
descends_at_join StarBmd d l low high p q = (omega arith, p, q)
descends_at_join Hdd d l low high p q = (omega arith, p, q)
descends_at_join KStarBmd d l low high p q = (omega arith, p, q)

canonical_descends : (k : KindName) (ds : List Decomp) (l : ℕ) (t : Tree) → IsCanonical k ds l t → Descends l t.shape
canonical_descends k [] l t c = subst (Descends l) (sym (ap (λ (u : Tree). u.shape) c.1 ∙ constant-leaf k c.0)) tt
canonical_descends k (d ∷ ds) l t c =
    let Down : Tree → Type 0 = λ u. Descends l u.shape in
    let low = canonical_descends k ds (l + 1) c.0 c.2 in
    let high = canonical_descends k ds (l + 1) c.1 c.3 in
    subst Down (sym c.4) (chosen Down (skips k d c.0 c.1) c.0 (node_join k d l c.0 c.1)
    (λ e. descends_from l (l + 1) c.0.shape (omega arith) low)
    (λ e. descends_at_join k d l c.0 c.1 low high))

-- ---- where a walk begins
pub edge_starts : (k : KindName) (v : View) (e : PlainEdge) → IsEdge k v e → IsStart k (find_in v.store) e.node
edge_starts k v e h = record {
  shape = (canonical k v.letters 0 h.0).shape;
  has_shape = h.1.stands.shape_is;
  descends = canonical_descends k v.letters 0 (canonical k v.letters 0 h.0) (canonical_stands k (rule_of k) v.letters 0 h.0 h.1.allowed h.1.stands.over).0;
}

pub sound_has_levels : (k : KindName) (v w : View) (cache : Places) (marks : List Bool) (levels : ℕ) → w ≡ v → IsSound k w cache marks → length v.letters ≤ levels →
    HasLevels (find_in w.store) levels
sound_has_levels k v w cache marks levels same sound room id f fits known =
    let s = sound.good.store.good id (body_of f) known in
    let e : PlainEdge = record { root = s.1; node = id } in
    let start : 0 ≤ length w.letters = omega arith in
    let stands : StandsAt k w 0 s.0 e = record { allowed = sound.good.allowed; no_zero = sound.good.store.no_zero; within = start; stands = s.2 } in
    let no_zero = sound.good.store.no_zero in
    let letters : length w.letters ≡ length v.letters = ap (λ (x : View). length x.letters) same in
    let Inside : Type 0 = f.level < levels in
    elim (node_of_edge k w 0 s.0 e stands) as (λ _. Inside) [
      | inl bare ↦ let clash : Some (body_of f) ≡ None = sym known ∙ ap (find_in w.store) bare ∙ no_zero in absurd (cc)
      | inr n ↦
          let one : n.fields ≡ f = body_of-tells n.fields f n.fits fits (same_Some _ _ (sym n.known ∙ known)) in
          let level : n.fields.level ≡ f.level = ap (λ (x : Fields). x.level) one in
          let below : n.fields.level < 0 + length w.letters = n.below in
          omega arith
    ]

-- an id that is not the leaf's is that of a node
pub record IsInner (k : KindName) (find : Lookup) (id : ℕ) : Type 0 where
  pub fields : Fields
  pub fits : FitsBody fields
  pub zeros : LeavesZeros k fields
  pub known : find id ≡ Some (body_of fields)
  pub low : IsStart k find fields.low
  pub high : IsStart k find fields.high
  pub low_deeper : (f : Fields) → FitsBody f → find fields.low ≡ Some (body_of f) → fields.level < f.level
  pub high_deeper : (f : Fields) → FitsBody f → find fields.high ≡ Some (body_of f) → fields.level < f.level

level_below : (k : KindName) (find : Lookup) (m id : ℕ) (s : Shape) (f : Fields) → find 0 ≡ None → HasShape k find id s → Descends (m + 1) s → FitsBody f →
    find id ≡ Some (body_of f) → m < f.level
level_below k find m id leaf f no_zero h d fits known =
    let clash : Some (body_of f) ≡ None = sym known ∙ ap find h ∙ no_zero in absurd (cc)
level_below k find m id (node l a s b r) f no_zero h d fits known =
    let one : h.fields ≡ f = body_of-tells h.fields f h.fits fits (same_Some _ _ (sym h.known ∙ known)) in
    let same : l ≡ f.level = sym h.level_is ∙ ap (λ (x : Fields). x.level) one in
    let from = d.0 in
    omega arith

pub inner_at : (k : KindName) (find : Lookup) (id : ℕ) → find 0 ≡ None → IsStart k find id → (id ≡ 0 → ⊥) → IsInner k find id
inner_at k find id no_zero start apart = at start.shape start.has_shape start.descends
  where
    at : (s : Shape) → HasShape k find id s → Descends 0 s → IsInner k find id
    at leaf h d = absurd (apart h)
    at (node l a s b r) h d = record {
      fields = h.fields;
      fits = h.fits;
      zeros = h.zeros;
      known = h.known;
      low = record { shape = s; has_shape = h.low; descends = descends_from 0 (l + 1) s (omega arith) d.1 };
      high = record { shape = r; has_shape = h.high; descends = descends_from 0 (l + 1) r (omega arith) d.2 };
      low_deeper = λ f fits known. subst (λ (n : ℕ). n < f.level) (sym h.level_is) (level_below k find l h.fields.low s f no_zero h.low d.1 fits known);
      high_deeper = λ f fits known. subst (λ (n : ℕ). n < f.level) (sym h.level_is) (level_below k find l h.fields.high r f no_zero h.high d.2 fits known);
    }

-- ---- what is marked
pub none_marked : (k : KindName) (find : Lookup) (cells : ℕ) → AreMarked k find (none_of cells) []
none_marked k find cells = record {
  closed = λ s n h. absurd (cc);
  shapes = λ id above h. let none = none_has cells id in absurd (cc);
  ids = λ id s above shape h. absurd (cc);
  count = none_count cells;
}

-- an id whose shape adds no node to what was found: the leaf's, and one that is marked
abbrev pub AddsNone : KindName → Lookup → ℕ → List Bool → Type 0
AddsNone k find id marks = (s : Shape) (found : List Shape) → HasShape k find id s → AreMarked k find marks found → add_nodes s found ≡ found

leaf_adds_none : (k : KindName) (find : Lookup) (id : ℕ) (marks : List Bool) → find 0 ≡ None → id ≡ 0 → AddsNone k find id marks
leaf_adds_none k find id marks no_zero z s found shape met =
    ap (λ (x : Shape). add_nodes x found) (leaf_of_zero k find no_zero s (subst (λ (i : ℕ). HasShape k find i s) z shape))

-- the shape of an id that is marked was found
was_found : (k : KindName) (find : Lookup) (id : ℕ) (s : Shape) (marks : List Bool) (found : List Shape) → find 0 ≡ None → 0 < id → HasShape k find id s →
    AreMarked k find marks found → is_marked marks id ≡ true → has found s ≡ true
was_found k find id s marks found no_zero above shape met h =
    let other = met.shapes id above h in
    subst (λ (x : Shape). has found x ≡ true) (same_shape_of_id k find no_zero id other.0 s other.1 shape) other.2

marked_adds_none : (k : KindName) (find : Lookup) (id : ℕ) (marks : List Bool) → find 0 ≡ None → (id ≡ 0 → ⊥) → is_marked marks id ≡ true → AddsNone k find id marks
marked_adds_none k find id marks no_zero apart h s found shape met =
    let above : 0 < id = omega arith in known_adds_none s found met.closed (was_found k find id s marks found no_zero above shape met h)

pub done_adds_none : (k : KindName) (find : Lookup) (id : ℕ) (marks : List Bool) → find 0 ≡ None → IsDone marks id → AddsNone k find id marks
done_adds_none k find zero marks no_zero done = leaf_adds_none k find zero marks no_zero refl
done_adds_none k find (suc i) marks no_zero (inl same) = absurd (omega arith)
done_adds_none k find (suc i) marks no_zero (inr met) = marked_adds_none k find (suc i) marks no_zero (λ is. omega arith) met

pub none_marks : (k : KindName) (find : Lookup) (id : ℕ) (marks : List Bool) → AddsNone k find id marks → MarksNodes k find id marks marks
none_marks k find id marks none s found shape met = subst (AreMarked k find marks) (sym (none s found shape met)) met

-- a node and its marks, before its own mark is set
record IsMet (k : KindName) (find : Lookup) (id : ℕ) (marks : List Bool) (s : Shape) (below : List Shape) : Type 0 where
  no_zero : find 0 ≡ None
  distinct : (i j : ℕ) (body : List ℕ) → find i ≡ Some body → find j ≡ Some body → i ≡ j
  above : 0 < id
  within : id ≤ length marks
  shape : HasShape k find id s
  met : AreMarked k find marks below
  fresh : has below s ≡ false

met_is_free : (k : KindName) (find : Lookup) (id : ℕ) (marks : List Bool) (s : Shape) (below : List Shape) → IsMet k find id marks s below → is_marked marks id ≡ false
met_is_free k find id marks s below m =
    false_from_ne_true (is_marked marks id) (λ h. let known = was_found k find id s marks below m.no_zero m.above m.shape m.met h in let fresh = m.fresh in absurd (cc))

marked_with : (k : KindName) (find : Lookup) (id : ℕ) (marks : List Bool) (s : Shape) (below : List Shape) → IsMet k find id marks s below → IsClosed (s ∷ below) →
    AreMarked k find (with_mark marks id) (s ∷ below)
marked_with k find id marks s below m closed = record {
  closed = closed;
  shapes = λ i above h. elim (has_from marks id i m.above above h) [
    | inl same ↦ (s, subst (λ (x : ℕ). HasShape k find x s) (sym same) m.shape, or_left (same_shape s s) (has below s) (same_shape-refl s))
    | inr old ↦ let other = m.met.shapes i above old in (other.0, other.1, or_right (same_shape s other.0) (has below other.0) other.2)
  ];
  ids = λ i x above shape h. elim (or_cases (same_shape s x) (has below x) h) [
    | inl same ↦
        let one : i ≡ id = same_id_of_shape k find m.distinct s i id (subst (HasShape k find i) (sym (same_shape-same s x same)) shape) m.shape in
        ap (is_marked (with_mark marks id)) one ∙ has_the_new marks id m.above m.within
    | inr old ↦ has_still marks id i m.above above m.within (m.met.ids i x above shape old)
  ];
  count = one_more_counted marks id m.above m.within (met_is_free k find id marks s below m) ∙ ap (λ (n : ℕ). n + 1) m.met.count ∙ add-one (length below);
}

-- ---- one step of a walk: the node at an id, and the ids of its children
pub record IsStep (k : KindName) (find : Lookup) (id low high : ℕ) : Type 0 where
  pub inner : IsInner k find id
  pub low_is : low ≡ inner.fields.low
  pub high_is : high ≡ inner.fields.high

pub step_at : (k : KindName) (find : Lookup) (id low high : ℕ) (body : List ℕ) → find 0 ≡ None → IsStart k find id → (id ≡ 0 → ⊥) → find id ≡ Some body →
    Reads body (λ f. low ≡ f.low) → Reads body (λ f. high ≡ f.high) → IsStep k find id low high
step_at k find id low high body no_zero start apart known low_reads high_reads =
    let inner = inner_at k find id no_zero start apart in
    let is : body ≡ body_of inner.fields = same_Some _ _ (sym known ∙ inner.known) in
    record { inner = inner; low_is = low_reads inner.fields inner.fits is; high_is = high_reads inner.fields inner.fits is }

pub low_starts : (k : KindName) (find : Lookup) (id low high : ℕ) → IsStep k find id low high → IsStart k find low
low_starts k find id low high step = subst (IsStart k find) (sym step.low_is) step.inner.low

pub high_starts : (k : KindName) (find : Lookup) (id low high : ℕ) → IsStep k find id low high → IsStart k find high
high_starts k find id low high step = subst (IsStart k find) (sym step.high_is) step.inner.high

-- ---- after the walks from both children
pub record AreBothWalked (k : KindName) (find : Lookup) (id low high : ℕ) (old next new : List Bool) : Type 0 where
  pub numbered : IsNumbered find (length old)
  pub start : IsStart k find id
  pub apart : id ≡ 0 → ⊥
  pub free : is_marked old id ≡ false
  pub cells : length new ≡ length old
  pub step : IsStep k find id low high
  pub lows : MarksNodes k find low old next
  pub highs : MarksNodes k find high next new

-- no node is below one that is deeper
deep : (l : ℕ) (a : Weights) (s : Shape) (b : Weights) (r x : Shape) → Descends (l + 1) x → IsNodeOf (node l a s b r) x → ⊥
deep l a s b r x d h = let from = from_level (l + 1) x l a s b r d h in omega arith

-- a node that was not found is not among those below its children
not_below : (k : KindName) (find : Lookup) (id : ℕ) (marks : List Bool) (l : ℕ) (a : Weights) (s : Shape) (b : Weights) (r : Shape) (found : List Shape) →
    0 < id → is_marked marks id ≡ false → HasShape k find id (node l a s b r) → Descends (l + 1) s → Descends (l + 1) r → AreMarked k find marks found →
    has (add_nodes r (add_nodes s found)) (node l a s b r) ≡ false
not_below k find id marks l a s b r found above free shape low_descends high_descends met =
    let here = node l a s b r in
    false_from_ne_true (has (add_nodes r (add_nodes s found)) here) (λ h. elim ((nodes_are_added r (add_nodes s found) here).0 h) [
      | inl before ↦ elim ((nodes_are_added s found here).0 before) [
        | inl was ↦ let marked = met.ids id here above shape was in absurd (cc)
        | inr in_low ↦ deep l a s b r s low_descends in_low
      ]
      | inr in_high ↦ deep l a s b r r high_descends in_high
    ])

record IsWalked (k : KindName) (find : Lookup) (id : ℕ) (marks : List Bool) (s : Shape) (found : List Shape) : Type 0 where
  below : List Shape
  met : IsMet k find id marks s below
  added : add_nodes s found ≡ s ∷ below

-- the shapes of a node's children
pub child_shapes : (k : KindName) (find : Lookup) (id low high l : ℕ) (a : Weights) (s : Shape) (b : Weights) (r : Shape) → IsStep k find id low high →
    HasShape k find id (node l a s b r) → HasShape k find low s × HasShape k find high r
child_shapes k find id low high l a s b r step h =
    let n = step.inner in
    let one : h.fields ≡ n.fields = body_of-tells h.fields n.fields h.fits n.fits (same_Some _ _ (sym h.known ∙ n.known)) in (
      subst (λ (i : ℕ). HasShape k find i s) (ap (λ (f : Fields). f.low) one ∙ sym step.low_is) h.low,
      subst (λ (i : ℕ). HasShape k find i r) (ap (λ (f : Fields). f.high) one ∙ sym step.high_is) h.high,
    )

walked : (k : KindName) (find : Lookup) (id low high : ℕ) (old next new : List Bool) (s : Shape) (found : List Shape) → AreBothWalked k find id low high old next new →
    HasShape k find id s → AreMarked k find old found → IsWalked k find id new s found
walked k find id low high old next new s found both shape met =
    at s shape (subst (Descends 0) (same_shape_of_id k find both.numbered.no_zero id both.start.shape s both.start.has_shape shape) both.start.descends)
  where
    at : (x : Shape) → HasShape k find id x → Descends 0 x → IsWalked k find id new x found
    at leaf h d = absurd (both.apart h)
    at (node l a t b r) h d =
        let apart = both.apart in
        let above : 0 < id = omega arith in
        let n = both.step.inner in
        let children = child_shapes k find id low high l a t b r both.step h in
        let fresh = not_below k find id old l a t b r found above both.free h d.1 d.2 met in
        let within = both.numbered.within id (body_of n.fields) n.known in
        let cells = both.cells in
        let below = add_nodes r (add_nodes t found) in
        record {
          below = below;
          met = record {
            no_zero = both.numbered.no_zero;
            distinct = both.numbered.distinct;
            above = above;
            within = omega arith;
            shape = h;
            met = both.highs r (add_nodes t found) children.1 (both.lows t found children.0 met);
            fresh = fresh;
          };
          added = ap (λ (x : Bool). if x then below else node l a t b r ∷ below) fresh;
        }

pub still_free : (k : KindName) (find : Lookup) (id low high : ℕ) (old next new : List Bool) (found : List Shape) → AreBothWalked k find id low high old next new →
    AreMarked k find old found → is_marked new id ≡ false
still_free k find id low high old next new found both met =
    let s = both.start.shape in
    let w = walked k find id low high old next new s found both both.start.has_shape met in
    met_is_free k find id new s w.below w.met

pub marks_node : (k : KindName) (find : Lookup) (id low high : ℕ) (old next new : List Bool) → AreBothWalked k find id low high old next new →
    MarksNodes k find id old (with_mark new id)
marks_node k find id low high old next new both s found shape met =
    let w = walked k find id low high old next new s found both shape met in
    subst (AreMarked k find (with_mark new id)) (sym w.added)
    (marked_with k find id new s w.below w.met (subst IsClosed w.added (added_closed s found met.closed)))

-- after the walk from the low child some nodes are marked
pub low_marked : (k : KindName) (find : Lookup) (id low high : ℕ) (old next : List Bool) (found : List Shape) → IsStep k find id low high → MarksNodes k find low old next →
    AreMarked k find old found → (more : List Shape) × AreMarked k find next more
low_marked k find id low high old next found step lows met =
    let start = low_starts k find id low high step in
    (add_nodes start.shape found, lows start.shape found start.has_shape met)

-- ---- the whole walk
pub started : (k : KindName) (v w : View) (e : PlainEdge) → w ≡ v → IsEdge k v e → IsStart k (find_in w.store) e.node
started k v w e same h = edge_starts k w e (subst (λ (x : View). IsEdge k x e) (sym same) h)

pub cleared : (k : KindName) (find : Lookup) (cells : ℕ) (marks : List Bool) → marks ≡ none_of cells → AreMarked k find marks []
cleared k find cells marks is = subst (λ (m : List Bool). AreMarked k find m []) (sym is) (none_marked k find cells)

pub counted : (k : KindName) (v w : View) (e : PlainEdge) (cells : ℕ) (old new : List Bool) (count : ℕ) → w ≡ v → old ≡ none_of cells →
    MarksNodes k (find_in w.store) e.node old new → count ≡ marked_count new → IsCount k v e count
counted k v w e cells old new count same clear marks is l t h =
    let here = subst (λ (x : View). StandsAt k x l t e) (sym same) h in
    let shape = (canonical k (drop l w.letters) l t).shape in
    let met = marks shape [] here.stands.shape_is (cleared k (find_in w.store) cells old clear) in
    subst (λ (x : View). count ≡ length (nodes k (drop l x.letters) l t)) same (is ∙ met.count)

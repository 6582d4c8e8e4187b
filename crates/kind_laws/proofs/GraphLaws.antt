-- Shapes of ids, and what edges stand for: for every kind.
use Rattle.std.proofs.Common.{◌≡◌, refl, sym, ◌∙◌, ap, subst, ℕ, ◌+◌, ℤ, List, ◌∷◌, true, false, length}
use Rattle.std.specs.Prelude.{Some, None}
use Rattle.std.proofs.lemmas.Option.{same_Some}
use Rattle.word_base.specs.declared.decomp.Decomp.{Decomp}
use Rattle.word_base.specs.declared.kind_name.KindName.{KindName}
use Rattle.tables.specs.Table.{Table, halves, IsOver, part0, part1, merged, constant_table}
use Rattle.tables.specs.Tree.{Weights, Shape, leaf, node, Tree, constant, tjoin}
use Rattle.tables.specs.Canonical.{canonical}
use Rattle.tables.specs.Laws.{are_allowed}
use Rattle.tables.specs.Meaning.{table}
use Rattle.tables.specs.Parts.{low_edge, high_edge, low_of, high_of}
use Rattle.tables.proofs.CanonicalLaws.{rule_of, IsOver-constant, canonical_tells, table-canonical, canonical-merged, canonical-constant, canonical-twice, parts-canonical}
use Rattle.tables.proofs.KindLaws.{constant-leaf, leaves, canonical_stands, low_part-at, high_part-at}
use Rattle.tables.proofs.TableLaws.{IsOver-merged}
use Rattle.tables.proofs.TreeLaws.{is_at, IsOver-table, table-above}
use Rattle.kind_laws.specs.declared.fields.Fields.{Fields}
use Rattle.kind_laws.specs.Body.{body_of, FitsBody, low_weights, high_weights}
use Rattle.kind_laws.specs.Graph.{Lookup, HasShape, StandsFor, Extends}
use Rattle.kind_laws.proofs.BodyLaws.{body_of-tells, node_tells}

-- ---- shapes
pub HasShape-extends : (k : KindName) (old new : Lookup) → Extends old new → (id : ℕ) (s : Shape) → HasShape k old id s → HasShape k new id s
HasShape-extends k old new more id leaf h = h
HasShape-extends k old new more id (node l a s b r) h =
    record {
      fields = h.fields;
      fits = h.fits;
      zeros = h.zeros;
      known = more id (body_of h.fields) h.known;
      level_is = h.level_is;
      low_is = h.low_is;
      high_is = h.high_is;
      low = HasShape-extends k old new more h.fields.low s h.low;
      high = HasShape-extends k old new more h.fields.high r h.high;
    }

-- an id has one shape
pub same_shape_of_id : (k : KindName) (find : Lookup) → find 0 ≡ None → (i : ℕ) (s t : Shape) → HasShape k find i s → HasShape k find i t → s ≡ t
same_shape_of_id k find no_zero i leaf leaf h j = refl
same_shape_of_id k find no_zero i leaf (node l a s b r) h g =
    let clash : Some (body_of g.fields) ≡ None = sym g.known ∙ ap find h ∙ no_zero in absurd (cc)
same_shape_of_id k find no_zero i (node l a s b r) leaf h g =
    let clash : Some (body_of h.fields) ≡ None = sym h.known ∙ ap find g ∙ no_zero in absurd (cc)
same_shape_of_id k find no_zero i (node l a s b r) (node l' a' s' b' r') h g =
    let one : h.fields ≡ g.fields = body_of-tells h.fields g.fields h.fits g.fits (same_Some _ _ (sym h.known ∙ g.known)) in
    let e1 : l ≡ l' = sym h.level_is ∙ ap (λ (x : Fields). x.level) one ∙ g.level_is in
    let e2 : a ≡ a' = sym h.low_is ∙ ap (low_weights k) one ∙ g.low_is in
    let e3 : b ≡ b' = sym h.high_is ∙ ap (high_weights k) one ∙ g.high_is in
    let low : HasShape k find h.fields.low s' = subst (λ (x : Fields). HasShape k find x.low s') (sym one) g.low in
    let high : HasShape k find h.fields.high r' = subst (λ (x : Fields). HasShape k find x.high r') (sym one) g.high in
    let e4 : s ≡ s' = same_shape_of_id k find no_zero h.fields.low s s' h.low low in
    let e5 : r ≡ r' = same_shape_of_id k find no_zero h.fields.high r r' h.high high in
    cc

-- a shape has one id, where no body is known under two
pub same_id_of_shape : (k : KindName) (find : Lookup) → ((i j : ℕ) (body : List ℕ) → find i ≡ Some body → find j ≡ Some body → i ≡ j) →
    (s : Shape) (i j : ℕ) → HasShape k find i s → HasShape k find j s → i ≡ j
same_id_of_shape k find distinct leaf i j h g = h ∙ sym g
same_id_of_shape k find distinct (node l a s b r) i j h g =
    let e4 : h.fields.low ≡ g.fields.low = same_id_of_shape k find distinct s h.fields.low g.fields.low h.low g.low in
    let e5 : h.fields.high ≡ g.fields.high = same_id_of_shape k find distinct r h.fields.high g.fields.high h.high g.high in
    let one : h.fields ≡ g.fields = node_tells k h.fields g.fields h.zeros g.zeros (h.level_is ∙ sym g.level_is) e4 e5 (h.low_is ∙ sym g.low_is) (h.high_is ∙ sym g.high_is) in
    distinct i j (body_of g.fields) (h.known ∙ ap (λ (x : Fields). Some (body_of x)) one) g.known

-- the leaf alone has the id 0
pub leaf_of_zero : (k : KindName) (find : Lookup) → find 0 ≡ None → (s : Shape) → HasShape k find 0 s → s ≡ leaf
leaf_of_zero k find no_zero s h = same_shape_of_id k find no_zero 0 s leaf h refl

-- ---- edges
pub StandsFor-extends : (k : KindName) (old new : Lookup) (ds : List Decomp) (l : ℕ) (t : Table) (root : Weights) (id : ℕ) →
    Extends old new → StandsFor k old ds l t root id → StandsFor k new ds l t root id
StandsFor-extends k old new ds l t root id more h =
    record { over = h.over; root_is = h.root_is; shape_is = HasShape-extends k old new more id _ h.shape_is }

-- edges that stand for one table are one
pub same_edge : (k : KindName) (find : Lookup) (ds : List Decomp) (l : ℕ) (t : Table) (v w : Weights) (i j : ℕ) →
    ((i j : ℕ) (body : List ℕ) → find i ≡ Some body → find j ≡ Some body → i ≡ j) →
    StandsFor k find ds l t v i → StandsFor k find ds l t w j → (v ≡ w) × (i ≡ j)
same_edge k find ds l t v w i j distinct h g =
    (h.root_is ∙ sym g.root_is, same_id_of_shape k find distinct _ i j h.shape_is g.shape_is)

-- an edge stands for one table
pub same_table_of_edge : (k : KindName) (find : Lookup) (ds : List Decomp) (l : ℕ) (t u : Table) (w : Weights) (i : ℕ) →
    are_allowed k ds ≡ true → find 0 ≡ None → StandsFor k find ds l t w i → StandsFor k find ds l u w i → t ≡ u
same_table_of_edge k find ds l t u w i allowed no_zero h g =
    let roots : (canonical k ds l t).root ≡ (canonical k ds l u).root = sym h.root_is ∙ g.root_is in
    let shapes : (canonical k ds l t).shape ≡ (canonical k ds l u).shape = same_shape_of_id k find no_zero i _ _ h.shape_is g.shape_is in
    let make : Weights → Shape → Tree = λ x s. record { root = x; shape = s } in
    canonical_tells k ds l t u allowed h.over g.over
    (ap (λ (x : Weights). make x (canonical k ds l t).shape) roots ∙ ap (λ (s : Shape). make (canonical k ds l u).root s) shapes)

-- an edge stands for the table whose canonical diagram its tree is
by_tree : (k : KindName) (find : Lookup) (ds : List Decomp) (l : ℕ) (t : Table) (root : Weights) (id : ℕ) (c : Tree) →
    IsOver (length ds) t → canonical k ds l t ≡ c → root ≡ c.root → HasShape k find id c.shape → StandsFor k find ds l t root id
by_tree k find ds l t root id c o e p h =
    record {
      over = o;
      root_is = p ∙ sym (ap (λ (x : Tree). x.root) e);
      shape_is = subst (λ (x : Tree). HasShape k find id x.shape) (sym e) h;
    }

-- the tree that an edge stands with
pub with_tree : (k : KindName) (find : Lookup) (ds : List Decomp) (l : ℕ) (t : Table) (root : Weights) (id : ℕ) (c : Tree) →
    canonical k ds l t ≡ c → StandsFor k find ds l t root id → (root ≡ c.root) × HasShape k find id c.shape
with_tree k find ds l t root id c e h =
    (h.root_is ∙ ap (λ (x : Tree). x.root) e, subst (λ (x : Tree). HasShape k find id x.shape) e h.shape_is)

-- ---- constants
constant_is_leaf : (k : KindName) (find : Lookup) (c : ℤ) → HasShape k find 0 (constant k c).shape
constant_is_leaf k find c = subst (HasShape k find 0) (sym (constant-leaf k c)) refl

pub stands_constant : (k : KindName) (find : Lookup) (ds : List Decomp) (l : ℕ) (c : ℤ) → are_allowed k ds ≡ true →
    StandsFor k find ds l (constant_table (length ds) c) (constant k c).root 0
stands_constant k find ds l c allowed =
    by_tree k find ds l (constant_table (length ds) c) (constant k c).root 0 (constant k c)
    (IsOver-constant (length ds) c) (canonical-constant k ds l c allowed) refl (constant_is_leaf k find c)

-- an edge to the leaf is a constant's
pub constant_of_leaf : (k : KindName) (find : Lookup) (ds : List Decomp) (l : ℕ) (t : Table) (root : Weights) → are_allowed k ds ≡ true → find 0 ≡ None →
    StandsFor k find ds l t root 0 → (c : ℤ) × (root ≡ (constant k c).root) × (t ≡ constant_table (length ds) c)
constant_of_leaf k find ds l t root allowed no_zero h =
    let is_leaf = leaf_of_zero k find no_zero (canonical k ds l t).shape h.shape_is in
    let made = leaves k ds l (canonical k ds l t) allowed (canonical_stands k (rule_of k) ds l t allowed h.over).0 is_leaf in (
      made.0,
      h.root_is ∙ ap (λ (u : Tree). u.root) made.1,
      canonical_tells k ds l t (constant_table (length ds) made.0) allowed h.over (IsOver-constant (length ds) made.0)
          (made.1 ∙ sym (canonical-constant k ds l made.0 allowed)),
    )

-- ---- levels above the node
pub stands_twice : (k : KindName) (find : Lookup) (d : Decomp) (ds : List Decomp) (l : ℕ) (t : Table) (root : Weights) (id : ℕ) →
    are_allowed k (d ∷ ds) ≡ true → StandsFor k find ds (l + 1) t root id → StandsFor k find (d ∷ ds) l (halves t t) root id
stands_twice k find d ds l t root id allowed h =
    by_tree k find (d ∷ ds) l (halves t t) root id (canonical k ds (l + 1) t) (h.over, h.over) (canonical-twice k d ds l t allowed h.over) h.root_is h.shape_is

-- where an edge has no node at the top level, both halves of its table are one
pub stands_below : (k : KindName) (find : Lookup) (d : Decomp) (ds : List Decomp) (l : ℕ) (t : Table) (root : Weights) (id : ℕ) →
    are_allowed k (d ∷ ds) ≡ true → StandsFor k find (d ∷ ds) l t root id → is_at l (canonical k (d ∷ ds) l t).shape ≡ false →
    (u : Table) × (t ≡ halves u u) × StandsFor k find ds (l + 1) u root id
stands_below k find d ds l t root id allowed h above =
    let c = canonical k (d ∷ ds) l t in
    let u = table k ds (l + 1) c in
    let o : IsOver (length ds) u = IsOver-table k ds (l + 1) c in
    let is : t ≡ halves u u = sym (table-canonical k (d ∷ ds) l t allowed h.over) ∙ table-above k d ds l c above in
    let tree : canonical k ds (l + 1) u ≡ c = sym (canonical-twice k d ds l u allowed o) ∙ ap (canonical k (d ∷ ds) l) (sym is) in
    (u, is, by_tree k find ds (l + 1) u root id c o tree h.root_is h.shape_is)

-- ---- joins
pub stands_join : (k : KindName) (find : Lookup) (d : Decomp) (ds : List Decomp) (l : ℕ) (p q : Table) (root : Weights) (id : ℕ) →
    IsOver (length ds) p → IsOver (length ds) q → root ≡ (tjoin k d l (canonical k ds (l + 1) p) (canonical k ds (l + 1) q)).root →
    HasShape k find id (tjoin k d l (canonical k ds (l + 1) p) (canonical k ds (l + 1) q)).shape → StandsFor k find (d ∷ ds) l (merged d p q) root id
stands_join k find d ds l p q root id o r root_is shape_is =
    by_tree k find (d ∷ ds) l (merged d p q) root id _ (IsOver-merged (length ds) d p q o r) (canonical-merged k d ds l p q o r) root_is shape_is

-- ---- parts
-- What the parts of an edge to a node of the level are: its low and its high edge, with the root's weights
pub record HasNodeParts (k : KindName) (find : Lookup) (d : Decomp) (root : Weights) (f : Fields) (low high : Tree) : Type 0 where
  pub low_shape : Shape
  pub high_shape : Shape
  pub low_is : low ≡ low_edge k root (low_weights k f) low_shape
  pub high_is : high ≡ high_edge k d root (high_weights k f) high_shape
  pub low_below : HasShape k find f.low low_shape
  pub high_below : HasShape k find f.high high_shape

-- an id with a body has a node's shape
parts_of_shape : (k : KindName) (find : Lookup) (d : Decomp) (l : ℕ) (root : Weights) (id : ℕ) (f : Fields) (s : Shape) → find 0 ≡ None →
    FitsBody f → find id ≡ Some (body_of f) → f.level ≡ l → HasShape k find id s → HasNodeParts k find d root f (low_of k l root s) (high_of k d l root s)
parts_of_shape k find d l root id f leaf no_zero fits known level h =
    let clash : Some (body_of f) ≡ None = sym known ∙ ap find h ∙ no_zero in absurd (cc)
parts_of_shape k find d l root id f (node n a s b r) no_zero fits known level h =
    let one : h.fields ≡ f = body_of-tells h.fields f h.fits fits (same_Some _ _ (sym h.known ∙ known)) in
    let here : n ≡ l = sym h.level_is ∙ ap (λ (x : Fields). x.level) one ∙ level in
    let low_at : low_of k l root (node n a s b r) ≡ low_edge k root a s = ap (λ (m : ℕ). low_of k l root (node m a s b r)) here ∙ low_part-at k l root a b s r in
    let high_at : high_of k d l root (node n a s b r) ≡ high_edge k d root b r = ap (λ (m : ℕ). high_of k d l root (node m a s b r)) here ∙ high_part-at k d l root a b s r in
    record {
      low_shape = s;
      high_shape = r;
      low_is = low_at ∙ ap (λ (w : Weights). low_edge k root w s) (sym h.low_is ∙ ap (low_weights k) one);
      high_is = high_at ∙ ap (λ (w : Weights). high_edge k d root w r) (sym h.high_is ∙ ap (high_weights k) one);
      low_below = subst (λ (x : Fields). HasShape k find x.low s) one h.low;
      high_below = subst (λ (x : Fields). HasShape k find x.high r) one h.high;
    }

-- the parts of an edge to a node of the top level stand for the parts of its table
pub stands_parts : (k : KindName) (find : Lookup) (d : Decomp) (ds : List Decomp) (l : ℕ) (t : Table) (root : Weights) (id : ℕ) (f : Fields) →
    are_allowed k (d ∷ ds) ≡ true → find 0 ≡ None → FitsBody f → find id ≡ Some (body_of f) → f.level ≡ l → StandsFor k find (d ∷ ds) l t root id →
    HasNodeParts k find d root f (canonical k ds (l + 1) (part0 d t)) (canonical k ds (l + 1) (part1 d t))
stands_parts k find d ds l t root id f allowed no_zero fits known level h =
    let c = canonical k (d ∷ ds) l t in
    let both = parts-canonical k d ds l t allowed h.over in
    let of_root = parts_of_shape k find d l c.root id f c.shape no_zero fits known level h.shape_is in
    let moved : HasNodeParts k find d root f (low_of k l c.root c.shape) (high_of k d l c.root c.shape) =
    subst (λ (w : Weights). HasNodeParts k find d w f (low_of k l c.root c.shape) (high_of k d l c.root c.shape)) (sym h.root_is) of_root in
    subst (λ (x : Tree). HasNodeParts k find d root f x (canonical k ds (l + 1) (part1 d t))) both.0
    (subst (λ (x : Tree). HasNodeParts k find d root f (low_of k l c.root c.shape) x) both.1 moved)

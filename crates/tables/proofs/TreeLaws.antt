-- Laws of trees that hold for every kind: when two are the same, at which levels they have nodes, and the table of
-- a tree with no node at a level.
use Rattle.std.proofs.Common.{◌≡◌, refl, sym, ◌∙◌, ap, ℕ, suc, ◌+◌, ◌<◌, ℤ, List, [], ◌∷◌, Bool, true, false, ◌&&◌, eqb, length, arith}
use Rattle.std.specs.Prelude.{◌==◌, if◌then◌else◌}
use Rattle.std.specs.Ordering.{int_eq}
use Rattle.std.proofs.lemmas.Bool.{and_from, and_parts, eq-eqb, eqb-true}
use Rattle.std.proofs.lemmas.Bool.Decides.{Decides-int_eq}
use Rattle.word_base.specs.declared.decomp.Decomp.{Decomp}
use Rattle.word_base.specs.declared.kind_name.KindName.{KindName}
use Rattle.word_base.specs.declared.kind_name.KindName.TheVariants.{Evbdd, StarBmd, Hdd, KStarBmd}
use Rattle.tables.specs.Table.{Table, halves, IsOver, each, merged}
use Rattle.tables.specs.Tree.{Weights, Shape, leaf, node, Tree, weights, constant, same_weights, same_shape, same, skips, node_join}
use Rattle.tables.specs.Meaning.{weighed, shape_table, table}
use Rattle.tables.specs.Canonical.{IsCanonical}
use Rattle.tables.proofs.TableLaws.{IsOver-each, IsOver-merged}

-- ---- tests
-- a choice has what both of its values have, each where it is taken
pub chosen : {A : Type 0} (Has : A → Type 0) (b : Bool) (x y : A) → (b ≡ true → Has x) → (b ≡ false → Has y) → Has (if b then x else y)
chosen Has true x y p q = p refl
chosen Has false x y p q = q refl

-- a function of a choice
pub chosen_of : {A B : Type 0} (f : A → B) (b : Bool) (x y : A) → (if b then f x else f y) ≡ f (if b then x else y)
chosen_of f true x y = refl
chosen_of f false x y = refl

pub int_eq-same : (x y : ℤ) → int_eq x y ≡ true → x ≡ y
int_eq-same x y h = (Decides-int_eq x y).0 h

pub int_eq-refl : (x : ℤ) → int_eq x x ≡ true
int_eq-refl x = (Decides-int_eq x x).1 refl

-- ---- the same
pub same_weights-same : (v w : Weights) → same_weights v w ≡ true → v ≡ w
same_weights-same v w h =
    let p : v.weight ≡ w.weight = int_eq-same v.weight w.weight (and_parts _ _ h).0 in
    let q : v.extra ≡ w.extra = int_eq-same v.extra w.extra (and_parts _ _ h).1 in
    ap (λ (x : ℤ). weights x v.extra) p ∙ ap (λ (y : ℤ). weights w.weight y) q

pub same_weights-refl : (w : Weights) → same_weights w w ≡ true
same_weights-refl w = and_from _ _ (int_eq-refl w.weight) (int_eq-refl w.extra)

pub same_shape-same : (s t : Shape) → same_shape s t ≡ true → s ≡ t
same_shape-same leaf leaf h = refl
same_shape-same leaf (node n c t d u) h = cc
same_shape-same (node l a s b r) leaf h = cc
same_shape-same (node l a s b r) (node n c t d u) h =
    let h1 = (and_parts (eqb l n) (same_weights a c && (same_shape s t && (same_weights b d && same_shape r u))) h).1 in
    let h2 = (and_parts (same_weights a c) (same_shape s t && (same_weights b d && same_shape r u)) h1).1 in
    let h3 = (and_parts (same_shape s t) (same_weights b d && same_shape r u) h2).1 in
    let e : l ≡ n = eqb-true l n (and_parts _ _ h).0 in
    let f : a ≡ c = same_weights-same a c (and_parts _ _ h1).0 in
    let g : s ≡ t = same_shape-same s t (and_parts _ _ h2).0 in
    let i : b ≡ d = same_weights-same b d (and_parts _ _ h3).0 in
    let j : r ≡ u = same_shape-same r u (and_parts (same_weights b d) (same_shape r u) h3).1 in
    cc

pub same_shape-refl : (s : Shape) → same_shape s s ≡ true
same_shape-refl leaf = refl
same_shape-refl (node l a s b r) =
    and_from _ _ (eq-eqb l l refl)
    (and_from _ _ (same_weights-refl a)
    (and_from _ _ (same_shape-refl s) (and_from _ _ (same_weights-refl b) (same_shape-refl r))))

pub same-same : (t u : Tree) → same t u ≡ true → t ≡ u
same-same t u h =
    let p : t.root ≡ u.root = same_weights-same t.root u.root (and_parts _ _ h).0 in
    let q : t.shape ≡ u.shape = same_shape-same t.shape u.shape (and_parts (same_weights t.root u.root) _ h).1 in
    let join : Weights → Shape → Tree = λ w s. record { root = w; shape = s } in
    ap (λ (w : Weights). join w t.shape) p ∙ ap (λ (s : Shape). join u.root s) q

pub same-refl : (t : Tree) → same t t ≡ true
same-refl t = and_from _ _ (same_weights-refl t.root) (same_shape-refl t.shape)

pub same-eq : (t u : Tree) → t ≡ u → same t u ≡ true
same-eq t u e = sym (ap (λ (x : Tree). same x u) (sym e)) ∙ same-refl u

-- ---- levels of nodes
-- whether the shape is a node of the level
abbrev pub is_at : ℕ → Shape → Bool
is_at l leaf = false
is_at l (node n a s b r) = n == l

pub is_at-constant : (k : KindName) (l : ℕ) (c : ℤ) → is_at l (constant k c).shape ≡ false
is_at-constant Evbdd l c = refl
is_at-constant StarBmd l c = refl
is_at-constant Hdd l c = refl
is_at-constant KStarBmd l c = refl

pub is_at-node_join : (k : KindName) (d : Decomp) (l m : ℕ) (low high : Tree) → is_at m (node_join k d l low high).shape ≡ (l == m)
is_at-node_join Evbdd d l m low high = refl
is_at-node_join StarBmd d l m low high = refl
is_at-node_join Hdd d l m low high = refl
is_at-node_join KStarBmd d l m low high = refl

pub apart : (l m : ℕ) → l < m → (m == l) ≡ false
apart l m h = grind arith

-- no node of a canonical tree stands above its levels
pub above_levels : (k : KindName) (ds : List Decomp) (l m : ℕ) (t : Tree) → IsCanonical k ds m t → l < m → is_at l t.shape ≡ false
above_levels k [] l m t c h = ap (λ (u : Tree). is_at l u.shape) c.1 ∙ is_at-constant k l c.0
above_levels k (d ∷ ds) l m t c h =
    let IsAbove : Tree → Type 0 = λ u. is_at l u.shape ≡ false in
    let deeper : l < m + 1 = omega arith in
    ap (λ (u : Tree). is_at l u.shape) c.4
    ∙ chosen IsAbove (skips k d c.0 c.1) c.0 (node_join k d m c.0 c.1)
    (λ e. above_levels k ds l (m + 1) c.0 c.2 deeper)
    (λ e. is_at-node_join k d m l c.0 c.1 ∙ apart l m h)

-- each node of a canonical tree stands at one of its levels
pub within_levels : (k : KindName) (ds : List Decomp) (l m : ℕ) (t : Tree) → IsCanonical k ds m t → is_at l t.shape ≡ true → l < m + length ds
within_levels k [] l m t c h =
    let none : is_at l t.shape ≡ false = ap (λ (u : Tree). is_at l u.shape) c.1 ∙ is_at-constant k l c.0 in absurd (cc)
within_levels k (d ∷ ds) l m t c h =
    let IsWithin : Tree → Type 0 = λ u. is_at l u.shape ≡ true → l < m + suc (length ds) in
    chosen IsWithin (skips k d c.0 c.1) c.0 (node_join k d m c.0 c.1)
    (λ e at. let below : l < m + 1 + length ds = within_levels k ds l (m + 1) c.0 c.2 at in omega arith)
    (λ e at. let here : m ≡ l = eqb-true m l (sym (is_at-node_join k d m l c.0 c.1) ∙ at) in omega arith)
    (sym (ap (λ (u : Tree). is_at l u.shape) c.4) ∙ h)

-- ---- tables of trees
IsOver-if : (n : ℕ) (b : Bool) (t u : Table) → IsOver n t → IsOver n u → IsOver n (if b then t else u)
IsOver-if n b t u o p = chosen (IsOver n) b t u (λ e. o) (λ e. p)

pub IsOver-shape_table : (k : KindName) (ds : List Decomp) (l : ℕ) (s : Shape) → IsOver (length ds) (shape_table k ds l s)
IsOver-shape_table k [] l s = tt
IsOver-shape_table k (d ∷ ds) l leaf = (IsOver-shape_table k ds (l + 1) leaf, IsOver-shape_table k ds (l + 1) leaf)
IsOver-shape_table k (d ∷ ds) l (node n a s b r) =
    let below : IsOver (length ds) (shape_table k ds (l + 1) (node n a s b r)) = IsOver-shape_table k ds (l + 1) (node n a s b r) in
    IsOver-if (suc (length ds)) (n == l) _ _
    (IsOver-merged (length ds) d _ _
    (IsOver-each (length ds) (weighed k a) _ (IsOver-shape_table k ds (l + 1) s))
    (IsOver-each (length ds) (weighed k b) _ (IsOver-shape_table k ds (l + 1) r)))
    (below, below)

pub IsOver-table : (k : KindName) (ds : List Decomp) (l : ℕ) (t : Tree) → IsOver (length ds) (table k ds l t)
IsOver-table k ds l t = IsOver-each (length ds) (weighed k t.root) _ (IsOver-shape_table k ds l t.shape)

-- above its nodes both halves of a tree's table are the tree's table below
pub shape_table-above : (k : KindName) (d : Decomp) (ds : List Decomp) (l : ℕ) (s : Shape) → is_at l s ≡ false →
    shape_table k (d ∷ ds) l s ≡ halves (shape_table k ds (l + 1) s) (shape_table k ds (l + 1) s)
shape_table-above k d ds l leaf h = refl
shape_table-above k d ds l (node n a s b r) h = rw h

pub table-above : (k : KindName) (d : Decomp) (ds : List Decomp) (l : ℕ) (t : Tree) → is_at l t.shape ≡ false →
    table k (d ∷ ds) l t ≡ halves (table k ds (l + 1) t) (table k ds (l + 1) t)
table-above k d ds l t h = ap (each (weighed k t.root)) (shape_table-above k d ds l t.shape h)

-- at a node's level its table is merged from those of its two edges
pub shape_table-at : (k : KindName) (d : Decomp) (ds : List Decomp) (l : ℕ) (a b : Weights) (s r : Shape) →
    shape_table k (d ∷ ds) l (node l a s b r)
    ≡ merged d (each (weighed k a) (shape_table k ds (l + 1) s)) (each (weighed k b) (shape_table k ds (l + 1) r))
shape_table-at k d ds l a b s r = rw (eq-eqb l l refl)

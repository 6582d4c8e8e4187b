-- The content of a table, and the contents of the nodes of its diagram.
use Rattle.std.proofs.Common.{◌≡◌, refl, sym, ◌∙◌, ap, ℕ, ◌+◌, ℤ, pos, List, [], ◌∷◌, true, length, inl, inr}
use Rattle.std.specs.Prelude.{unsigned_abs}
use Rattle.std.proofs.lemmas.Bool.{or_cases}
use Rattle.integers.specs.Gcd.{gcd, signed_gcd}
use Rattle.integers.proofs.GcdLaws.{gcd-zero_left, gcd-zero_right, gcd_self, gcd_comm, gcd_assoc, gcd_exchange, gcd-sub}
use Rattle.integers.proofs.SignedGcd.{unsigned_abs-signed_gcd}
use Rattle.word_base.specs.declared.decomp.Decomp.{Decomp}
use Rattle.word_base.specs.declared.decomp.Decomp.TheVariants.{S, P, N}
use Rattle.word_base.specs.declared.kind_name.KindName.{KindName}
use Rattle.word_base.specs.declared.kind_name.KindName.TheVariants.{Evbdd, StarBmd, Hdd, KStarBmd}
use Rattle.tables.specs.Fits.{content}
use Rattle.tables.specs.Table.{Table, entry, halves, IsOver, part0, part1}
use Rattle.tables.specs.Tree.{Weights, Shape, leaf, node, Tree, constant, same_shape, skips, node_join, k_star_bmd_rest}
use Rattle.tables.specs.Canonical.{canonical, has, add_nodes}
use Rattle.tables.specs.Laws.{are_allowed, IsSkip}
use Rattle.tables.proofs.CanonicalLaws.{rule_of, allowed_below, parts_joinable}
use Rattle.tables.proofs.FitsLaws.{content_of_parts}
use Rattle.tables.proofs.TableLaws.{IsOver-part0, IsOver-part1}
use Rattle.tables.proofs.TreeLaws.{chosen, same_shape-same}
use Rattle.kind_laws.specs.Content.{content_of_edge}
use Rattle.diagram.specs.Contents.{content_of_node, content_of_top, contents}

-- ---- the nodes of a shape
-- the greatest common divisor of the contents of all nodes of a shape
abbrev pub content_below : KindName → Shape → ℕ
content_below k leaf = 0
content_below k (node l a s b r) = gcd (content_of_node k a b) (gcd (content_below k s) (content_below k r))

-- a node that is listed adds nothing
listed_adds_none : (k : KindName) (found : List Shape) (s : Shape) → has found s ≡ true → gcd (content_of_top k s) (contents k found) ≡ contents k found
listed_adds_none k [] s h = absurd (cc)
listed_adds_none k (t ∷ ts) s h = elim (or_cases (same_shape t s) (has ts s) h) [
  | inl same ↦
      let one : t ≡ s = same_shape-same t s same in
      ap (λ (x : Shape). gcd (content_of_top k x) (gcd (content_of_top k t) (contents k ts))) (sym one)
      ∙ sym (gcd_assoc (content_of_top k t) (content_of_top k t) (contents k ts))
      ∙ ap (λ (n : ℕ). gcd n (contents k ts)) (gcd_self (content_of_top k t))
  | inr more ↦
      sym (gcd_assoc (content_of_top k s) (content_of_top k t) (contents k ts))
      ∙ ap (λ (n : ℕ). gcd n (contents k ts)) (gcd_comm (content_of_top k s) (content_of_top k t))
      ∙ gcd_assoc (content_of_top k t) (content_of_top k s) (contents k ts)
      ∙ ap (gcd (content_of_top k t)) (listed_adds_none k ts s more)
]

node_first : (n c s r : ℕ) → gcd n (gcd (gcd c s) r) ≡ gcd c (gcd n (gcd s r))
node_first n c s r =
    ap (gcd n) (gcd_assoc c s r)
    ∙ sym (gcd_assoc n c (gcd s r))
    ∙ ap (λ (m : ℕ). gcd m (gcd s r)) (gcd_comm n c)
    ∙ gcd_assoc c n (gcd s r)

-- a node is added to those below it, or was listed
pub node_added : (k : KindName) (l : ℕ) (a : Weights) (s : Shape) (b : Weights) (r : Shape) (found : List Shape) →
    contents k (add_nodes (node l a s b r) found) ≡ gcd (content_of_node k a b) (contents k (add_nodes r (add_nodes s found)))
node_added k l a s b r found =
    let here = node l a s b r in
    let below = add_nodes r (add_nodes s found) in
    chosen (λ (ts : List Shape). contents k ts ≡ gcd (content_of_node k a b) (contents k below)) (has below here) below (here ∷ below)
    (λ known. sym (listed_adds_none k below here known))
    (λ fresh. refl)

pub contents_added : (k : KindName) (s : Shape) (found : List Shape) → contents k (add_nodes s found) ≡ gcd (contents k found) (content_below k s)
contents_added k leaf found = sym (gcd-zero_right (contents k found))
contents_added k (node l a s b r) found =
    let c = contents k found in
    node_added k l a s b r found
    ∙ ap (gcd (content_of_node k a b)) (contents_added k r (add_nodes s found) ∙ ap (λ (n : ℕ). gcd n (content_below k r)) (contents_added k s found))
    ∙ node_first (content_of_node k a b) c (content_below k s) (content_below k r)

-- ---- the content of a tree
abbrev pub content_of_tree : KindName → Tree → ℕ
content_of_tree k t = gcd (content_of_edge k t.root) (content_below k t.shape)

content-constant : (k : KindName) (c : ℤ) → content_of_tree k (constant k c) ≡ unsigned_abs c
content-constant Evbdd c = gcd-zero_right (unsigned_abs c)
content-constant StarBmd c = gcd-zero_right (unsigned_abs c)
content-constant Hdd c = gcd-zero_right (unsigned_abs c)
content-constant KStarBmd c = gcd-zero_right (gcd (unsigned_abs c) 0) ∙ gcd-zero_right (unsigned_abs c)

-- a root's content and its node's are those of the two edges that were joined
joined_contents : (k : KindName) (d : Decomp) (l : ℕ) (low high : Tree) → gcd (content_of_edge k (node_join k d l low high).root) (content_of_top k (node_join k d l low high).shape)
    ≡ gcd (content_of_edge k low.root) (content_of_edge k high.root)
joined_contents Evbdd d l low high = gcd-sub low.root.weight high.root.weight
joined_contents StarBmd d l low high =
    let divisor = gcd (unsigned_abs low.root.weight) (unsigned_abs high.root.weight) in
    gcd-zero_right (unsigned_abs (signed_gcd low.root.weight high.root.weight (pos 0)))
    ∙ unsigned_abs-signed_gcd low.root.weight high.root.weight (pos 0)
    ∙ gcd-zero_right divisor
joined_contents Hdd d l low high = gcd-zero_left (gcd (unsigned_abs low.root.weight) (unsigned_abs high.root.weight))
joined_contents KStarBmd d l low high =
    let c = k_star_bmd_rest d low high in
    let x = unsigned_abs low.root.extra in
    let m = gcd (unsigned_abs low.root.weight) (unsigned_abs high.root.weight) in
    gcd-zero_right (gcd x (unsigned_abs (signed_gcd low.root.weight high.root.weight c)))
    ∙ ap (gcd x) (unsigned_abs-signed_gcd low.root.weight high.root.weight c ∙ gcd_comm m (unsigned_abs c))
    ∙ sym (gcd_assoc x (unsigned_abs c) m)
    ∙ ap (λ (n : ℕ). gcd n m) (rest d)
    ∙ gcd_exchange x (unsigned_abs high.root.extra) (unsigned_abs low.root.weight) (unsigned_abs high.root.weight)
  where
    rest : (d : Decomp) → gcd (unsigned_abs low.root.extra) (unsigned_abs (k_star_bmd_rest d low high)) ≡ gcd (unsigned_abs low.root.extra) (unsigned_abs high.root.extra)
    rest S = gcd-sub low.root.extra high.root.extra
    rest P = refl
    rest N = refl

below_node_join : (k : KindName) (d : Decomp) (l : ℕ) (low high : Tree) →
    content_below k (node_join k d l low high).shape ≡ gcd (content_of_top k (node_join k d l low high).shape) (gcd (content_below k low.shape) (content_below k high.shape))
below_node_join Evbdd d l low high = refl
below_node_join StarBmd d l low high = refl
below_node_join Hdd d l low high = refl
below_node_join KStarBmd d l low high = refl

content-node_join : (k : KindName) (d : Decomp) (l : ℕ) (low high : Tree) →
    content_of_tree k (node_join k d l low high) ≡ gcd (content_of_tree k low) (content_of_tree k high)
content-node_join k d l low high =
    let top = node_join k d l low high in
    let e = content_of_edge k top.root in
    let n = content_of_top k top.shape in
    let below = gcd (content_below k low.shape) (content_below k high.shape) in
    ap (gcd e) (below_node_join k d l low high)
    ∙ sym (gcd_assoc e n below)
    ∙ ap (λ (m : ℕ). gcd m below) (joined_contents k d l low high)
    ∙ gcd_exchange (content_of_edge k low.root) (content_of_edge k high.root) (content_below k low.shape) (content_below k high.shape)

no_high : (k : KindName) (low high : Tree) → high ≡ constant k (pos 0) → content_of_tree k low ≡ gcd (content_of_tree k low) (content_of_tree k high)
no_high k low high e =
    sym (gcd-zero_right (content_of_tree k low))
    ∙ ap (gcd (content_of_tree k low)) (sym (ap (content_of_tree k) e ∙ content-constant k (pos 0)))

content-skip : (k : KindName) (d : Decomp) (low high : Tree) → IsSkip k d low high → content_of_tree k low ≡ gcd (content_of_tree k low) (content_of_tree k high)
content-skip k S low high e = sym (gcd_self (content_of_tree k low)) ∙ ap (λ (t : Tree). gcd (content_of_tree k low) (content_of_tree k t)) e
content-skip k P low high e = no_high k low high e
content-skip k N low high e = no_high k low high e

pub content_of_canonical : (k : KindName) (ds : List Decomp) (l : ℕ) (t : Table) → are_allowed k ds ≡ true → IsOver (length ds) t →
    content t ≡ content_of_tree k (canonical k ds l t)
content_of_canonical k [] l (entry x) allowed o = sym (content-constant k x)
content_of_canonical k [] l (halves a b) allowed o = absurd o
content_of_canonical k (d ∷ ds) l (entry x) allowed o = absurd o
content_of_canonical k (d ∷ ds) l (halves a b) allowed o =
    let t = halves a b in
    let p = part0 d t in
    let q = part1 d t in
    let below = allowed_below k d ds allowed in
    let op = IsOver-part0 (length ds) d t o in
    let oq = IsOver-part1 (length ds) d t o in
    let low = canonical k ds (l + 1) p in
    let high = canonical k ds (l + 1) q in
    let both : content t ≡ gcd (content_of_tree k low) (content_of_tree k high) =
    content_of_parts d (length ds) t o
    ∙ ap (λ (n : ℕ). gcd n (content q)) (content_of_canonical k ds (l + 1) p below op)
    ∙ ap (gcd (content_of_tree k low)) (content_of_canonical k ds (l + 1) q below oq) in
    chosen (λ (u : Tree). content t ≡ content_of_tree k u) (skips k d low high) low (node_join k d l low high)
    (λ skipped. both ∙ sym (content-skip k d low high ((rule_of k).skip_tells d ds l low high (parts_joinable k d ds l p q allowed op oq) skipped)))
    (λ apart. both ∙ sym (content-node_join k d l low high))

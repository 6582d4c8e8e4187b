-- What a join stands for, and what it adds to the store.
use Rattle.std.proofs.Common.{◌≡◌, refl, sym, ◌∙◌, ap, subst, ℕ, ◌+◌, ◌<◌, ◌≤◌, List, ◌∷◌, Bool, true, false, length, drop, arith}
use Rattle.std.specs.Prelude.{Some, if◌then◌else◌}
use Rattle.word_base.specs.declared.decomp.Decomp.{Decomp}
use Rattle.word_base.specs.declared.kind_name.KindName.{KindName}
use Rattle.record_store.specs.StoreView.{find_in}
use Rattle.tables.specs.Table.{Table, merged}
use Rattle.tables.specs.Tree.{Weights, Shape, node, Tree, skips, node_join, tjoin}
use Rattle.tables.specs.Canonical.{canonical}
use Rattle.tables.specs.Laws.{are_allowed}
use Rattle.kind_laws.specs.Body.{low_weights, high_weights}
use Rattle.kind_laws.specs.Graph.{Lookup, HasShape, StandsFor, IsGoodStore}
use Rattle.kind_laws.specs.Kind.{AreShapes, IsJoinOf, JoinsTo}
use Rattle.kind_laws.specs.Plain.{PlainEdge, PlainJoined, skip, made, over_shape}
use Rattle.kind_laws.proofs.GraphLaws.{HasShape-extends, same_shape_of_id, same_id_of_shape, leaf_of_zero, stands_join}
use Rattle.diagram.specs.View.{View, letter_at, StandsAt, Keeps}
use Rattle.diagram.proofs.LevelLaws.{has_letter}

-- ---- the shapes under two ids
pub shapes_of : (k : KindName) (find : Lookup) (letters : List Decomp) (i j : ℕ) (s r : Shape) → IsGoodStore k find letters → HasShape k find i s → HasShape k find j r → AreShapes i j s r
shapes_of k find letters i j s r good h g = record {
  one_id = λ e. same_id_of_shape k find good.distinct r i j (subst (HasShape k find i) e h) g;
  one_shape = λ e. same_shape_of_id k find good.no_zero j s r (subst (λ (x : ℕ). HasShape k find x s) e h) g;
  low_leaf = λ e. leaf_of_zero k find good.no_zero s (subst (λ (x : ℕ). HasShape k find x s) e h);
  high_leaf = λ e. leaf_of_zero k find good.no_zero r (subst (λ (x : ℕ). HasShape k find x r) e g);
  low_zero = λ e. subst (HasShape k find i) e h;
  high_zero = λ e. subst (HasShape k find j) e g;
}

-- ---- what is joined
-- two edges below a level, and the tables that they stand for there
pub record Joinable (k : KindName) (v : View) (l : ℕ) (p q : Table) (low high : PlainEdge) : Type 0 where
  pub good : IsGoodStore k (find_in v.store) v.letters
  pub below : l < length v.letters
  pub low_stands : StandsAt k v (l + 1) p low
  pub high_stands : StandsAt k v (l + 1) q high

-- the canonical diagrams of the two tables
abbrev diagram_at : KindName → View → ℕ → Table → Tree
diagram_at k v l t = canonical k (drop l v.letters) l t

tree_of : (k : KindName) (v : View) (l : ℕ) (t : Table) (e : PlainEdge) → StandsAt k v l t e → over_shape e (diagram_at k v l t).shape ≡ diagram_at k v l t
tree_of k v l t e h = ap (λ (w : Weights). record { root = w; shape = (diagram_at k v l t).shape }) h.stands.root_is

-- an edge is what two others join to, over the bodies that are known
abbrev pub IsEdgeOf : View → PlainJoined → PlainEdge → Type 0
IsEdgeOf v (skip x) e = e ≡ x
IsEdgeOf v (made root body) e = (e.root ≡ root) × (find_in v.store e.node ≡ Some body)

-- the joined tree, and that an edge has its root and its shape
record IsJoined (k : KindName) (v : View) (l : ℕ) (t : Tree) (e : PlainEdge) : Type 0 where
  root_is : e.root ≡ t.root
  shape_is : HasShape k (find_in v.store) e.node t.shape

joined_by : (k : KindName) (v w : View) (l : ℕ) (p q : Table) (low high e : PlainEdge) (joined : PlainJoined) → Joinable k v l p q low high → Keeps v w →
    JoinsTo k (letter_at v.letters l) l low high joined → IsEdgeOf w joined e →
    IsJoined k w l (tjoin k (letter_at v.letters l) l (diagram_at k v (l + 1) p) (diagram_at k v (l + 1) q)) e
joined_by k v w l p q low high e joined j keeps to is =
    let d = letter_at v.letters l in
    let s = (diagram_at k v (l + 1) p).shape in
    let r = (diagram_at k v (l + 1) q).shape in
    let low_shape = j.low_stands.stands.shape_is in
    let high_shape = j.high_stands.stands.shape_is in
    let answer = to.joins s r (shapes_of k (find_in v.store) v.letters low.node high.node s r j.good low_shape high_shape) in
    let Joined : Tree → Tree → Type 0 = λ a b. IsJoined k w l (tjoin k d l a b) e in
    subst (λ (a : Tree). Joined a (diagram_at k v (l + 1) q)) (tree_of k v (l + 1) p low j.low_stands)
    (subst (λ (b : Tree). Joined (over_shape low s) b) (tree_of k v (l + 1) q high j.high_stands)
    (by_answer d s r joined answer is (HasShape-extends k (find_in v.store) (find_in w.store) keeps.known low.node s low_shape)
    (HasShape-extends k (find_in v.store) (find_in w.store) keeps.known high.node r high_shape)))
  where
    chosen_true : (b : Bool) (t u : Tree) → b ≡ true → t ≡ (if b then t else u)
    chosen_true true t u h = refl
    chosen_true false t u h = absurd (cc)

    chosen_false : (b : Bool) (t u : Tree) → b ≡ false → u ≡ (if b then t else u)
    chosen_false true t u h = absurd (cc)
    chosen_false false t u h = refl

    by_answer : (d : Decomp) (s r : Shape) (joined : PlainJoined) → IsJoinOf k d l low high s r joined → IsEdgeOf w joined e →
        HasShape k (find_in w.store) low.node s → HasShape k (find_in w.store) high.node r →
        IsJoined k w l (tjoin k d l (over_shape low s) (over_shape high r)) e
    by_answer d s r (skip x) answer is h g =
        let same : e ≡ low = is ∙ answer.1 in
        let tree = chosen_true (skips k d (over_shape low s) (over_shape high r)) (over_shape low s) (node_join k d l (over_shape low s) (over_shape high r)) answer.0 in
        subst (λ (t : Tree). IsJoined k w l t e) tree
        (record {
          root_is = ap (λ (x : PlainEdge). x.root) same;
          shape_is = subst (λ (n : ℕ). HasShape k (find_in w.store) n s) (sym (ap (λ (x : PlainEdge). x.node) same)) h;
        })
    by_answer d s r (made root body) answer is h g =
        let f = answer.fields in
        let tree = chosen_false (skips k d (over_shape low s) (over_shape high r)) (over_shape low s) (node_join k d l (over_shape low s) (over_shape high r)) answer.no_skip in
        subst (λ (t : Tree). IsJoined k w l t e) (sym answer.joins ∙ tree)
        (record {
          root_is = is.0;
          shape_is = record {
            fields = f;
            fits = answer.fits;
            zeros = answer.zeros;
            known = is.1 ∙ ap Some answer.body_is;
            level_is = answer.level_is;
            low_is = refl;
            high_is = refl;
            low = subst (λ (n : ℕ). HasShape k (find_in w.store) n s) (sym answer.low_is) h;
            high = subst (λ (n : ℕ). HasShape k (find_in w.store) n r) (sym answer.high_is) g;
          };
        })

pub join_stands : (k : KindName) (v w : View) (l : ℕ) (p q : Table) (low high e : PlainEdge) (joined : PlainJoined) → Joinable k v l p q low high → Keeps v w →
    JoinsTo k (letter_at v.letters l) l low high joined → IsEdgeOf w joined e → StandsAt k w l (merged (letter_at v.letters l) p q) e
join_stands k v w l p q low high e joined j keeps to is =
    let d = letter_at v.letters l in
    let ds = drop (l + 1) v.letters in
    let below = j.below in
    let allowed = j.low_stands.allowed in
    let letter = has_letter k v l allowed j.below in
    let both = joined_by k v w l p q low high e joined j keeps to is in
    let Stands : List Decomp → Type 0 = λ xs. StandsFor k (find_in w.store) xs l (merged d p q) e.root e.node in
    let drops : drop l w.letters ≡ d ∷ ds = ap (drop l) keeps.letters ∙ letter.letters in
    record {
      allowed = ap (λ (xs : List Decomp). are_allowed k xs) keeps.letters ∙ allowed;
      no_zero = keeps.no_zero j.low_stands.no_zero;
      within = subst (λ (xs : List Decomp). l ≤ length xs) (sym keeps.letters) (omega arith);
      stands = subst Stands (sym drops) (stands_join k (find_in w.store) d ds l p q e.root e.node j.low_stands.stands.over j.high_stands.stands.over both.root_is both.shape_is);
    }

-- the tree of a join that is no skip
pub joined_tree : (k : KindName) (v : View) (l : ℕ) (p q : Table) (low high : PlainEdge) (root : Weights) (body : List ℕ) (j : Joinable k v l p q low high)
    (to : JoinsTo k (letter_at v.letters l) l low high (made root body)) →
    let s = (canonical k (drop (l + 1) v.letters) (l + 1) p).shape in
    let r = (canonical k (drop (l + 1) v.letters) (l + 1) q).shape in
    let answer = to.joins s r (shapes_of k (find_in v.store) v.letters low.node high.node s r j.good j.low_stands.stands.shape_is j.high_stands.stands.shape_is) in
    tjoin k (letter_at v.letters l) l (canonical k (drop (l + 1) v.letters) (l + 1) p) (canonical k (drop (l + 1) v.letters) (l + 1) q)
    ≡ record { root = root; shape = node l (low_weights k answer.fields) s (high_weights k answer.fields) r }
joined_tree k v l p q low high root body j to =
    let d = letter_at v.letters l in
    let s = (diagram_at k v (l + 1) p).shape in
    let r = (diagram_at k v (l + 1) q).shape in
    let answer = to.joins s r (shapes_of k (find_in v.store) v.letters low.node high.node s r j.good j.low_stands.stands.shape_is j.high_stands.stands.shape_is) in
    ap (λ (t : Tree). tjoin k d l t (diagram_at k v (l + 1) q)) (sym (tree_of k v (l + 1) p low j.low_stands))
    ∙ ap (λ (t : Tree). tjoin k d l (over_shape low s) t) (sym (tree_of k v (l + 1) q high j.high_stands))
    ∙ not_taken (skips k d (over_shape low s) (over_shape high r)) (over_shape low s) (node_join k d l (over_shape low s) (over_shape high r)) answer.no_skip
    ∙ answer.joins
  where
    not_taken : (b : Bool) (t u : Tree) → b ≡ false → (if b then t else u) ≡ u
    not_taken true t u h = absurd (cc)
    not_taken false t u h = refl

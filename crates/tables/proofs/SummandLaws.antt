-- Summands of tables and of their canonical diagrams.
use Rattle.std.proofs.Common.{◌≡◌, refl, sym, ◌∙◌, ap, ℕ, ◌+◌, ℤ, pos, ◌+ℤ◌, ◌-ℤ◌, ◌*ℤ◌, List, [], ◌∷◌, Bool, true, false, ◌&&◌, length, arith}
use Rattle.std.specs.Prelude.{if◌then◌else◌}
use Rattle.std.specs.Ordering.{int_eq}
use Rattle.std.proofs.lemmas.Bool.{and_parts}
use Rattle.std.proofs.lemmas.Bool.Decides.{Decides-int_eq, Decides-like, same_from_decides}
use Rattle.std.proofs.lemmas.Int.{ints}
use Rattle.integers.specs.Gcd.{signed_gcd}
use Rattle.word_base.specs.Kind.{is_allowed}
use Rattle.word_base.specs.declared.decomp.Decomp.{Decomp}
use Rattle.word_base.specs.declared.decomp.Decomp.TheVariants.{S, P, N}
use Rattle.word_base.specs.declared.kind_name.KindName.{KindName}
use Rattle.word_base.specs.declared.kind_name.KindName.TheVariants.{Evbdd, StarBmd, Hdd, KStarBmd}
use Rattle.tables.specs.Table.{Table, entry, halves, part0, part1}
use Rattle.tables.specs.Tree.{Weights, node, Tree, weights, tree, constant, same_shape, skips, k_star_bmd_node, node_join, tjoin}
use Rattle.tables.specs.Meaning.{weighed, shape_table, table}
use Rattle.tables.specs.Canonical.{canonical, add_nodes}
use Rattle.tables.specs.Factors.{IsSummand, summand_of, shifted_weights, shifted_tree, unshifted_tree, raised_by}
use Rattle.tables.specs.Laws.{are_allowed, ShiftedTreesStand, SummandsGoThrough, RaisedTablesKeepNodes, SummandsAreTaken}
use Rattle.tables.proofs.TableLaws.{each-same, each-each, part0-each, part1-raised, at_high_part, IsOver-part0, IsOver-part1}
use Rattle.tables.proofs.TreeLaws.{IsOver-table, chosen_of}
use Rattle.tables.proofs.KindLaws.{has_extra, canonical-no_extra, with_weights}
use Rattle.tables.proofs.CanonicalLaws.{allowed_below, table-canonical}

-- ---- integers
plus_zero : (x : ℤ) → x +ℤ pos 0 ≡ x
plus_zero x = omega (arith, ints)

zero_plus : (c x : ℤ) → c ≡ pos 0 → c +ℤ x ≡ x
zero_plus c x h = omega (arith, ints, h)

plus_assoc : (x y z : ℤ) → (x +ℤ y) +ℤ z ≡ x +ℤ (y +ℤ z)
plus_assoc x y z = omega (arith, ints)

plus-cancel : (c x y : ℤ) → c +ℤ x ≡ c +ℤ y → x ≡ y
plus-cancel c x y h = omega (arith, ints, h)

difference_of_sums : (c x y : ℤ) → (c +ℤ x) -ℤ (c +ℤ y) ≡ x -ℤ y
difference_of_sums c x y = omega (arith, ints)

sums-same : (c x y : ℤ) → int_eq (c +ℤ x) (c +ℤ y) ≡ int_eq x y
sums-same c x y =
    same_from_decides (int_eq (c +ℤ x) (c +ℤ y)) (int_eq x y)
    (Decides-like (int_eq (c +ℤ x) (c +ℤ y)) (plus-cancel c x y) (ap (λ (z : ℤ). c +ℤ z)) (Decides-int_eq (c +ℤ x) (c +ℤ y)))
    (Decides-int_eq x y)

-- ---- joins of trees with a summand added
high-same : (d : Decomp) (t : Tree) → at_high_part d t t ≡ t
high-same S t = refl
high-same P t = refl
high-same N t = refl

-- a tree of a kind with no second weight
HasNoExtra : KindName → Tree → Type 0
HasNoExtra k t = has_extra k ≡ false → t.root.extra ≡ pos 0

evbdd-shifted : (l : ℕ) (c : ℤ) (low high : Tree) → low.root.extra ≡ pos 0 → high.root.extra ≡ pos 0 →
    tjoin Evbdd S l (shifted_tree Evbdd c low) (shifted_tree Evbdd c high) ≡ shifted_tree Evbdd c (tjoin Evbdd S l low high)
evbdd-shifted l c low high p q =
    let a = low.root.weight in
    let b = high.root.weight in
    let shifted : Tree → Tree = shifted_tree Evbdd c in
    let test : Bool → ℤ → ℤ → Bool = λ t x y. (t && int_eq x y) && same_shape low.shape high.shape in
    let joined : Bool → ℤ → Tree = λ t difference.
    if t then shifted low else tree (c +ℤ a) (pos 0) (node l (weights (pos 0) (pos 0)) low.shape (weights difference (pos 0)) high.shape) in
    ap (λ (t : Bool). joined (test t (pos 0) (pos 0)) ((c +ℤ b) -ℤ (c +ℤ a))) (sums-same c a b)
    ∙ ap (λ (x : ℤ). joined (test (int_eq a b) x (pos 0)) ((c +ℤ b) -ℤ (c +ℤ a))) (sym p)
    ∙ ap (λ (y : ℤ). joined (test (int_eq a b) low.root.extra y) ((c +ℤ b) -ℤ (c +ℤ a))) (sym q)
    ∙ ap (joined (test (int_eq a b) low.root.extra high.root.extra)) (difference_of_sums c b a)
    ∙ chosen_of shifted (skips Evbdd S low high) low (node_join Evbdd S l low high)

k_star_bmd-shifted : (l : ℕ) (c : ℤ) (low high : Tree) →
    tjoin KStarBmd S l (shifted_tree KStarBmd c low) (shifted_tree KStarBmd c high) ≡ shifted_tree KStarBmd c (tjoin KStarBmd S l low high)
k_star_bmd-shifted l c low high =
    let a = low.root.extra in
    let b = high.root.extra in
    let shifted : Tree → Tree = shifted_tree KStarBmd c in
    let same_weight = int_eq low.root.weight high.root.weight in
    let made : ℤ → Tree = λ rest. k_star_bmd_node l rest (signed_gcd low.root.weight high.root.weight rest) (shifted low) (shifted high) in
    ap (λ (t : Bool). if (same_weight && t) && same_shape low.shape high.shape then shifted low else made ((c +ℤ b) -ℤ (c +ℤ a))) (sums-same c a b)
    ∙ ap (λ (rest : ℤ). if skips KStarBmd S low high then shifted low else made rest) (difference_of_sums c b a)
    ∙ chosen_of shifted (skips KStarBmd S low high) low (node_join KStarBmd S l low high)

tjoin-shifted : (k : KindName) (d : Decomp) (l : ℕ) (c : ℤ) (low high : Tree) → is_allowed k d ≡ true → HasNoExtra k low → HasNoExtra k high →
    tjoin k d l (shifted_tree k c low) (at_high_part d (shifted_tree k c high) high) ≡ shifted_tree k c (tjoin k d l low high)
unfolding HasNoExtra
tjoin-shifted Evbdd S l c low high allowed p q = evbdd-shifted l c low high (p refl) (q refl)
tjoin-shifted Evbdd P l c low high allowed p q = absurd (cc)
tjoin-shifted Evbdd N l c low high allowed p q = absurd (cc)
tjoin-shifted StarBmd d l c low high allowed p q = ap (tjoin StarBmd d l low) (high-same d high)
tjoin-shifted Hdd d l c low high allowed p q = ap (tjoin Hdd d l low) (high-same d high)
tjoin-shifted KStarBmd S l c low high allowed p q = k_star_bmd-shifted l c low high
tjoin-shifted KStarBmd P l c low high allowed p q = chosen_of (shifted_tree KStarBmd c) (skips KStarBmd P low high) low (node_join KStarBmd P l low high)
tjoin-shifted KStarBmd N l c low high allowed p q = chosen_of (shifted_tree KStarBmd c) (skips KStarBmd N low high) low (node_join KStarBmd N l low high)

-- ---- tables of trees with a summand added
weighed-shifted : (k : KindName) (c : ℤ) (w : Weights) (v : ℤ) → IsSummand k c → weighed k (shifted_weights k c w) v ≡ c +ℤ weighed k w v
weighed-shifted Evbdd c w v h = plus_assoc c w.weight v
weighed-shifted StarBmd c w v h = sym (zero_plus c (w.weight *ℤ v) h)
weighed-shifted Hdd c w v h = sym (zero_plus c (w.weight +ℤ v) h)
weighed-shifted KStarBmd c w v h = plus_assoc c w.extra (w.weight *ℤ v)

pub shifted_trees_stand : ShiftedTreesStand
shifted_trees_stand k ds l c t h =
    let below = shape_table k ds l t.shape in
    each-same (weighed k (shifted_weights k c t.root)) (λ v. c +ℤ weighed k t.root v) (λ v. weighed-shifted k c t.root v h) below
    ∙ sym (each-each (λ v. c +ℤ v) (weighed k t.root) below)

-- ---- canonical diagrams of tables that are raised
constant-shifted : (k : KindName) (c x : ℤ) → IsSummand k c → constant k (c +ℤ x) ≡ shifted_tree k c (constant k x)
constant-shifted Evbdd c x h = refl
constant-shifted StarBmd c x h = ap (constant StarBmd) (zero_plus c x h)
constant-shifted Hdd c x h = ap (constant Hdd) (zero_plus c x h)
constant-shifted KStarBmd c x h = refl

at_high-canonical : (k : KindName) (d : Decomp) (ds : List Decomp) (l : ℕ) (t u : Table) →
    canonical k ds l (at_high_part d t u) ≡ at_high_part d (canonical k ds l t) (canonical k ds l u)
at_high-canonical k S ds l t u = refl
at_high-canonical k P ds l t u = refl
at_high-canonical k N ds l t u = refl

pub summands_go_through : SummandsGoThrough
unfolding HasNoExtra
summands_go_through k [] l c (entry x) h allowed o = constant-shifted k c x h
summands_go_through k [] l c (halves lo hi) h allowed o = absurd o
summands_go_through k (d ∷ ds) l c (entry x) h allowed o = absurd o
summands_go_through k (d ∷ ds) l c (halves lo hi) h allowed o =
    let t = halves lo hi in
    let n = length ds in
    let p = part0 d t in
    let q = part1 d t in
    let below : Table → Tree = canonical k ds (l + 1) in
    let shifted : Tree → Tree = shifted_tree k c in
    let under = allowed_below k d ds allowed in
    ap (λ (u : Table). tjoin k d l (below u) (below (part1 d (raised_by c t)))) (part0-each d (λ x. c +ℤ x) t)
    ∙ ap (λ (u : Table). tjoin k d l (below (raised_by c p)) (below u)) (part1-raised n d c t o)
    ∙ ap (tjoin k d l (below (raised_by c p))) (at_high-canonical k d ds (l + 1) (raised_by c q) q)
    ∙ ap (λ (u : Tree). tjoin k d l u (at_high_part d (below (raised_by c q)) (below q))) (summands_go_through k ds (l + 1) c p h under (IsOver-part0 n d t o))
    ∙ ap (λ (u : Tree). tjoin k d l (shifted (below p)) (at_high_part d u (below q))) (summands_go_through k ds (l + 1) c q h under (IsOver-part1 n d t o))
    ∙ tjoin-shifted k d l c (below p) (below q) (and_parts (is_allowed k d) (are_allowed k ds) allowed).0
    (λ e. canonical-no_extra k e ds (l + 1) p) (λ e. canonical-no_extra k e ds (l + 1) q)

pub raised_tables_keep_nodes : RaisedTablesKeepNodes
raised_tables_keep_nodes k ds l c t h allowed o = ap (λ (u : Tree). add_nodes u.shape []) (summands_go_through k ds l c t h allowed o)

-- ---- the summand of a canonical diagram
pub is_summand : (k : KindName) (w : Weights) → IsSummand k (summand_of k w)
is_summand Evbdd w = tt
is_summand StarBmd w = refl
is_summand Hdd w = refl
is_summand KStarBmd w = tt

-- a tree without its summand, and the summand added, is the tree
summand_put_back : (k : KindName) (ds : List Decomp) (l : ℕ) (t : Table) →
    shifted_tree k (summand_of k (canonical k ds l t).root) (unshifted_tree k (canonical k ds l t)) ≡ canonical k ds l t
summand_put_back Evbdd ds l t =
    let u = canonical Evbdd ds l t in with_weights u _ _ (plus_zero u.root.weight) (sym (canonical-no_extra Evbdd refl ds l t))
summand_put_back StarBmd ds l t = refl
summand_put_back Hdd ds l t = refl
summand_put_back KStarBmd ds l t = let u = canonical KStarBmd ds l t in with_weights u _ _ refl (plus_zero u.root.extra)

-- a tree that with the summand added is the tree is what is left
left_of_summand : (k : KindName) (ds : List Decomp) (l : ℕ) (c : ℤ) (t : Table) (u : Tree) →
    shifted_tree k c (canonical k ds l t) ≡ shifted_tree k c (unshifted_tree k u) → canonical k ds l t ≡ unshifted_tree k u
left_of_summand Evbdd ds l c t u e =
    let v = canonical Evbdd ds l t in
    let same_weight : v.root.weight ≡ pos 0 = plus-cancel c v.root.weight (pos 0) (ap (λ (x : Tree). x.root.weight) e) in
    sym (with_weights v (pos 0) (pos 0) (sym same_weight) (sym (canonical-no_extra Evbdd refl ds l t))) ∙ ap (tree (pos 0) (pos 0)) (ap (λ (x : Tree). x.shape) e)
left_of_summand StarBmd ds l c t u e = e
left_of_summand Hdd ds l c t u e = e
left_of_summand KStarBmd ds l c t u e =
    let v = canonical KStarBmd ds l t in
    let same_weight : v.root.weight ≡ u.root.weight = ap (λ (x : Tree). x.root.weight) e in
    let same_extra : v.root.extra ≡ pos 0 = plus-cancel c v.root.extra (pos 0) (ap (λ (x : Tree). x.root.extra) e) in
    sym (with_weights v u.root.weight (pos 0) (sym same_weight) (sym same_extra)) ∙ ap (tree u.root.weight (pos 0)) (ap (λ (x : Tree). x.shape) e)

pub summands_are_taken : SummandsAreTaken
summands_are_taken k ds l t allowed o =
    let u = canonical k ds l t in
    let c = summand_of k u.root in
    let left = unshifted_tree k u in
    let rest = table k ds l left in
    let over = IsOver-table k ds l left in
    let summand = is_summand k u.root in
    let back = summand_put_back k ds l t in
    let raised : t ≡ raised_by c rest =
    sym (table-canonical k ds l t allowed o) ∙ sym (ap (table k ds l) back) ∙ shifted_trees_stand k ds l c left summand in
    record {
      is_summand = summand;
      rest = rest;
      over = over;
      is_raised = raised;
      is_left = left_of_summand k ds l c rest u (sym (summands_go_through k ds l c rest summand allowed over) ∙ sym (ap (canonical k ds l) raised) ∙ sym back);
      put_back = back;
    }

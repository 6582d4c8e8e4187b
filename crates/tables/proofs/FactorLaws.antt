-- Factors of tables and of their canonical diagrams.
use Rattle.std.proofs.Common.{◌≡◌, refl, sym, ◌∙◌, ap, ℕ, ◌+◌, ◌*◌, ◌<◌, ◌≤◌, ℤ, pos, ◌+ℤ◌, ◌-ℤ◌, ◌*ℤ◌, List, [], ◌∷◌, Bool, true, false, ◌&&◌, arith}
use Rattle.std.specs.Prelude.{◌≢◌, ◌^◌, int_div, unsigned_abs, if◌then◌else◌}
use Rattle.std.specs.Ordering.{int_eq}
use Rattle.std.proofs.lemmas.Bool.{and_from, and_parts, ltb-true, lt-ltb}
use Rattle.std.proofs.lemmas.Bool.Decides.{Decides-int_eq, Decides-like, same_from_decides}
use Rattle.std.proofs.lemmas.Int.{ints, unsigned_abs-mul}
use Rattle.std.proofs.lemmas.Nat.{mul-le}
use Rattle.std.proofs.Math.IntN.{*ℤ-zero}
use Rattle.integers.specs.Gcd.{signed_gcd}
use Rattle.integers.proofs.Division.{exact_div, int_div-by_zero}
use Rattle.integers.proofs.Ring.{*ℤ_assoc, *ℤ-distrib_left, *ℤ-distrib_sub_left, *ℤ-cancel_left, *ℤ-nonzero, *ℤ_one, one-*ℤ, unsigned_abs-zero, equal_from_difference}
use Rattle.integers.proofs.SignedGcd.{signed_gcd-times_first, signed_gcd-times_second, signed_gcd-times_third, signed_gcd-is_zero, signed_gcd-multiples}
use Rattle.word_base.specs.Range.{in_range}
use Rattle.word_base.specs.declared.decomp.Decomp.{Decomp}
use Rattle.word_base.specs.declared.decomp.Decomp.TheVariants.{S, P, N}
use Rattle.word_base.specs.declared.kind_name.KindName.{KindName}
use Rattle.word_base.specs.declared.kind_name.KindName.TheVariants.{Evbdd, StarBmd, Hdd, KStarBmd}
use Rattle.tables.specs.Table.{Table, entry, halves, multiple, part0, part1}
use Rattle.tables.specs.Tree.{Weights, leaf, node, Tree, weights, tree, constant, same_shape, same, skips, star_bmd_node, k_star_bmd_node, k_star_bmd_rest, node_join, tjoin}
use Rattle.tables.specs.Meaning.{weighed, shape_table, table}
use Rattle.tables.specs.Canonical.{canonical, IsCanonical, add_nodes}
use Rattle.tables.specs.Fits.{weights_in_range, difference_in_range, fits}
use Rattle.tables.specs.Factors.{IsFactor, factor_of, scaled_weights, scaled_tree, unscaled_tree}
use Rattle.tables.specs.Laws.{are_allowed, AreJoinable, IsSkip, ScaledTreesStand, FactorsGoThrough, MultiplesKeepNodes, FactorsFit, FactorsAreTaken, FactorIsZero}
use Rattle.tables.proofs.TableLaws.{each-same, each-each, part0-each, part1-multiple}
use Rattle.tables.proofs.TreeLaws.{chosen_of, int_eq-same, IsOver-table}
use Rattle.tables.proofs.KindLaws.{by_joins, canonical-no_extra, with_weights}
use Rattle.tables.proofs.Moment.{weightless}
use Rattle.tables.proofs.CanonicalLaws.{rule_of, table-canonical}

-- ---- integers

-- the quotient of two multiples by one number
quotient_of_multiples : (s a g : ℤ) → s ≢ pos 0 → g *ℤ int_div a g ≡ a → int_div (s *ℤ a) (s *ℤ g) ≡ int_div a g
quotient_of_multiples s a g some h = by_test (int_eq g (pos 0)) refl
  where
    by_test : (b : Bool) → int_eq g (pos 0) ≡ b → int_div (s *ℤ a) (s *ℤ g) ≡ int_div a g
    by_test true e =
        let none = int_eq-same g (pos 0) e in
        ap (λ (z : ℤ). int_div (s *ℤ a) (s *ℤ z)) none ∙ ap (int_div (s *ℤ a)) (*ℤ-zero s) ∙ int_div-by_zero (s *ℤ a)
        ∙ sym (ap (int_div a) none ∙ int_div-by_zero a)
    by_test false e =
        exact_div (s *ℤ a) (s *ℤ g) (int_div a g)
        (*ℤ-nonzero s g some (λ z. let same : int_eq g (pos 0) ≡ true = (Decides-int_eq g (pos 0)).1 z in cc))
        (sym (*ℤ_assoc s g (int_div a g) ∙ ap (λ (z : ℤ). s *ℤ z) h))

multiples-same : (s x y : ℤ) → s ≢ pos 0 → int_eq (s *ℤ x) (s *ℤ y) ≡ int_eq x y
multiples-same s x y some =
    same_from_decides (int_eq (s *ℤ x) (s *ℤ y)) (int_eq x y)
    (Decides-like (int_eq (s *ℤ x) (s *ℤ y)) (*ℤ-cancel_left s x y some) (ap (λ (z : ℤ). s *ℤ z)) (Decides-int_eq (s *ℤ x) (s *ℤ y)))
    (Decides-int_eq x y)

multiple-is_zero : (s x : ℤ) → s ≢ pos 0 → int_eq (s *ℤ x) (pos 0) ≡ int_eq x (pos 0)
multiple-is_zero s x some = sym (ap (int_eq (s *ℤ x)) (*ℤ-zero s)) ∙ multiples-same s x (pos 0) some

-- a number is in range where a multiple of it is
in_range-from_multiple : (s x : ℤ) → s ≢ pos 0 → in_range (s *ℤ x) ≡ true → in_range x ≡ true
in_range-from_multiple s x some h =
    let limit = 2 ^ 127 in
    let below : unsigned_abs (s *ℤ x) < limit = ltb-true (unsigned_abs (s *ℤ x)) limit h in
    let product : unsigned_abs (s *ℤ x) ≡ unsigned_abs s * unsigned_abs x = unsigned_abs-mul s x in
    let positive : 1 ≤ unsigned_abs s = at_least_one (unsigned_abs s) (λ e. some (unsigned_abs-zero s e)) in
    let less = mul-le 1 (unsigned_abs x) (unsigned_abs s) (unsigned_abs x) positive (omega arith) in
    lt-ltb (unsigned_abs x) limit (within (unsigned_abs x) (unsigned_abs s * unsigned_abs x) (unsigned_abs (s *ℤ x)) limit less product below)
  where
    at_least_one : (n : ℕ) → n ≢ 0 → 1 ≤ n
    at_least_one n h = omega arith

    within : (x y z limit : ℕ) → 1 * x ≤ y → z ≡ y → z < limit → x < limit
    within x y z limit p q r = omega arith

-- ---- joins of trees times a factor
zero-scaled : (s : ℤ) (t : Tree) → s ≢ pos 0 → same (scaled_tree KStarBmd s t) (constant KStarBmd (pos 0)) ≡ same t (constant KStarBmd (pos 0))
zero-scaled s t some =
    ap (λ (b : Bool). (b && int_eq (s *ℤ t.root.extra) (pos 0)) && same_shape t.shape leaf) (multiple-is_zero s t.root.weight some)
    ∙ ap (λ (b : Bool). (int_eq t.root.weight (pos 0) && b) && same_shape t.shape leaf) (multiple-is_zero s t.root.extra some)

skips-scaled : (k : KindName) (d : Decomp) (s : ℤ) (low high : Tree) → IsFactor k s → skips k d (scaled_tree k s low) (scaled_tree k s high) ≡ skips k d low high
skips-scaled Evbdd d s low high h = refl
skips-scaled StarBmd d s low high h = multiple-is_zero s high.root.weight h
skips-scaled Hdd d s low high h = refl
skips-scaled KStarBmd S s low high h =
    ap (λ (b : Bool). (b && int_eq (s *ℤ low.root.extra) (s *ℤ high.root.extra)) && same_shape low.shape high.shape) (multiples-same s low.root.weight high.root.weight h)
    ∙ ap (λ (b : Bool). (int_eq low.root.weight high.root.weight && b) && same_shape low.shape high.shape) (multiples-same s low.root.extra high.root.extra h)
skips-scaled KStarBmd P s low high h = zero-scaled s high h
skips-scaled KStarBmd N s low high h = zero-scaled s high h

quotients-scaled_star_bmd : (l : ℕ) (s g : ℤ) (low high : Tree) → s ≢ pos 0 → g *ℤ int_div low.root.weight g ≡ low.root.weight → g *ℤ int_div high.root.weight g ≡ high.root.weight →
    star_bmd_node l (s *ℤ g) (scaled_tree StarBmd s low) (scaled_tree StarBmd s high) ≡ scaled_tree StarBmd s (star_bmd_node l g low high)
quotients-scaled_star_bmd l s g low high some p q =
    let made : ℤ → ℤ → Tree = λ v w. tree (s *ℤ g) (pos 0) (node l (weights v (pos 0)) low.shape (weights w (pos 0)) high.shape) in
    ap (λ (v : ℤ). made v (int_div (s *ℤ high.root.weight) (s *ℤ g))) (quotient_of_multiples s low.root.weight g some p)
    ∙ ap (made (int_div low.root.weight g)) (quotient_of_multiples s high.root.weight g some q)

quotients-scaled_k_star_bmd : (l : ℕ) (s c g : ℤ) (low high : Tree) → s ≢ pos 0 → g *ℤ int_div low.root.weight g ≡ low.root.weight →
    g *ℤ int_div high.root.weight g ≡ high.root.weight → g *ℤ int_div c g ≡ c →
    k_star_bmd_node l (s *ℤ c) (s *ℤ g) (scaled_tree KStarBmd s low) (scaled_tree KStarBmd s high) ≡ scaled_tree KStarBmd s (k_star_bmd_node l c g low high)
quotients-scaled_k_star_bmd l s c g low high some p q r =
    let made : ℤ → ℤ → ℤ → Tree = λ v w e. tree (s *ℤ g) (s *ℤ low.root.extra) (node l (weights v (pos 0)) low.shape (weights w e) high.shape) in
    let v = int_div low.root.weight g in
    ap (λ (x : ℤ). made x (int_div (s *ℤ high.root.weight) (s *ℤ g)) (int_div (s *ℤ c) (s *ℤ g))) (quotient_of_multiples s low.root.weight g some p)
    ∙ ap (λ (x : ℤ). made v x (int_div (s *ℤ c) (s *ℤ g))) (quotient_of_multiples s high.root.weight g some q)
    ∙ ap (made v (int_div high.root.weight g)) (quotient_of_multiples s c g some r)

rest-scaled : (d : Decomp) (s : ℤ) (low high : Tree) → k_star_bmd_rest d (scaled_tree KStarBmd s low) (scaled_tree KStarBmd s high) ≡ s *ℤ k_star_bmd_rest d low high
rest-scaled S s low high = sym (*ℤ-distrib_sub_left s high.root.extra low.root.extra)
rest-scaled P s low high = refl
rest-scaled N s low high = refl

node_join-scaled : (k : KindName) (d : Decomp) (l : ℕ) (s : ℤ) (low high : Tree) → IsFactor k s →
    node_join k d l (scaled_tree k s low) (scaled_tree k s high) ≡ scaled_tree k s (node_join k d l low high)
node_join-scaled Evbdd d l s low high h = refl
node_join-scaled StarBmd d l s low high h =
    let a = low.root.weight in
    let b = high.root.weight in
    let g = signed_gcd a b (pos 0) in
    let divisor : signed_gcd (s *ℤ a) (s *ℤ b) (pos 0) ≡ s *ℤ g =
    ap (signed_gcd (s *ℤ a) (s *ℤ b)) (sym (*ℤ-zero s)) ∙ signed_gcd-multiples s a b (pos 0) in
    ap (λ (z : ℤ). star_bmd_node l z (scaled_tree StarBmd s low) (scaled_tree StarBmd s high)) divisor
    ∙ quotients-scaled_star_bmd l s g low high h (signed_gcd-times_first a b (pos 0)) (signed_gcd-times_second a b (pos 0))
node_join-scaled Hdd d l s low high h = refl
node_join-scaled KStarBmd d l s low high h =
    let a = low.root.weight in
    let b = high.root.weight in
    let c = k_star_bmd_rest d low high in
    let g = signed_gcd a b c in
    let made : ℤ → ℤ → Tree = λ x y. k_star_bmd_node l x y (scaled_tree KStarBmd s low) (scaled_tree KStarBmd s high) in
    ap (λ (x : ℤ). made x (signed_gcd (s *ℤ a) (s *ℤ b) x)) (rest-scaled d s low high)
    ∙ ap (made (s *ℤ c)) (signed_gcd-multiples s a b c)
    ∙ quotients-scaled_k_star_bmd l s c g low high h (signed_gcd-times_first a b c) (signed_gcd-times_second a b c) (signed_gcd-times_third a b c)

tjoin-scaled : (k : KindName) (d : Decomp) (l : ℕ) (s : ℤ) (low high : Tree) → IsFactor k s →
    tjoin k d l (scaled_tree k s low) (scaled_tree k s high) ≡ scaled_tree k s (tjoin k d l low high)
tjoin-scaled k d l s low high h =
    let scaled : Tree → Tree = scaled_tree k s in
    ap (λ (b : Bool). if b then scaled low else node_join k d l (scaled low) (scaled high)) (skips-scaled k d s low high h)
    ∙ ap (λ (t : Tree). if skips k d low high then scaled low else t) (node_join-scaled k d l s low high h)
    ∙ chosen_of scaled (skips k d low high) low (node_join k d l low high)

-- ---- tables of trees times a factor
one_times : (s x : ℤ) → s ≡ pos 1 → s *ℤ x ≡ x
one_times s x h = ap (λ (z : ℤ). z *ℤ x) h ∙ one-*ℤ x

weighed-scaled : (k : KindName) (s : ℤ) (w : Weights) (v : ℤ) → IsFactor k s → weighed k (scaled_weights k s w) v ≡ s *ℤ weighed k w v
weighed-scaled Evbdd s w v h = sym (one_times s (w.weight +ℤ v) h)
weighed-scaled StarBmd s w v h = *ℤ_assoc s w.weight v
weighed-scaled Hdd s w v h = sym (one_times s (w.weight +ℤ v) h)
weighed-scaled KStarBmd s w v h =
    ap (λ (z : ℤ). s *ℤ w.extra +ℤ z) (*ℤ_assoc s w.weight v) ∙ sym (*ℤ-distrib_left s w.extra (w.weight *ℤ v))

pub scaled_trees_stand : ScaledTreesStand
scaled_trees_stand k ds l s t h =
    let below = shape_table k ds l t.shape in
    each-same (weighed k (scaled_weights k s t.root)) (λ v. s *ℤ weighed k t.root v) (λ v. weighed-scaled k s t.root v h) below
    ∙ sym (each-each (λ v. s *ℤ v) (weighed k t.root) below)

-- ---- canonical diagrams of multiples
constant-scaled : (k : KindName) (s c : ℤ) → IsFactor k s → constant k (s *ℤ c) ≡ scaled_tree k s (constant k c)
constant-scaled Evbdd s c h = ap (constant Evbdd) (one_times s c h)
constant-scaled StarBmd s c h = refl
constant-scaled Hdd s c h = ap (constant Hdd) (one_times s c h)
constant-scaled KStarBmd s c h = ap (λ (z : ℤ). tree z (s *ℤ c) leaf) (sym (*ℤ-zero s))

pub factors_go_through : FactorsGoThrough
factors_go_through k ds l s (entry x) h = constant-scaled k s x h
factors_go_through k [] l s (halves lo hi) h = ap (constant k) (sym (*ℤ-zero s)) ∙ constant-scaled k s (pos 0) h
factors_go_through k (d ∷ ds) l s (halves lo hi) h =
    let t = halves lo hi in
    let below : Table → Tree = canonical k ds (l + 1) in
    let low = below (part0 d t) in
    ap (λ (u : Table). tjoin k d l (below u) (below (part1 d (multiple s t)))) (part0-each d (λ x. s *ℤ x) t)
    ∙ ap (λ (u : Table). tjoin k d l (below (multiple s (part0 d t))) (below u)) (part1-multiple d s t)
    ∙ ap (λ (u : Tree). tjoin k d l u (below (multiple s (part1 d t)))) (factors_go_through k ds (l + 1) s (part0 d t) h)
    ∙ ap (tjoin k d l (scaled_tree k s low)) (factors_go_through k ds (l + 1) s (part1 d t) h)
    ∙ tjoin-scaled k d l s low (below (part1 d t)) h

pub multiples_keep_nodes : MultiplesKeepNodes
multiples_keep_nodes k ds l s t h = ap (λ (u : Tree). add_nodes u.shape []) (factors_go_through k ds l s t h)

-- ---- multiples that fit
root_fits : (k : KindName) (ds : List Decomp) (l : ℕ) (s : ℤ) (t : Table) → IsFactor k s →
    weights_in_range (scaled_weights k s (canonical k ds l t).root) ≡ true → weights_in_range (canonical k ds l t).root ≡ true
root_fits Evbdd ds l s t h f = f
root_fits StarBmd ds l s t h f =
    let w = (canonical StarBmd ds l t).root in
    and_from _ _ (in_range-from_multiple s w.weight h (and_parts _ _ f).0) (ap in_range (canonical-no_extra StarBmd refl ds l t))
root_fits Hdd ds l s t h f = f
root_fits KStarBmd ds l s t h f =
    let w = (canonical KStarBmd ds l t).root in
    let both = and_parts (in_range (s *ℤ w.weight)) (in_range (s *ℤ w.extra)) f in
    and_from _ _ (in_range-from_multiple s w.weight h both.0) (in_range-from_multiple s w.extra h both.1)

difference_fits : (k : KindName) (d : Decomp) (s : ℤ) (low high : Tree) → IsFactor k s →
    difference_in_range k d (scaled_tree k s low) (scaled_tree k s high) ≡ true → difference_in_range k d low high ≡ true
difference_fits Evbdd d s low high h f = f
difference_fits StarBmd d s low high h f = refl
difference_fits Hdd d s low high h f = refl
difference_fits KStarBmd S s low high h f =
    in_range-from_multiple s (high.root.extra -ℤ low.root.extra) h (ap in_range (*ℤ-distrib_sub_left s high.root.extra low.root.extra) ∙ f)
difference_fits KStarBmd P s low high h f = refl
difference_fits KStarBmd N s low high h f = refl

root_of_multiple-fits : (k : KindName) (ds : List Decomp) (s : ℤ) (t : Table) → IsFactor k s →
    weights_in_range (canonical k ds 0 (multiple s t)).root ≡ true → weights_in_range (canonical k ds 0 t).root ≡ true
root_of_multiple-fits k ds s t h f =
    root_fits k ds 0 s t h (sym (ap (λ (u : Tree). weights_in_range u.root) (factors_go_through k ds 0 s t h)) ∙ f)

pub factors_fit : FactorsFit
factors_fit k [] s (entry x) h f = root_of_multiple-fits k [] s (entry x) h f
factors_fit k (d ∷ ds) s (entry x) h f = root_of_multiple-fits k (d ∷ ds) s (entry x) h f
factors_fit k [] s (halves lo hi) h f = refl
factors_fit k (d ∷ ds) s (halves lo hi) h f =
    let t = halves lo hi in
    let p = part0 d t in
    let q = part1 d t in
    let tree_of : Table → Tree = canonical k ds 1 in
    let low : part0 d (multiple s t) ≡ multiple s p = part0-each d (λ x. s *ℤ x) t in
    let high : part1 d (multiple s t) ≡ multiple s q = part1-multiple d s t in
    let root = weights_in_range (canonical k (d ∷ ds) 0 (multiple s t)).root in
    let near = difference_in_range k d (tree_of (part0 d (multiple s t))) (tree_of (part1 d (multiple s t))) in
    let lows = fits k ds (part0 d (multiple s t)) in
    let highs = fits k ds (part1 d (multiple s t)) in
    let all = and_parts root (near && (lows && highs)) f in
    let rest = and_parts near (lows && highs) all.1 in
    let below = and_parts lows highs rest.1 in
    let nearer : difference_in_range k d (scaled_tree k s (tree_of p)) (scaled_tree k s (tree_of q)) ≡ true =
    sym (ap (λ (u : Tree). difference_in_range k d u (tree_of (part1 d (multiple s t)))) (ap tree_of low ∙ factors_go_through k ds 1 s p h)
    ∙ ap (difference_in_range k d (scaled_tree k s (tree_of p))) (ap tree_of high ∙ factors_go_through k ds 1 s q h))
    ∙ rest.0 in
    and_from _ _ (root_of_multiple-fits k (d ∷ ds) s t h all.0)
    (and_from _ _ (difference_fits k d s (tree_of p) (tree_of q) h nearer)
    (and_from _ _
    (factors_fit k ds s p h (sym (ap (fits k ds) low) ∙ below.0))
    (factors_fit k ds s q h (sym (ap (fits k ds) high) ∙ below.1))))

-- ---- the factor of a canonical diagram
pub is_factor : (k : KindName) (w : Weights) → factor_of k w ≢ pos 0 → IsFactor k (factor_of k w)
is_factor Evbdd w some = refl
is_factor StarBmd w some = some
is_factor Hdd w some = refl
is_factor KStarBmd w some = some

-- a tree without its factor, times the factor, is the tree
factor_put_back : (k : KindName) (ds : List Decomp) (l : ℕ) (t : Table) →
    scaled_tree k (factor_of k (canonical k ds l t).root) (unscaled_tree k (canonical k ds l t)) ≡ canonical k ds l t
factor_put_back Evbdd ds l t = refl
factor_put_back StarBmd ds l t =
    let u = canonical StarBmd ds l t in with_weights u _ _ (*ℤ_one u.root.weight) (sym (canonical-no_extra StarBmd refl ds l t))
factor_put_back Hdd ds l t = refl
factor_put_back KStarBmd ds l t =
    let u = canonical KStarBmd ds l t in
    with_weights u _ _ (signed_gcd-times_first u.root.weight u.root.extra (pos 0)) (signed_gcd-times_second u.root.weight u.root.extra (pos 0))

-- a tree whose multiple is the tree is what is left
left_of_factor : (k : KindName) (ds : List Decomp) (l : ℕ) (s : ℤ) (t : Table) (u : Tree) → IsFactor k s →
    scaled_tree k s (canonical k ds l t) ≡ scaled_tree k s (unscaled_tree k u) → canonical k ds l t ≡ unscaled_tree k u
left_of_factor Evbdd ds l s t u h e = e
left_of_factor StarBmd ds l s t u h e =
    let v = canonical StarBmd ds l t in
    let same_weight : v.root.weight ≡ pos 1 = *ℤ-cancel_left s v.root.weight (pos 1) h (ap (λ (x : Tree). x.root.weight) e) in
    sym (with_weights v (pos 1) (pos 0) (sym same_weight) (sym (canonical-no_extra StarBmd refl ds l t))) ∙ ap (tree (pos 1) (pos 0)) (ap (λ (x : Tree). x.shape) e)
left_of_factor Hdd ds l s t u h e = e
left_of_factor KStarBmd ds l s t u h e =
    let v = canonical KStarBmd ds l t in
    let w = unscaled_tree KStarBmd u in
    let same_weight : v.root.weight ≡ w.root.weight = *ℤ-cancel_left s v.root.weight w.root.weight h (ap (λ (x : Tree). x.root.weight) e) in
    let same_extra : v.root.extra ≡ w.root.extra = *ℤ-cancel_left s v.root.extra w.root.extra h (ap (λ (x : Tree). x.root.extra) e) in
    sym (with_weights v w.root.weight w.root.extra (sym same_weight) (sym same_extra)) ∙ ap (tree w.root.weight w.root.extra) (ap (λ (x : Tree). x.shape) e)

pub factors_are_taken : FactorsAreTaken
factors_are_taken k ds l t allowed o some =
    let u = canonical k ds l t in
    let s = factor_of k u.root in
    let left = unscaled_tree k u in
    let rest = table k ds l left in
    let factor = is_factor k u.root some in
    let back = factor_put_back k ds l t in
    let multiplied : t ≡ multiple s rest =
    sym (table-canonical k ds l t allowed o) ∙ sym (ap (table k ds l) back) ∙ scaled_trees_stand k ds l s left factor in
    record {
      is_factor = factor;
      rest = rest;
      over = IsOver-table k ds l left;
      is_multiple = multiplied;
      is_left = left_of_factor k ds l s rest u factor (sym (factors_go_through k ds l s rest factor) ∙ sym (ap (canonical k ds l) multiplied) ∙ sym back);
      put_back = back;
    }

-- a K*BMD with the multiplicative weight 0 is a constant, since that of an edge to a node is a divisor of numbers that are not all 0
weightless_leaf : (ds : List Decomp) (l : ℕ) (t : Tree) → are_allowed KStarBmd ds ≡ true → IsCanonical KStarBmd ds l t → t.root.weight ≡ pos 0 → t.shape ≡ leaf
weightless_leaf = by_joins KStarBmd (λ t. t.root.weight ≡ pos 0 → t.shape ≡ leaf) (λ c e. refl) at_node
  where
    skipped : (d : Decomp) (low high : Tree) → low.root.weight ≡ pos 0 → high.root.weight ≡ pos 0 → k_star_bmd_rest d low high ≡ pos 0 →
        low.shape ≡ leaf → high.shape ≡ leaf → IsSkip KStarBmd d low high
    skipped S low high p q r s t =
        ap (tree low.root.weight low.root.extra) (s ∙ sym t)
        ∙ with_weights high low.root.weight low.root.extra (p ∙ sym q) (sym (equal_from_difference high.root.extra low.root.extra r))
    skipped P low high p q r s t = sym (with_weights high (pos 0) (pos 0) (sym q) (sym r)) ∙ ap (tree (pos 0) (pos 0)) t
    skipped N low high p q r s t = sym (with_weights high (pos 0) (pos 0) (sym q) (sym r)) ∙ ap (tree (pos 0) (pos 0)) t

    at_node : (d : Decomp) (ds : List Decomp) (l : ℕ) (low high : Tree) → AreJoinable KStarBmd d ds l low high →
        (low.root.weight ≡ pos 0 → low.shape ≡ leaf) → (high.root.weight ≡ pos 0 → high.shape ≡ leaf) →
        skips KStarBmd d low high ≡ false → (node_join KStarBmd d l low high).root.weight ≡ pos 0 → (node_join KStarBmd d l low high).shape ≡ leaf
    at_node d ds l low high j p q s e =
        let none = (signed_gcd-is_zero low.root.weight high.root.weight (k_star_bmd_rest d low high)).0 e in
        let skips_here : skips KStarBmd d low high ≡ true =
        (rule_of KStarBmd).skip_told d ds l low high j (skipped d low high none.0 none.1 none.2 (p none.0) (q none.1)) in
        absurd (cc)

pub factor_is_zero : FactorIsZero
factor_is_zero Evbdd ds l t allowed c e = absurd (omega (arith, ints, e))
factor_is_zero StarBmd ds l t allowed c e = weightless ds l t allowed c e
factor_is_zero Hdd ds l t allowed c e = absurd (omega (arith, ints, e))
factor_is_zero KStarBmd ds l t allowed c e =
    let none = (signed_gcd-is_zero t.root.weight t.root.extra (pos 0)).0 e in
    sym (with_weights t (pos 0) (pos 0) (sym none.0) (sym none.1)) ∙ ap (tree (pos 0) (pos 0)) (weightless_leaf ds l t allowed c none.0)

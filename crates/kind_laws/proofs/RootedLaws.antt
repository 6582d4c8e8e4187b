-- The weights of an edge that stands for a table are normal.
use Rattle.std.proofs.Common.{◌≡◌, refl, sym, ◌∙◌, ap, subst, ℕ, ◌+◌, ℤ, pos, ◌-ℤ◌, List, true, false, arith, inl, inr}
use Rattle.std.specs.Prelude.{None, ◌⊎◌}
use Rattle.std.proofs.lemmas.Int.{ints}
use Rattle.integers.proofs.SignedGcd.{signed_gcd-is_zero}
use Rattle.word_base.specs.declared.decomp.Decomp.{Decomp}
use Rattle.word_base.specs.declared.decomp.Decomp.TheVariants.{S, P, N}
use Rattle.word_base.specs.declared.kind_name.KindName.{KindName}
use Rattle.word_base.specs.declared.kind_name.KindName.TheVariants.{Evbdd, StarBmd, Hdd, KStarBmd}
use Rattle.tables.specs.Table.{Table}
use Rattle.tables.specs.Tree.{Weights, leaf, Tree, constant, skips, node_join, k_star_bmd_rest}
use Rattle.tables.specs.Canonical.{canonical, IsCanonical}
use Rattle.tables.specs.Laws.{are_allowed, AreJoinable, IsSkip}
use Rattle.tables.proofs.CanonicalLaws.{rule_of, allowed_below}
use Rattle.tables.proofs.KindLaws.{by_joins, leaves, no_extra, canonical_stands}
use Rattle.tables.proofs.Moment.{weightless}
use Rattle.kind_laws.specs.Graph.{Lookup, HasShape, StandsFor}
use Rattle.kind_laws.specs.Kind.{IsRooted}
use Rattle.kind_laws.proofs.GraphLaws.{leaf_of_zero}

-- an edge of a hybrid diagram to a node has the weight 0
node_weight : (ds : List Decomp) (l : ℕ) (t : Tree) → are_allowed Hdd ds ≡ true → IsCanonical Hdd ds l t → (t.shape ≡ leaf) ⊎ (t.root.weight ≡ pos 0)
node_weight = by_joins Hdd (λ t. (t.shape ≡ leaf) ⊎ (t.root.weight ≡ pos 0)) (λ c. inl refl) (λ d ds l low high j p q s. inr refl)

-- ---- an edge of a K*BMD of weight 0 leads to the leaf
same_numbers : (x y : ℤ) → y -ℤ x ≡ pos 0 → x ≡ y
same_numbers x y e = omega (arith, ints, e)

constant_of : (ds : List Decomp) (l : ℕ) (t : Tree) → are_allowed KStarBmd ds ≡ true → IsCanonical KStarBmd ds l t → t.shape ≡ leaf → t ≡ constant KStarBmd t.root.extra
constant_of ds l t allowed c e =
    let is = leaves KStarBmd ds l t allowed c e in
    is.1 ∙ ap (constant KStarBmd) (sym (ap (λ (u : Tree). u.root.extra) is.1))

is_skip : (d : Decomp) (low high : Tree) → low ≡ constant KStarBmd low.root.extra → high ≡ constant KStarBmd high.root.extra → k_star_bmd_rest d low high ≡ pos 0 →
    IsSkip KStarBmd d low high
is_skip S low high p q e = p ∙ ap (constant KStarBmd) (same_numbers low.root.extra high.root.extra e) ∙ sym q
is_skip P low high p q e = q ∙ ap (constant KStarBmd) e
is_skip N low high p q e = q ∙ ap (constant KStarBmd) e

weightless_leaf : (ds : List Decomp) (l : ℕ) (t : Tree) → are_allowed KStarBmd ds ≡ true → IsCanonical KStarBmd ds l t → t.root.weight ≡ pos 0 → t.shape ≡ leaf
weightless_leaf = by_joins KStarBmd (λ t. t.root.weight ≡ pos 0 → t.shape ≡ leaf) (λ c e. refl) at_node
  where
    at_node : (d : Decomp) (ds : List Decomp) (l : ℕ) (low high : Tree) → AreJoinable KStarBmd d ds l low high →
        (low.root.weight ≡ pos 0 → low.shape ≡ leaf) → (high.root.weight ≡ pos 0 → high.shape ≡ leaf) →
        skips KStarBmd d low high ≡ false → (node_join KStarBmd d l low high).root.weight ≡ pos 0 → (node_join KStarBmd d l low high).shape ≡ leaf
    at_node d ds l low high j p q s e =
        let none = (signed_gcd-is_zero low.root.weight high.root.weight (k_star_bmd_rest d low high)).0 e in
        let below = allowed_below KStarBmd d ds j.allowed in
        let lows = constant_of ds (l + 1) low below j.low_canonical (p none.0) in
        let highs = constant_of ds (l + 1) high below j.high_canonical (q none.1) in
        let skipped = (rule_of KStarBmd).skip_told d ds l low high j (is_skip d low high lows highs none.2) in
        absurd (cc)

-- ---- every kind
by_kind : (k : KindName) (find : Lookup) (ds : List Decomp) (l : ℕ) (t : Tree) (root : Weights) (id : ℕ) → are_allowed k ds ≡ true → find 0 ≡ None →
    IsCanonical k ds l t → root ≡ t.root → HasShape k find id t.shape → IsRooted k (record { root = root; node = id })
by_kind Evbdd find ds l t root id allowed no_zero c is h = ap (λ (w : Weights). w.extra) is ∙ no_extra Evbdd refl ds l t allowed c
by_kind StarBmd find ds l t root id allowed no_zero c is h = (
  ap (λ (w : Weights). w.extra) is ∙ no_extra StarBmd refl ds l t allowed c,
  λ e. subst (HasShape StarBmd find id) (ap (λ (u : Tree). u.shape) (weightless ds l t allowed c (ap (λ (w : Weights). w.weight) (sym is) ∙ e))) h,
)
by_kind Hdd find ds l t root id allowed no_zero c is h = (
  ap (λ (w : Weights). w.extra) is ∙ no_extra Hdd refl ds l t allowed c,
  λ apart. elim (node_weight ds l t allowed c) [
    | inl e ↦ absurd (apart (subst (HasShape Hdd find id) e h))
    | inr e ↦ ap (λ (w : Weights). w.weight) is ∙ e
  ],
)
by_kind KStarBmd find ds l t root id allowed no_zero c is h = (
  λ e. subst (HasShape KStarBmd find id) (weightless_leaf ds l t allowed c (ap (λ (w : Weights). w.weight) (sym is) ∙ e)) h,
  λ z. ap (λ (w : Weights). w.weight) is
      ∙ ap (λ (u : Tree). u.root.weight) (leaves KStarBmd ds l t allowed c (leaf_of_zero KStarBmd find no_zero t.shape (subst (λ (i : ℕ). HasShape KStarBmd find i t.shape) z h))).1,
)

pub rooted : (k : KindName) (find : Lookup) (ds : List Decomp) (l : ℕ) (t : Table) (root : Weights) (id : ℕ) → are_allowed k ds ≡ true → find 0 ≡ None →
    StandsFor k find ds l t root id → IsRooted k (record { root = root; node = id })
rooted k find ds l t root id allowed no_zero h =
    by_kind k find ds l (canonical k ds l t) root id allowed no_zero (canonical_stands k (rule_of k) ds l t allowed h.over).0 h.root_is h.shape_is

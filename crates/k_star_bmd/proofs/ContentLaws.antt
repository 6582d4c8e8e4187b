-- The weights of nodes of K*BMDs, and the content of edges.
use Rattle.std.proofs.Common.{◌≡◌, refl, sym, ◌∙◌, ap, ℕ, ◌+◌, ◌*◌, ℤ, pos, ◌+ℤ◌, ◌*ℤ◌, List, true, false, arith}
use Rattle.std.specs.Prelude.{unsigned_abs}
use Rattle.std.proofs.Math.Nat.{mul-one}
use Rattle.std.proofs.lemmas.Int.{ints}
use Rattle.integers.specs.Gcd.{gcd, gcd3, signed_gcd}
use Rattle.integers.proofs.GcdLaws.{gcd_comm, gcd_assoc, gcd_exchange, gcd-add, gcd3-multiples}
use Rattle.integers.proofs.SignedGcd.{unsigned_abs-signed_gcd, signed_gcd-is_zero, signed_gcd-quotients}
use Rattle.word_base.specs.declared.decomp.Decomp.{Decomp}
use Rattle.word_base.specs.declared.decomp.Decomp.TheVariants.{S, P, N}
use Rattle.word_base.specs.declared.kind_name.KindName.TheVariants.{KStarBmd}
use Rattle.tables.specs.Tree.{Tree, leaf, constant, skips, k_star_bmd_rest}
use Rattle.tables.specs.Canonical.{IsCanonical}
use Rattle.tables.specs.Laws.{are_allowed, AreJoinable, IsSkip}
use Rattle.tables.proofs.CanonicalLaws.{rule_of, allowed_below}
use Rattle.tables.proofs.KindLaws.{by_joins, leaves}
use Rattle.k_star_bmd.specs.Laws.{HasReducedNode, NodesAreReduced, ReducedKeepsContent}
use Rattle.k_star_bmd.proofs.JoinLaws.{same_number}

-- ---- the divisor of a join that is no skip is not 0

-- an edge of weight 0 is a constant's
constant_of : (ds : List Decomp) (l : ℕ) (t : Tree) → are_allowed KStarBmd ds ≡ true → IsCanonical KStarBmd ds l t → t.shape ≡ leaf → t ≡ constant KStarBmd t.root.extra
constant_of ds l t allowed c e =
    let is = leaves KStarBmd ds l t allowed c e in
    is.1 ∙ ap (constant KStarBmd) (sym (ap (λ (u : Tree). u.root.extra) is.1))

is_skip : (d : Decomp) (low high : Tree) → low ≡ constant KStarBmd low.root.extra → high ≡ constant KStarBmd high.root.extra → k_star_bmd_rest d low high ≡ pos 0 →
    IsSkip KStarBmd d low high
is_skip S low high p q e = p ∙ ap (constant KStarBmd) (same_number low.root.extra high.root.extra e) ∙ sym q
is_skip P low high p q e = q ∙ ap (constant KStarBmd) e
is_skip N low high p q e = q ∙ ap (constant KStarBmd) e

record IsNormal (t : Tree) : Type 0 where
  weightless : t.root.weight ≡ pos 0 → t.shape ≡ leaf
  reduced : HasReducedNode t.shape

divisor_is_some : (d : Decomp) (ds : List Decomp) (l : ℕ) (low high : Tree) → AreJoinable KStarBmd d ds l low high → IsNormal low → IsNormal high →
    skips KStarBmd d low high ≡ false → signed_gcd low.root.weight high.root.weight (k_star_bmd_rest d low high) ≡ pos 0 → ⊥
divisor_is_some d ds l low high j p q s e =
    let none = (signed_gcd-is_zero low.root.weight high.root.weight (k_star_bmd_rest d low high)).0 e in
    let below = allowed_below KStarBmd d ds j.allowed in
    let lows = constant_of ds (l + 1) low below j.low_canonical (p.weightless none.0) in
    let highs = constant_of ds (l + 1) high below j.high_canonical (q.weightless none.1) in
    let skipped = (rule_of KStarBmd).skip_told d ds l low high j (is_skip d low high lows highs none.2) in
    cc

are_normal : (ds : List Decomp) (l : ℕ) (t : Tree) → are_allowed KStarBmd ds ≡ true → IsCanonical KStarBmd ds l t → IsNormal t
are_normal = by_joins KStarBmd IsNormal (λ c. record { weightless = λ e. refl; reduced = tt })
    (λ d ds l low high j p q s. record {
      weightless = λ e. absurd (divisor_is_some d ds l low high j p q s e);
      reduced = signed_gcd-quotients low.root.weight high.root.weight (k_star_bmd_rest d low high) (divisor_is_some d ds l low high j p q s);
    })

pub nodes_are_reduced : NodesAreReduced
nodes_are_reduced ds l t allowed c = (are_normal ds l t allowed c).reduced

-- ---- content

plus_comm : (x y : ℤ) → x +ℤ y ≡ y +ℤ x
plus_comm x y = omega (arith, ints)

-- the root's additive weight a beside the products by its weight m
of_products : (a m v w b : ℤ) → signed_gcd v w b ≡ pos 1 →
    gcd (gcd (unsigned_abs a) (unsigned_abs (m *ℤ v))) (gcd (unsigned_abs (m *ℤ b)) (unsigned_abs (m *ℤ w))) ≡ gcd (unsigned_abs a) (unsigned_abs m)
of_products a m v w b h =
    let x = unsigned_abs a in
    let p = unsigned_abs (m *ℤ v) in
    let q = unsigned_abs (m *ℤ b) in
    let r = unsigned_abs (m *ℤ w) in
    let one : gcd3 v w b ≡ 1 = sym (unsigned_abs-signed_gcd v w b) ∙ ap unsigned_abs h in
    gcd_assoc x p (gcd q r)
    ∙ ap (λ (n : ℕ). gcd x (gcd p n)) (gcd_comm q r)
    ∙ ap (gcd x) (sym (gcd_assoc p r q) ∙ gcd3-multiples m v w b ∙ ap (λ (n : ℕ). unsigned_abs m * n) one ∙ mul-one (unsigned_abs m))

-- at Shannon the high part has the root's additive weight too, which may be left out beside it
of_sum : (a c : ℤ) (p r : ℕ) → gcd (gcd (unsigned_abs a) p) (gcd (unsigned_abs (a +ℤ c)) r) ≡ gcd (gcd (unsigned_abs a) p) (gcd (unsigned_abs c) r)
of_sum a c p r =
    gcd_exchange (unsigned_abs a) p (unsigned_abs (a +ℤ c)) r
    ∙ ap (λ (n : ℕ). gcd n (gcd p r)) (ap (λ (z : ℤ). gcd (unsigned_abs a) (unsigned_abs z)) (plus_comm a c) ∙ gcd-add a c)
    ∙ gcd_exchange (unsigned_abs a) (unsigned_abs c) p r

pub reduced_keeps_content : ReducedKeepsContent
reduced_keeps_content S root f h =
    sym (of_sum root.extra (root.weight *ℤ f.added) (unsigned_abs (root.weight *ℤ f.low_weight)) (unsigned_abs (root.weight *ℤ f.high_weight))
    ∙ of_products root.extra root.weight f.low_weight f.high_weight f.added h)
reduced_keeps_content P root f h = sym (of_products root.extra root.weight f.low_weight f.high_weight f.added h)
reduced_keeps_content N root f h = sym (of_products root.extra root.weight f.low_weight f.high_weight f.added h)

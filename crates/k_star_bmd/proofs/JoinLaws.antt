-- The joins of K*BMDs, by the weights of two edges.
use Rattle.std.proofs.Common.{◌≡◌, ◌≢◌, refl, sym, ◌∙◌, ap, subst, ℕ, ℤ, pos, ◌-ℤ◌, ◌*ℤ◌, ◌^◌, true, not, arith}
use Rattle.std.specs.Prelude.{unsigned_abs, int_div}
use Rattle.std.specs.Int.{◌∣◌}
use Rattle.std.specs.Ordering.{int_eq}
use Rattle.std.proofs.lemmas.Bool.{lt-ltb, not_from_true}
use Rattle.std.proofs.lemmas.Int.{ints}
use Rattle.integers.specs.Gcd.{signed_gcd}
use Rattle.integers.proofs.Ring.{one-*ℤ, *ℤ_one}
use Rattle.integers.proofs.Division.{divides-multiple, exact_div, int_div-of_zero, int_div-by_zero}
use Rattle.integers.proofs.SignedGcd.{signed_gcd-times_first, signed_gcd-times_second, signed_gcd-times_third, signed_gcd-is_zero, signed_gcd-first_alone}
use Rattle.word_base.specs.Range.{InRange, in_range}
use Rattle.word_base.specs.declared.decomp.Decomp.{Decomp}
use Rattle.word_base.specs.declared.decomp.Decomp.TheVariants.{S, P, N}
use Rattle.word_base.specs.declared.kind_name.KindName.TheVariants.{KStarBmd}
use Rattle.tables.specs.Fits.{difference_in_range}
use Rattle.tables.specs.Tree.{Shape, Tree, leaf, node, weights, tree, k_star_bmd_rest, k_star_bmd_node, node_join}
use Rattle.tables.proofs.TreeLaws.{int_eq-refl}
use Rattle.kind_laws.specs.Kind.{IsRooted}
use Rattle.kind_laws.specs.Plain.{PlainEdge, plain_edge, over_shape}
use Rattle.kind_laws.proofs.EdgeLaws.{same_numbers}
use Rattle.k_star_bmd.specs.Additive.{rest_of}
use Rattle.k_star_bmd.specs.Skips.{IsSkip}

-- ---- the divisor g of the weights a and b and of the rest c

pub divides_low : (a b c g : ℤ) → g ≡ signed_gcd a b c → unsigned_abs g ∣ unsigned_abs a
divides_low a b c g is =
    divides-multiple g a (int_div a g) (subst (λ (x : ℤ). a ≡ x *ℤ int_div a x) (sym is) (sym (signed_gcd-times_first a b c)))

pub divides_high : (a b c g : ℤ) → g ≡ signed_gcd a b c → unsigned_abs g ∣ unsigned_abs b
divides_high a b c g is =
    divides-multiple g b (int_div b g) (subst (λ (x : ℤ). b ≡ x *ℤ int_div b x) (sym is) (sym (signed_gcd-times_second a b c)))

pub divides_rest : (a b c g : ℤ) → g ≡ signed_gcd a b c → unsigned_abs g ∣ unsigned_abs c
divides_rest a b c g is =
    divides-multiple g c (int_div c g) (subst (λ (x : ℤ). c ≡ x *ℤ int_div c x) (sym is) (sym (signed_gcd-times_third a b c)))

pub same_number : (x y : ℤ) → y -ℤ x ≡ pos 0 → x ≡ y
same_number x y e = omega (arith, ints, e)

-- two constants whose rest is 0 are a skip
skip_of_rest : (d : Decomp) (low high : PlainEdge) → low.root.weight ≡ pos 0 → low.node ≡ 0 → high.root.weight ≡ pos 0 → high.node ≡ 0 →
    rest_of d low.root.extra high.root.extra ≡ pos 0 → IsSkip d low high
skip_of_rest S low high p i q j e =
    sym (same_numbers low _ _ _ (q ∙ sym p) (sym (same_number low.root.extra high.root.extra e)) (j ∙ sym i))
skip_of_rest P low high p i q j e = sym (same_numbers high _ _ _ (sym q) (sym e) (sym j))
skip_of_rest N low high p i q j e = sym (same_numbers high _ _ _ (sym q) (sym e) (sym j))

pub divisor-nonzero : (d : Decomp) (low high : PlainEdge) (c g : ℤ) → IsRooted KStarBmd low → IsRooted KStarBmd high → (IsSkip d low high → ⊥) →
    c ≡ rest_of d low.root.extra high.root.extra → g ≡ signed_gcd low.root.weight high.root.weight c → g ≢ pos 0
divisor-nonzero d low high c g p q no_skip rest is e =
    let all = (signed_gcd-is_zero low.root.weight high.root.weight c).0 (sym is ∙ e) in
    no_skip (skip_of_rest d low high all.0 (p.0 all.0) all.1 (q.0 all.1) (sym rest ∙ all.2))

-- ---- the rest

rest_is : (d : Decomp) (low high : PlainEdge) (s r : Shape) → k_star_bmd_rest d (over_shape low s) (over_shape high r) ≡ rest_of d low.root.extra high.root.extra
rest_is S low high s r = refl
rest_is P low high s r = refl
rest_is N low high s r = refl

no_difference : (x : ℤ) → x -ℤ x ≡ pos 0
no_difference x = omega (arith, ints)

pub skip-fits : (d : Decomp) (low high : PlainEdge) → IsSkip d low high →
    difference_in_range KStarBmd d (over_shape low leaf) (over_shape high leaf) ≡ true
skip-fits S low high e =
    ap in_range (ap (λ (x : PlainEdge). x.root.extra -ℤ low.root.extra) (sym e) ∙ no_difference low.root.extra)
skip-fits P low high e = refl
skip-fits N low high e = refl

pub rest-fits : (d : Decomp) (low high : PlainEdge) → InRange (rest_of d low.root.extra high.root.extra) →
    difference_in_range KStarBmd d (over_shape low leaf) (over_shape high leaf) ≡ true
rest-fits S low high h = lt-ltb (unsigned_abs (high.root.extra -ℤ low.root.extra)) (2 ^ 127) h
rest-fits P low high h = refl
rest-fits N low high h = refl

-- ---- the joined node has the divisor as its edge's weight, and the quotients by it
pub node_is : (d : Decomp) (l : ℕ) (low high : PlainEdge) (s r : Shape) (c g v b w : ℤ) →
    c ≡ rest_of d low.root.extra high.root.extra → g ≡ signed_gcd low.root.weight high.root.weight c →
    v ≡ int_div low.root.weight g → b ≡ int_div c g → w ≡ int_div high.root.weight g →
    node_join KStarBmd d l (over_shape low s) (over_shape high r) ≡ tree g low.root.extra (node l (weights v (pos 0)) s (weights w b) r)
node_is d l low high s r c g v b w rest is p q t =
    let joined : ℤ → ℤ → Tree = λ x h. k_star_bmd_node l x h (over_shape low s) (over_shape high r) in
    let made : ℤ → ℤ → ℤ → Tree = λ x y z. tree g low.root.extra (node l (weights x (pos 0)) s (weights z y) r) in
    ap (λ (x : ℤ). joined x (signed_gcd low.root.weight high.root.weight x)) (rest_is d low high s r ∙ sym rest)
    ∙ ap (joined c) (sym is)
    ∙ ap (λ (x : ℤ). made x (int_div c g) (int_div high.root.weight g)) (sym p)
    ∙ ap (λ (y : ℤ). made v y (int_div high.root.weight g)) (sym q)
    ∙ ap (made v b) (sym t)

-- ---- the edge that is left as it is: the constant 0, which has no factor, and one of factor 1

same_quotients : (a x : ℤ) (n : ℕ) (g : ℤ) → g ≡ signed_gcd a x (pos 0) → int_div a g ≡ a → int_div x g ≡ x →
    plain_edge a x n ≡ plain_edge (int_div a (signed_gcd a x (pos 0))) (int_div x (signed_gcd a x (pos 0))) n
same_quotients a x n g is p q =
    subst (λ (h : ℤ). plain_edge a x n ≡ plain_edge (int_div a h) (int_div x h) n) is
    (ap (λ (y : ℤ). plain_edge y x n) (sym p) ∙ ap (λ (y : ℤ). plain_edge (int_div a g) y n) (sym q))

pub undivided : (a x : ℤ) (n : ℕ) (g : ℤ) → g ≡ signed_gcd a x (pos 0) → g ≡ pos 0 →
    plain_edge a x n ≡ plain_edge (int_div a (signed_gcd a x (pos 0))) (int_div x (signed_gcd a x (pos 0))) n
undivided a x n g is e =
    let none = (signed_gcd-is_zero a x (pos 0)).0 (sym is ∙ e) in
    same_quotients a x n g is (ap (int_div a) e ∙ int_div-by_zero a ∙ sym none.0) (ap (int_div x) e ∙ int_div-by_zero x ∙ sym none.1)

int_div-by_one : (z : ℤ) → int_div z (pos 1) ≡ z
int_div-by_one z = exact_div z (pos 1) z (λ e. cc) (sym (one-*ℤ z))

pub divided_by_one : (a x : ℤ) (n : ℕ) (g : ℤ) → g ≡ signed_gcd a x (pos 0) → g ≡ pos 1 →
    plain_edge a x n ≡ plain_edge (int_div a (signed_gcd a x (pos 0))) (int_div x (signed_gcd a x (pos 0))) n
divided_by_one a x n g is e = same_quotients a x n g is (ap (int_div a) e ∙ int_div-by_one a) (ap (int_div x) e ∙ int_div-by_one x)

-- ---- an edge that adds nothing has its weight as its factor

pub some_weight : (a : ℤ) → not (int_eq a (pos 0)) ≡ true → a ≢ pos 0
some_weight a h e =
    let none : int_eq a (pos 0) ≡ true = ap (λ (x : ℤ). int_eq x (pos 0)) e ∙ int_eq-refl (pos 0) in
    let no = not_from_true (int_eq a (pos 0)) none in
    cc

factor-alone : (a x : ℤ) → x ≡ pos 0 → a ≡ signed_gcd a x (pos 0)
factor-alone a x e = sym (ap (λ (y : ℤ). signed_gcd a y (pos 0)) e ∙ signed_gcd-first_alone a)

pub divided-alone : (a x : ℤ) (n : ℕ) → x ≡ pos 0 → a ≢ pos 0 →
    plain_edge (pos 1) (pos 0) n ≡ plain_edge (int_div a (signed_gcd a x (pos 0))) (int_div x (signed_gcd a x (pos 0))) n
divided-alone a x n e some =
    let h : ℤ = signed_gcd a x (pos 0) in
    let first : int_div a h ≡ pos 1 = ap (int_div a) (sym (factor-alone a x e)) ∙ exact_div a a (pos 1) some (sym (*ℤ_one a)) in
    let second : int_div x h ≡ pos 0 = ap (λ (y : ℤ). int_div y h) e ∙ int_div-of_zero h in
    ap (λ (y : ℤ). plain_edge y (pos 0) n) (sym first) ∙ ap (λ (y : ℤ). plain_edge (int_div a h) y n) (sym second)

-- The joins of multiplicative binary moment diagrams, by the weights of two edges.
use Rattle.std.proofs.Common.{◌≡◌, ◌≢◌, sym, ◌∙◌, ap, subst, ℕ, ℤ, pos, ◌*ℤ◌, true, false}
use Rattle.std.specs.Prelude.{unsigned_abs, int_div}
use Rattle.std.specs.Int.{◌∣◌}
use Rattle.std.specs.Ordering.{int_eq}
use Rattle.integers.specs.Gcd.{signed_gcd}
use Rattle.integers.proofs.Division.{divides-multiple}
use Rattle.integers.proofs.SignedGcd.{signed_gcd-times_first, signed_gcd-times_second, signed_gcd-is_zero}
use Rattle.tables.specs.Tree.{Shape, Tree, node, weights, tree}
use Rattle.tables.proofs.TreeLaws.{int_eq-refl}

-- ---- the divisor g of the weights a and b

-- it is not 0 at a join that is no skip
pub divisor-nonzero : (a b g : ℤ) → g ≡ signed_gcd a b (pos 0) → int_eq b (pos 0) ≡ false → g ≢ pos 0
divisor-nonzero a b g is some e =
    let none : b ≡ pos 0 = ((signed_gcd-is_zero a b (pos 0)).0 (sym is ∙ e)).1 in
    let skipped : int_eq b (pos 0) ≡ true = ap (λ (x : ℤ). int_eq x (pos 0)) none ∙ int_eq-refl (pos 0) in
    cc

pub divides_low : (a b g : ℤ) → g ≡ signed_gcd a b (pos 0) → unsigned_abs g ∣ unsigned_abs a
divides_low a b g is =
    divides-multiple g a (int_div a g) (subst (λ (x : ℤ). a ≡ x *ℤ int_div a x) (sym is) (sym (signed_gcd-times_first a b (pos 0))))

pub divides_high : (a b g : ℤ) → g ≡ signed_gcd a b (pos 0) → unsigned_abs g ∣ unsigned_abs b
divides_high a b g is =
    divides-multiple g b (int_div b g) (subst (λ (x : ℤ). b ≡ x *ℤ int_div b x) (sym is) (sym (signed_gcd-times_second a b (pos 0))))

-- the joined node has the divisor as the weight of its edge, and the quotients v and w by it
pub node_is : (l : ℕ) (a b g v w : ℤ) (s r : Shape) → g ≡ signed_gcd a b (pos 0) → v ≡ int_div a g → w ≡ int_div b g →
    (let h = signed_gcd a b (pos 0) in tree h (pos 0) (node l (weights (int_div a h) (pos 0)) s (weights (int_div b h) (pos 0)) r))
    ≡ tree g (pos 0) (node l (weights v (pos 0)) s (weights w (pos 0)) r)
node_is l a b g v w s r is low high =
    let made : ℤ → ℤ → ℤ → Tree = λ h x y. tree h (pos 0) (node l (weights x (pos 0)) s (weights y (pos 0)) r) in
    ap (λ (h : ℤ). made h (int_div a h) (int_div b h)) (sym is) ∙ ap (λ (x : ℤ). made g x (int_div b g)) (sym low) ∙ ap (made g v) (sym high)

-- What is taken from an edge and put back gives the edge; and the values of multiples and of sums.
use Rattle.std.proofs.Common.{◌≡◌, refl, sym, ◌∙◌, ap, inl, inr, ℕ, ℤ, pos, ◌+ℤ◌, arith}
use Rattle.std.specs.Prelude.{◌≢◌, ◌⊎◌, zero, suc, negsuc, ◌*ℤ◌, int_div}
use Rattle.std.proofs.lemmas.Int.{ints}
use Rattle.integers.specs.Gcd.{signed_gcd}
use Rattle.integers.proofs.Ring.{*ℤ_assoc, *ℤ-distrib_left, one-*ℤ, *ℤ_one, *ℤ-is_zero}
use Rattle.std.proofs.Math.IntN.{zero-*ℤ, *ℤ-zero}
use Rattle.integers.proofs.Division.{int_div-of_zero}
use Rattle.integers.proofs.SignedGcd.{signed_gcd-times_first, signed_gcd-times_second, signed_gcd-is_zero}
use Rattle.word_base.specs.declared.kind_name.KindName.{KindName}
use Rattle.word_base.specs.declared.kind_name.KindName.TheVariants.{Evbdd, StarBmd, Hdd, KStarBmd}
use Rattle.tables.specs.Tree.{Weights}
use Rattle.tables.specs.Meaning.{weighed}
use Rattle.kind_laws.specs.Kind.{IsRooted}
use Rattle.kind_laws.specs.Plain.{PlainEdge}
use Rattle.kind_laws.specs.Scale.{scale_of, unscaled, MayScale, scaled_node, scaled, shift_of, unshifted, MayShift, shifted}
use Rattle.kind_laws.proofs.EdgeLaws.{same_numbers}

-- ---- nodes of multiples

scaled_node-nonzero : (s : ℤ) (n : ℕ) → s ≢ pos 0 → scaled_node s n ≡ n
scaled_node-nonzero (pos zero) n h = absurd (h refl)
scaled_node-nonzero (pos (suc s)) n h = refl
scaled_node-nonzero (negsuc s) n h = refl

scaled_node-same : (s : ℤ) (n : ℕ) → (s ≡ pos 0 → n ≡ 0) → scaled_node s n ≡ n
scaled_node-same (pos zero) n h = sym (h refl)
scaled_node-same (pos (suc s)) n h = refl
scaled_node-same (negsuc s) n h = refl

scaled_node-is_zero : (s : ℤ) (n : ℕ) → scaled_node s n ≡ 0 → (s ≡ pos 0) ⊎ (n ≡ 0)
scaled_node-is_zero (pos zero) n h = inl refl
scaled_node-is_zero (pos (suc s)) n h = inr h
scaled_node-is_zero (negsuc s) n h = inr h

scaled_node-of_leaf : (s : ℤ) → scaled_node s 0 ≡ 0
scaled_node-of_leaf (pos zero) = refl
scaled_node-of_leaf (pos (suc s)) = refl
scaled_node-of_leaf (negsuc s) = refl

scaled_node-zero : (s : ℤ) (n : ℕ) → (s ≡ pos 0) ⊎ (n ≡ 0) → scaled_node s n ≡ 0
scaled_node-zero s n (inl h) = ap (λ (z : ℤ). scaled_node z n) h
scaled_node-zero s n (inr h) = ap (scaled_node s) h ∙ scaled_node-of_leaf s

-- another factor than 0 keeps the node
pub scaled-keeps_node : (k : KindName) (s : ℤ) (e : PlainEdge) → s ≢ pos 0 → (scaled k s e).node ≡ e.node
scaled-keeps_node Evbdd s e h = refl
scaled-keeps_node StarBmd s e h = scaled_node-nonzero s e.node h
scaled-keeps_node Hdd s e h = refl
scaled-keeps_node KStarBmd s e h = scaled_node-nonzero s e.node h

pub unscaled-keeps_node : (k : KindName) (e : PlainEdge) → (unscaled k e).node ≡ e.node
unscaled-keeps_node Evbdd e = refl
unscaled-keeps_node StarBmd e = refl
unscaled-keeps_node Hdd e = refl
unscaled-keeps_node KStarBmd e = refl

-- ---- factors

pub scale-taken : (k : KindName) (w : Weights) → MayScale k (scale_of k w)
scale-taken Evbdd w = refl
scale-taken StarBmd w = tt
scale-taken Hdd w = refl
scale-taken KStarBmd w = tt

-- an edge without its factor, times the factor, is the edge
pub scaled-unscaled : (k : KindName) (e : PlainEdge) → IsRooted k e → scaled k (scale_of k e.root) (unscaled k e) ≡ e
scaled-unscaled Evbdd e h = refl
scaled-unscaled StarBmd e h = same_numbers e _ _ _ (*ℤ_one e.root.weight) (sym h.0) (scaled_node-same e.root.weight e.node h.1)
scaled-unscaled Hdd e h = refl
scaled-unscaled KStarBmd e h =
    let g = signed_gcd e.root.weight e.root.extra (pos 0) in
    same_numbers e _ _ _ (signed_gcd-times_first e.root.weight e.root.extra (pos 0)) (signed_gcd-times_second e.root.weight e.root.extra (pos 0))
    (scaled_node-same g e.node (λ z. h.0 ((signed_gcd-is_zero e.root.weight e.root.extra (pos 0)).0 z).0))

-- the value of a multiple, whatever the value of what the edge leads to
pub scaled-value : (k : KindName) (s : ℤ) (e : PlainEdge) (v : ℤ) → MayScale k s → weighed k (scaled k s e).root v ≡ s *ℤ weighed k e.root v
scaled-value Evbdd s e v h = sym (ap (λ (z : ℤ). z *ℤ (e.root.weight +ℤ v)) h ∙ one-*ℤ (e.root.weight +ℤ v))
scaled-value StarBmd s e v h = *ℤ_assoc s e.root.weight v
scaled-value Hdd s e v h = sym (ap (λ (z : ℤ). z *ℤ (e.root.weight +ℤ v)) h ∙ one-*ℤ (e.root.weight +ℤ v))
scaled-value KStarBmd s e v h =
    ap (λ (z : ℤ). s *ℤ e.root.extra +ℤ z) (*ℤ_assoc s e.root.weight v) ∙ sym (*ℤ-distrib_left s e.root.extra (e.root.weight *ℤ v))

not_zero : pos 1 ≢ pos 0
not_zero h = omega (arith, ints, h)

-- the weights of a multiple, and of an edge without its factor, are those of an edge of the kind
pub scaled-rooted : (k : KindName) (s : ℤ) (e : PlainEdge) → MayScale k s → IsRooted k e → IsRooted k (scaled k s e)
scaled-rooted Evbdd s e m h = h
scaled-rooted StarBmd s e m h = (refl, λ z. scaled_node-zero s e.node (elim (*ℤ-is_zero s e.root.weight z) [ inl a ↦ inl a | inr b ↦ inr (h.1 b) ]))
scaled-rooted Hdd s e m h = h
scaled-rooted KStarBmd s e m h = (
  λ z. scaled_node-zero s e.node (elim (*ℤ-is_zero s e.root.weight z) [ inl a ↦ inl a | inr b ↦ inr (h.0 b) ]),
  λ z. elim (scaled_node-is_zero s e.node z) [
    | inl a ↦ ap (λ (y : ℤ). y *ℤ e.root.weight) a ∙ zero-*ℤ e.root.weight
    | inr b ↦ ap (λ (y : ℤ). s *ℤ y) (h.1 b) ∙ *ℤ-zero s
  ],
)

pub unscaled-rooted : (k : KindName) (e : PlainEdge) → IsRooted k e → IsRooted k (unscaled k e)
unscaled-rooted Evbdd e h = h
unscaled-rooted StarBmd e h = (refl, λ z. absurd (not_zero z))
unscaled-rooted Hdd e h = h
unscaled-rooted KStarBmd e h =
    let g = signed_gcd e.root.weight e.root.extra (pos 0) in (
      λ z. h.0 (sym (signed_gcd-times_first e.root.weight e.root.extra (pos 0)) ∙ ap (λ (y : ℤ). g *ℤ y) z ∙ *ℤ-zero g),
      λ z. ap (λ (y : ℤ). int_div y g) (h.1 z) ∙ int_div-of_zero g,
    )

-- ---- summands

pub shift-taken : (k : KindName) (w : Weights) → MayShift k (shift_of k w)
shift-taken Evbdd w = tt
shift-taken StarBmd w = refl
shift-taken Hdd w = refl
shift-taken KStarBmd w = tt

pub shifted-keeps_node : (k : KindName) (c : ℤ) (e : PlainEdge) → (shifted k c e).node ≡ e.node
shifted-keeps_node Evbdd c e = refl
shifted-keeps_node StarBmd c e = refl
shifted-keeps_node Hdd c e = refl
shifted-keeps_node KStarBmd c e = refl

pub unshifted-keeps_node : (k : KindName) (e : PlainEdge) → (unshifted k e).node ≡ e.node
unshifted-keeps_node Evbdd e = refl
unshifted-keeps_node StarBmd e = refl
unshifted-keeps_node Hdd e = refl
unshifted-keeps_node KStarBmd e = refl

plus_zero : (x : ℤ) → x +ℤ pos 0 ≡ x
plus_zero x = omega (arith, ints)

zero_plus : (x : ℤ) → pos 0 +ℤ x ≡ x
zero_plus x = omega (arith, ints)

plus_assoc : (x y z : ℤ) → (x +ℤ y) +ℤ z ≡ x +ℤ (y +ℤ z)
plus_assoc x y z = omega (arith, ints)

-- an edge without its summand, and the summand added, is the edge
pub shifted-unshifted : (k : KindName) (e : PlainEdge) → IsRooted k e → shifted k (shift_of k e.root) (unshifted k e) ≡ e
shifted-unshifted Evbdd e h = same_numbers e _ _ _ (plus_zero e.root.weight) (sym h) refl
shifted-unshifted StarBmd e h = refl
shifted-unshifted Hdd e h = refl
shifted-unshifted KStarBmd e h = same_numbers e _ _ _ refl (plus_zero e.root.extra) refl

-- the value of a sum
pub shifted-value : (k : KindName) (c : ℤ) (e : PlainEdge) (v : ℤ) → MayShift k c → weighed k (shifted k c e).root v ≡ c +ℤ weighed k e.root v
shifted-value Evbdd c e v h = plus_assoc c e.root.weight v
shifted-value StarBmd c e v h = sym (ap (λ (z : ℤ). z +ℤ e.root.weight *ℤ v) h ∙ zero_plus (e.root.weight *ℤ v))
shifted-value Hdd c e v h = sym (ap (λ (z : ℤ). z +ℤ (e.root.weight +ℤ v)) h ∙ zero_plus (e.root.weight +ℤ v))
shifted-value KStarBmd c e v h = plus_assoc c e.root.extra (e.root.weight *ℤ v)

pub shifted-rooted : (k : KindName) (c : ℤ) (e : PlainEdge) → IsRooted k e → IsRooted k (shifted k c e)
shifted-rooted Evbdd c e h = refl
shifted-rooted StarBmd c e h = h
shifted-rooted Hdd c e h = h
shifted-rooted KStarBmd c e h = h

pub unshifted-rooted : (k : KindName) (e : PlainEdge) → IsRooted k e → IsRooted k (unshifted k e)
unshifted-rooted Evbdd e h = refl
unshifted-rooted StarBmd e h = h
unshifted-rooted Hdd e h = h
unshifted-rooted KStarBmd e h = h

-- The work of a product of multiples covers that of the product.
use Rattle.std.proofs.Common.{◌≡◌, refl, sym, ◌∙◌, ap, subst, ℕ, suc, ◌+◌, ℤ, ◌+ℤ◌, ◌*ℤ◌, List, [], ◌∷◌, false, length, drop, arith}
use Rattle.std.proofs.lemmas.Bool.{false_from_ne_true}
use Rattle.integers.proofs.Ring.{*ℤ-distrib_left}
use Rattle.word_base.specs.declared.decomp.Decomp.{Decomp}
use Rattle.word_base.specs.declared.decomp.Decomp.TheVariants.{S, P, N}
use Rattle.word_base.specs.declared.kind_name.KindName.{KindName}
use Rattle.tables.specs.Table.{Table, IsOver, plus, times, multiple, part0, part1}
use Rattle.tables.specs.Tree.{Shape, Tree}
use Rattle.tables.specs.Canonical.{canonical, IsNodeOf}
use Rattle.tables.specs.Factors.{IsFactor}
use Rattle.tables.specs.Fits.{fits}
use Rattle.tables.specs.Pieces.{Piece, pieces, crossed, inner, mul_work}
use Rattle.tables.proofs.FactorLaws.{factors_go_through, factors_fit}
use Rattle.tables.proofs.PieceLaws.{Covers, covers_on, covers_beside, davio_inner}
use Rattle.tables.proofs.TableLaws.{part0-each, part1-multiple, products_of_multiples, each-plus, IsOver-zip_with, IsOver-each, IsOver-part0, IsOver-part1}
use Rattle.diagram.proofs.JoinCauses.{in_one}

-- a multiple covers the table
multiple_covers_table : (k : KindName) (ds : List Decomp) (l : ℕ) (s : ℤ) (t : Table) → IsFactor k s → Covers k ds (pieces l (multiple s t ∷ [])) (pieces l (t ∷ []))
multiple_covers_table k ds l s t factor =
    let es = drop l ds in
    let whole : Piece = record { level = l; table = multiple s t } in
    let rest : Piece = record { level = l; table = t } in
    let IsNode : Shape → Piece → Type 0 = λ n p. IsNodeOf n (canonical k (drop p.level ds) p.level p.table).shape in
    record {
      nodes = λ n h. (
        whole,
        (0, omega arith, refl),
        subst (λ (x : Tree). IsNodeOf n x.shape) (sym (factors_go_through k es l s t factor)) (subst (IsNode n) (sym (in_one rest h.0 h.1)) h.2),
      );
      unfit = λ h. (
        whole,
        (0, omega arith, refl),
        false_from_ne_true _ (λ fit.
            let fits_too = factors_fit k es s t factor fit in
            let unfit = subst (λ (p : Piece). fits k (drop p.level ds) p.table ≡ false) (sym (in_one rest h.0 h.1)) h.2 in
            absurd (cc)),
      );
    }

-- two factors of the kind
pub record AreFactors (k : KindName) (s r : ℤ) : Type 0 where
  pub first : IsFactor k s
  pub second : IsFactor k r

-- one multiple of another
abbrev pub twice_multiple : ℤ → ℤ → Table → Table
twice_multiple s r t = multiple s (multiple r t)

pub twice_multiple_covers : (k : KindName) (ds : List Decomp) (l : ℕ) (s r : ℤ) (t : Table) → AreFactors k s r →
    Covers k ds (pieces l (twice_multiple s r t ∷ [])) (pieces l (t ∷ []))
twice_multiple_covers k ds l s r t are =
    covers_on k ds _ (pieces l (multiple r t ∷ [])) _ (multiple_covers_table k ds l s (multiple r t) are.first) (multiple_covers_table k ds l r t are.second)

-- ---- sums of products of multiples
twice_multiple-plus : (n : ℕ) (s r : ℤ) (t u : Table) → IsOver n t → IsOver n u → plus (twice_multiple s r t) (twice_multiple s r u) ≡ twice_multiple s r (plus t u)
twice_multiple-plus n s r t u o p =
    sym (each-plus n (λ x. s *ℤ x) (λ x. s *ℤ x) (*ℤ-distrib_left s) (multiple r t) (multiple r u) (IsOver-each n (λ x. r *ℤ x) t o) (IsOver-each n (λ x. r *ℤ x) u p))
    ∙ ap (multiple s) (sym (each-plus n (λ x. r *ℤ x) (λ x. r *ℤ x) (*ℤ-distrib_left r) t u o p))

sum_of_both : (n : ℕ) (s r : ℤ) (x y t u : Table) → IsOver n t → IsOver n u → x ≡ twice_multiple s r t → y ≡ twice_multiple s r u →
    plus x y ≡ twice_multiple s r (plus t u)
sum_of_both n s r x y t u o p is_x is_y = ap (λ (z : Table). plus z y) is_x ∙ ap (plus (twice_multiple s r t)) is_y ∙ twice_multiple-plus n s r t u o p

-- tables over the levels below, and their multiples
record Multiples (n : ℕ) (s r : ℤ) (a0 a1 b0 b1 x0 x1 y0 y1 : Table) : Type 0 where
  over_a0 : IsOver n a0
  over_a1 : IsOver n a1
  over_b0 : IsOver n b0
  over_b1 : IsOver n b1
  is_x0 : x0 ≡ multiple s a0
  is_x1 : x1 ≡ multiple s a1
  is_y0 : y0 ≡ multiple r b0
  is_y1 : y1 ≡ multiple r b1

product_of_both : (n : ℕ) (s r : ℤ) (x y a b : Table) → IsOver n a → IsOver n b → x ≡ multiple s a → y ≡ multiple r b → times x y ≡ twice_multiple s r (times a b)
product_of_both n s r x y a b o p is_x is_y = ap (λ (z : Table). times z y) is_x ∙ ap (times (multiple s a)) is_y ∙ products_of_multiples n s r a b o p

crossed_covers : (k : KindName) (es : List Decomp) (l n : ℕ) (s r : ℤ) (a0 a1 b0 b1 x0 x1 y0 y1 : Table) → AreFactors k s r →
    Multiples n s r a0 a1 b0 b1 x0 x1 y0 y1 → Covers k es (crossed l x0 x1 y0 y1) (crossed l a0 a1 b0 b1)
crossed_covers k es l n s r a0 a1 b0 b1 x0 x1 y0 y1 are m =
    let product : (a b : Table) → IsOver n a → IsOver n b → IsOver n (times a b) = λ a b o p. IsOver-zip_with n (λ x y. x *ℤ y) a b o p in
    let cross = plus (times a0 b1) (times a1 b0) in
    let over_cross = IsOver-zip_with n (λ x y. x +ℤ y) (times a0 b1) (times a1 b0) (product a0 b1 m.over_a0 m.over_b1) (product a1 b0 m.over_a1 m.over_b0) in
    let is_cross = sum_of_both n s r (times x0 y1) (times x1 y0) (times a0 b1) (times a1 b0) (product a0 b1 m.over_a0 m.over_b1) (product a1 b0 m.over_a1 m.over_b0)
    (product_of_both n s r x0 y1 a0 b1 m.over_a0 m.over_b1 m.is_x0 m.is_y1) (product_of_both n s r x1 y0 a1 b0 m.over_a1 m.over_b0 m.is_x1 m.is_y0) in
    let is_high = sum_of_both n s r (plus (times x0 y1) (times x1 y0)) (times x1 y1) cross (times a1 b1) over_cross (product a1 b1 m.over_a1 m.over_b1) is_cross
    (product_of_both n s r x1 y1 a1 b1 m.over_a1 m.over_b1 m.is_x1 m.is_y1) in
    let Piece : Table → Table → Type 0 = λ t u. Covers k es (pieces l (t ∷ [])) (pieces l (u ∷ [])) in
    covers_beside k es (pieces l (plus (times x0 y1) (times x1 y0) ∷ [])) (pieces l (plus (plus (times x0 y1) (times x1 y0)) (times x1 y1) ∷ []))
    (pieces l (cross ∷ [])) (pieces l (plus cross (times a1 b1) ∷ []))
    (subst (λ (z : Table). Piece z cross) (sym is_cross) (twice_multiple_covers k es l s r cross are))
    (subst (λ (z : Table). Piece z (plus cross (times a1 b1))) (sym is_high) (twice_multiple_covers k es l s r (plus cross (times a1 b1)) are))

-- ---- the inner products
-- the work of the product of the multiples covers that of the product, over levels with these letters
abbrev InnerCovers : KindName → List Decomp → ℤ → ℤ → List Decomp → Type 0
InnerCovers k es s r ds = (l : ℕ) (a b x y : Table) → IsOver (length ds) a → IsOver (length ds) b → x ≡ multiple s a → y ≡ multiple r b →
    Covers k es (inner ds l x y) (inner ds l a b)

product_covers : (k : KindName) (es : List Decomp) (l n : ℕ) (s r : ℤ) (a b x y : Table) → AreFactors k s r → IsOver n a → IsOver n b →
    x ≡ multiple s a → y ≡ multiple r b → Covers k es (pieces l (times x y ∷ [])) (pieces l (times a b ∷ []))
product_covers k es l n s r a b x y are o p is_x is_y =
    subst (λ (z : Table). Covers k es (pieces l (z ∷ [])) (pieces l (times a b ∷ []))) (sym (product_of_both n s r x y a b o p is_x is_y))
    (twice_multiple_covers k es l s r (times a b) are)

-- the parts of a multiple
low_multiple : (d : Decomp) (s : ℤ) (a x : Table) → x ≡ multiple s a → part0 d x ≡ multiple s (part0 d a)
low_multiple d s a x is = ap (part0 d) is ∙ part0-each d (λ z. s *ℤ z) a

high_multiple : (d : Decomp) (s : ℤ) (a x : Table) → x ≡ multiple s a → part1 d x ≡ multiple s (part1 d a)
high_multiple d s a x is = ap (part1 d) is ∙ part1-multiple d s a

parts_multiples : (d : Decomp) (n : ℕ) (s r : ℤ) (a b x y : Table) → IsOver (suc n) a → IsOver (suc n) b → x ≡ multiple s a → y ≡ multiple r b →
    Multiples n s r (part0 d a) (part1 d a) (part0 d b) (part1 d b) (part0 d x) (part1 d x) (part0 d y) (part1 d y)
parts_multiples d n s r a b x y o p is_x is_y = record {
  over_a0 = IsOver-part0 n d a o;
  over_a1 = IsOver-part1 n d a o;
  over_b0 = IsOver-part0 n d b p;
  over_b1 = IsOver-part1 n d b p;
  is_x0 = low_multiple d s a x is_x;
  is_x1 = high_multiple d s a x is_x;
  is_y0 = low_multiple d r b y is_y;
  is_y1 = high_multiple d r b y is_y;
}

davio_covers : (k : KindName) (es : List Decomp) (s r : ℤ) (d : Decomp) (ds : List Decomp) → AreFactors k s r → InnerCovers k es s r ds →
    (l : ℕ) (a b x y : Table) → IsOver (suc (length ds)) a → IsOver (suc (length ds)) b → x ≡ multiple s a → y ≡ multiple r b →
    Covers k es (davio_inner d ds l x y) (davio_inner d ds l a b)
davio_covers k es s r d ds are below l a b x y o p is_x is_y =
    let i : Table → Table → _ = λ t u. inner ds (l + 1) t u in
    let m = parts_multiples d (length ds) s r a b x y o p is_x is_y in
    let low = below (l + 1) (part0 d a) (part0 d b) (part0 d x) (part0 d y) m.over_a0 m.over_b0 m.is_x0 m.is_y0 in
    let low_high = below (l + 1) (part0 d a) (part1 d b) (part0 d x) (part1 d y) m.over_a0 m.over_b1 m.is_x0 m.is_y1 in
    let high_low = below (l + 1) (part1 d a) (part0 d b) (part1 d x) (part0 d y) m.over_a1 m.over_b0 m.is_x1 m.is_y0 in
    let high = below (l + 1) (part1 d a) (part1 d b) (part1 d x) (part1 d y) m.over_a1 m.over_b1 m.is_x1 m.is_y1 in
    let cross = crossed_covers k es (l + 1) (length ds) s r (part0 d a) (part1 d a) (part0 d b) (part1 d b) (part0 d x) (part1 d x) (part0 d y) (part1 d y) are m in
    let two = covers_beside k es (i (part0 d x) (part0 d y)) (i (part0 d x) (part1 d y)) (i (part0 d a) (part0 d b)) (i (part0 d a) (part1 d b)) low low_high in
    let three = covers_beside k es _ (i (part1 d x) (part0 d y)) _ (i (part1 d a) (part0 d b)) two high_low in
    let four = covers_beside k es _ (i (part1 d x) (part1 d y)) _ (i (part1 d a) (part1 d b)) three high in
    covers_beside k es _ (crossed (l + 1) (part0 d x) (part1 d x) (part0 d y) (part1 d y)) _ (crossed (l + 1) (part0 d a) (part1 d a) (part0 d b) (part1 d b)) four cross

inner_covers : (k : KindName) (es : List Decomp) (s r : ℤ) (ds : List Decomp) → AreFactors k s r → InnerCovers k es s r ds
inner_covers k es s r [] are l a b x y o p is_x is_y = product_covers k es l 0 s r a b x y are o p is_x is_y
inner_covers k es s r (S ∷ ds) are l a b x y o p is_x is_y =
    let m = parts_multiples S (length ds) s r a b x y o p is_x is_y in
    covers_beside k es _ (inner ds (l + 1) (part1 S x) (part1 S y)) _ (inner ds (l + 1) (part1 S a) (part1 S b))
    (covers_beside k es (pieces l (times x y ∷ [])) (inner ds (l + 1) (part0 S x) (part0 S y)) (pieces l (times a b ∷ [])) (inner ds (l + 1) (part0 S a) (part0 S b))
    (product_covers k es l (suc (length ds)) s r a b x y are o p is_x is_y)
    (inner_covers k es s r ds are (l + 1) (part0 S a) (part0 S b) (part0 S x) (part0 S y) m.over_a0 m.over_b0 m.is_x0 m.is_y0))
    (inner_covers k es s r ds are (l + 1) (part1 S a) (part1 S b) (part1 S x) (part1 S y) m.over_a1 m.over_b1 m.is_x1 m.is_y1)
inner_covers k es s r (P ∷ ds) are l a b x y o p is_x is_y =
    covers_beside k es (pieces l (times x y ∷ [])) (davio_inner P ds l x y) (pieces l (times a b ∷ [])) (davio_inner P ds l a b)
    (product_covers k es l (suc (length ds)) s r a b x y are o p is_x is_y)
    (davio_covers k es s r P ds are (inner_covers k es s r ds are) l a b x y o p is_x is_y)
inner_covers k es s r (N ∷ ds) are l a b x y o p is_x is_y =
    covers_beside k es (pieces l (times x y ∷ [])) (davio_inner N ds l x y) (pieces l (times a b ∷ [])) (davio_inner N ds l a b)
    (product_covers k es l (suc (length ds)) s r a b x y are o p is_x is_y)
    (davio_covers k es s r N ds are (inner_covers k es s r ds are) l a b x y o p is_x is_y)

-- the work of a product of multiples covers that of the product
pub mul_work_covers : (k : KindName) (es ds : List Decomp) (l : ℕ) (s r : ℤ) (a b : Table) → AreFactors k s r → IsOver (length ds) a → IsOver (length ds) b →
    Covers k es (mul_work ds l (multiple s a) (multiple r b)) (mul_work ds l a b)
mul_work_covers k es ds l s r a b are o p =
    covers_beside k es (pieces l (multiple s a ∷ multiple r b ∷ [])) (inner ds l (multiple s a) (multiple r b)) (pieces l (a ∷ b ∷ [])) (inner ds l a b)
    (covers_beside k es (pieces l (multiple s a ∷ [])) (pieces l (multiple r b ∷ [])) (pieces l (a ∷ [])) (pieces l (b ∷ []))
    (multiple_covers_table k es l s a are.first) (multiple_covers_table k es l r b are.second))
    (inner_covers k es s r ds are l a b (multiple s a) (multiple r b) o p refl refl)

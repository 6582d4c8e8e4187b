-- Products of tables and of their parts, and what the work of a product covers.
use Rattle.std.proofs.Common.{◌≡◌, refl, sym, ◌∙◌, ap, subst, ℕ, zero, suc, ◌+◌, ◌<◌, ℤ, ◌+ℤ◌, ◌-ℤ◌, ◌*ℤ◌, List, [], ◌∷◌, ◌++◌, true, length, drop, arith}
use Rattle.std.proofs.lemmas.Int.{ints}
use Rattle.integers.proofs.Ring.{*ℤ-distrib_left, *ℤ-distrib_right}
use Rattle.word_base.specs.declared.decomp.Decomp.{Decomp}
use Rattle.word_base.specs.declared.decomp.Decomp.TheVariants.{S, P, N}
use Rattle.word_base.specs.declared.kind_name.KindName.{KindName}
use Rattle.tables.specs.Table.{Table, entry, halves, IsOver, plus, minus, times, part0, part1, merged}
use Rattle.tables.specs.Laws.{are_allowed}
use Rattle.tables.specs.Pieces.{Piece, pieces, inner, mul_work, join_work}
use Rattle.tables.proofs.PieceLaws.{Covers, HasLetter, CoversMul, covers_mul, inner_has_product, covers_on, covers_both, covers_left, covers_right, covers_low, covers_high, covers_join}
use Rattle.tables.proofs.TableLaws.{both_halves, merged-parts, IsOver-zip_with, IsOver-part0, IsOver-part1}
use Rattle.diagram.specs.Products.{product_work, high_products}
use Rattle.diagram.specs.View.{View, letter_at}
use Rattle.diagram.proofs.CallLaws.{BothByHalves}
use Rattle.diagram.proofs.LevelLaws.{has_letter}

-- ---- the parts of a product
four_terms : (p a b c d e f : ℤ) → p ≡ a +ℤ b → a ≡ c +ℤ d → b ≡ e +ℤ f → p -ℤ c ≡ e +ℤ d +ℤ f
four_terms p a b c d e f g h i = omega (arith, ints)

product_of_sums : (x r z s : ℤ) → (x +ℤ r) *ℤ (z +ℤ s) -ℤ x *ℤ z ≡ x *ℤ s +ℤ r *ℤ z +ℤ r *ℤ s
product_of_sums x r z s =
    four_terms ((x +ℤ r) *ℤ (z +ℤ s)) ((x +ℤ r) *ℤ z) ((x +ℤ r) *ℤ s) (x *ℤ z) (r *ℤ z) (x *ℤ s) (r *ℤ s)
    (*ℤ-distrib_left (x +ℤ r) z s) (*ℤ-distrib_right x r z) (*ℤ-distrib_right x r s)

difference_of_entries : (x y z w : ℤ) → y *ℤ w -ℤ x *ℤ z ≡ x *ℤ (w -ℤ z) +ℤ (y -ℤ x) *ℤ z +ℤ (y -ℤ x) *ℤ (w -ℤ z)
difference_of_entries x y z w =
    let first : y ≡ x +ℤ (y -ℤ x) = omega (arith, ints) in
    let second : w ≡ z +ℤ (w -ℤ z) = omega (arith, ints) in
    ap (λ (u : ℤ). u *ℤ w -ℤ x *ℤ z) first ∙ ap (λ (u : ℤ). (x +ℤ (y -ℤ x)) *ℤ u -ℤ x *ℤ z) second ∙ product_of_sums x (y -ℤ x) z (w -ℤ z)

difference_of_products : (n : ℕ) (a b c e : Table) → IsOver n a → IsOver n b → IsOver n c → IsOver n e →
    minus (times b e) (times a c) ≡ plus (plus (times a (minus e c)) (times (minus b a) c)) (times (minus b a) (minus e c))
difference_of_products zero (entry x) (entry y) (entry z) (entry w) o p q r = ap entry (difference_of_entries x y z w)
difference_of_products zero (halves a f) b c e o p q r = absurd o
difference_of_products zero (entry x) (halves b f) c e o p q r = absurd p
difference_of_products zero (entry x) (entry y) (halves c f) e o p q r = absurd q
difference_of_products zero (entry x) (entry y) (entry z) (halves e f) o p q r = absurd r
difference_of_products (suc n) (entry x) b c e o p q r = absurd o
difference_of_products (suc n) (halves a f) (entry y) c e o p q r = absurd p
difference_of_products (suc n) (halves a f) (halves b g) (entry z) e o p q r = absurd q
difference_of_products (suc n) (halves a f) (halves b g) (halves c h) (entry w) o p q r = absurd r
difference_of_products (suc n) (halves a f) (halves b g) (halves c h) (halves e i) o p q r =
    both_halves (difference_of_products n a b c e o.0 p.0 q.0 r.0) (difference_of_products n f g h i o.1 p.1 q.1 r.1)

pub part0-times : (n : ℕ) (d : Decomp) (t u : Table) → IsOver (suc n) t → IsOver (suc n) u → part0 d (times t u) ≡ times (part0 d t) (part0 d u)
part0-times n d (entry x) u o p = absurd o
part0-times n d (halves a b) (entry y) o p = absurd p
part0-times n S (halves a b) (halves c e) o p = refl
part0-times n P (halves a b) (halves c e) o p = refl
part0-times n N (halves a b) (halves c e) o p = refl

-- the high part of a product, by the letter
abbrev pub high_part : Decomp → Table → Table → Table
high_part S t u = times (part1 S t) (part1 S u)
high_part P t u = high_products P t u
high_part N t u = high_products N t u

pub high_part-davio : (d : Decomp) (t u : Table) → (d ≡ S → ⊥) → high_products d t u ≡ high_part d t u
high_part-davio S t u davio = absurd (davio refl)
high_part-davio P t u davio = refl
high_part-davio N t u davio = refl

pub high_part-shannon : (d : Decomp) (t u : Table) → d ≡ S → times (part1 d t) (part1 d u) ≡ high_part d t u
high_part-shannon d t u is = subst (λ (x : Decomp). times (part1 x t) (part1 x u) ≡ high_part x t u) (sym is) refl

pub part1-times : (n : ℕ) (d : Decomp) (t u : Table) → IsOver (suc n) t → IsOver (suc n) u → part1 d (times t u) ≡ high_part d t u
part1-times n d (entry x) u o p = absurd o
part1-times n d (halves a b) (entry y) o p = absurd p
part1-times n S (halves a b) (halves c e) o p = refl
part1-times n P (halves a b) (halves c e) o p = difference_of_products n a b c e o.0 o.1 p.0 p.1
part1-times n N (halves a b) (halves c e) o p = difference_of_products n b a e c o.1 o.0 p.1 p.0

IsOver-high_part : (n : ℕ) (d : Decomp) (t u : Table) → IsOver (suc n) t → IsOver (suc n) u → IsOver n (high_part d t u)
IsOver-high_part n d t u o r =
    subst (IsOver n) (part1-times n d t u o r) (IsOver-part1 n d (times t u) (IsOver-zip_with (suc n) (λ x y. x *ℤ y) t u o r))

-- the low and the high part of a product make it
merged-product : (n : ℕ) (d : Decomp) (t u : Table) → IsOver (suc n) t → IsOver (suc n) u → merged d (times (part0 d t) (part0 d u)) (high_part d t u) ≡ times t u
merged-product n d t u o r =
    ap (λ (x : Table). merged d x (high_part d t u)) (sym (part0-times n d t u o r)) ∙ ap (merged d (part0 d (times t u))) (sym (part1-times n d t u o r))
    ∙ merged-parts n d (times t u) (IsOver-zip_with (suc n) (λ x y. x *ℤ y) t u o r)

-- ---- what the pieces cover
-- those of a product at Shannon cover those of the products of its parts
pub record ShannonCovers (k : KindName) (es : List Decomp) (qs : List Piece) (d : Decomp) (ds : List Decomp) (l : ℕ) (a b : Table) : Type 0 where
  pub low : Covers k es qs (mul_work ds (l + 1) (part0 d a) (part0 d b))
  pub high : Covers k es qs (mul_work ds (l + 1) (part1 d a) (part1 d b))

pub shannon_covers : (k : KindName) (es : List Decomp) (l : ℕ) (a b : Table) → HasLetter k es l S → IsOver (suc (length (drop (l + 1) es))) a →
    IsOver (suc (length (drop (l + 1) es))) b → ShannonCovers k es (mul_work (drop l es) l a b) S (drop (l + 1) es) l a b
shannon_covers k es l a b at o r =
    let ds = drop (l + 1) es in
    let qs = mul_work (S ∷ ds) l a b in
    let rest = inner (S ∷ ds) l a b in
    let low = inner ds (l + 1) (part0 S a) (part0 S b) in
    let high = inner ds (l + 1) (part1 S a) (part1 S b) in
    let of_a : Covers k es qs (pieces l (a ∷ [])) = covers_left k es (pieces l (a ∷ [])) (pieces l (b ∷ []) ++ rest) in
    let of_b : Covers k es qs (pieces l (b ∷ [])) =
    covers_on k es _ _ _ (covers_right k es (pieces l (a ∷ [])) (pieces l (b ∷ []) ++ rest)) (covers_left k es (pieces l (b ∷ [])) rest) in
    let whole : Covers k es qs (low ++ high) =
    covers_on k es _ _ _ (covers_right k es (pieces l (a ∷ b ∷ [])) (pieces l (times a b ∷ []) ++ (low ++ high))) (covers_right k es (pieces l (times a b ∷ [])) (low ++ high)) in
    let factors : (x y : Table) → Covers k es qs (pieces (l + 1) (x ∷ [])) → Covers k es qs (pieces (l + 1) (y ∷ [])) → Covers k es qs (inner ds (l + 1) x y) → Covers k es qs (mul_work ds (l + 1) x y) =
    λ x y c e f. covers_both k es qs (pieces (l + 1) (x ∷ y ∷ [])) (inner ds (l + 1) x y) (covers_both k es qs (pieces (l + 1) (x ∷ [])) (pieces (l + 1) (y ∷ [])) c e) f in
    subst (λ (xs : List Decomp). ShannonCovers k es (mul_work xs l a b) S ds l a b) (sym at.letters)
    (record {
      low = factors _ _ (covers_on k es qs _ _ of_a (covers_low k es l S a at o)) (covers_on k es qs _ _ of_b (covers_low k es l S b at r))
          (covers_on k es qs _ _ whole (covers_left k es low high));
      high = factors _ _ (covers_on k es qs _ _ of_a (covers_high k es l S a at o)) (covers_on k es qs _ _ of_b (covers_high k es l S b at r))
          (covers_on k es qs _ _ whole (covers_right k es low high));
    })

pub product_covers_product : (k : KindName) (ds : List Decomp) (l : ℕ) (t u : Table) → Covers k ds (product_work ds l t u) (pieces l (times t u ∷ []))
product_covers_product k ds l t u =
    covers_on k ds _ _ _ (covers_right k ds (pieces l (t ∷ u ∷ [])) (inner (drop l ds) l t u)) (inner_has_product k ds (drop l ds) l t u)

pub product_covers_operands : (k : KindName) (ds : List Decomp) (l : ℕ) (t u : Table) → Covers k ds (product_work ds l t u) (pieces l (t ∷ u ∷ []))
product_covers_operands k ds l t u = covers_left k ds (pieces l (t ∷ u ∷ [])) (inner (drop l ds) l t u)

covers_half : (k : KindName) (ds : List Decomp) (l : ℕ) (d : Decomp) (t u : Table) → HasLetter k ds l d → IsOver (length (drop (l + 1) ds)) t →
    IsOver (length (drop (l + 1) ds)) u → Covers k ds (product_work ds l (halves t t) (halves u u)) (product_work ds (l + 1) t u)
covers_half k ds l S t u at o r = (shannon_covers k ds l (halves t t) (halves u u) at (o, o) (r, r)).low
covers_half k ds l P t u at o r = (covers_mul k ds l P (halves t t) (halves u u) (λ e. cc) at (o, o) (r, r)).low
covers_half k ds l N t u at o r = (covers_mul k ds l N (halves t t) (halves u u) (λ e. cc) at (o, o) (r, r)).low

pub mul_by_halves : (k : KindName) (v : View) → are_allowed k v.letters ≡ true → BothByHalves k v times (product_work v.letters)
mul_by_halves k v allowed = record {
  by_halves = λ t u. refl;
  covers = λ l t u within o r. covers_half k v.letters l (letter_at v.letters l) t u (has_letter k v l allowed within) o r;
}

-- ---- at a level
-- a product has the join of its low and its high part
pub record ProductJoins (k : KindName) (v : View) (l : ℕ) (t u : Table) : Type 0 where
  pub join : Covers k v.letters (product_work v.letters l t u)
      (join_work (letter_at v.letters l) l (times (part0 (letter_at v.letters l) t) (part0 (letter_at v.letters l) u)) (high_part (letter_at v.letters l) t u))
  pub merges : merged (letter_at v.letters l) (times (part0 (letter_at v.letters l) t) (part0 (letter_at v.letters l) u)) (high_part (letter_at v.letters l) t u) ≡ times t u

pub product_joins : (k : KindName) (v : View) (l : ℕ) (t u : Table) → are_allowed k v.letters ≡ true → l < length v.letters →
    IsOver (length (drop l v.letters)) t → IsOver (length (drop l v.letters)) u → ProductJoins k v l t u
product_joins k v l t u allowed within over_t over_u =
    let d = letter_at v.letters l in
    let n = length (drop (l + 1) v.letters) in
    let letter = has_letter k v l allowed within in
    let o : IsOver (suc n) t = subst (λ (xs : List Decomp). IsOver (length xs) t) letter.letters over_t in
    let r : IsOver (suc n) u = subst (λ (xs : List Decomp). IsOver (length xs) u) letter.letters over_u in
    let low_over = IsOver-zip_with n (λ x y. x *ℤ y) (part0 d t) (part0 d u) (IsOver-part0 n d t o) (IsOver-part0 n d u r) in
    let merges = merged-product n d t u o r in
    record {
      join = covers_on k v.letters _ _ _ (product_covers_product k v.letters l t u)
          (covers_join k v.letters l d (times (part0 d t) (part0 d u)) (high_part d t u) (times t u) letter low_over (IsOver-high_part n d t u o r) merges);
      merges = merges;
    }

pub davio_covered : (k : KindName) (v : View) (l : ℕ) (t u : Table) → (letter_at v.letters l ≡ S → ⊥) → are_allowed k v.letters ≡ true → l < length v.letters →
    IsOver (length (drop l v.letters)) t → IsOver (length (drop l v.letters)) u →
    CoversMul k v.letters (product_work v.letters l t u) (letter_at v.letters l) (drop (l + 1) v.letters) l t u
davio_covered k v l t u davio allowed within over_t over_u =
    let letter = has_letter k v l allowed within in
    covers_mul k v.letters l (letter_at v.letters l) t u davio letter (subst (λ (xs : List Decomp). IsOver (length xs) t) letter.letters over_t)
    (subst (λ (xs : List Decomp). IsOver (length xs) u) letter.letters over_u)

pub shannon_covered : (k : KindName) (v : View) (l : ℕ) (t u : Table) → letter_at v.letters l ≡ S → are_allowed k v.letters ≡ true → l < length v.letters →
    IsOver (length (drop l v.letters)) t → IsOver (length (drop l v.letters)) u →
    ShannonCovers k v.letters (product_work v.letters l t u) (letter_at v.letters l) (drop (l + 1) v.letters) l t u
shannon_covered k v l t u shannon allowed within over_t over_u =
    let letter = has_letter k v l allowed within in
    let at = subst (HasLetter k v.letters l) shannon letter in
    subst (λ (d : Decomp). ShannonCovers k v.letters (product_work v.letters l t u) d (drop (l + 1) v.letters) l t u) (sym shannon)
    (shannon_covers k v.letters l t u at (subst (λ (xs : List Decomp). IsOver (length xs) t) letter.letters over_t)
    (subst (λ (xs : List Decomp). IsOver (length xs) u) letter.letters over_u))

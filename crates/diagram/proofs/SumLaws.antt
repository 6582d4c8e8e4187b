-- Sums of tables and of their parts, and what the work of a sum covers.
use Rattle.std.proofs.Common.{◌≡◌, refl, sym, ◌∙◌, ap, subst, ℕ, zero, suc, ◌+◌, ◌<◌, ◌+ℤ◌, List, [], ◌∷◌, true, length, drop, arith}
use Rattle.std.proofs.lemmas.Int.{ints}
use Rattle.word_base.specs.declared.decomp.Decomp.{Decomp}
use Rattle.word_base.specs.declared.decomp.Decomp.TheVariants.{S, P, N}
use Rattle.word_base.specs.declared.kind_name.KindName.{KindName}
use Rattle.tables.specs.Table.{Table, entry, halves, IsOver, plus, minus, part0, part1, merged}
use Rattle.tables.specs.Laws.{are_allowed}
use Rattle.tables.specs.Pieces.{pieces, add_work, join_work}
use Rattle.tables.proofs.PieceLaws.{Covers, covers_itself, covers_on, covers_beside, covers_left, covers_right, covers_low, covers_high, covers_join, covers_twice}
use Rattle.tables.proofs.TableLaws.{both_halves, merged-parts, IsOver-zip_with, IsOver-part0, IsOver-part1}
use Rattle.diagram.specs.Sums.{no_weight, sum_work}
use Rattle.diagram.specs.View.{View, letter_at}
use Rattle.diagram.specs.declared.walk.Walk.{Walk}
use Rattle.diagram.specs.declared.walk.Walk.TheVariants.{Stripping, Plain}
use Rattle.diagram.proofs.CallLaws.{BothByHalves}
use Rattle.diagram.proofs.LevelLaws.{has_letter}

-- ---- the parts of a sum
exchange : (n : ℕ) (a b c d : Table) → IsOver n a → IsOver n b → IsOver n c → IsOver n d → minus (plus a b) (plus c d) ≡ plus (minus a c) (minus b d)
exchange zero (entry x) (entry y) (entry z) (entry w) o p q r = ap entry (omega (arith, ints))
exchange zero (halves a e) b c d o p q r = absurd o
exchange zero (entry x) (halves b e) c d o p q r = absurd p
exchange zero (entry x) (entry y) (halves c e) d o p q r = absurd q
exchange zero (entry x) (entry y) (entry z) (halves d e) o p q r = absurd r
exchange (suc n) (entry x) b c d o p q r = absurd o
exchange (suc n) (halves a e) (entry y) c d o p q r = absurd p
exchange (suc n) (halves a e) (halves b f) (entry z) d o p q r = absurd q
exchange (suc n) (halves a e) (halves b f) (halves c g) (entry w) o p q r = absurd r
exchange (suc n) (halves a e) (halves b f) (halves c g) (halves d h) o p q r =
    both_halves (exchange n a b c d o.0 p.0 q.0 r.0) (exchange n e f g h o.1 p.1 q.1 r.1)

pub part0-plus : (n : ℕ) (d : Decomp) (t u : Table) → IsOver (suc n) t → IsOver (suc n) u → part0 d (plus t u) ≡ plus (part0 d t) (part0 d u)
part0-plus n d (entry x) u o p = absurd o
part0-plus n d (halves a b) (entry y) o p = absurd p
part0-plus n S (halves a b) (halves c e) o p = refl
part0-plus n P (halves a b) (halves c e) o p = refl
part0-plus n N (halves a b) (halves c e) o p = refl

pub part1-plus : (n : ℕ) (d : Decomp) (t u : Table) → IsOver (suc n) t → IsOver (suc n) u → part1 d (plus t u) ≡ plus (part1 d t) (part1 d u)
part1-plus n d (entry x) u o p = absurd o
part1-plus n d (halves a b) (entry y) o p = absurd p
part1-plus n S (halves a b) (halves c e) o p = refl
part1-plus n P (halves a b) (halves c e) o p = exchange n b e a c o.1 p.1 o.0 p.0
part1-plus n N (halves a b) (halves c e) o p = exchange n a c b e o.0 p.0 o.1 p.1

-- ---- three tables
covers_three : (k : KindName) (ds : List Decomp) (l m : ℕ) (a b c x y z : Table) → Covers k ds (pieces l (a ∷ [])) (pieces m (x ∷ [])) →
    Covers k ds (pieces l (b ∷ [])) (pieces m (y ∷ [])) → Covers k ds (pieces l (c ∷ [])) (pieces m (z ∷ [])) →
    Covers k ds (pieces l (a ∷ b ∷ c ∷ [])) (pieces m (x ∷ y ∷ z ∷ []))
covers_three k ds l m a b c x y z p q r =
    covers_beside k ds (pieces l (a ∷ [])) (pieces l (b ∷ c ∷ [])) (pieces m (x ∷ [])) (pieces m (y ∷ z ∷ [])) p
    (covers_beside k ds (pieces l (b ∷ [])) (pieces l (c ∷ [])) (pieces m (y ∷ [])) (pieces m (z ∷ [])) q r)

-- ---- both walks
-- what is covered by the work of a sum is so by that of a walk
pub walk_covers : (walk : Walk) (k : KindName) (ds : List Decomp) (l m : ℕ) (a b x y : Table) → Covers k ds (add_work l a b) (add_work m x y) →
    Covers k ds (sum_work walk l a b) (sum_work walk m x y)
walk_covers Stripping k ds l m a b x y c =
    covers_beside k ds (no_weight ∷ []) (add_work l a b) (no_weight ∷ []) (add_work m x y) (covers_itself k ds (no_weight ∷ [])) c
walk_covers Plain k ds l m a b x y c = c

walk_covers_work : (walk : Walk) (k : KindName) (ds : List Decomp) (l : ℕ) (t u : Table) → Covers k ds (sum_work walk l t u) (add_work l t u)
walk_covers_work Stripping k ds l t u = covers_right k ds (no_weight ∷ []) (add_work l t u)
walk_covers_work Plain k ds l t u = covers_itself k ds (add_work l t u)

pub sum_by_halves : (walk : Walk) (k : KindName) (v : View) → are_allowed k v.letters ≡ true → BothByHalves k v plus (sum_work walk)
sum_by_halves walk k v allowed = record {
  by_halves = λ t u. refl;
  covers = λ l t u within o r.
      let n = length (drop (l + 1) v.letters) in
      let d = letter_at v.letters l in
      let letter = has_letter k v l allowed within in
      walk_covers walk k v.letters l (l + 1) (halves t t) (halves u u) t u
      (covers_three k v.letters l (l + 1) _ _ _ t u (plus t u) (covers_twice k v.letters l d t letter o) (covers_twice k v.letters l d u letter r)
      (covers_twice k v.letters l d (plus t u) letter (IsOver-zip_with n (λ x y. x +ℤ y) t u o r)));
}

-- the work of a walk covers the sum, and the operands
pub sum_covers_sum : (walk : Walk) (k : KindName) (ds : List Decomp) (l : ℕ) (t u : Table) → Covers k ds (sum_work walk l t u) (pieces l (plus t u ∷ []))
sum_covers_sum walk k ds l t u =
    covers_on k ds _ (add_work l t u) _ (walk_covers_work walk k ds l t u) (covers_right k ds (pieces l (t ∷ u ∷ [])) (pieces l (plus t u ∷ [])))

pub sum_covers_operands : (walk : Walk) (k : KindName) (ds : List Decomp) (l : ℕ) (t u : Table) → Covers k ds (sum_work walk l t u) (pieces l (t ∷ u ∷ []))
sum_covers_operands walk k ds l t u =
    covers_on k ds _ (add_work l t u) _ (walk_covers_work walk k ds l t u) (covers_left k ds (pieces l (t ∷ u ∷ [])) (pieces l (plus t u ∷ [])))

-- ---- the sums of the parts, and their join
pub record SumCovers (walk : Walk) (k : KindName) (v : View) (l : ℕ) (t u : Table) : Type 0 where
  pub low : Covers k v.letters (sum_work walk l t u) (sum_work walk (l + 1) (part0 (letter_at v.letters l) t) (part0 (letter_at v.letters l) u))
  pub high : Covers k v.letters (sum_work walk l t u) (sum_work walk (l + 1) (part1 (letter_at v.letters l) t) (part1 (letter_at v.letters l) u))
  pub join : Covers k v.letters (sum_work walk l t u)
      (join_work (letter_at v.letters l) l (plus (part0 (letter_at v.letters l) t) (part0 (letter_at v.letters l) u))
      (plus (part1 (letter_at v.letters l) t) (part1 (letter_at v.letters l) u)))
  pub merges : merged (letter_at v.letters l) (plus (part0 (letter_at v.letters l) t) (part0 (letter_at v.letters l) u))
      (plus (part1 (letter_at v.letters l) t) (part1 (letter_at v.letters l) u)) ≡ plus t u

pub sum_covers : (walk : Walk) (k : KindName) (v : View) (l : ℕ) (t u : Table) → are_allowed k v.letters ≡ true → l < length v.letters →
    IsOver (length (drop l v.letters)) t → IsOver (length (drop l v.letters)) u → SumCovers walk k v l t u
sum_covers walk k v l t u allowed within over_t over_u =
    let d = letter_at v.letters l in
    let ds = drop (l + 1) v.letters in
    let n = length ds in
    let letter = has_letter k v l allowed within in
    let o : IsOver (suc n) t = subst (λ (xs : List Decomp). IsOver (length xs) t) letter.letters over_t in
    let r : IsOver (suc n) u = subst (λ (xs : List Decomp). IsOver (length xs) u) letter.letters over_u in
    let s = IsOver-zip_with (suc n) (λ x y. x +ℤ y) t u o r in
    let low_sum = part0-plus n d t u o r in
    let high_sum = part1-plus n d t u o r in
    let p = plus (part0 d t) (part0 d u) in
    let q = plus (part1 d t) (part1 d u) in
    let over_p = IsOver-zip_with n (λ x y. x +ℤ y) (part0 d t) (part0 d u) (IsOver-part0 n d t o) (IsOver-part0 n d u r) in
    let over_q = IsOver-zip_with n (λ x y. x +ℤ y) (part1 d t) (part1 d u) (IsOver-part1 n d t o) (IsOver-part1 n d u r) in
    let merges : merged d p q ≡ plus t u =
    ap (λ (x : Table). merged d x q) (sym low_sum) ∙ ap (merged d (part0 d (plus t u))) (sym high_sum) ∙ merged-parts n d (plus t u) s in
    let Low : Table → Type 0 = λ x. Covers k v.letters (pieces l (plus t u ∷ [])) (pieces (l + 1) (x ∷ [])) in
    record {
      low = walk_covers walk k v.letters l (l + 1) t u (part0 d t) (part0 d u)
          (covers_three k v.letters l (l + 1) t u (plus t u) (part0 d t) (part0 d u) p (covers_low k v.letters l d t letter o) (covers_low k v.letters l d u letter r)
          (subst Low low_sum (covers_low k v.letters l d (plus t u) letter s)));
      high = walk_covers walk k v.letters l (l + 1) t u (part1 d t) (part1 d u)
          (covers_three k v.letters l (l + 1) t u (plus t u) (part1 d t) (part1 d u) q (covers_high k v.letters l d t letter o) (covers_high k v.letters l d u letter r)
          (subst Low high_sum (covers_high k v.letters l d (plus t u) letter s)));
      join = covers_on k v.letters (sum_work walk l t u) (pieces l (plus t u ∷ [])) _ (sum_covers_sum walk k v.letters l t u)
          (covers_join k v.letters l d p q (plus t u) letter over_p over_q merges);
      merges = merges;
    }

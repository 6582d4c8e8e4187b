-- Multiples of tables and of their parts, and what the work of a multiple covers.
use Rattle.std.proofs.Common.{◌≡◌, refl, sym, ◌∙◌, ap, subst, ℕ, suc, ◌+◌, ◌<◌, ℤ, pos, ◌*ℤ◌, neg_ℤ, List, [], ◌∷◌, length, drop, true}
use Rattle.integers.proofs.Ring.{minus_one-*ℤ}
use Rattle.word_base.specs.declared.decomp.Decomp.{Decomp}
use Rattle.word_base.specs.declared.kind_name.KindName.{KindName}
use Rattle.tables.specs.Table.{Table, IsOver, multiple, opposite, part0, part1, merged}
use Rattle.tables.specs.Laws.{are_allowed}
use Rattle.tables.specs.Pieces.{pieces, scale_work, join_work}
use Rattle.tables.proofs.PieceLaws.{Covers, covers_on, covers_beside, covers_left, covers_right, covers_low, covers_high, covers_join, covers_twice}
use Rattle.tables.proofs.TableLaws.{each-same, merged-parts, part0-each, part1-multiple, IsOver-each, IsOver-part0, IsOver-part1}
use Rattle.diagram.specs.View.{View, letter_at}
use Rattle.diagram.proofs.CallLaws.{GoesByHalves}
use Rattle.diagram.proofs.LevelLaws.{has_letter}

-- ---- the work of a multiple
covers_two : (k : KindName) (ds : List Decomp) (l m : ℕ) (a b x y : Table) → Covers k ds (pieces l (a ∷ [])) (pieces m (x ∷ [])) →
    Covers k ds (pieces l (b ∷ [])) (pieces m (y ∷ [])) → Covers k ds (pieces l (a ∷ b ∷ [])) (pieces m (x ∷ y ∷ []))
covers_two k ds l m a b x y p q = covers_beside k ds (pieces l (a ∷ [])) (pieces l (b ∷ [])) (pieces m (x ∷ [])) (pieces m (y ∷ [])) p q

pub scale_by_halves : (k : KindName) (v : View) (c : ℤ) → are_allowed k v.letters ≡ true → GoesByHalves k v (multiple c) (scale_work c)
scale_by_halves k v c allowed = record {
  by_halves = λ t. refl;
  covers = λ l t within o.
      let n = length (drop (l + 1) v.letters) in
      let d = letter_at v.letters l in
      let letter = has_letter k v l allowed within in
      covers_two k v.letters l (l + 1) _ _ t (multiple c t) (covers_twice k v.letters l d t letter o)
      (covers_twice k v.letters l d (multiple c t) letter (IsOver-each n (λ x. c *ℤ x) t o));
}

-- what the multiple of a table covers: those of its parts, and their join
pub record MultipleCovers (k : KindName) (v : View) (l : ℕ) (c : ℤ) (t : Table) : Type 0 where
  pub low : Covers k v.letters (scale_work c l t) (scale_work c (l + 1) (part0 (letter_at v.letters l) t))
  pub high : Covers k v.letters (scale_work c l t) (scale_work c (l + 1) (part1 (letter_at v.letters l) t))
  pub join : Covers k v.letters (scale_work c l t)
      (join_work (letter_at v.letters l) l (multiple c (part0 (letter_at v.letters l) t)) (multiple c (part1 (letter_at v.letters l) t)))
  pub merges : merged (letter_at v.letters l) (multiple c (part0 (letter_at v.letters l) t)) (multiple c (part1 (letter_at v.letters l) t)) ≡ multiple c t

pub multiple_covers : (k : KindName) (v : View) (l : ℕ) (c : ℤ) (t : Table) → are_allowed k v.letters ≡ true → l < length v.letters →
    IsOver (length (drop l v.letters)) t → MultipleCovers k v l c t
multiple_covers k v l c t allowed within over =
    let d = letter_at v.letters l in
    let n = length (drop (l + 1) v.letters) in
    let letter = has_letter k v l allowed within in
    let o : IsOver (suc n) t = subst (λ (xs : List Decomp). IsOver (length xs) t) letter.letters over in
    let m = multiple c t in
    let r = IsOver-each (suc n) (λ x. c *ℤ x) t o in
    let low_is = part0-each d (λ x. c *ℤ x) t in
    let high_is = part1-multiple d c t in
    let p = multiple c (part0 d t) in
    let q = multiple c (part1 d t) in
    let over_p = IsOver-each n (λ x. c *ℤ x) (part0 d t) (IsOver-part0 n d t o) in
    let over_q = IsOver-each n (λ x. c *ℤ x) (part1 d t) (IsOver-part1 n d t o) in
    let merges : merged d p q ≡ m = ap (λ (x : Table). merged d x q) (sym low_is) ∙ ap (merged d (part0 d m)) (sym high_is) ∙ merged-parts n d m r in
    let Part : Table → Type 0 = λ x. Covers k v.letters (pieces l (m ∷ [])) (pieces (l + 1) (x ∷ [])) in
    record {
      low = covers_two k v.letters l (l + 1) t m (part0 d t) p (covers_low k v.letters l d t letter o) (subst Part low_is (covers_low k v.letters l d m letter r));
      high = covers_two k v.letters l (l + 1) t m (part1 d t) q (covers_high k v.letters l d t letter o) (subst Part high_is (covers_high k v.letters l d m letter r));
      join = covers_on k v.letters (scale_work c l t) (pieces l (m ∷ [])) _ (covers_right k v.letters (pieces l (t ∷ [])) (pieces l (m ∷ [])))
          (covers_join k v.letters l d p q m letter over_p over_q merges);
      merges = merges;
    }

pub scale_covers_multiple : (k : KindName) (ds : List Decomp) (c : ℤ) (l : ℕ) (t : Table) → Covers k ds (scale_work c l t) (pieces l (multiple c t ∷ []))
scale_covers_multiple k ds c l t = covers_right k ds (pieces l (t ∷ [])) (pieces l (multiple c t ∷ []))

pub scale_covers_operand : (k : KindName) (ds : List Decomp) (c : ℤ) (l : ℕ) (t : Table) → Covers k ds (scale_work c l t) (pieces l (t ∷ []))
scale_covers_operand k ds c l t = covers_left k ds (pieces l (t ∷ [])) (pieces l (multiple c t ∷ []))

-- ---- negatives
pub multiple-opposite : (c : ℤ) (t : Table) → c ≡ neg_ℤ (pos 1) → multiple c t ≡ opposite t
multiple-opposite c t is = each-same (λ x. c *ℤ x) neg_ℤ (λ x. ap (λ (z : ℤ). z *ℤ x) is ∙ minus_one-*ℤ x) t

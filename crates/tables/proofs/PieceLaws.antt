-- When the nodes of some pieces are among those of others, and the parts of tables.
use Rattle.std.proofs.Common.{◌≡◌, refl, sym, ◌∙◌, ap, subst, ℕ, zero, suc, ◌+◌, List, [], ◌∷◌, ◌++◌, Bool, true, false, length, drop, arith, inl, inr}
use Rattle.std.specs.Prelude.{ℤ, ◌^◌, unsigned_abs}
use Rattle.std.specs.List.{Contains}
use Rattle.std.proofs.lemmas.Bool.{ltb-true}
use Rattle.std.proofs.lemmas.List.Elements.{Contains-append_left, Contains-append_right, Contains-append_cases}
use Rattle.word_base.specs.Range.{InRange, in_range}
use Rattle.word_base.specs.declared.decomp.Decomp.{Decomp}
use Rattle.word_base.specs.declared.decomp.Decomp.TheVariants.{S, P, N}
use Rattle.word_base.specs.declared.kind_name.KindName.{KindName}
use Rattle.word_base.specs.declared.kind_name.KindName.TheVariants.{Evbdd, StarBmd, Hdd, KStarBmd}
use Rattle.tables.specs.Table.{Table, halves, IsOver, plus, times, part0, part1, merged, constant_table}
use Rattle.tables.specs.Tree.{Shape, Tree, constant, skips, node_join, tjoin}
use Rattle.tables.specs.Canonical.{canonical, IsNodeOf}
use Rattle.tables.specs.Fits.{weights_in_range, fits}
use Rattle.tables.specs.Laws.{are_allowed, AreJoinable, IsSkip}
use Rattle.tables.specs.Pieces.{Piece, pieces, InNodes, SomeUnfit, join_work, add_work, crossed, inner, mul_work}
use Rattle.tables.proofs.CanonicalLaws.{rule_of, parts_joinable, canonical-constant}
use Rattle.tables.proofs.FitsLaws.{fits_parts}
use Rattle.tables.proofs.KindLaws.{canonical-over, constant-leaf, part0-twice}
use Rattle.tables.proofs.TableLaws.{IsOver-part0, IsOver-part1, IsOver-merged, part0-merged, part1-merged}
use Rattle.tables.proofs.TreeLaws.{chosen}

-- Each node of the second list's diagrams is one of the first's, and where a piece of the second does not fit, one of the
-- first does not
pub record Covers (k : KindName) (ds : List Decomp) (qs ps : List Piece) : Type 0 where
  pub nodes : (s : Shape) → InNodes k ds ps s → InNodes k ds qs s
  pub unfit : SomeUnfit k ds ps → SomeUnfit k ds qs

pub covers_on : (k : KindName) (ds : List Decomp) (rs qs ps : List Piece) → Covers k ds rs qs → Covers k ds qs ps → Covers k ds rs ps
covers_on k ds rs qs ps c e = record { nodes = λ s h. c.nodes s (e.nodes s h); unfit = λ h. c.unfit (e.unfit h) }

-- pieces that are contained
pub covers_contained : (k : KindName) (ds : List Decomp) (qs ps : List Piece) → ((p : Piece) → Contains ps p → Contains qs p) → Covers k ds qs ps
covers_contained k ds qs ps within = record {
  nodes = λ s h. (h.0, within h.0 h.1, h.2);
  unfit = λ h. (h.0, within h.0 h.1, h.2);
}

pub covers_itself : (k : KindName) (ds : List Decomp) (ps : List Piece) → Covers k ds ps ps
covers_itself k ds ps = covers_contained k ds ps ps (λ p h. h)

pub covers_left : (k : KindName) (ds : List Decomp) (ps qs : List Piece) → Covers k ds (ps ++ qs) ps
covers_left k ds ps qs = covers_contained k ds (ps ++ qs) ps (λ p h. Contains-append_left ps qs p h)

pub covers_right : (k : KindName) (ds : List Decomp) (ps qs : List Piece) → Covers k ds (ps ++ qs) qs
covers_right k ds ps qs = covers_contained k ds (ps ++ qs) qs (λ p h. Contains-append_right ps qs p h)

pub covers_both : (k : KindName) (ds : List Decomp) (rs ps qs : List Piece) → Covers k ds rs ps → Covers k ds rs qs → Covers k ds rs (ps ++ qs)
covers_both k ds rs ps qs c e = record {
  nodes = λ s h. elim (Contains-append_cases ps qs h.0 h.1) [ inl in_ps ↦ c.nodes s (h.0, in_ps, h.2) | inr in_qs ↦ e.nodes s (h.0, in_qs, h.2) ];
  unfit = λ h. elim (Contains-append_cases ps qs h.0 h.1) [ inl in_ps ↦ c.unfit (h.0, in_ps, h.2) | inr in_qs ↦ e.unfit (h.0, in_qs, h.2) ];
}

pub covers_beside : (k : KindName) (ds : List Decomp) (qs rs ps os : List Piece) → Covers k ds qs ps → Covers k ds rs os → Covers k ds (qs ++ rs) (ps ++ os)
covers_beside k ds qs rs ps os c e =
    covers_both k ds (qs ++ rs) ps os
    (covers_on k ds (qs ++ rs) qs ps (covers_left k ds qs rs) c) (covers_on k ds (qs ++ rs) rs os (covers_right k ds qs rs) e)

-- ---- the parts of a table

-- the level's letter is allowed, and so are those below it
pub record HasLetter (k : KindName) (ds : List Decomp) (l : ℕ) (d : Decomp) : Type 0 where
  pub letters : drop l ds ≡ d ∷ drop (l + 1) ds
  pub allowed : are_allowed k (d ∷ drop (l + 1) ds) ≡ true

pub low_nodes_of_join : (k : KindName) (d : Decomp) (l : ℕ) (low high : Tree) (s : Shape) → IsNodeOf s low.shape → IsNodeOf s (tjoin k d l low high).shape
low_nodes_of_join k d l low high s h = chosen (λ t. IsNodeOf s t.shape) (skips k d low high) low (node_join k d l low high) (λ e. h) (λ e. at_node k)
  where
    at_node : (k : KindName) → IsNodeOf s (node_join k d l low high).shape
    at_node Evbdd = inr (inl h)
    at_node StarBmd = inr (inl h)
    at_node Hdd = inr (inl h)
    at_node KStarBmd = inr (inl h)

skipped_high : (k : KindName) (d : Decomp) (low high : Tree) (s : Shape) → IsSkip k d low high → IsNodeOf s high.shape → IsNodeOf s low.shape
skipped_high k S low high s e h = subst (λ (t : Tree). IsNodeOf s t.shape) (sym e) h
skipped_high k P low high s e h = absurd (subst (IsNodeOf s) (ap (λ (t : Tree). t.shape) e ∙ constant-leaf k _) h)
skipped_high k N low high s e h = absurd (subst (IsNodeOf s) (ap (λ (t : Tree). t.shape) e ∙ constant-leaf k _) h)

pub high_nodes_of_join : (k : KindName) (d : Decomp) (ds : List Decomp) (l : ℕ) (low high : Tree) (s : Shape) → AreJoinable k d ds l low high →
    IsNodeOf s high.shape → IsNodeOf s (tjoin k d l low high).shape
high_nodes_of_join k d ds l low high s j h =
    chosen (λ t. IsNodeOf s t.shape) (skips k d low high) low (node_join k d l low high)
    (λ e. skipped_high k d low high s ((rule_of k).skip_tells d ds l low high j e) h) (λ e. at_node k)
  where
    at_node : (k : KindName) → IsNodeOf s (node_join k d l low high).shape
    at_node Evbdd = inr (inr h)
    at_node StarBmd = inr (inr h)
    at_node Hdd = inr (inr h)
    at_node KStarBmd = inr (inr h)

false_back : (a b : Bool) → (b ≡ true → a ≡ true) → a ≡ false → b ≡ false
false_back a true f e = absurd (let t = f refl in cc)
false_back a false f e = refl

single : (l : ℕ) (t : Table) (p : Piece) → Contains (pieces l (t ∷ [])) p → record { level = l; table = t } ≡ p
single l t p (zero, low, at) = at
single l t p (suc n, low, at) = absurd (omega arith)

-- a piece is covered where its one table's nodes are, and a table that does not fit is
covers_piece : (k : KindName) (ds : List Decomp) (l m : ℕ) (t u : Table) →
    ((s : Shape) → IsNodeOf s (canonical k (drop m ds) m u).shape → IsNodeOf s (canonical k (drop l ds) l t).shape) →
    (fits k (drop m ds) u ≡ false → fits k (drop l ds) t ≡ false) → Covers k ds (pieces l (t ∷ [])) (pieces m (u ∷ []))
covers_piece k ds l m t u nodes unfit = record {
  nodes = λ s h. (
    record { level = l; table = t },
    (0, omega arith, refl),
    nodes s (subst (λ (p : Piece). IsNodeOf s (canonical k (drop p.level ds) p.level p.table).shape) (sym (single m u h.0 h.1)) h.2),
  );
  unfit = λ h. (
    record { level = l; table = t },
    (0, omega arith, refl),
    unfit (subst (λ (p : Piece). fits k (drop p.level ds) p.table ≡ false) (sym (single m u h.0 h.1)) h.2),
  );
}

-- the nodes of the low part are nodes of the table, and where the low part does not fit, the table does not
pub covers_low : (k : KindName) (ds : List Decomp) (l : ℕ) (d : Decomp) (t : Table) → HasLetter k ds l d → IsOver (suc (length (drop (l + 1) ds))) t →
    Covers k ds (pieces l (t ∷ [])) (pieces (l + 1) (part0 d t ∷ []))
covers_low k ds l d t at o =
    let below = drop (l + 1) ds in
    let Nodes : List Decomp → Shape → Type 0 = λ xs s. IsNodeOf s (canonical k xs l t).shape in
    let is = canonical-over k d below l (length below) t o in
    covers_piece k ds l (l + 1) t (part0 d t)
    (λ s h.
    subst (λ (xs : List Decomp). Nodes xs s) (sym at.letters)
    (subst (λ (x : Tree). IsNodeOf s x.shape) (sym is) (low_nodes_of_join k d l (canonical k below (l + 1) (part0 d t)) (canonical k below (l + 1) (part1 d t)) s h)))
    (λ e. ap (λ (xs : List Decomp). fits k xs t) at.letters ∙ false_back _ _ (λ f. (fits_parts k d below t f).0) e)

-- the same of the high part
pub covers_high : (k : KindName) (ds : List Decomp) (l : ℕ) (d : Decomp) (t : Table) → HasLetter k ds l d → IsOver (suc (length (drop (l + 1) ds))) t →
    Covers k ds (pieces l (t ∷ [])) (pieces (l + 1) (part1 d t ∷ []))
covers_high k ds l d t at o =
    let below = drop (l + 1) ds in
    let Nodes : List Decomp → Shape → Type 0 = λ xs s. IsNodeOf s (canonical k xs l t).shape in
    let is = canonical-over k d below l (length below) t o in
    let j = parts_joinable k d below l (part0 d t) (part1 d t) at.allowed (IsOver-part0 (length below) d t o) (IsOver-part1 (length below) d t o) in
    covers_piece k ds l (l + 1) t (part1 d t)
    (λ s h.
    subst (λ (xs : List Decomp). Nodes xs s) (sym at.letters)
    (subst (λ (x : Tree). IsNodeOf s x.shape) (sym is) (high_nodes_of_join k d below l (canonical k below (l + 1) (part0 d t)) (canonical k below (l + 1) (part1 d t)) s j h)))
    (λ e. ap (λ (xs : List Decomp). fits k xs t) at.letters ∙ false_back _ _ (λ f. (fits_parts k d below t f).1) e)

-- a table covers the join of its parts
pub covers_join : (k : KindName) (ds : List Decomp) (l : ℕ) (d : Decomp) (p q t : Table) → HasLetter k ds l d → IsOver (length (drop (l + 1) ds)) p →
    IsOver (length (drop (l + 1) ds)) q → merged d p q ≡ t → Covers k ds (pieces l (t ∷ [])) (join_work d l p q)
covers_join k ds l d p q t at o r is =
    let below = length (drop (l + 1) ds) in
    let m = merged d p q in
    let over = IsOver-merged below d p q o r in
    let Low : Table → Type 0 = λ x. Covers k ds (pieces l (m ∷ [])) (pieces (l + 1) (x ∷ [])) in
    let Whole : Table → Type 0 = λ x. Covers k ds (pieces l (x ∷ [])) (join_work d l p q) in
    subst Whole is
    (covers_both k ds _ (pieces (l + 1) (p ∷ q ∷ [])) (pieces l (m ∷ []))
    (covers_both k ds _ (pieces (l + 1) (p ∷ [])) (pieces (l + 1) (q ∷ []))
    (subst Low (part0-merged d p q) (covers_low k ds l d m at over))
    (subst Low (part1-merged below d p q o r) (covers_high k ds l d m at over)))
    (covers_itself k ds (pieces l (m ∷ []))))

-- a join has each of its parts
pub join_has_low : (k : KindName) (ds : List Decomp) (l : ℕ) (d : Decomp) (p q : Table) → Covers k ds (join_work d l p q) (pieces (l + 1) (p ∷ []))
join_has_low k ds l d p q = covers_left k ds (pieces (l + 1) (p ∷ [])) (pieces (l + 1) (q ∷ []) ++ pieces l (merged d p q ∷ []))

pub join_has_high : (k : KindName) (ds : List Decomp) (l : ℕ) (d : Decomp) (p q : Table) → Covers k ds (join_work d l p q) (pieces (l + 1) (q ∷ []))
join_has_high k ds l d p q =
    covers_on k ds _ _ _
    (covers_right k ds (pieces (l + 1) (p ∷ [])) (pieces (l + 1) (q ∷ []) ++ pieces l (merged d p q ∷ [])))
    (covers_left k ds (pieces (l + 1) (q ∷ [])) (pieces l (merged d p q ∷ [])))

-- a table that the level does not split covers its half
pub covers_twice : (k : KindName) (ds : List Decomp) (l : ℕ) (d : Decomp) (t : Table) → HasLetter k ds l d → IsOver (length (drop (l + 1) ds)) t →
    Covers k ds (pieces l (halves t t ∷ [])) (pieces (l + 1) (t ∷ []))
covers_twice k ds l d t at o =
    subst (λ (x : Table). Covers k ds (pieces l (halves t t ∷ [])) (pieces (l + 1) (x ∷ []))) (part0-twice d t)
    (covers_low k ds l d (halves t t) at (o, o))

-- ---- constants
not_in_range : (z : ℤ) → (InRange z → ⊥) → in_range z ≡ false
not_in_range z h = by_test (in_range z) refl
  where
    by_test : (b : Bool) → in_range z ≡ b → b ≡ false
    by_test false e = refl
    by_test true e = absurd (h (ltb-true (unsigned_abs z) (2 ^ 127) e))

no_weight : (k : KindName) (c : ℤ) → in_range c ≡ false → weights_in_range (constant k c).root ≡ false
no_weight Evbdd c h = rw h
no_weight StarBmd c h = rw h
no_weight Hdd c h = rw h
no_weight KStarBmd c h = h

-- a constant that is no weight does not fit
pub constant_unfit : (k : KindName) (ds : List Decomp) (c : ℤ) → are_allowed k ds ≡ true → (InRange c → ⊥) → fits k ds (constant_table (length ds) c) ≡ false
constant_unfit k [] c allowed h = no_weight k c (not_in_range c h)
constant_unfit k (d ∷ ds) c allowed h =
    let root : weights_in_range (canonical k (d ∷ ds) 0 (constant_table (length (d ∷ ds)) c)).root ≡ false =
    ap (λ (t : Tree). weights_in_range t.root) (canonical-constant k (d ∷ ds) 0 c allowed) ∙ no_weight k c (not_in_range c h) in
    rw root

-- ---- products
-- the pieces of a product have the product itself
pub inner_has_product : (k : KindName) (es ds : List Decomp) (l : ℕ) (a b : Table) → Covers k es (inner ds l a b) (pieces l (times a b ∷ []))
inner_has_product k es [] l a b = covers_itself k es _
inner_has_product k es (S ∷ ds) l a b = covers_left k es (pieces l (times a b ∷ [])) _
inner_has_product k es (P ∷ ds) l a b = covers_left k es (pieces l (times a b ∷ [])) _
inner_has_product k es (N ∷ ds) l a b = covers_left k es (pieces l (times a b ∷ [])) _

-- those of a product at a Davio level, after the product itself
abbrev pub davio_inner : Decomp → List Decomp → ℕ → Table → Table → List Piece
davio_inner d ds l a b =
    inner ds (l + 1) (part0 d a) (part0 d b) ++ inner ds (l + 1) (part0 d a) (part1 d b) ++ inner ds (l + 1) (part1 d a) (part0 d b)
    ++ inner ds (l + 1) (part1 d a) (part1 d b) ++ crossed (l + 1) (part0 d a) (part1 d a) (part0 d b) (part1 d b)

-- a list that covers these covers each product of the parts, and the two sums of products
pub record CoversProducts (k : KindName) (es : List Decomp) (qs : List Piece) (d : Decomp) (ds : List Decomp) (l : ℕ) (a b : Table) : Type 0 where
  pub low : Covers k es qs (inner ds (l + 1) (part0 d a) (part0 d b))
  pub low_high : Covers k es qs (inner ds (l + 1) (part0 d a) (part1 d b))
  pub high_low : Covers k es qs (inner ds (l + 1) (part1 d a) (part0 d b))
  pub high_high : Covers k es qs (inner ds (l + 1) (part1 d a) (part1 d b))
  pub sums : Covers k es qs (crossed (l + 1) (part0 d a) (part1 d a) (part0 d b) (part1 d b))

pub covers_products : (k : KindName) (es : List Decomp) (qs : List Piece) (d : Decomp) (ds : List Decomp) (l : ℕ) (a b : Table) →
    Covers k es qs (davio_inner d ds l a b) → CoversProducts k es qs d ds l a b
covers_products k es qs d ds l a b c =
    let i : Table → Table → List Piece = λ x y. inner ds (l + 1) x y in
    let p = part0 d a in
    let q = part1 d a in
    let r = part0 d b in
    let s = part1 d b in
    let e = crossed (l + 1) p q r s in
    let first_two = i p r ++ i p s in
    let first_three = first_two ++ i q r in
    let four = covers_on k es qs (first_three ++ i q s ++ e) (first_three ++ i q s) c (covers_left k es (first_three ++ i q s) e) in
    let three = covers_on k es qs (first_three ++ i q s) first_three four (covers_left k es first_three (i q s)) in
    let two = covers_on k es qs first_three first_two three (covers_left k es first_two (i q r)) in
    record {
      low = covers_on k es qs first_two (i p r) two (covers_left k es (i p r) (i p s));
      low_high = covers_on k es qs first_two (i p s) two (covers_right k es (i p r) (i p s));
      high_low = covers_on k es qs first_three (i q r) three (covers_right k es first_two (i q r));
      high_high = covers_on k es qs (first_three ++ i q s) (i q s) four (covers_right k es first_three (i q s));
      sums = covers_on k es qs (first_three ++ i q s ++ e) e c (covers_right k es (first_three ++ i q s) e);
    }

inner-davio : (d : Decomp) (ds : List Decomp) (l : ℕ) (a b : Table) → (d ≡ S → ⊥) → inner (d ∷ ds) l a b ≡ pieces l (times a b ∷ []) ++ davio_inner d ds l a b
inner-davio S ds l a b davio = absurd (davio refl)
inner-davio P ds l a b davio = refl
inner-davio N ds l a b davio = refl

-- What the pieces of a product at a Davio level cover: those of the products of its parts, and of the two sums of these
pub record CoversMul (k : KindName) (es : List Decomp) (qs : List Piece) (d : Decomp) (ds : List Decomp) (l : ℕ) (a b : Table) : Type 0 where
  pub product : Covers k es qs (pieces l (times a b ∷ []))
  pub low : Covers k es qs (mul_work ds (l + 1) (part0 d a) (part0 d b))
  pub low_high : Covers k es qs (mul_work ds (l + 1) (part0 d a) (part1 d b))
  pub high_low : Covers k es qs (mul_work ds (l + 1) (part1 d a) (part0 d b))
  pub high_high : Covers k es qs (mul_work ds (l + 1) (part1 d a) (part1 d b))
  pub cross : Covers k es qs (add_work (l + 1) (times (part0 d a) (part1 d b)) (times (part1 d a) (part0 d b)))
  pub high : Covers k es qs (add_work (l + 1) (plus (times (part0 d a) (part1 d b)) (times (part1 d a) (part0 d b))) (times (part1 d a) (part1 d b)))

pub covers_mul : (k : KindName) (es : List Decomp) (l : ℕ) (d : Decomp) (a b : Table) → (d ≡ S → ⊥) → HasLetter k es l d →
    IsOver (suc (length (drop (l + 1) es))) a → IsOver (suc (length (drop (l + 1) es))) b → CoversMul k es (mul_work (drop l es) l a b) d (drop (l + 1) es) l a b
covers_mul k es l d a b davio at o r =
    let ds = drop (l + 1) es in
    let qs = mul_work (d ∷ ds) l a b in
    let rest = inner (d ∷ ds) l a b in
    let p = part0 d a in
    let q = part1 d a in
    let u = part0 d b in
    let s = part1 d b in
    let sum = plus (times p s) (times q u) in
    let whole : Covers k es qs (davio_inner d ds l a b) =
    subst (λ (x : List Piece). Covers k es (pieces l (a ∷ b ∷ []) ++ x) (davio_inner d ds l a b)) (sym (inner-davio d ds l a b davio))
    (covers_on k es _ _ _ (covers_right k es (pieces l (a ∷ b ∷ [])) (pieces l (times a b ∷ []) ++ davio_inner d ds l a b))
    (covers_right k es (pieces l (times a b ∷ [])) (davio_inner d ds l a b))) in
    let of_a : Covers k es qs (pieces l (a ∷ [])) = covers_left k es (pieces l (a ∷ [])) (pieces l (b ∷ []) ++ rest) in
    let of_b : Covers k es qs (pieces l (b ∷ [])) =
    covers_on k es _ _ _ (covers_right k es (pieces l (a ∷ [])) (pieces l (b ∷ []) ++ rest)) (covers_left k es (pieces l (b ∷ [])) rest) in
    let a_low = covers_on k es qs _ _ of_a (covers_low k es l d a at o) in
    let a_high = covers_on k es qs _ _ of_a (covers_high k es l d a at o) in
    let b_low = covers_on k es qs _ _ of_b (covers_low k es l d b at r) in
    let b_high = covers_on k es qs _ _ of_b (covers_high k es l d b at r) in
    let has = covers_products k es qs d ds l a b whole in
    let factors : (x y : Table) → Covers k es qs (pieces (l + 1) (x ∷ [])) → Covers k es qs (pieces (l + 1) (y ∷ [])) → Covers k es qs (inner ds (l + 1) x y) → Covers k es qs (mul_work ds (l + 1) x y) =
    λ x y c e f. covers_both k es qs (pieces (l + 1) (x ∷ y ∷ [])) (inner ds (l + 1) x y) (covers_both k es qs (pieces (l + 1) (x ∷ [])) (pieces (l + 1) (y ∷ [])) c e) f in
    let product_of : (x y : Table) → Covers k es qs (inner ds (l + 1) x y) → Covers k es qs (pieces (l + 1) (times x y ∷ [])) =
    λ x y f. covers_on k es _ _ _ f (inner_has_product k es ds (l + 1) x y) in
    let of_sum = covers_on k es qs _ _ has.sums (covers_left k es (pieces (l + 1) (sum ∷ [])) (pieces (l + 1) (plus sum (times q s) ∷ []))) in
    let of_high = covers_on k es qs _ _ has.sums (covers_right k es (pieces (l + 1) (sum ∷ [])) (pieces (l + 1) (plus sum (times q s) ∷ []))) in
    let three : (x y z : Table) → Covers k es qs (pieces (l + 1) (x ∷ [])) → Covers k es qs (pieces (l + 1) (y ∷ [])) → Covers k es qs (pieces (l + 1) (z ∷ [])) → Covers k es qs (pieces (l + 1) (x ∷ y ∷ z ∷ [])) =
    λ x y z c e f. covers_both k es qs (pieces (l + 1) (x ∷ [])) (pieces (l + 1) (y ∷ z ∷ [])) c (covers_both k es qs (pieces (l + 1) (y ∷ [])) (pieces (l + 1) (z ∷ [])) e f) in
    subst (λ (xs : List Decomp). CoversMul k es (mul_work xs l a b) d ds l a b) (sym at.letters)
    (record {
      product = covers_on k es _ _ _ (covers_right k es (pieces l (a ∷ b ∷ [])) rest) (inner_has_product k es (d ∷ ds) l a b);
      low = factors p u a_low b_low has.low;
      low_high = factors p s a_low b_high has.low_high;
      high_low = factors q u a_high b_low has.high_low;
      high_high = factors q s a_high b_high has.high_high;
      cross = three (times p s) (times q u) sum (product_of p s has.low_high) (product_of q u has.high_low) of_sum;
      high = three sum (times q s) (plus sum (times q s)) of_sum (product_of q s has.high_high) of_high;
    })

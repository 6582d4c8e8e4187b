-- The root weights of a canonical diagram do not depend on its level, and those of a table that fits are in range.
use Rattle.std.proofs.Common.{◌≡◌, refl, sym, ◌∙◌, ap, subst, ℕ, zero, suc, ◌+◌, ℤ, pos, ◌-ℤ◌, List, [], ◌∷◌, Bool, true, false, ◌&&◌, length}
use Rattle.std.specs.Prelude.{if◌then◌else◌}
use Rattle.std.proofs.lemmas.Bool.{false_from_ne_true, and_parts}
use Rattle.word_base.specs.declared.decomp.Decomp.{Decomp}
use Rattle.word_base.specs.declared.decomp.Decomp.TheVariants.{S, P, N}
use Rattle.word_base.specs.declared.kind_name.KindName.{KindName}
use Rattle.word_base.specs.declared.kind_name.KindName.TheVariants.{Evbdd, StarBmd, Hdd, KStarBmd}
use Rattle.tables.specs.Table.{Table, entry, halves, IsOver, part0, part1, constant_table}
use Rattle.tables.specs.Tree.{Weights, Tree, constant, skips, node_join, tjoin}
use Rattle.tables.specs.Canonical.{canonical}
use Rattle.tables.specs.Fits.{weights_in_range, difference_in_range, fits}
use Rattle.tables.specs.Laws.{are_allowed, IsSkip}
use Rattle.tables.proofs.CanonicalLaws.{rule_of, allowed_below, parts_joinable, canonical_tells, canonical-constant, IsOver-constant}
use Rattle.tables.proofs.FitsLaws.{fits_parts}
use Rattle.tables.proofs.KindLaws.{canonical-over}
use Rattle.tables.proofs.TableLaws.{IsOver-part0, IsOver-part1}

-- the root weights of a join that is no skip are made of those of the two
node_root : (k : KindName) (d : Decomp) (l m : ℕ) (a b c e : Tree) → a.root ≡ c.root → b.root ≡ e.root → (node_join k d l a b).root ≡ (node_join k d m c e).root
node_root k d l m a b c e p q = left k d ∙ right k d
  where
    left : (k : KindName) (d : Decomp) → (node_join k d l a b).root ≡ (node_join k d m (record { root = c.root; shape = a.shape }) b).root
    left Evbdd d = ap (λ (w : Weights). (node_join Evbdd d m (record { root = w; shape = a.shape }) b).root) p
    left StarBmd d = ap (λ (w : Weights). (node_join StarBmd d m (record { root = w; shape = a.shape }) b).root) p
    left Hdd d = refl
    left KStarBmd S = ap (λ (w : Weights). (node_join KStarBmd S m (record { root = w; shape = a.shape }) b).root) p
    left KStarBmd P = ap (λ (w : Weights). (node_join KStarBmd P m (record { root = w; shape = a.shape }) b).root) p
    left KStarBmd N = ap (λ (w : Weights). (node_join KStarBmd N m (record { root = w; shape = a.shape }) b).root) p

    right : (k : KindName) (d : Decomp) → (node_join k d m (record { root = c.root; shape = a.shape }) b).root ≡ (node_join k d m c e).root
    right Evbdd d = refl
    right StarBmd d = ap (λ (w : Weights). (node_join StarBmd d m c (record { root = w; shape = b.shape })).root) q
    right Hdd d = refl
    right KStarBmd S = ap (λ (w : Weights). (node_join KStarBmd S m c (record { root = w; shape = b.shape })).root) q
    right KStarBmd P = ap (λ (w : Weights). (node_join KStarBmd P m c (record { root = w; shape = b.shape })).root) q
    right KStarBmd N = ap (λ (w : Weights). (node_join KStarBmd N m c (record { root = w; shape = b.shape })).root) q

-- a table of zeros has the constant 0 as its diagram, at each level
zero_at : (k : KindName) (ds : List Decomp) (l m : ℕ) (q : Table) → are_allowed k ds ≡ true → IsOver (length ds) q →
    canonical k ds l q ≡ constant k (pos 0) → canonical k ds m q ≡ constant k (pos 0)
zero_at k ds l m q allowed r e =
    let zeros = constant_table (length ds) (pos 0) in
    let is : q ≡ zeros = canonical_tells k ds l q zeros allowed r (IsOver-constant (length ds) (pos 0)) (e ∙ sym (canonical-constant k ds l (pos 0) allowed)) in
    ap (canonical k ds m) is ∙ canonical-constant k ds m (pos 0) allowed

-- a skip of canonical diagrams is one at each level
skip_at : (k : KindName) (d : Decomp) (ds : List Decomp) (l m : ℕ) (p q : Table) → are_allowed k ds ≡ true → IsOver (length ds) p → IsOver (length ds) q →
    IsSkip k d (canonical k ds l p) (canonical k ds l q) → IsSkip k d (canonical k ds m p) (canonical k ds m q)
skip_at k S ds l m p q allowed o r e = ap (canonical k ds m) (canonical_tells k ds l p q allowed o r e)
skip_at k P ds l m p q allowed o r e = zero_at k ds l m q allowed r e
skip_at k N ds l m p q allowed o r e = zero_at k ds l m q allowed r e

same_test : (a b : Bool) → (a ≡ true → b ≡ true) → (b ≡ true → a ≡ true) → a ≡ b
same_test true b f g = sym (f refl)
same_test false b f g = sym (false_from_ne_true b (λ e. let t = g e in absurd (cc)))

chosen_roots : (a b : Bool) (t u v w : Tree) → a ≡ b → t.root ≡ v.root → u.root ≡ w.root → (if a then t else u).root ≡ (if b then v else w).root
chosen_roots true true t u v w e p q = p
chosen_roots false false t u v w e p q = q
chosen_roots true false t u v w e p q = absurd (cc)
chosen_roots false true t u v w e p q = absurd (cc)

pub root_at : (k : KindName) (ds : List Decomp) (l m : ℕ) (t : Table) → are_allowed k ds ≡ true → IsOver (length ds) t → (canonical k ds l t).root ≡ (canonical k ds m t).root
root_at k [] l m (entry x) allowed o = refl
root_at k [] l m (halves a b) allowed o = absurd o
root_at k (d ∷ ds) l m (entry x) allowed o = absurd o
root_at k (d ∷ ds) l m (halves a b) allowed o =
    let t = halves a b in
    let p = part0 d t in
    let q = part1 d t in
    let below = allowed_below k d ds allowed in
    let op = IsOver-part0 (length ds) d t o in
    let oq = IsOver-part1 (length ds) d t o in
    let low = root_at k ds (l + 1) (m + 1) p below op in
    let high = root_at k ds (l + 1) (m + 1) q below oq in
    let joinable = λ (n : ℕ). parts_joinable k d ds n p q allowed op oq in
    let over : (n i : ℕ) → skips k d (canonical k ds (n + 1) p) (canonical k ds (n + 1) q) ≡ true → skips k d (canonical k ds (i + 1) p) (canonical k ds (i + 1) q) ≡ true =
    λ n i e. (rule_of k).skip_told d ds i _ _ (joinable i) (skip_at k d ds (n + 1) (i + 1) p q below op oq ((rule_of k).skip_tells d ds n _ _ (joinable n) e)) in
    chosen_roots _ _ _ _ _ _ (same_test _ _ (over l m) (over m l)) low (node_root k d l m _ _ _ _ low high)

-- ---- tables that fit
pub fits_root : (k : KindName) (ds : List Decomp) (l : ℕ) (t : Table) → are_allowed k ds ≡ true → IsOver (length ds) t → fits k ds t ≡ true →
    weights_in_range (canonical k ds l t).root ≡ true
fits_root k [] l (entry x) allowed o h = h
fits_root k [] l (halves a b) allowed o h = absurd o
fits_root k (d ∷ ds) l (entry x) allowed o h = absurd o
fits_root k (d ∷ ds) l (halves a b) allowed o h =
    ap weights_in_range (root_at k (d ∷ ds) l 0 (halves a b) allowed o) ∙ (and_parts (weights_in_range (canonical k (d ∷ ds) 0 (halves a b)).root) _ h).0

-- the difference of additive weights depends on the root weights alone
difference_of_roots : (k : KindName) (d : Decomp) (a b c e : Tree) → a.root ≡ c.root → b.root ≡ e.root → difference_in_range k d a b ≡ difference_in_range k d c e
difference_of_roots k d a b c e p q = by_kind k d
  where
    moved : (f : Weights → Weights → Bool) → f a.root b.root ≡ f c.root e.root
    moved f = ap (λ (w : Weights). f w b.root) p ∙ ap (f c.root) q

    by_kind : (k : KindName) (d : Decomp) → difference_in_range k d a b ≡ difference_in_range k d c e
    by_kind Evbdd d = moved (λ v w. difference_in_range Evbdd d (record { root = v; shape = a.shape }) (record { root = w; shape = b.shape }))
    by_kind StarBmd d = refl
    by_kind Hdd d = refl
    by_kind KStarBmd S = moved (λ v w. difference_in_range KStarBmd S (record { root = v; shape = a.shape }) (record { root = w; shape = b.shape }))
    by_kind KStarBmd P = refl
    by_kind KStarBmd N = refl

pub fits_difference : (k : KindName) (d : Decomp) (ds : List Decomp) (t : Table) (low high : Tree) → are_allowed k (d ∷ ds) ≡ true → IsOver (suc (length ds)) t →
    low.root ≡ (canonical k ds 1 (part0 d t)).root → high.root ≡ (canonical k ds 1 (part1 d t)).root → fits k (d ∷ ds) t ≡ true → difference_in_range k d low high ≡ true
fits_difference k d ds (entry x) low high allowed o p q h = absurd o
fits_difference k d ds (halves a b) low high allowed o p q h =
    let t = halves a b in
    let near = difference_in_range k d (canonical k ds 1 (part0 d t)) (canonical k ds 1 (part1 d t)) in
    difference_of_roots k d low high _ _ p q
    ∙ (and_parts near (fits k ds (part0 d t) && fits k ds (part1 d t)) (and_parts (weights_in_range (canonical k (d ∷ ds) 0 t).root) _ h).1).0

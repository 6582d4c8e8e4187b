-- Edges without their shifts, and with them put back: what they stand for.
use Rattle.std.proofs.Common.{◌≡◌, refl, sym, ◌∙◌, ap, subst, ℕ, ℤ, pos, ◌+ℤ◌, true, length, drop, arith}
use Rattle.std.specs.Prelude.{neg_ℤ}
use Rattle.std.proofs.lemmas.Int.{ints}
use Rattle.word_base.specs.declared.kind_name.KindName.{KindName}
use Rattle.word_base.specs.declared.kind_name.KindName.TheVariants.{Evbdd, StarBmd, Hdd, KStarBmd}
use Rattle.record_store.specs.StoreView.{find_in}
use Rattle.tables.specs.Table.{Table, IsOver, plus}
use Rattle.tables.specs.Tree.{Weights, Tree}
use Rattle.tables.specs.Factors.{IsSummand, shifted_weights, shifted_tree, raised_by}
use Rattle.tables.specs.Canonical.{canonical}
use Rattle.tables.specs.Laws.{are_allowed}
use Rattle.tables.proofs.SummandLaws.{summands_go_through}
use Rattle.tables.proofs.TableLaws.{each-each, each-identity, sums_of_raised_tables, IsOver-each}
use Rattle.kind_laws.specs.Graph.{HasShape}
use Rattle.kind_laws.specs.Plain.{PlainEdge, plain_edge}
use Rattle.kind_laws.specs.Scale.{shift_of, unshifted, MayShift, shifted}
use Rattle.kind_laws.proofs.ScaleLaws.{shifted-keeps_node}
use Rattle.diagram.specs.View.{View, StandsAt, IsEdge}
use Rattle.diagram.proofs.LevelLaws.{allowed_from}

-- ---- summands of edges
pub is_summand : (k : KindName) (c : ℤ) → MayShift k c → IsSummand k c
is_summand Evbdd c may = tt
is_summand StarBmd c may = may
is_summand Hdd c may = may
is_summand KStarBmd c may = tt

pub may_lower : (k : KindName) (w : Weights) → MayShift k (neg_ℤ (shift_of k w))
may_lower Evbdd w = tt
may_lower StarBmd w = refl
may_lower Hdd w = refl
may_lower KStarBmd w = tt

pub may_shift_both : (k : KindName) (v w : Weights) → MayShift k (shift_of k v +ℤ shift_of k w)
may_shift_both Evbdd v w = tt
may_shift_both StarBmd v w = refl
may_shift_both Hdd v w = refl
may_shift_both KStarBmd v w = tt

nothing_left : (x : ℤ) → pos 0 ≡ neg_ℤ x +ℤ x
nothing_left x = omega (arith, ints)

unshifted-lowered : (k : KindName) (e : PlainEdge) → unshifted k e ≡ shifted k (neg_ℤ (shift_of k e.root)) e
unshifted-lowered Evbdd e = ap (λ (w : ℤ). plain_edge w (pos 0) e.node) (nothing_left e.root.weight)
unshifted-lowered StarBmd e = refl
unshifted-lowered Hdd e = refl
unshifted-lowered KStarBmd e = ap (λ (x : ℤ). plain_edge e.root.weight x e.node) (nothing_left e.root.extra)

shifted_root : (k : KindName) (c : ℤ) (e : PlainEdge) (t : Tree) → e.root ≡ t.root → (shifted k c e).root ≡ (shifted_tree k c t).root
shifted_root Evbdd c e t h = ap (shifted_weights Evbdd c) h
shifted_root StarBmd c e t h = h
shifted_root Hdd c e t h = h
shifted_root KStarBmd c e t h = ap (shifted_weights KStarBmd c) h

-- ---- what they stand for
pub shifted_stands : (k : KindName) (v : View) (l : ℕ) (c : ℤ) (t : Table) (e : PlainEdge) → MayShift k c → StandsAt k v l t e →
    StandsAt k v l (raised_by c t) (shifted k c e)
shifted_stands k v l c t e may h =
    let ds = drop l v.letters in
    let find = find_in v.store in
    let raised = summands_go_through k ds l c t (is_summand k c may) (allowed_from k v.letters l h.allowed) h.stands.over in
    record {
      allowed = h.allowed;
      no_zero = h.no_zero;
      within = h.within;
      stands = record {
        over = IsOver-each (length ds) (λ x. c +ℤ x) t h.stands.over;
        root_is = shifted_root k c e (canonical k ds l t) h.stands.root_is ∙ ap (λ (x : Tree). x.root) (sym raised);
        shape_is = subst (λ (n : ℕ). HasShape k find n (canonical k ds l (raised_by c t)).shape) (sym (shifted-keeps_node k c e))
            (subst (λ (x : Tree). HasShape k find e.node x.shape) (sym raised) h.stands.shape_is);
      };
    }

-- a table without the shift of the edge that stands for it
abbrev pub lowered : KindName → PlainEdge → Table → Table
lowered k e = raised_by (neg_ℤ (shift_of k e.root))

pub unshifted_stands : (k : KindName) (v : View) (l : ℕ) (t : Table) (e : PlainEdge) → StandsAt k v l t e → StandsAt k v l (lowered k e t) (unshifted k e)
unshifted_stands k v l t e h =
    subst (StandsAt k v l (lowered k e t)) (sym (unshifted-lowered k e)) (shifted_stands k v l (neg_ℤ (shift_of k e.root)) t e (may_lower k e.root) h)

pub unshifted_good : (k : KindName) (v : View) (e : PlainEdge) → IsEdge k v e → IsEdge k v (unshifted k e)
unshifted_good k v e h = (lowered k e h.0, unshifted_stands k v 0 h.0 e h.1)

-- ---- nodes
pub raised_shape : (k : KindName) (v : View) (l : ℕ) (c : ℤ) (t : Table) → MayShift k c → are_allowed k v.letters ≡ true → IsOver (length (drop l v.letters)) t →
    (canonical k (drop l v.letters) l (raised_by c t)).shape ≡ (canonical k (drop l v.letters) l t).shape
raised_shape k v l c t may allowed over =
    ap (λ (x : Tree). x.shape) (summands_go_through k (drop l v.letters) l c t (is_summand k c may) (allowed_from k v.letters l allowed) over)

-- ---- sums
put_back : (c d x : ℤ) → (c +ℤ d) +ℤ ((neg_ℤ c +ℤ neg_ℤ d) +ℤ x) ≡ x
put_back c d x = omega (arith, ints)

-- a sum of two tables is that of the tables without their shifts, plus both shifts
pub sum_put_back : (c d : ℤ) (n : ℕ) (t u : Table) → IsOver n t → IsOver n u →
    raised_by (c +ℤ d) (plus (raised_by (neg_ℤ c) t) (raised_by (neg_ℤ d) u)) ≡ plus t u
sum_put_back c d n t u o p =
    ap (raised_by (c +ℤ d)) (sums_of_raised_tables n (neg_ℤ c) (neg_ℤ d) t u o p)
    ∙ each-each (λ x. (c +ℤ d) +ℤ x) (λ x. (neg_ℤ c +ℤ neg_ℤ d) +ℤ x) (plus t u) ∙ each-identity _ (put_back c d) (plus t u)

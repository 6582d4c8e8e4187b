-- Constants of two operands, and the parts of both.
use Rattle.std.proofs.Common.{◌≡◌, refl, sym, ◌∙◌, ap, subst, ℕ, zero, suc, ◌+◌, ◌<◌, ◌≤◌, ◌≢◌, ℤ, List, [], ◌∷◌, true, false, length, drop, min, arith}
use Rattle.std.specs.Prelude.{None, Result, Ok, Err, IsErr, MatchResult}
use Rattle.std.specs.Result.{OkIff}
use Rattle.word_base.specs.Range.{InRange}
use Rattle.word_base.specs.declared.kind_name.KindName.{KindName}
use Rattle.word_base.specs.declared.weight.Overflow.{Overflow}
use Rattle.record_store.specs.StoreView.{find_in}
use Rattle.tables.specs.Table.{Table, each, zip_with, constant_table}
use Rattle.tables.specs.Tree.{Weights, constant}
use Rattle.tables.specs.Fits.{fits}
use Rattle.tables.specs.Laws.{are_allowed}
use Rattle.tables.specs.Pieces.{Piece, pieces, SomeUnfit}
use Rattle.tables.proofs.PieceLaws.{Covers, constant_unfit}
use Rattle.tables.proofs.TableLaws.{both_halves, each-constant_table}
use Rattle.kind_laws.specs.Graph.{StandsFor}
use Rattle.kind_laws.specs.Plain.{PlainEdge, constant_edge, answered}
use Rattle.kind_laws.proofs.GraphLaws.{same_table_of_edge, constant_of_leaf}
use Rattle.diagram.specs.Answers.{Answers}
use Rattle.diagram.specs.Calls.{CanPart, LiesBelow, LieBelow, PlainParts, ArePartsOfBoth, IsConstantOf, upper}
use Rattle.diagram.specs.View.{View, StandsAt, IsEdge, Keeps, top_of}
use Rattle.diagram.specs.declared.limit.Limit.{Limit}
use Rattle.diagram.proofs.LevelLaws.{allowed_from, from_level, leaf_at_end, good_at, stands_somewhere, still_edge, same_top, top_within}
use Rattle.diagram.proofs.PartLaws.{constant_stands}
use Rattle.diagram.proofs.JoinCauses.{answers_at_once, answers_overflow}

-- ---- constants
-- a good edge to the leaf is a constant's
pub constant_is : (k : KindName) (v : View) (e : PlainEdge) → IsEdge k v e → e.node ≡ 0 → (c : ℤ) × (e ≡ constant_edge k c)
constant_is k v e h z =
    let at_leaf = subst (λ (n : ℕ). StandsFor k (find_in v.store) v.letters 0 h.0 e.root n) z h.1.stands in
    let c = constant_of_leaf k (find_in v.store) v.letters 0 h.0 e.root h.1.allowed h.1.no_zero at_leaf in
    let make : Weights → ℕ → PlainEdge = λ w n. record { root = w; node = n } in
    (c.0, ap (λ (n : ℕ). make e.root n) z ∙ ap (λ (w : Weights). make w 0) c.1)

-- the table that a constant's edge stands for
pub constant_table_is : (k : KindName) (v : View) (l : ℕ) (t : Table) (e : PlainEdge) (c : ℤ) → e ≡ constant_edge k c → StandsAt k v l t e →
    t ≡ constant_table (length (drop l v.letters)) c
constant_table_is k v l t e c is h =
    let ds = drop l v.letters in
    let here = subst (StandsAt k v l t) is h in
    same_table_of_edge k (find_in v.store) ds l t (constant_table (length ds) c) (constant k c).root 0 (allowed_from k v.letters l h.allowed) h.no_zero
    here.stands (constant_stands k v l c h.allowed h.no_zero h.within).stands

pub zip_constants : (op : ℤ → ℤ → ℤ) (n : ℕ) (x y : ℤ) → zip_with op (constant_table n x) (constant_table n y) ≡ constant_table n (op x y)
zip_constants op zero x y = refl
zip_constants op (suc n) x y = both_halves (zip_constants op n x y) (zip_constants op n x y)

-- the constant of a number that is to be a weight
constant_answers : (k : KindName) (v : View) (ps : List Piece) (l : ℕ) (t : Table) (z : ℤ) (value : Result ℤ Overflow) (result : Result PlainEdge Limit) →
    are_allowed k v.letters ≡ true → find_in v.store 0 ≡ None → l ≤ length v.letters → t ≡ constant_table (length (drop l v.letters)) z →
    OkIff value (InRange z) z → IsConstantOf k value result → Covers k v.letters ps (pieces l (t ∷ [])) → Answers k v v ps l t result
constant_answers k v ps l t z (Ok w) result allowed no_zero within table exact is covers =
    let Stands : ℤ → Type 0 = λ x. StandsAt k v l t (constant_edge k x) in
    let stands = subst (λ (u : Table). StandsAt k v l u (constant_edge k z)) (sym table) (constant_stands k v l z allowed no_zero within) in
    subst (Answers k v v ps l t) (sym is) (answers_at_once k v ps l t (constant_edge k w) (subst Stands (sym exact.1) stands))
constant_answers k v ps l t z (Err o) result allowed no_zero within table exact is covers =
    let ds = drop l v.letters in
    let unfit = constant_unfit k ds z (allowed_from k v.letters l allowed) exact in
    subst (Answers k v v ps l t) (sym is)
    (answers_overflow k v ps l t (covers.unfit (record { level = l; table = t }, (0, omega arith, refl), ap (fits k ds) table ∙ unfit)))

pub constants_answer : (k : KindName) (v : View) (op : ℤ → ℤ → ℤ) (ps : List Piece) (l : ℕ) (t u : Table) (a b : PlainEdge) (x y : ℤ) (value : Result ℤ Overflow)
    (result : Result PlainEdge Limit) → a ≡ constant_edge k x → b ≡ constant_edge k y → OkIff value (InRange (op x y)) (op x y) → IsConstantOf k value result →
    StandsAt k v l t a → StandsAt k v l u b → Covers k v.letters ps (pieces l (zip_with op t u ∷ [])) → Answers k v v ps l (zip_with op t u) result
constants_answer k v op ps l t u a b x y value result is_a is_b exact is h g covers =
    let n = length (drop l v.letters) in
    let table = ap (λ (z : Table). zip_with op z u) (constant_table_is k v l t a x is_a h) ∙ ap (zip_with op (constant_table n x)) (constant_table_is k v l u b y is_b g)
    ∙ zip_constants op n x y in
    constant_answers k v ps l (zip_with op t u) (op x y) value result h.allowed h.no_zero h.within table exact is covers

pub constant_answers_each : (k : KindName) (v : View) (op : ℤ → ℤ) (ps : List Piece) (l : ℕ) (t : Table) (a : PlainEdge) (x : ℤ) (value : Result ℤ Overflow)
    (result : Result PlainEdge Limit) → a ≡ constant_edge k x → OkIff value (InRange (op x)) (op x) → IsConstantOf k value result →
    StandsAt k v l t a → Covers k v.letters ps (pieces l (each op t ∷ [])) → Answers k v v ps l (each op t) result
constant_answers_each k v op ps l t a x value result is_a exact is h covers =
    let n = length (drop l v.letters) in
    let table = ap (each op) (constant_table_is k v l t a x is_a h) ∙ each-constant_table op n x in
    constant_answers k v ps l (each op t) (op x) value result h.allowed h.no_zero h.within table exact is covers

-- ---- the level of the upper node
both_leaves : (k : KindName) (v : View) (a b : PlainEdge) (level : ℕ) → IsEdge k v a → IsEdge k v b → level ≡ min (top_of v a.node) (top_of v b.node) →
    level ≡ length v.letters → (a.node ≡ 0) × (b.node ≡ 0)
both_leaves k v a b level good_a good_b is end =
    let first = top_within k v a good_a in
    let second = top_within k v b good_b in
    (leaf_at_end k v a good_a (omega arith), leaf_at_end k v b good_b (omega arith))

-- two edges, of which one leads to a node
pub record HaveNode (k : KindName) (v : View) (a b : PlainEdge) : Type 0 where
  pub first : IsEdge k v a
  pub second : IsEdge k v b
  pub some : (a.node ≡ 0) × (b.node ≡ 0) → ⊥

pub can_part_first : (k : KindName) (v : View) (a b : PlainEdge) (level : ℕ) → HaveNode k v a b → level ≡ min (top_of v a.node) (top_of v b.node) → CanPart k v level a
can_part_first k v a b level have is =
    let within = top_within k v a have.first in
    let other : level ≢ length v.letters = λ end. have.some (both_leaves k v a b level have.first have.second is end) in
    record { good = have.first; below = omega arith; not_above = omega arith }

pub can_part_second : (k : KindName) (v : View) (a b : PlainEdge) (level : ℕ) → HaveNode k v a b → level ≡ min (top_of v a.node) (top_of v b.node) → CanPart k v level b
can_part_second k v a b level have is =
    let within = top_within k v a have.first in
    let other : level ≢ length v.letters = λ end. have.some (both_leaves k v a b level have.first have.second is end) in
    record { good = have.second; below = omega arith; not_above = omega arith }

-- ---- parts
pub lies_below : (k : KindName) (v : View) (level : ℕ) (t : Table) (e : PlainEdge) → StandsAt k v (level + 1) t e → LiesBelow k v level e
lies_below k v level t e h =
    let from = from_level k v (level + 1) t e h in
    record { good = good_at k v e (level + 1) t h; below = omega arith }

pub still_below : (k : KindName) (v w : View) (level : ℕ) (e : PlainEdge) → Keeps v w → LiesBelow k v level e → LiesBelow k w level e
still_below k v w level e keeps h = record {
  good = still_edge k v w e keeps h.good;
  below = subst (λ (n : ℕ). level < n) (sym (same_top k v w e keeps h.good)) h.below;
}

-- two edges lie below a level
pub record PairLies (k : KindName) (v : View) (level : ℕ) (a b : PlainEdge) : Type 0 where
  pub first : LiesBelow k v level a
  pub second : LiesBelow k v level b

below_both : (level m n : ℕ) → level < m → level < n → level < min m n
below_both level m n first second = omega arith

pub pair_deeper : (k : KindName) (v : View) (level : ℕ) (a b : PlainEdge) → PairLies k v level a b → level < upper v a b
pair_deeper k v level a b lie = below_both level (top_of v a.node) (top_of v b.node) lie.first.below lie.second.below

-- the parts of two good edges lie below the level
pub parts_lie_below : (k : KindName) (v : View) (level : ℕ) (a b : PlainEdge) (parts : PlainParts) → CanPart k v level a → CanPart k v level b →
    ArePartsOfBoth k v level a b (Ok parts) → LieBelow k v level parts
parts_lie_below k v level a b parts can_a can_b are =
    let below = can_a.below in
    let t = stands_somewhere k v a level can_a.good can_a.not_above (omega arith) in
    let u = stands_somewhere k v b level can_b.good can_b.not_above (omega arith) in
    let stand = are t.0 u.0 t.1 u.1 in
    record {
      within = below;
      first_low = lies_below k v level _ parts.low.0 stand.first_low;
      second_low = lies_below k v level _ parts.low.1 stand.second_low;
      first_high = lies_below k v level _ parts.high.0 stand.first_high;
      second_high = lies_below k v level _ parts.high.1 stand.second_high;
    }

-- the exit of a `?` with a result that was refused
pub refused_match : {T U : Type 0} (f : T → U) (result : Result T Overflow) (P : U → Type 0) (Q : Overflow → Type 0) → IsErr result → ((o : Overflow) → Q o) →
    MatchResult (answered f result) P Q
refused_match f (Ok x) P Q is q = absurd (cc)
refused_match f (Err o) P Q is q = q o

pub first_unfit : (k : KindName) (v : View) (l : ℕ) (t u : Table) → fits k (drop l v.letters) t ≡ false → SomeUnfit k v.letters (pieces l (t ∷ u ∷ []))
first_unfit k v l t u h = (record { level = l; table = t }, (0, omega arith, refl), h)

pub second_unfit : (k : KindName) (v : View) (l : ℕ) (t u : Table) → fits k (drop l v.letters) u ≡ false → SomeUnfit k v.letters (pieces l (t ∷ u ∷ []))
second_unfit k v l t u h = (record { level = l; table = u }, (1, omega arith, refl), h)

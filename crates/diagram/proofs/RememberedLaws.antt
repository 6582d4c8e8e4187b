-- What is remembered stays right: as the store grows, and where a result is kept. What is known of sums and products at once.
use Rattle.std.proofs.Common.{◌≡◌, refl, sym, ◌∙◌, ap, subst, ℕ, zero, suc, ◌/◌, ◌%◌, ◌^◌, ℤ, pos, ◌+ℤ◌, ◌*ℤ◌, List, length, drop, arith, inl, inr}
use Rattle.std.specs.Prelude.{Ok}
use Rattle.std.specs.Int.{w128, cast_unsigned, cast_signed}
use Rattle.std.proofs.Math.IntN.{+ℤ_comm, +ℤ_idl, *ℤ_comm, zero-*ℤ}
use Rattle.word_base.specs.Range.{InRange}
use Rattle.word_base.specs.declared.kind_name.KindName.{KindName}
use Rattle.record_store.specs.StoreView.{find_in}
use Rattle.result_cache.specs.Cache.{Places, Holds, kept}
use Rattle.result_cache.specs.declared.key.CacheKey.{CacheKey}
use Rattle.result_cache.proofs.HeldLaws.{held_after}
use Rattle.tables.specs.Table.{Table, entry, halves, IsOver, zip_with, plus, times, each, multiple, constant_table}
use Rattle.tables.specs.Pieces.{Piece}
use Rattle.tables.proofs.TableLaws.{both_halves, each-identity, times_one}
use Rattle.kind_laws.specs.EdgeWords.{edge_words, FitsEdge, IsEdgeWords}
use Rattle.kind_laws.specs.Plain.{PlainEdge, constant_edge}
use Rattle.kind_laws.proofs.BodyLaws.{weight-from_words}
use Rattle.kind_laws.proofs.EdgeLaws.{same_numbers}
use Rattle.kind_laws.proofs.GraphLaws.{same_table_of_edge}
use Rattle.diagram.specs.Calls.{IsOfEach, IsOfBoth}
use Rattle.diagram.specs.Remembered.{number_of, op_of, IsResult, HasKey, IsKeyOf, IsRight, AreRight}
use Rattle.diagram.specs.View.{View, StandsAt, IsEdge, Keeps}
use Rattle.diagram.specs.declared.operation.Operation.{Operation}
use Rattle.diagram.specs.declared.operation.Operation.TheVariants.{Sum, Product}
use Rattle.diagram.proofs.BothLaws.{constant_table_is}
use Rattle.diagram.proofs.JoinCauses.{answers_at_once}
use Rattle.diagram.proofs.PartLaws.{constant_stands}
use Rattle.diagram.proofs.LevelLaws.{allowed_from, from_level, same_top, stands_somewhere, stays, still_edge}

-- ---- words
same_quotient_and_rest : (m n : ℕ) → m % 2 ^ 64 ≡ n % 2 ^ 64 → m / 2 ^ 64 ≡ n / 2 ^ 64 → m ≡ n
same_quotient_and_rest m n p q = omega arith

same_words : (y z : ℤ) → InRange y → InRange z → cast_unsigned w128 y % 2 ^ 64 ≡ cast_unsigned w128 z % 2 ^ 64 →
    cast_unsigned w128 y / 2 ^ 64 ≡ cast_unsigned w128 z / 2 ^ 64 → y ≡ z
same_words y z h k p q =
    sym (weight-from_words y h)
    ∙ ap (cast_signed w128) (same_quotient_and_rest (cast_unsigned w128 y) (cast_unsigned w128 z) p q)
    ∙ weight-from_words z k

-- an edge is told by its words
words_tell : (k : KindName) (a b : PlainEdge) → FitsEdge k a → FitsEdge k b → edge_words a ≡ edge_words b → a ≡ b
words_tell k a b h g e =
    let p0 : cast_unsigned w128 a.root.weight % 2 ^ 64 ≡ cast_unsigned w128 b.root.weight % 2 ^ 64 = cc in
    let p1 : cast_unsigned w128 a.root.weight / 2 ^ 64 ≡ cast_unsigned w128 b.root.weight / 2 ^ 64 = cc in
    let p2 : cast_unsigned w128 a.root.extra % 2 ^ 64 ≡ cast_unsigned w128 b.root.extra % 2 ^ 64 = cc in
    let p3 : cast_unsigned w128 a.root.extra / 2 ^ 64 ≡ cast_unsigned w128 b.root.extra / 2 ^ 64 = cc in
    let p4 : a.node ≡ b.node = cc in
    same_numbers b a.root.weight a.root.extra a.node (same_words a.root.weight b.root.weight h.weight g.weight p0 p1)
    (same_words a.root.extra b.root.extra h.extra g.extra p2 p3) p4

same_operation : (o p : Operation) → number_of o ≡ number_of p → o ≡ p
same_operation Sum Sum e = refl
same_operation Sum Product e = absurd (omega arith)
same_operation Product Sum e = absurd (omega arith)
same_operation Product Product e = refl

-- ---- results
zip_comm : (f : ℤ → ℤ → ℤ) → ((x y : ℤ) → f x y ≡ f y x) → (n : ℕ) (t u : Table) → IsOver n t → IsOver n u → zip_with f t u ≡ zip_with f u t
zip_comm f comm zero (entry x) (entry y) h g = ap entry (comm x y)
zip_comm f comm zero (entry x) (halves c d) h g = elim g [ ]
zip_comm f comm zero (halves a b) u h g = elim h [ ]
zip_comm f comm (suc n) (entry x) u h g = elim h [ ]
zip_comm f comm (suc n) (halves a b) (entry y) h g = elim g [ ]
zip_comm f comm (suc n) (halves a b) (halves c d) h g = both_halves (zip_comm f comm n a c h.0 g.0) (zip_comm f comm n b d h.1 g.1)

op_comm : (o : Operation) (n : ℕ) (t u : Table) → IsOver n t → IsOver n u → op_of o t u ≡ op_of o u t
op_comm Sum n t u h g = zip_comm (λ x y. x +ℤ y) +ℤ_comm n t u h g
op_comm Product n t u h g = zip_comm (λ x y. x *ℤ y) *ℤ_comm n t u h g

-- the result is that of both operands in either order
pub swapped : (o : Operation) (k : KindName) (v : View) (a b r : PlainEdge) → IsResult o k v a b r → IsResult o k v b a r
swapped o k v a b r is l t u h g =
    subst (λ (x : Table). StandsAt k v l x r) (op_comm o (length (drop l v.letters)) u t g.stands.over h.stands.over) (is l u t g h)

-- two operands of one key have one result
same_operands : (o : Operation) (k : KindName) (v : View) (a b x y r : PlainEdge) (key other : CacheKey) → HasKey o k a b key → HasKey o k x y other → key ≡ other →
    IsResult o k v x y r → IsResult o k v a b r
same_operands o k v a b x y r key other h g same is =
    let first = words_tell k x a g.first_fits h.first_fits (sym g.first ∙ ap (λ (c : CacheKey). c.first) (sym same) ∙ h.first) in
    let second = words_tell k y b g.second_fits h.second_fits (sym g.second ∙ ap (λ (c : CacheKey). c.second) (sym same) ∙ h.second) in
    subst (λ (e : PlainEdge). IsResult o k v a e r) second (subst (λ (e : PlainEdge). IsResult o k v e y r) first is)

result_of_key : (o p : Operation) (k : KindName) (v : View) (a b x y r : PlainEdge) (key : CacheKey) → HasKey o k a b key → HasKey p k x y key →
    IsResult p k v x y r → IsResult o k v a b r
result_of_key o p k v a b x y r key h g is =
    let same = same_operation p o (sym g.number ∙ h.number) in
    same_operands o k v a b x y r key key h (subst (λ (q : Operation). HasKey q k x y key) same g) refl (subst (λ (q : Operation). IsResult q k v x y r) same is)

-- what is found under a key is the result
pub found_result : (o : Operation) (k : KindName) (v : View) (a b : PlainEdge) (key : CacheKey) (value : List ℕ) → IsKeyOf o k a b key → (right : IsRight k v key value) →
    IsResult o k v a b right.result
found_result o k v a b key value (inl h) right = result_of_key o right.operation k v a b right.first right.second right.result key h right.has_key right.is_result
found_result o k v a b key value (inr h) right =
    swapped o k v b a right.result (result_of_key o right.operation k v b a right.first right.second right.result key h right.has_key right.is_result)

pub are_edge_words : (k : KindName) (v : View) (key : CacheKey) (value : List ℕ) → IsRight k v key value → IsEdgeWords k value
are_edge_words k v key value right = (right.result, right.fits, right.words)

-- ---- as the store grows
-- a good edge stands for no other table than it did
pub stands_back : (k : KindName) (v w : View) (l : ℕ) (t : Table) (e : PlainEdge) → Keeps v w → IsEdge k v e → StandsAt k w l t e → StandsAt k v l t e
stands_back k v w l t e keeps good h =
    let top = same_top k v w e keeps good in
    let from = from_level k w l t e h in
    let letters = ap length keeps.letters in
    let within = h.within in
    let was = stands_somewhere k v e l good (omega arith) (omega arith) in
    let still = stays k v w l was.0 e keeps was.1 in
    let same = same_table_of_edge k (find_in w.store) (drop l w.letters) l was.0 t e.root e.node (allowed_from k w.letters l h.allowed) h.no_zero still.stands h.stands in
    subst (λ (x : Table). StandsAt k v l x e) same was.1

result_stays : (o : Operation) (k : KindName) (v w : View) (a b r : PlainEdge) → Keeps v w → IsEdge k v a → IsEdge k v b → IsResult o k v a b r → IsResult o k w a b r
result_stays o k v w a b r keeps good_a good_b is l t u h g =
    stays k v w l (op_of o t u) r keeps (is l t u (stands_back k v w l t a keeps good_a h) (stands_back k v w l u b keeps good_b g))

right_stays : (k : KindName) (v w : View) (key : CacheKey) (value : List ℕ) → Keeps v w → IsRight k v key value → IsRight k w key value
right_stays k v w key value keeps right = record {
  operation = right.operation;
  first = right.first;
  second = right.second;
  result = right.result;
  has_key = right.has_key;
  words = right.words;
  fits = right.fits;
  first_good = still_edge k v w right.first keeps right.first_good;
  second_good = still_edge k v w right.second keeps right.second_good;
  is_result = result_stays right.operation k v w right.first right.second right.result keeps right.first_good right.second_good right.is_result;
}

pub all_stay : (k : KindName) (v w : View) (cache : Places) → Keeps v w → AreRight k v cache → AreRight k w cache
all_stay k v w cache keeps right key value held = right_stays k v w key value keeps (right key value held)

-- ---- where a result is kept
right_of_key : (o : Operation) (k : KindName) (v : View) (a b r : PlainEdge) (key : CacheKey) → IsKeyOf o k a b key → FitsEdge k r → IsEdge k v a → IsEdge k v b →
    IsResult o k v a b r → IsRight k v key (edge_words r)
right_of_key o k v a b r key (inl h) fits good_a good_b is = record {
  operation = o;
  first = a;
  second = b;
  result = r;
  has_key = h;
  words = refl;
  fits = fits;
  first_good = good_a;
  second_good = good_b;
  is_result = is;
}
right_of_key o k v a b r key (inr h) fits good_a good_b is = record {
  operation = o;
  first = b;
  second = a;
  result = r;
  has_key = h;
  words = refl;
  fits = fits;
  first_good = good_b;
  second_good = good_a;
  is_result = swapped o k v a b r is;
}

pub kept_right : (o : Operation) (k : KindName) (v : View) (a b r : PlainEdge) (cache new : Places) (key : CacheKey) (value : List ℕ) → AreRight k v cache →
    IsKeyOf o k a b key → value ≡ edge_words r → FitsEdge k r → IsEdge k v a → IsEdge k v b → IsResult o k v a b r → new ≡ kept cache key value → AreRight k v new
kept_right o k v a b r cache new key value right is_key words fits good_a good_b is kept_is other found held =
    let here = right_of_key o k v a b r key is_key fits good_a good_b is in
    elim (held_after cache key other value found (subst (λ (c : Places). Holds c other found) kept_is held)) [
      | inl (same_key, same_value) ↦
          subst (λ (c : CacheKey). IsRight k v c found) (sym same_key) (subst (λ (x : List ℕ). IsRight k v key x) (sym (same_value ∙ words)) here)
      | inr before ↦ right other found before
    ]

-- ---- sums and products with 0 and 1
zip_constant : (f : ℤ → ℤ → ℤ) (c : ℤ) (n : ℕ) (t : Table) → IsOver n t → zip_with f (constant_table n c) t ≡ each (f c) t
zip_constant f c zero (entry x) h = refl
zip_constant f c zero (halves a b) h = elim h [ ]
zip_constant f c (suc n) (entry x) h = elim h [ ]
zip_constant f c (suc n) (halves a b) h = both_halves (zip_constant f c n a h.0) (zip_constant f c n b h.1)

no_multiple : (n : ℕ) (t : Table) → IsOver n t → multiple (pos 0) t ≡ constant_table n (pos 0)
no_multiple zero (entry x) h = ap entry (zero-*ℤ x)
no_multiple zero (halves a b) h = elim h [ ]
no_multiple (suc n) (entry x) h = elim h [ ]
no_multiple (suc n) (halves a b) h = both_halves (no_multiple n a h.0) (no_multiple n b h.1)

pub sum_with_zero : (k : KindName) (v : View) (a b : PlainEdge) → a ≡ constant_edge k (pos 0) → IsResult Sum k v a b b
sum_with_zero k v a b is l t u h g =
    let n = length (drop l v.letters) in
    let table : plus t u ≡ u = ap (λ (x : Table). plus x u) (constant_table_is k v l t a (pos 0) is h) ∙ zip_constant (λ x y. x +ℤ y) (pos 0) n u g.stands.over
    ∙ each-identity (λ x. pos 0 +ℤ x) +ℤ_idl u in
    subst (λ (x : Table). StandsAt k v l x b) (sym table) g

-- a product with a constant is the multiple
multiple_is : (k : KindName) (v : View) (c a : PlainEdge) (factor : ℤ) (l : ℕ) (t u : Table) → c ≡ constant_edge k factor → StandsAt k v l t c → StandsAt k v l u a →
    times t u ≡ multiple factor u
multiple_is k v c a factor l t u is h g =
    ap (λ (x : Table). times x u) (constant_table_is k v l t c factor is h) ∙ zip_constant (λ x y. x *ℤ y) factor (length (drop l v.letters)) u g.stands.over

pub product_with_zero : (k : KindName) (v : View) (a b : PlainEdge) → a ≡ constant_edge k (pos 0) → IsResult Product k v a b a
product_with_zero k v a b is l t u h g =
    let table : times t u ≡ t = multiple_is k v a b (pos 0) l t u is h g ∙ no_multiple (length (drop l v.letters)) u g.stands.over ∙ sym (constant_table_is k v l t a (pos 0) is h) in
    subst (λ (x : Table). StandsAt k v l x a) (sym table) h

pub product_with_one : (k : KindName) (v : View) (a b : PlainEdge) → a ≡ constant_edge k (pos 1) → IsResult Product k v a b b
product_with_one k v a b is l t u h g =
    let table : times t u ≡ u = multiple_is k v a b (pos 1) l t u is h g ∙ times_one u in subst (λ (x : Table). StandsAt k v l x b) (sym table) g

-- ---- what a known result answers, and what an answer lets be remembered
pub known_both : (o : Operation) (k : KindName) (work : ℕ → Table → Table → List Piece) (v : View) (a b r : PlainEdge) → IsResult o k v a b r →
    IsOfBoth (op_of o) work k v v a b (Ok r)
known_both o k work v a b r is l t u h g = answers_at_once k v (work l t u) l (op_of o t u) r (is l t u h g)

pub known_each : (k : KindName) (factor : ℤ) (work : ℕ → Table → List Piece) (v : View) (c a r : PlainEdge) → c ≡ constant_edge k factor → IsResult Product k v c a r →
    IsOfEach (multiple factor) work k v v a (Ok r)
known_each k factor work v c a r is known l u g =
    let n = length (drop l v.letters) in
    let h = subst (StandsAt k v l (constant_table n factor)) (sym is) (constant_stands k v l factor g.allowed g.no_zero g.within) in
    answers_at_once k v (work l u) l (multiple factor u) r
    (subst (λ (x : Table). StandsAt k v l x r) (multiple_is k v c a factor l (constant_table n factor) u is h g) (known l (constant_table n factor) u h g))

pub both_result : (o : Operation) (k : KindName) (work : ℕ → Table → Table → List Piece) (v w : View) (a b r : PlainEdge) → Keeps v w → IsEdge k v a → IsEdge k v b →
    IsOfBoth (op_of o) work k v w a b (Ok r) → IsResult o k w a b r
both_result o k work v w a b r keeps good_a good_b both l t u h g =
    (both l t u (stands_back k v w l t a keeps good_a h) (stands_back k v w l u b keeps good_b g)).stands

pub each_result : (k : KindName) (factor : ℤ) (work : ℕ → Table → List Piece) (v w : View) (c a r : PlainEdge) → c ≡ constant_edge k factor → Keeps v w → IsEdge k v a →
    IsOfEach (multiple factor) work k v w a (Ok r) → IsResult Product k w c a r
each_result k factor work v w c a r is keeps good each l t u h g =
    subst (λ (x : Table). StandsAt k w l x r) (sym (multiple_is k w c a factor l t u is h g)) (each l u (stands_back k v w l u a keeps good g)).stands

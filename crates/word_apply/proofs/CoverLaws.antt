-- What the work of gates and words covers.
use Rattle.std.proofs.Common.{◌≡◌, sym, subst, ℕ, zero, suc, ◌+◌, ◌*◌, ◌<◌, ℤ, pos, List, [], ◌∷◌, ◌++◌, length, drop, arith}
use Rattle.std.specs.Prelude.{slice_index_or}
use Rattle.std.proofs.lemmas.List.{map-append}
use Rattle.std.specs.List.{AllByRecursion}
use Rattle.checks.specs.Work.{not_work, multiples, sums_from, word_work}
use Rattle.word_base.specs.declared.decomp.Decomp.{Decomp}
use Rattle.word_base.specs.declared.kind_name.KindName.{KindName}
use Rattle.tables.specs.Table.{Table, plus, minus, times, opposite, multiple}
use Rattle.tables.specs.Pieces.{Piece, pieces, like, inner, mul_work, add_work, sub_work, scale_work}
use Rattle.tables.proofs.PieceLaws.{Covers, covers_on, covers_contained, covers_left, covers_right, covers_both, inner_has_product}
use Rattle.tables.proofs.TableLaws.{times_one}
use Rattle.word_apply.specs.Applied.{or_work_at, xor_work_at, sum_work}

covers_nothing : (k : KindName) (ds : List Decomp) (qs : List Piece) → Covers k ds qs []
covers_nothing k ds qs = covers_contained k ds qs [] (λ p h. absurd (let none : h.0 < 0 = h.1 in omega arith))

-- what covers each of some tables covers all of them
pub covers_tables : (k : KindName) (ds : List Decomp) (qs : List Piece) (l : ℕ) (ts : List Table) → AllByRecursion (λ t. Covers k ds qs (pieces l (t ∷ []))) ts →
    Covers k ds qs (pieces l ts)
covers_tables k ds qs l [] each_of = covers_nothing k ds qs
covers_tables k ds qs l (t ∷ ts) each_of = covers_both k ds qs (pieces l (t ∷ [])) (pieces l ts) each_of.0 (covers_tables k ds qs l ts each_of.1)

-- some tables cover the one at a place among them
pub covers_place : (k : KindName) (ds : List Decomp) (l : ℕ) (ts : List Table) (i : ℕ) (d : Table) → i < length ts →
    Covers k ds (pieces l ts) (pieces l (slice_index_or ts i d ∷ []))
covers_place k ds l [] i d low = absurd (omega arith)
covers_place k ds l (t ∷ ts) zero d low = covers_left k ds (pieces l (t ∷ [])) (pieces l ts)
covers_place k ds l (t ∷ ts) (suc i) d low =
    covers_on k ds (pieces l (t ∷ ts)) (pieces l ts) _ (covers_right k ds (pieces l (t ∷ [])) (pieces l ts)) (covers_place k ds l ts i d (omega arith))

-- ---- negations
pub not_covers : (k : KindName) (ds : List Decomp) (l : ℕ) (t : Table) → Covers k ds (not_work l t) (sub_work l (like t (pos 1)) t)
not_covers k ds l t =
    let one = like t (pos 1) in
    let made : List Table = t ∷ opposite t ∷ minus one t ∷ one ∷ [] in
    covers_tables k ds (not_work l t) l (one ∷ t ∷ opposite t ∷ minus one t ∷ []) (
      covers_place k ds l made 3 t (omega arith),
      (covers_place k ds l made 0 t (omega arith), (covers_place k ds l made 1 t (omega arith), (covers_place k ds l made 2 t (omega arith), tt))),
    )

-- ---- a product, and tables that are made with it
abbrev pub with_product : (Table → Table → List Table) → List Decomp → ℕ → Table → Table → List Piece
with_product made ds l t u = mul_work (drop l ds) l t u ++ pieces l (made t u)

pub has_work : (made : Table → Table → List Table) (k : KindName) (ds : List Decomp) (l : ℕ) (t u : Table) →
    Covers k ds (with_product made ds l t u) (mul_work (drop l ds) l t u)
has_work made k ds l t u = covers_left k ds (mul_work (drop l ds) l t u) (pieces l (made t u))

pub has_product : (made : Table → Table → List Table) (k : KindName) (ds : List Decomp) (l : ℕ) (t u : Table) →
    Covers k ds (with_product made ds l t u) (pieces l (times t u ∷ []))
has_product made k ds l t u =
    covers_on k ds (with_product made ds l t u) (mul_work (drop l ds) l t u) _ (has_work made k ds l t u)
    (covers_on k ds (mul_work (drop l ds) l t u) (inner (drop l ds) l t u) _ (covers_right k ds (pieces l (t ∷ u ∷ [])) (inner (drop l ds) l t u))
    (inner_has_product k ds (drop l ds) l t u))

has_operand : (made : Table → Table → List Table) (k : KindName) (ds : List Decomp) (l : ℕ) (t u : Table) (i : ℕ) → i < 2 →
    Covers k ds (with_product made ds l t u) (pieces l (slice_index_or (t ∷ u ∷ []) i t ∷ []))
has_operand made k ds l t u i low =
    covers_on k ds (with_product made ds l t u) (mul_work (drop l ds) l t u) _ (has_work made k ds l t u)
    (covers_on k ds (mul_work (drop l ds) l t u) (pieces l (t ∷ u ∷ [])) _ (covers_left k ds (pieces l (t ∷ u ∷ [])) (inner (drop l ds) l t u))
    (covers_place k ds l (t ∷ u ∷ []) i t low))

has_made : (made : Table → Table → List Table) (k : KindName) (ds : List Decomp) (l : ℕ) (t u : Table) (i : ℕ) → i < length (made t u) →
    Covers k ds (with_product made ds l t u) (pieces l (slice_index_or (made t u) i t ∷ []))
has_made made k ds l t u i low =
    covers_on k ds (with_product made ds l t u) (pieces l (made t u)) _ (covers_right k ds (mul_work (drop l ds) l t u) (pieces l (made t u)))
    (covers_place k ds l (made t u) i t low)

-- the sum of the operands, where it is the table at this place of those that are made
has_sum_of : (made : Table → Table → List Table) (k : KindName) (ds : List Decomp) (l : ℕ) (t u : Table) → Covers k ds (with_product made ds l t u) (pieces l (plus t u ∷ [])) →
    Covers k ds (with_product made ds l t u) (add_work l t u)
has_sum_of made k ds l t u sum =
    covers_tables k ds (with_product made ds l t u) l (t ∷ u ∷ plus t u ∷ [])
    (has_operand made k ds l t u 0 (omega arith), (has_operand made k ds l t u 1 (omega arith), (sum, tt)))

-- ---- OR
abbrev pub or_made : Table → Table → List Table
or_made t u = plus t u ∷ opposite (times t u) ∷ minus (plus t u) (times t u) ∷ []

pub or_has_sum : (k : KindName) (ds : List Decomp) (l : ℕ) (t u : Table) → Covers k ds (or_work_at ds l t u) (add_work l t u)
or_has_sum k ds l t u = has_sum_of or_made k ds l t u (has_made or_made k ds l t u 0 (omega arith))

pub or_has_difference : (k : KindName) (ds : List Decomp) (l : ℕ) (t u : Table) → Covers k ds (or_work_at ds l t u) (sub_work l (plus t u) (times t u))
or_has_difference k ds l t u =
    covers_tables k ds (or_work_at ds l t u) l (plus t u ∷ times t u ∷ opposite (times t u) ∷ minus (plus t u) (times t u) ∷ []) (
      has_made or_made k ds l t u 0 (omega arith),
      (has_product or_made k ds l t u, (has_made or_made k ds l t u 1 (omega arith), (has_made or_made k ds l t u 2 (omega arith), tt))),
    )

-- ---- XOR
abbrev pub xor_made : Table → Table → List Table
xor_made t u =
    let twice = multiple (pos 2) (times t u) in twice ∷ plus t u ∷ opposite twice ∷ minus (plus t u) twice ∷ []

pub xor_has_twice : (k : KindName) (ds : List Decomp) (l : ℕ) (t u : Table) → Covers k ds (xor_work_at ds l t u) (scale_work (pos 2) l (times t u))
xor_has_twice k ds l t u =
    covers_tables k ds (xor_work_at ds l t u) l (times t u ∷ multiple (pos 2) (times t u) ∷ [])
    (has_product xor_made k ds l t u, (has_made xor_made k ds l t u 0 (omega arith), tt))

pub xor_has_sum : (k : KindName) (ds : List Decomp) (l : ℕ) (t u : Table) → Covers k ds (xor_work_at ds l t u) (add_work l t u)
xor_has_sum k ds l t u = has_sum_of xor_made k ds l t u (has_made xor_made k ds l t u 1 (omega arith))

pub xor_has_difference : (k : KindName) (ds : List Decomp) (l : ℕ) (t u : Table) →
    Covers k ds (xor_work_at ds l t u) (sub_work l (plus t u) (multiple (pos 2) (times t u)))
xor_has_difference k ds l t u =
    let twice = multiple (pos 2) (times t u) in
    covers_tables k ds (xor_work_at ds l t u) l (plus t u ∷ twice ∷ opposite twice ∷ minus (plus t u) twice ∷ []) (
      has_made xor_made k ds l t u 1 (omega arith),
      (has_made xor_made k ds l t u 0 (omega arith), (has_made xor_made k ds l t u 2 (omega arith), (has_made xor_made k ds l t u 3 (omega arith), tt))),
    )

-- ---- four lists in a row
first_of_four : (k : KindName) (ds : List Decomp) (ps qs rs os : List Piece) → Covers k ds (ps ++ qs ++ rs ++ os) ps
first_of_four k ds ps qs rs os =
    covers_on k ds (ps ++ qs ++ rs ++ os) (ps ++ qs ++ rs) ps (covers_left k ds (ps ++ qs ++ rs) os)
    (covers_on k ds (ps ++ qs ++ rs) (ps ++ qs) ps (covers_left k ds (ps ++ qs) rs) (covers_left k ds ps qs))

second_of_four : (k : KindName) (ds : List Decomp) (ps qs rs os : List Piece) → Covers k ds (ps ++ qs ++ rs ++ os) qs
second_of_four k ds ps qs rs os =
    covers_on k ds (ps ++ qs ++ rs ++ os) (ps ++ qs ++ rs) qs (covers_left k ds (ps ++ qs ++ rs) os)
    (covers_on k ds (ps ++ qs ++ rs) (ps ++ qs) qs (covers_left k ds (ps ++ qs) rs) (covers_right k ds ps qs))

third_of_four : (k : KindName) (ds : List Decomp) (ps qs rs os : List Piece) → Covers k ds (ps ++ qs ++ rs ++ os) rs
third_of_four k ds ps qs rs os =
    covers_on k ds (ps ++ qs ++ rs ++ os) (ps ++ qs ++ rs) rs (covers_left k ds (ps ++ qs ++ rs) os) (covers_right k ds (ps ++ qs) rs)

fourth_of_four : (k : KindName) (ds : List Decomp) (ps qs rs os : List Piece) → Covers k ds (ps ++ qs ++ rs ++ os) os
fourth_of_four k ds ps qs rs os = covers_right k ds (ps ++ qs ++ rs) os

four_covered : (k : KindName) (ds : List Decomp) (es ps qs rs os : List Piece) → Covers k ds es ps → Covers k ds es qs → Covers k ds es rs → Covers k ds es os →
    Covers k ds es (ps ++ qs ++ rs ++ os)
four_covered k ds es ps qs rs os p q r o =
    covers_both k ds es (ps ++ qs ++ rs) os (covers_both k ds es (ps ++ qs) rs (covers_both k ds es ps qs p q) r) o

-- ---- sums
-- what covers the lists of the sum so far, of the next table and of those after it
pub record HasSum (k : KindName) (ds : List Decomp) (power l : ℕ) (t u : Table) (us : List Table) : Type 0 where
  pub scale : Covers k ds (sum_work power l t (u ∷ us)) (scale_work (pos power) l u)
  pub add : Covers k ds (sum_work power l t (u ∷ us)) (add_work l t (multiple (pos power) u))
  pub rest : Covers k ds (sum_work power l t (u ∷ us)) (sum_work (2 * power) l (plus t (multiple (pos power) u)) us)

pub has_sum : (k : KindName) (ds : List Decomp) (power l : ℕ) (t u : Table) (us : List Table) → HasSum k ds power l t u us
has_sum k ds power l t u us =
    let times_power = multiple (pos power) u in
    let sum = plus t times_power in
    let others = multiples (2 * power) us in
    let sums = sums_from sum others in
    let ps = pieces l (t ∷ []) in
    let qs = pieces l (u ∷ us) in
    let rs = pieces l (times_power ∷ others) in
    let os = pieces l (sum ∷ sums) in
    let whole = sum_work power l t (u ∷ us) in
    let start = first_of_four k ds ps qs rs os in
    let next = covers_on k ds whole qs _ (second_of_four k ds ps qs rs os) (covers_left k ds (pieces l (u ∷ [])) (pieces l us)) in
    let after = covers_on k ds whole qs _ (second_of_four k ds ps qs rs os) (covers_right k ds (pieces l (u ∷ [])) (pieces l us)) in
    let one = covers_on k ds whole rs _ (third_of_four k ds ps qs rs os) (covers_left k ds (pieces l (times_power ∷ [])) (pieces l others)) in
    let more = covers_on k ds whole rs _ (third_of_four k ds ps qs rs os) (covers_right k ds (pieces l (times_power ∷ [])) (pieces l others)) in
    let so_far = covers_on k ds whole os _ (fourth_of_four k ds ps qs rs os) (covers_left k ds (pieces l (sum ∷ [])) (pieces l sums)) in
    let later = covers_on k ds whole os _ (fourth_of_four k ds ps qs rs os) (covers_right k ds (pieces l (sum ∷ [])) (pieces l sums)) in
    record {
      scale = covers_tables k ds whole l (u ∷ times_power ∷ []) (next, (one, tt));
      add = covers_tables k ds whole l (t ∷ times_power ∷ sum ∷ []) (start, (one, (so_far, tt)));
      rest = four_covered k ds whole (pieces l (sum ∷ [])) (pieces l us) (pieces l others) (pieces l sums) so_far after more later;
    }

-- ---- words
pieces_left : (k : KindName) (ds : List Decomp) (l : ℕ) (ts us : List Table) → Covers k ds (pieces l (ts ++ us)) (pieces l ts)
pieces_left k ds l ts us =
    subst (λ (qs : List Piece). Covers k ds qs (pieces l ts)) (sym (map-append (λ (t : Table). record { level = l; table = t }) ts us))
    (covers_left k ds (pieces l ts) (pieces l us))

pieces_right : (k : KindName) (ds : List Decomp) (l : ℕ) (ts us : List Table) → Covers k ds (pieces l (ts ++ us)) (pieces l us)
pieces_right k ds l ts us =
    subst (λ (qs : List Piece). Covers k ds qs (pieces l us)) (sym (map-append (λ (t : Table). record { level = l; table = t }) ts us))
    (covers_right k ds (pieces l ts) (pieces l us))

-- the list of a word covers that of the sum from its first net on
pub word_covers : (k : KindName) (ds : List Decomp) (l : ℕ) (t : Table) (us : List Table) → Covers k ds (word_work l (t ∷ us)) (sum_work 2 l t us)
word_covers k ds l t us =
    let one = multiple (pos 1) t in
    let others = multiples 2 us in
    let bits = t ∷ us in
    let each_of = one ∷ others in
    let sums = one ∷ sums_from one others in
    let whole = word_work l bits in
    let front = pieces_left k ds l (bits ++ each_of) sums in
    let among_bits = covers_on k ds whole (pieces l (bits ++ each_of)) (pieces l bits) front (pieces_left k ds l bits each_of) in
    let among_each = covers_on k ds whole (pieces l (bits ++ each_of)) (pieces l each_of) front (pieces_right k ds l bits each_of) in
    let among_sums = pieces_right k ds l (bits ++ each_of) sums in
    let later : Covers k ds whole (pieces l (sums_from one others)) =
    covers_on k ds whole (pieces l sums) _ among_sums (covers_right k ds (pieces l (one ∷ [])) (pieces l (sums_from one others))) in
    four_covered k ds whole (pieces l (t ∷ [])) (pieces l us) (pieces l others) (pieces l (sums_from t others))
    (covers_on k ds whole (pieces l bits) _ among_bits (covers_left k ds (pieces l (t ∷ [])) (pieces l us)))
    (covers_on k ds whole (pieces l bits) _ among_bits (covers_right k ds (pieces l (t ∷ [])) (pieces l us)))
    (covers_on k ds whole (pieces l each_of) _ among_each (covers_right k ds (pieces l (one ∷ [])) (pieces l others)))
    (subst (λ (x : Table). Covers k ds whole (pieces l (sums_from x others))) (times_one t) later)

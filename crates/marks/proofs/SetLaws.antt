-- Which ids a set has, and how many, where it is empty and after one more is put in.
use Rattle.std.proofs.Common.{◌≡◌, refl, sym, ◌∙◌, ap, ℕ, zero, suc, ◌+◌, ◌-◌, ◌<◌, ◌≤◌, List, [], ◌∷◌, Bool, true, false, length, get_or, set, arith, get_or-set_same, get_or-set_other, inl, inr}
use Rattle.std.specs.Prelude.{◌⊎◌, cond}
use Rattle.std.proofs.lemmas.Bool.{cases_eq}
use Rattle.std.proofs.lemmas.List.Sums.{sum_by-cons}
use Rattle.marks.specs.Marked.{none_of, is_marked, with_mark, marked_count}

pub none_has : (cells id : ℕ) → is_marked (none_of cells) id ≡ false
none_has cells id = nothing cells (id - 1)
  where
    nothing : (n i : ℕ) → get_or (none_of n) i false ≡ false
    nothing zero i = refl
    nothing (suc n) zero = refl
    nothing (suc n) (suc i) = nothing n i

pub none_count : (cells : ℕ) → marked_count (none_of cells) ≡ 0
none_count zero = refl
none_count (suc n) = none_count n

pub has_the_new : (marks : List Bool) (id : ℕ) → 0 < id → id ≤ length marks → is_marked (with_mark marks id) id ≡ true
has_the_new marks id above within = let less : id - 1 < length marks = omega arith in get_or-set_same marks (id - 1) true false less

-- another id is in the set exactly if it was
pub has_others : (marks : List Bool) (id other : ℕ) → 0 < id → 0 < other → (other ≡ id → ⊥) → is_marked (with_mark marks id) other ≡ is_marked marks other
has_others marks id other above_id above_other apart =
    get_or-set_other marks (id - 1) (other - 1) true false (λ same. apart (omega arith))

pub has_from : (marks : List Bool) (id other : ℕ) → 0 < id → 0 < other → is_marked (with_mark marks id) other ≡ true → (other ≡ id) ⊎ (is_marked marks other ≡ true)
has_from marks id other above_id above_other h = elim (cases_eq other id) [
  | inl same ↦ inl same
  | inr apart ↦ inr (sym (has_others marks id other above_id above_other apart) ∙ h)
]

pub has_still : (marks : List Bool) (id other : ℕ) → 0 < id → 0 < other → id ≤ length marks → is_marked marks other ≡ true → is_marked (with_mark marks id) other ≡ true
has_still marks id other above_id above_other within h = elim (cases_eq other id) [
  | inl same ↦ ap (is_marked (with_mark marks id)) same ∙ has_the_new marks id above_id within
  | inr apart ↦ has_others marks id other above_id above_other apart ∙ h
]

pub one_more_counted : (marks : List Bool) (id : ℕ) → 0 < id → id ≤ length marks → is_marked marks id ≡ false → marked_count (with_mark marks id) ≡ marked_count marks + 1
one_more_counted marks id above within free = let less : id - 1 < length marks = omega arith in more marks (id - 1) less free
  where
    first : (b : Bool) (bs : List Bool) → marked_count (b ∷ bs) ≡ cond b 1 0 + marked_count bs
    first b bs = sum_by-cons (λ (x : Bool). cond {A = ℕ} x 1 0) b bs

    more : (bs : List Bool) (i : ℕ) → i < length bs → get_or bs i false ≡ false → marked_count (set bs i true) ≡ marked_count bs + 1
    more [] i h free = absurd (omega arith)
    more (b ∷ bs) zero h free =
        let e = first true bs in
        let f = first b bs in
        let none : ◌≡◌ {A = ℕ} (cond b 1 0) 0 = ap (λ (x : Bool). cond {A = ℕ} x 1 0) free in
        omega (arith, e, f, none)
    more (b ∷ bs) (suc i) h free =
        let e = first b (set bs i true) in
        let f = first b bs in
        let r = more bs i (omega arith) free in
        omega (arith, e, f, r)

-- How many cells are accounted for, where each is.
use Rattle.std.proofs.Common.{◌≡◌, ◌≢◌, ◌⊎◌, ℕ, zero, suc, ◌+◌, ◌<◌, ◌≤◌, List, [], ◌∷◌, length, subst, ⊎_elim, arith}
use Rattle.std.proofs.lemmas.Bool.{cases_eq}
use Rattle.table_rule.specs.Counts.{hit, times, IsIn}
use Rattle.table_rule.proofs.Lists.{hit_same, hit_apart, times_is_in}

-- f of each number below n, added up
sum_below : (ℕ → ℕ) → ℕ → ℕ
sum_below f zero = 0
sum_below f (suc n) = f n + sum_below f n

sum_of_both : (f g : ℕ → ℕ) (n : ℕ) → sum_below (λ c. f c + g c) n ≡ sum_below f n + sum_below g n
unfolding sum_below
sum_of_both f g zero = omega arith
sum_of_both f g (suc n) = omega (arith, sum_of_both f g n)

no_hit : (x s n : ℕ) → n + s ≤ x → sum_below (λ c. hit x (c + s)) n ≡ 0
unfolding sum_below
no_hit x s zero h = omega arith
no_hit x s (suc n) h = omega (arith, hit_apart x (n + s) (λ e. absurd (omega arith)), no_hit x s n (omega arith))

one_hit : (x s n : ℕ) → sum_below (λ c. hit x (c + s)) n ≤ 1
unfolding sum_below
one_hit x s zero = omega arith
one_hit x s (suc n) =
    ⊎_elim
    (λ (last : x ≡ n + s). omega (arith, hit_same x (n + s) last, no_hit x s n (omega arith)))
    (λ (apart : x ≢ n + s). omega (arith, hit_apart x (n + s) apart, one_hit x s n))
    (cases_eq x (n + s))

none_below : (s n : ℕ) → sum_below (λ c. times (c + s) []) n ≡ 0
unfolding sum_below
none_below s zero = omega arith
none_below s (suc n) = omega (arith, none_below s n)

-- a list has no more different numbers than its length says
few_below : (s : ℕ) (xs : List ℕ) (n : ℕ) → sum_below (λ c. times (c + s) xs) n ≤ length xs
few_below s [] n = omega (arith, none_below s n)
few_below s (x ∷ xs) n =
    omega (arith, sum_of_both (λ c. hit x (c + s)) (λ c. times (c + s) xs) n, one_hit x s n, few_below s xs n)

all_below : (f : ℕ → ℕ) (n : ℕ) → ((c : ℕ) → c < n → 0 < f c) → n ≤ sum_below f n
unfolding sum_below
all_below f zero all = omega arith
all_below f (suc n) all = omega (arith, all n (omega arith), all_below f n (λ c few. all c (omega arith)))

-- where each of n cells stands in one of three lists, the first of which has its id, these are long enough
pub accounted : (ids ys zs : List ℕ) (n : ℕ) → ((c : ℕ) → c < n → IsIn ids (c + 1) ⊎ (IsIn ys c ⊎ IsIn zs c)) → n ≤ length ids + length ys + length zs
accounted ids ys zs n each =
    let f : ℕ → ℕ = λ c. times (c + 1) ids in
    let g : ℕ → ℕ = λ c. times (c + 0) ys in
    let h : ℕ → ℕ = λ c. times (c + 0) zs in
    let some : (xs : List ℕ) (c : ℕ) → IsIn xs c → 0 < times (c + 0) xs = λ xs c there. let same : c ≡ c + 0 = omega arith in times_is_in (c + 0) xs (subst (IsIn xs) same there) in
    let all : (c : ℕ) → c < n → 0 < f c + (g c + h c) = λ c few.
    ⊎_elim
    (λ (made : IsIn ids (c + 1)). omega (arith, times_is_in (c + 1) ids made))
    (λ (spare : IsIn ys c ⊎ IsIn zs c). ⊎_elim (λ (y : IsIn ys c). omega (arith, some ys c y)) (λ (z : IsIn zs c). omega (arith, some zs c z)) spare)
    (each c few)
    in
    omega (arith, all_below (λ c. f c + (g c + h c)) n all, sum_of_both f (λ c. g c + h c) n, sum_of_both g h n, few_below 1 ids n, few_below 0 ys n, few_below 0 zs n)

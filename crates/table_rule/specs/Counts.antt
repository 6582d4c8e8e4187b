-- How often a number stands in a list, and sums over the views.
use Rattle.std.specs.Prelude.{◌≡◌, ◌⊎◌, ◌==◌, ℕ, zero, suc, ◌+◌, List, [], ◌∷◌, if◌then◌else◌, refl}

-- 1 where the two are the same
abbrev pub hit : ℕ → ℕ → ℕ
hit x y = if x == y then 1 else 0

-- how often x stands in the list
abbrev pub times : ℕ → List ℕ → ℕ
times x [] = 0
times x (y ∷ ys) = hit y x + times x ys

-- how many of the first n buckets hold x
abbrev pub holders : (ℕ → ℕ) → ℕ → ℕ → ℕ
holders bucket x zero = 0
holders bucket x (suc n) = hit (bucket n) x + holders bucket x n

-- f of each, added up
abbrev pub total : {V : Type 0} → (V → ℕ) → List V → ℕ
total f [] = 0
total f (v ∷ vs) = f v + total f vs

-- x is one of these
abbrev pub IsIn : {A : Type 0} → List A → A → Type 0
IsIn [] x = ⊥
IsIn (y ∷ ys) x = (y ≡ x) ⊎ IsIn ys x

two_threes : times 3 (3 ∷ 1 ∷ 3 ∷ []) ≡ 2
two_threes = refl

two_hold_one : holders (λ b. if b == 1 then 0 else 1) 1 3 ≡ 2
two_hold_one = refl

-- Counting in lists and over views, and lists of views after a step.
use Rattle.std.proofs.Common.{◌≡◌, ◌≢◌, ◌⊎◌, ℕ, zero, suc, ◌+◌, ◌<◌, ◌≤◌, List, [], ◌∷◌, ◌++◌, length, set, slice_get, Some, cond, refl, sym, ap, subst, ◌∙◌, inl, inr, ⊎_elim, arith, eq-eqb}
use Rattle.std.proofs.lemmas.Bool.{cases_eq, ne_eqb}
use Rattle.std.proofs.lemmas.Option.{none-some, same_Some}
use Rattle.std.specs.List.{AllByRecursion as Each}
use Rattle.table_rule.specs.Counts.{hit, times, holders, total, IsIn}

pub hit_same : (x y : ℕ) → x ≡ y → hit x y ≡ 1
hit_same x y same = ap (λ b. cond b 1 0) (eq-eqb x y same)

pub hit_apart : (x y : ℕ) → x ≢ y → hit x y ≡ 0
hit_apart x y apart = ap (λ b. cond b 1 0) (ne_eqb x y apart)

pub hit_is : (x y : ℕ) → 0 < hit x y → x ≡ y
hit_is x y h =
    ⊎_elim (λ (same : x ≡ y). same) (λ (apart : x ≢ y). absurd (omega (arith, hit_apart x y apart, h))) (cases_eq x y)

pub hit_next : (x y : ℕ) → hit (x + 1) (y + 1) ≡ hit x y
hit_next x y =
    ⊎_elim
    (λ (same : x ≡ y). hit_same (x + 1) (y + 1) (omega arith) ∙ sym (hit_same x y same))
    (λ (apart : x ≢ y). hit_apart (x + 1) (y + 1) (λ e. apart (omega arith)) ∙ sym (hit_apart x y apart))
    (cases_eq x y)

pub times-append : (x : ℕ) (ys zs : List ℕ) → times x (ys ++ zs) ≡ times x ys + times x zs
times-append x [] zs = omega arith
times-append x (y ∷ ys) zs = omega (arith, times-append x ys zs)

pub is_in_times : (x : ℕ) (ys : List ℕ) → 0 < times x ys → IsIn ys x
is_in_times x [] h = absurd (omega arith)
is_in_times x (y ∷ ys) h =
    ⊎_elim
    (λ (same : y ≡ x). inl same)
    (λ (apart : y ≢ x). inr (is_in_times x ys (omega (arith, hit_apart y x apart))))
    (cases_eq y x)

pub times_is_in : (x : ℕ) (ys : List ℕ) → IsIn ys x → 0 < times x ys
times_is_in x [] h = absurd h
times_is_in x (y ∷ ys) h =
    ⊎_elim (λ (same : y ≡ x). omega (arith, hit_same y x same)) (λ (there : IsIn ys x). omega (arith, times_is_in x ys there)) h

module _ {A : Type 0} where
  pub each_in : (P : A → Type 0) (xs : List A) (x : A) → Each P xs → IsIn xs x → P x
  each_in P [] x all there = absurd there
  each_in P (y ∷ ys) x all there = ⊎_elim (λ (same : y ≡ x). subst P same all.0) (λ (later : IsIn ys x). each_in P ys x all.1 later) there

  pub each-append : (P : A → Type 0) (xs ys : List A) → Each P xs → Each P ys → Each P (xs ++ ys)
  each-append P [] ys a b = b
  each-append P (x ∷ xs) ys a b = (a.0, each-append P xs ys a.1 b)

  pub each_weaker : (P Q : A → Type 0) → ((x : A) → P x → Q x) → (xs : List A) → Each P xs → Each Q xs
  each_weaker P Q f [] a = tt
  each_weaker P Q f (x ∷ xs) a = (f x a.0, each_weaker P Q f xs a.1)

  pub each_from_in : (P : A → Type 0) (xs : List A) → ((x : A) → IsIn xs x → P x) → Each P xs
  each_from_in P [] f = tt
  each_from_in P (x ∷ xs) f = (f x (inl refl), each_from_in P xs (λ y there. f y (inr there)))

  pub in_left : (xs ys : List A) (x : A) → IsIn xs x → IsIn (xs ++ ys) x
  in_left [] ys x h = absurd h
  in_left (y ∷ xs) ys x h = ⊎_elim (λ (same : y ≡ x). inl same) (λ (there : IsIn xs x). inr (in_left xs ys x there)) h

  pub in_right : (xs ys : List A) (x : A) → IsIn ys x → IsIn (xs ++ ys) x
  in_right [] ys x h = h
  in_right (y ∷ xs) ys x h = inr (in_right xs ys x h)

  pub in_append : (xs ys : List A) (x : A) → IsIn (xs ++ ys) x → IsIn xs x ⊎ IsIn ys x
  in_append [] ys x h = inr h
  in_append (y ∷ xs) ys x h =
      ⊎_elim
      (λ (same : y ≡ x). inl (inl same))
      (λ (there : IsIn (xs ++ ys) x). ⊎_elim (λ (l : IsIn xs x). inl (inr l)) (λ (r : IsIn ys x). inr r) (in_append xs ys x there))
      h

  -- the element at q after one was set at p
  pub get_set : (xs : List A) (p q : ℕ) (w u : A) → slice_get (set xs p w) q ≡ Some u → ((q ≡ p) × (w ≡ u)) ⊎ ((q ≢ p) × (slice_get xs q ≡ Some u))
  get_set [] p q w u e = absurd (none-some u e)
  get_set (x ∷ xs) zero zero w u e = inl (refl, same_Some w u e)
  get_set (x ∷ xs) zero (suc q) w u e = inr ((λ h. omega arith), e)
  get_set (x ∷ xs) (suc p) zero w u e = inr ((λ h. omega arith), e)
  get_set (x ∷ xs) (suc p) (suc q) w u e =
      ⊎_elim
      (λ (here : (q ≡ p) × (w ≡ u)). inl (ap suc here.0, here.1))
      (λ (there : (q ≢ p) × (slice_get xs q ≡ Some u)). let apart = there.0 in inr ((λ h. apart (omega arith)), there.1))
      (get_set xs p q w u e)

  pub get_set_here : (xs : List A) (p : ℕ) (v w : A) → slice_get xs p ≡ Some v → slice_get (set xs p w) p ≡ Some w
  get_set_here [] p v w e = absurd (none-some v e)
  get_set_here (x ∷ xs) zero v w e = refl
  get_set_here (x ∷ xs) (suc p) v w e = get_set_here xs p v w e

  pub get_set_else : (xs : List A) (p q : ℕ) (w : A) → q ≢ p → slice_get (set xs p w) q ≡ slice_get xs q
  get_set_else [] p q w n = refl
  get_set_else (x ∷ xs) zero zero w n = absurd (n refl)
  get_set_else (x ∷ xs) zero (suc q) w n = refl
  get_set_else (x ∷ xs) (suc p) zero w n = refl
  get_set_else (x ∷ xs) (suc p) (suc q) w n = get_set_else xs p q w (λ e. n (ap suc e))

  -- the element at q after one was put at the end
  pub get_push : (xs : List A) (w u : A) (q : ℕ) → slice_get (xs ++ w ∷ []) q ≡ Some u → (slice_get xs q ≡ Some u) ⊎ (w ≡ u)
  get_push [] w u zero e = inr (same_Some w u e)
  get_push [] w u (suc q) e = absurd (none-some u e)
  get_push (x ∷ xs) w u zero e = inl e
  get_push (x ∷ xs) w u (suc q) e = get_push xs w u q e

  pub get_left : (xs ys : List A) (q : ℕ) (u : A) → slice_get xs q ≡ Some u → slice_get (xs ++ ys) q ≡ Some u
  get_left [] ys q u e = absurd (none-some u e)
  get_left (x ∷ xs) ys zero u e = e
  get_left (x ∷ xs) ys (suc q) u e = get_left xs ys q u e

  pub get_last : (xs : List A) (w : A) → slice_get (xs ++ w ∷ []) (length xs) ≡ Some w
  get_last [] w = refl
  get_last (x ∷ xs) w = get_last xs w

  pub total_set : (f : A → ℕ) (xs : List A) (p : ℕ) (v w : A) → slice_get xs p ≡ Some v → total f (set xs p w) + f v ≡ total f xs + f w
  total_set f [] p v w e = absurd (none-some v e)
  total_set f (x ∷ xs) zero v w e = omega (arith, ap f (same_Some x v e))
  total_set f (x ∷ xs) (suc p) v w e = omega (arith, total_set f xs p v w e)

  pub total_push : (f : A → ℕ) (xs : List A) (w : A) → total f (xs ++ w ∷ []) ≡ total f xs + f w
  total_push f [] w = omega arith
  total_push f (x ∷ xs) w = omega (arith, total_push f xs w)

  pub le_total : (f : A → ℕ) (xs : List A) (p : ℕ) (v : A) → slice_get xs p ≡ Some v → f v ≤ total f xs
  le_total f [] p v e = absurd (none-some v e)
  le_total f (x ∷ xs) zero v e = omega (arith, ap f (same_Some x v e))
  le_total f (x ∷ xs) (suc p) v e = omega (arith, le_total f xs p v e)

  pub two_le_total : (f : A → ℕ) (xs : List A) (p q : ℕ) (v u : A) → p ≢ q → slice_get xs p ≡ Some v → slice_get xs q ≡ Some u → f v + f u ≤ total f xs
  two_le_total f [] p q v u n e d = absurd (none-some v e)
  two_le_total f (x ∷ xs) zero zero v u n e d = absurd (n refl)
  two_le_total f (x ∷ xs) zero (suc q) v u n e d = omega (arith, ap f (same_Some x v e), le_total f xs q u d)
  two_le_total f (x ∷ xs) (suc p) zero v u n e d = omega (arith, ap f (same_Some x u d), le_total f xs p v e)
  two_le_total f (x ∷ xs) (suc p) (suc q) v u n e d = omega (arith, two_le_total f xs p q v u (λ h. n (ap suc h)) e d)

  -- where something is counted, some element has it
  pub total_some : (f : A → ℕ) (xs : List A) → 0 < total f xs → (p : ℕ) × (v : A) × (slice_get xs p ≡ Some v) × (0 < f v)
  total_some f [] h = absurd (omega arith)
  total_some f (x ∷ xs) h =
      ⊎_elim
      (λ (none : f x ≡ 0). let r = total_some f xs (omega arith) in (suc r.0, r.1, r.2, r.3))
      (λ (some : f x ≢ 0). (0, x, refl, omega arith))
      (cases_eq (f x) 0)

  -- where only one element has it, it has all
  pub total_one : (f : A → ℕ) (xs : List A) (p : ℕ) (v : A) → slice_get xs p ≡ Some v → ((q : ℕ) (u : A) → q ≢ p → slice_get xs q ≡ Some u → f u ≡ 0) → total f xs ≡ f v
  total_one f [] p v e none = absurd (none-some v e)
  total_one f (x ∷ xs) zero v e none = omega (arith, ap f (same_Some x v e), total_none xs (λ q u d. none (suc q) u (λ h. omega arith) d))
    where
      total_none : (ys : List A) → ((q : ℕ) (u : A) → slice_get ys q ≡ Some u → f u ≡ 0) → total f ys ≡ 0
      total_none [] h = refl
      total_none (y ∷ ys) h = omega (arith, h 0 y refl, total_none ys (λ q u d. h (suc q) u d))
  total_one f (x ∷ xs) (suc p) v e none = omega (arith, none 0 x (λ h. omega arith) refl, total_one f xs p v e (λ q u n d. none (suc q) u (λ h. n (omega arith)) d))

module _ (f g : ℕ → ℕ) (x : ℕ) where
  pub holders_same : (n : ℕ) → ((b : ℕ) → b < n → g b ≡ f b) → holders g x n ≡ holders f x n
  holders_same zero same = refl
  holders_same (suc n) same = omega (arith, ap (λ (y : ℕ). hit y x) (same n (omega arith)), holders_same n (λ b h. same b (omega arith)))

  -- a bucket that changes
  pub holders_set : (n b y : ℕ) → b < n → g b ≡ y → ((c : ℕ) → c < n → c ≢ b → g c ≡ f c) → holders g x n + hit (f b) x ≡ holders f x n + hit y x
  holders_set zero b y h is same = absurd (omega arith)
  holders_set (suc n) b y h is same =
      ⊎_elim
      (λ (last : b ≡ n).
      let e : hit (f b) x ≡ hit (f n) x = ap (λ (c : ℕ). hit (f c) x) last in
      let d : hit (g n) x ≡ hit y x = ap (λ (c : ℕ). hit (g c) x) (sym last) ∙ ap (λ (c : ℕ). hit c x) is in
      omega (arith, holders_same n (λ c k. same c (omega arith) (λ q. omega arith))))
      (λ (before : b ≢ n).
      let e : hit (g n) x ≡ hit (f n) x = ap (λ (c : ℕ). hit c x) (same n (omega arith) (λ q. before (sym q))) in
      omega (arith, holders_set n b y (omega arith) is (λ c k. same c (omega arith))))
      (cases_eq b n)

module _ (f : ℕ → ℕ) (x : ℕ) where
  pub holder_of : (n : ℕ) → 0 < holders f x n → (b : ℕ) × (b < n) × (f b ≡ x)
  holder_of zero h = absurd (omega arith)
  holder_of (suc n) h =
      ⊎_elim
      (λ (here : f n ≡ x). (n, omega arith, here))
      (λ (apart : f n ≢ x). let r = holder_of n (omega (arith, hit_apart (f n) x apart)) in (r.0, omega (arith, r.1), r.2))
      (cases_eq (f n) x)

  pub some_holder : (n b : ℕ) → b < n → f b ≡ x → 0 < holders f x n
  some_holder zero b h is = absurd (omega arith)
  some_holder (suc n) b h is =
      ⊎_elim
      (λ (last : b ≡ n). omega (arith, hit_same (f n) x (ap f (sym last) ∙ is)))
      (λ (before : b ≢ n). omega (arith, some_holder n b (omega arith) is))
      (cases_eq b n)

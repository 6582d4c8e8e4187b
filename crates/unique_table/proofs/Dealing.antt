-- The tokens of a table, dealt one after another.
use Rattle.std.proofs.Common.{◌≡◌, ◌≢◌, ℕ, suc, ◌+◌, ◌-◌, ◌<◌, ◌≤◌, List, [], ◌∷◌, ◌++◌, length, take, drop, slice_get, Some, refl, sym, ap, subst, ◌∙◌, ⊎_elim, arith}
use Rattle.std.proofs.lemmas.Bool.{cases_eq}
use Rattle.std.proofs.lemmas.List.{length_push}
use Rattle.std.specs.List.{range_with_len}
use Rattle.table_rule.specs.Views.{fresh}
use Rattle.table_rule.proofs.Lists.{get_left, get_last}
use Rattle.unique_table.specs.Values.{IsOf, begun}
use Rattle.unique_table.specs.declared.table.TableValue.{TableValue}
use Rattle.unique_table.specs.declared.token.PassValue.{PassValue}

-- what is left, and what is dealt
pub next_left : (n p : ℕ) → n + 2 ≤ p → drop 1 (range_with_len n (p - n)) ≡ range_with_len (n + 1) (p - (n + 1))
next_left n p h =
    let e : p - n ≡ suc (p - (n + 1)) = omega arith in ap (λ (m : ℕ). drop 1 (range_with_len n m)) e

pub next_dealt : (n p : ℕ) → n + 1 ≤ p → take 1 (range_with_len n (p - n)) ≡ n ∷ []
next_dealt n p h =
    let e : p - n ≡ suc (p - (n + 1)) = omega arith in ap (λ (m : ℕ). take 1 (range_with_len n m)) e

pub last_left : (n p : ℕ) → n + 1 ≡ p → range_with_len n (p - n) ≡ n ∷ []
last_left n p h =
    let e : p - n ≡ 1 = omega arith in ap (λ (m : ℕ). range_with_len n m) e

pub is_begun : (t : TableValue) (p : PassValue) (tokens : List ℕ) → p ≡ begun t tokens → IsOf t p × (p.view ≡ fresh p.view.tokens) × (p.view.tokens ≡ tokens)
is_begun t p tokens e = subst (λ (x : PassValue). IsOf t x × (x.view ≡ fresh x.view.tokens) × (x.view.tokens ≡ tokens)) (sym e) ((refl, refl), refl, refl)

-- a further token is pushed
pub pushed : (t : TableValue) (xs : List PassValue) (x : PassValue) → ((k : ℕ) → k < length xs → slice_get xs k ≡ Some (begun t (k ∷ []))) → x ≡ begun t (length xs ∷ []) → (k : ℕ) → k < length (xs ++ x ∷ []) → slice_get (xs ++ x ∷ []) k ≡ Some (begun t (k ∷ []))
pushed t xs x each is k h =
    ⊎_elim
    (λ (last : k ≡ length xs). ap (slice_get (xs ++ x ∷ [])) last ∙ get_last xs x ∙ ap Some is ∙ ap (λ (n : ℕ). Some (begun t (n ∷ []))) (sym last))
    (λ (before : k ≢ length xs). get_left xs (x ∷ []) k (begun t (k ∷ [])) (each k (omega (arith, length_push xs x))))
    (cases_eq k (length xs))

pub begins_all : (t : TableValue) (last : PassValue) (items : List PassValue) (p : ℕ) → items ≡ [] → last ≡ begun t (range_with_len 0 p) → last ≡ begun t (range_with_len (length items) (p - length items))
begins_all t last items p none all =
    let e : p - 0 ≡ p = omega arith in
    subst (λ (xs : List PassValue). last ≡ begun t (range_with_len (length xs) (p - length xs))) (sym none) (all ∙ ap (λ (m : ℕ). begun t (range_with_len 0 m)) (sym e))

-- the token that is dealt is the next, and the others are left
module _ (t : TableValue) (p : ℕ) (xs after : List PassValue) (last : PassValue) (rest : last ≡ begun t (range_with_len (length xs) (p - length xs))) (each : (k : ℕ) → k < length xs → slice_get xs k ≡ Some (begun t (k ∷ []))) (dealt : PassValue) (items : after ≡ xs ++ dealt ∷ []) where
  longer : length after ≡ length xs + 1
  longer = ap length items ∙ length_push xs dealt

  pub rest_after : (left : PassValue) → length xs + 2 ≤ p → left ≡ begun t (drop 1 last.view.tokens) → left ≡ begun t (range_with_len (length after) (p - length after))
  rest_after left two is =
      let tokens = (is_begun t last (range_with_len (length xs) (p - length xs)) rest).2 in
      is ∙ ap (λ (ts : List ℕ). begun t (drop 1 ts)) tokens ∙ ap (begun t) (next_left (length xs) p two) ∙ ap (λ (n : ℕ). begun t (range_with_len n (p - n))) (sym longer)

  pub each_after : length xs + 1 ≤ p → dealt ≡ begun t (take 1 last.view.tokens) → (k : ℕ) → k < length after → slice_get after k ≡ Some (begun t (k ∷ []))
  each_after one is =
      let tokens = (is_begun t last (range_with_len (length xs) (p - length xs)) rest).2 in
      let next : dealt ≡ begun t (length xs ∷ []) = is ∙ ap (λ (ts : List ℕ). begun t (take 1 ts)) tokens ∙ ap (begun t) (next_dealt (length xs) p one) in
      subst (λ (ys : List PassValue). (k : ℕ) → k < length ys → slice_get ys k ≡ Some (begun t (k ∷ []))) (sym items) (pushed t xs dealt each next)

-- Lists that are seen from their ends, and tests of all of a list.
use Rattle.std.proofs.Common.{◌≡◌, ℕ, ◌+◌, ◌<◌, Bool, true, false, ◌||◌, cond, List, [], ◌∷◌, ◌++◌, length, map, drop, ◌≤◌, reverse, get_or, Option, Some, None, option_map, is_some, position, refl, sym, ap, ◌∙◌, ⊎_elim}
use Rattle.std.specs.List.{list_any, list_all}
use Rattle.std.proofs.lemmas.Bool.{cases_Bool}
use Rattle.std.proofs.lemmas.List.{reverse-append, get_or-map, length-map, at_drop_more, at_drop_all}
use Rattle.std.proofs.lemmas.List.Folds.{list_all_at}
use Rattle.texts.proofs.Places.{position-cons}

pub reverse_push : {X : Type 0} (xs : List X) (x : X) → reverse (xs ++ x ∷ []) ≡ x ∷ reverse xs
reverse_push xs x = reverse-append xs (x ∷ [])

map_push : {X Y : Type 0} (f : X → Y) (xs : List X) (x : X) → map f (xs ++ x ∷ []) ≡ map f xs ++ f x ∷ []
map_push f [] x = refl
map_push f (y ∷ xs) x = ap (λ more. f y ∷ more) (map_push f xs x)

pub seen_push : {X Y : Type 0} (f : X → Y) (xs : List X) (x : X) → reverse (map f (xs ++ x ∷ [])) ≡ f x ∷ reverse (map f xs)
seen_push f xs x = ap reverse (map_push f xs x) ∙ reverse_push (map f xs) (f x)

found_first : (b : Bool) (o : Option ℕ) → is_some (cond b (Some 0) (option_map (λ k. k + 1) o)) ≡ (b || is_some o)
found_first true o = refl
found_first false None = refl
found_first false (Some k) = refl

-- a place is found where some element passes
pub is_some-position : {X : Type 0} (p : X → Bool) (xs : List X) → is_some (position p xs) ≡ list_any p xs
is_some-position p [] = refl
is_some-position p (x ∷ xs) = ap is_some (position-cons p x xs) ∙ found_first (p x) (position p xs) ∙ ap (λ b. p x || b) (is_some-position p xs)

pub at_all : {X : Type 0} (p : X → Bool) (xs : List X) (i : ℕ) (d : X) → i < length xs → list_all p xs ≡ true → p (get_or xs i d) ≡ true
at_all p xs i d below e = ⊎_elim (λ passes. passes) (λ fails. absurd (let no = list_all_at p xs i d below fails in cc)) (cases_Bool (p (get_or xs i d)))

-- the same of a list that is seen as another
pub at_all_seen : {X Y : Type 0} (see : X → Y) (p : Y → Bool) (xs : List X) (i : ℕ) (d : X) → i < length xs → list_all p (map see xs) ≡ true → p (see (get_or xs i d)) ≡ true
at_all_seen see p xs i d below e =
    ap p (sym (get_or-map see xs i d (see d) below)) ∙ at_all p (map see xs) i (see d) (rw length-map below) e

-- ---- a test that is made from left to right

module _ {X Y : Type 0} (see : X → Y) (p : Y → Bool) (xs : List X) (i : ℕ) (d : X) (below : i < length xs) where
  any_from : list_any p (drop i (map see xs)) ≡ (p (see (get_or xs i d)) || list_any p (drop (i + 1) (map see xs)))
  any_from =
      at_drop_more (list_any p) (map see xs) i (see d) (rw length-map below)
      ∙ ap (λ y. p y || list_any p (drop (i + 1) (map see xs))) (get_or-map see xs i d (see d) below)

  pub any_hit : (whole : Bool) → list_any p (drop i (map see xs)) ≡ whole → p (see (get_or xs i d)) ≡ true → true ≡ whole
  any_hit whole is passes = sym (any_from ∙ ap (λ b. b || list_any p (drop (i + 1) (map see xs))) passes) ∙ is

  pub any_miss : (whole : Bool) → list_any p (drop i (map see xs)) ≡ whole → p (see (get_or xs i d)) ≡ false → list_any p (drop (i + 1) (map see xs)) ≡ whole
  any_miss whole is fails = sym (any_from ∙ ap (λ b. b || list_any p (drop (i + 1) (map see xs))) fails) ∙ is

pub any_none : {X Y : Type 0} (see : X → Y) (p : Y → Bool) (xs : List X) (i : ℕ) (whole : Bool) → length xs ≤ i → list_any p (drop i (map see xs)) ≡ whole → false ≡ whole
any_none see p xs i whole past is = sym (at_drop_all (list_any p) (map see xs) i (rw length-map past)) ∙ is

-- A machine that reads a list from left to right, over a list that is seen as another one.
use Rattle.std.proofs.Common.{◌≡◌, ℕ, ◌+◌, ◌<◌, ◌≤◌, List, [], ◌∷◌, length, map, drop, get_or, Option, Some, None, option_and_then, sym, ap, ◌∙◌}
use Rattle.std.proofs.lemmas.List.{at_drop_more, at_drop_all, get_or-map, length-map}

module _ {S X Y Z : Type 0} (f : S → List Y → Option Z) (step : S → Y → Option S) (law : (s : S) (y : Y) (ys : List Y) → f s (y ∷ ys) ≡ option_and_then (λ t. f t ys) (step s y)) (see : X → Y) where
  stepped : (xs : List X) (s : S) (i : ℕ) (d : X) → i < length xs → f s (drop i (map see xs)) ≡ option_and_then (λ t. f t (drop (i + 1) (map see xs))) (step s (see (get_or xs i d)))
  stepped xs s i d below =
      at_drop_more (f s) (map see xs) i (see d) (rw length-map below)
      ∙ ap (λ y. f s (y ∷ drop (i + 1) (map see xs))) (get_or-map see xs i d (see d) below)
      ∙ law s (see (get_or xs i d)) (drop (i + 1) (map see xs))

  pub runs_on : (xs : List X) (s t : S) (i : ℕ) (d : X) (whole : Option Z) → i < length xs → f s (drop i (map see xs)) ≡ whole → step s (see (get_or xs i d)) ≡ Some t → f t (drop (i + 1) (map see xs)) ≡ whole
  runs_on xs s t i d whole below is found =
      sym (stepped xs s i d below ∙ ap (option_and_then (λ t. f t (drop (i + 1) (map see xs)))) found) ∙ is

  pub runs_out : (xs : List X) (s : S) (i : ℕ) (d : X) (whole : Option Z) → i < length xs → f s (drop i (map see xs)) ≡ whole → step s (see (get_or xs i d)) ≡ None → None ≡ whole
  runs_out xs s i d whole below is none =
      sym (stepped xs s i d below ∙ ap (option_and_then (λ t. f t (drop (i + 1) (map see xs)))) none) ∙ is

  pub runs_to_end : (xs : List X) (s : S) (i : ℕ) (whole : Option Z) → length xs ≤ i → f s (drop i (map see xs)) ≡ whole → f s [] ≡ whole
  runs_to_end xs s i whole past is = sym (at_drop_all (f s) (map see xs) i (rw length-map past)) ∙ is

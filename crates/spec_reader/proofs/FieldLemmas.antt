-- The fields of a text, as what stands between white space and has bytes.
use Rattle.std.proofs.Common.{◌≡◌, ℕ, Bool, true, false, not, cond, List, [], ◌∷◌, length, ◌==◌, map, filter, refl, ap, ◌∙◌, arith}
use Rattle.std.proofs.lemmas.Bool.Decides.{nat_tests}
use Rattle.spec_grammar.specs.Fields.{has_bytes}

has_bytes-not_empty : (text : List ℕ) → not (length text == 0) ≡ has_bytes text
has_bytes-not_empty [] = refl
has_bytes-not_empty (b ∷ text) = grind (arith, nat_tests)

filter_cond : {X : Type 0} (f : X → List ℕ) (b : Bool) (x : X) (xs ys : List X) → map f (cond b xs ys) ≡ cond b (map f xs) (map f ys)
filter_cond f true x xs ys = refl
filter_cond f false x xs ys = refl

-- those that are not empty, by any view of them
pub not_empty-map : {X : Type 0} (f : X → List ℕ) (xs : List X) → map f (filter (λ x. not (length (f x) == 0)) xs) ≡ filter has_bytes (map f xs)
not_empty-map f [] = refl
not_empty-map f (x ∷ xs) =
    filter_cond f (not (length (f x) == 0)) x (x ∷ filter (λ x. not (length (f x) == 0)) xs) (filter (λ x. not (length (f x) == 0)) xs)
    ∙ ap (λ b. cond b (f x ∷ map f (filter (λ x. not (length (f x) == 0)) xs)) (map f (filter (λ x. not (length (f x) == 0)) xs))) (has_bytes-not_empty (f x))
    ∙ ap (λ more. cond (has_bytes (f x)) (f x ∷ more) more) (not_empty-map f xs)

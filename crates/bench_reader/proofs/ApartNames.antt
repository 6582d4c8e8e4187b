-- Names that differ, and their numbers.
use Rattle.std.proofs.Common.{◌≡◌, ℕ, ◌+◌, true, false, ◌||◌, cond, List, [], ◌∷◌, ◌++◌, length, Some, option_map, unwrap_or, refl, sym, ap, subst, ◌∙◌, position, add-one, append_assoc}
use Rattle.std.specs.List.{list_any}
use Rattle.std.specs.Str.{bytes_eq}
use Rattle.std.proofs.lemmas.Bool.{or_parts, or_from, false_from_ne_true, both_ways}
use Rattle.std.proofs.lemmas.List.{length_push}
use Rattle.std.proofs.lemmas.List.Folds.{list_any-append}
use Rattle.std.proofs.lemmas.Slice.Eq.{bytes_eq-Decides}
use Rattle.bench_reader.specs.Statements.{number}
use Rattle.texts.proofs.Places.{position-cons}

-- no name is one after it
abbrev pub AreApart : List (List ℕ) → Type 0
AreApart [] = Unit {0}
AreApart (name ∷ names) = (list_any (bytes_eq name) names ≡ false) × AreApart names

pub bytes_eq-same : (name : List ℕ) → bytes_eq name name ≡ true
bytes_eq-same name = (bytes_eq-Decides name name).1 refl

pub bytes_eq-flips : (a b : List ℕ) → bytes_eq a b ≡ false → bytes_eq b a ≡ false
bytes_eq-flips a b e = false_from_ne_true (bytes_eq b a) (λ same. let f : b ≡ a = (bytes_eq-Decides b a).0 same in both_ways (bytes_eq a b) e (subst (λ c. bytes_eq c b ≡ true) f (bytes_eq-same b)))

-- ---- one name more

pub apart_inserted : (front : List (List ℕ)) (name : List ℕ) (rest : List (List ℕ)) → AreApart (front ++ rest) → list_any (bytes_eq name) (front ++ rest) ≡ false → AreApart (front ++ name ∷ rest)
apart_inserted [] name rest h new = (new, h)
apart_inserted (first ∷ front) name rest h new =
    let parts = or_parts (bytes_eq name first) (list_any (bytes_eq name) (front ++ rest)) new in
    let others = or_parts (list_any (bytes_eq first) front) (list_any (bytes_eq first) rest) (sym (list_any-append (bytes_eq first) front rest) ∙ h.0) in
    let here : list_any (bytes_eq first) (front ++ name ∷ rest) ≡ false =
    list_any-append (bytes_eq first) front (name ∷ rest)
    ∙ or_from (list_any (bytes_eq first) front) (bytes_eq first name || list_any (bytes_eq first) rest) others.0 (or_from (bytes_eq first name) (list_any (bytes_eq first) rest) (bytes_eq-flips name first parts.0) others.1) in
    (here, apart_inserted front name rest h.1 parts.1)

-- ---- the number of a name

pub place_of_name : (front : List (List ℕ)) (name : List ℕ) (rest : List (List ℕ)) → AreApart (front ++ name ∷ rest) → position (bytes_eq name) (front ++ name ∷ rest) ≡ Some (length front)
place_of_name [] name rest h = position-cons (bytes_eq name) name rest ∙ ap (λ b. cond b (Some 0) (option_map (λ k. k + 1) (position (bytes_eq name) rest))) (bytes_eq-same name)
place_of_name (first ∷ front) name rest h =
    let others = or_parts (list_any (bytes_eq first) front) (bytes_eq first name || list_any (bytes_eq first) rest) (sym (list_any-append (bytes_eq first) front (name ∷ rest)) ∙ h.0) in
    let differs = bytes_eq-flips first name (or_parts (bytes_eq first name) (list_any (bytes_eq first) rest) others.1).0 in
    position-cons (bytes_eq name) first (front ++ name ∷ rest)
    ∙ ap (λ b. cond b (Some 0) (option_map (λ k. k + 1) (position (bytes_eq name) (front ++ name ∷ rest)))) differs
    ∙ ap (option_map (λ k. k + 1)) (place_of_name front name rest h.1)
    ∙ ap Some (add-one (length front))

-- the names have the numbers from n on
abbrev pub AreNumbered : List (List ℕ) → ℕ → List (List ℕ) → Type 0
AreNumbered all n [] = Unit {0}
AreNumbered all n (name ∷ names) = (number all name ≡ n) × AreNumbered all (n + 1) names

pub numbered_apart : (front rest : List (List ℕ)) → AreApart (front ++ rest) → AreNumbered (front ++ rest) (length front) rest
numbered_apart front [] h = tt
numbered_apart front (name ∷ rest) h =
    let regrouped : (front ++ name ∷ []) ++ rest ≡ front ++ name ∷ rest = append_assoc front (name ∷ []) rest in
    let more = numbered_apart (front ++ name ∷ []) rest (subst AreApart (sym regrouped) h) in
    (ap (λ o. unwrap_or o 0) (place_of_name front name rest h), subst (λ names. AreNumbered names (length front + 1) rest) regrouped (subst (λ n. AreNumbered ((front ++ name ∷ []) ++ rest) n rest) (length_push front name) more))

-- An assignment, name by name.
use Rattle.std.proofs.Common.{◌≡◌, ℕ, zero, suc, ◌+◌, ◌<◌, ◌≤◌, Bool, List, [], ◌∷◌, ◌++◌, length, get_or, take, min, codes, false, Some, refl, sym, ap, ◌∙◌, subst, append_assoc, arith}
use Rattle.std.specs.List.{zip, flat_map, slice_get}
use Rattle.std.proofs.lemmas.List.{take_more, take_all, flat_map_more}
use Rattle.std.proofs.lemmas.Option.{get_or_from_slice_get, slice_get_within}
use Rattle.std.proofs.lemmas.Slice.Zip.{length-zip, get_or-zip}
use Rattle.report.specs.Lines.{assignment, digit}

-- what is written of a name and its bit
abbrev pub entry : List ℕ × Bool → List ℕ
entry = λ (name, bit). codes " " ++ name ++ codes "=" ++ digit bit

zip-take : {A B : Type 0} (xs : List A) (ys : List B) (i : ℕ) → zip (take i xs) (take i ys) ≡ take i (zip xs ys)
zip-take xs ys zero = refl
zip-take [] ys (suc i) = refl
zip-take (x ∷ xs) [] (suc i) = refl
zip-take (x ∷ xs) (y ∷ ys) (suc i) = ap (λ pairs. (x, y) ∷ pairs) (zip-take xs ys i)

-- one more name
assignment-more : (names : List (List ℕ)) (bits : List Bool) (i : ℕ) (bit : Bool) → i < length names → slice_get bits i ≡ Some bit
    → assignment (take (i + 1) names) (take (i + 1) bits) ≡ assignment (take i names) (take i bits) ++ entry (get_or names i [], bit)
assignment-more names bits i bit in_names is_bit =
    let in_bits : i < length bits = slice_get_within bits i bit is_bit in
    let pair : get_or (zip names bits) i ([], false) ≡ (get_or names i [], bit) =
    get_or-zip names bits i ([], false) in_names in_bits ∙ ap (λ b. (get_or names i [], b)) (get_or_from_slice_get bits i bit false is_bit) in
    let in_zip : i < length (zip names bits) = subst (λ n. i < n) (sym (length-zip names bits)) (omega arith) in
    ap (flat_map entry) (zip-take names bits (i + 1) ∙ take_more (zip names bits) i ([], false) in_zip)
    ∙ sym (flat_map_more entry [] (take i (zip names bits)) (get_or (zip names bits) i ([], false)))
    ∙ ap (λ p. flat_map entry (take i (zip names bits)) ++ entry p) pair
    ∙ ap (λ pairs. flat_map entry pairs ++ entry (get_or names i [], bit)) (sym (zip-take names bits i))

-- a text that goes on with one more name
pub text-more : (names : List (List ℕ)) (bits : List Bool) (i : ℕ) (name : List ℕ) (bit : Bool) (before old new : List ℕ)
    → i < length names → name ≡ get_or names i [] → slice_get bits i ≡ Some bit
    → old ≡ before ++ assignment (take i names) (take i bits) → new ≡ old ++ (codes " " ++ name ++ codes "=" ++ digit bit)
    → new ≡ before ++ assignment (take (i + 1) names) (take (i + 1) bits)
text-more names bits i name bit before old new in_names is_name is_bit is_old is_new =
    is_new
    ∙ ap (λ text. text ++ entry (name, bit)) is_old
    ∙ append_assoc before (assignment (take i names) (take i bits)) (entry (name, bit))
    ∙ ap (λ text. before ++ text) (ap (λ n. assignment (take i names) (take i bits) ++ entry (n, bit)) is_name ∙ sym (assignment-more names bits i bit in_names is_bit))

-- all names that have a bit
pub assignment-all : (names : List (List ℕ)) (bits : List Bool) (n : ℕ) → min (length names) (length bits) ≤ n
    → assignment (take n names) (take n bits) ≡ assignment names bits
assignment-all names bits n past = ap (flat_map entry) (zip-take names bits n ∙ take_all n (zip names bits) (subst (λ m. m ≤ n) (sym (length-zip names bits)) past))

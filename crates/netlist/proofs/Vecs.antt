-- Vectors and lists that are made element by element.
use Rattle.std.specs.Prelude.{◌≡◌, ℕ, ◌+◌, ◌<◌, List, [], ◌∷◌, ◌++◌, Bool, ◌||◌, ◌&&◌, length, map, take, get_or, vec_len}
use Rattle.std.specs.List.{list_any, list_all}
use Rattle.std.specs.declared.vec.Vec.{Vec}
use Rattle.std.proofs.Common.{refl, sym, ◌∙◌, ap, arith}
use Rattle.std.proofs.lemmas.List.{length-map, map_push, take_more}

pub vec_len-map : {X Y Z : Type 0} (f : X → Y) (v : Vec X Z) → vec_len v ≡ length (map f v.items)
vec_len-map f v = omega (arith, v.ok.0, length-map v.items f)

pub list_any-map : {X Y : Type 0} (p : Y → Bool) (f : X → Y) (xs : List X) → list_any (λ x. p (f x)) xs ≡ list_any p (map f xs)
list_any-map p f [] = refl
list_any-map p f (x ∷ xs) = ap (λ b. p (f x) || b) (list_any-map p f xs)

pub all_mapped : {X : Type 0} (f : X → Bool) (xs : List X) → list_all (λ bit. bit) (map f xs) ≡ list_all f xs
all_mapped f [] = refl
all_mapped f (x ∷ xs) = ap (λ b. f x && b) (all_mapped f xs)

pub any_mapped : {X : Type 0} (f : X → Bool) (xs : List X) → list_any (λ bit. bit) (map f xs) ≡ list_any f xs
any_mapped f [] = refl
any_mapped f (x ∷ xs) = ap (λ b. f x || b) (any_mapped f xs)

-- one element more, of a list that is made of another
pub mapped_more : {X Y Z W : Type 0} (f : X → W) (g : Z → W) (h : Y → Z) (made more : List X) (x : X) (ys : List Y) (i : ℕ) (y : Y)
    → more ≡ made ++ x ∷ [] → map f made ≡ map g (map h (take i ys)) → f x ≡ g (h y) → i < length ys → y ≡ get_or ys i y
    → map f more ≡ map g (map h (take (i + 1) ys))
mapped_more f g h made more x ys i y pushed so_far same low at =
    let split : map g (map h (take (i + 1) ys)) ≡ map g (map h (take i ys)) ++ g (h y) ∷ [] =
    ap (λ zs. map g (map h zs)) (take_more ys i y low ∙ ap (λ z. take i ys ++ z ∷ []) (sym at)) ∙ (ap (map g) (map_push h (take i ys) y) ∙ map_push g (map h (take i ys)) (h y))
    in
    ap (map f) pushed ∙ (map_push f made x ∙ (ap (λ zs. zs ++ f x ∷ []) so_far ∙ (ap (λ z. map g (map h (take i ys)) ++ z ∷ []) same ∙ sym split)))

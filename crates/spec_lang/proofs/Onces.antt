-- One number more, each once.
use Rattle.std.proofs.Common.{◌≡◌, ℕ, Bool, true, false, not, ◌||◌, cond, eqb, List, [], ◌∷◌, ◌++◌, filter, length, take, get_or, ◌+◌, ◌<◌, refl, sym, ap, ◌∙◌, arith}
use Rattle.std.specs.List.{list_any}
use Rattle.std.proofs.lemmas.Bool.Decides.{nat_tests}
use Rattle.std.proofs.lemmas.List.{append-nil, take_more}
use Rattle.std.proofs.lemmas.List.Elements.{filter-append}
use Rattle.spec_lang.specs.Named.{each_once}

eqb_flips : (x y : ℕ) → eqb x y ≡ eqb y x
eqb_flips x y = grind (arith, nat_tests)

kept : (p : ℕ → Bool) (y x : ℕ) (numbers : List ℕ) (b s : Bool) → not s ≡ p x
    → y ∷ filter p (cond b numbers (numbers ++ x ∷ [])) ≡ cond (s || b) (y ∷ filter p numbers) (y ∷ filter p numbers ++ x ∷ [])
kept p y x numbers true true e = refl
kept p y x numbers true false e = refl
kept p y x numbers false true e = ap (λ more. y ∷ more) (filter-append p numbers (x ∷ []) ∙ ap (λ b. filter p numbers ++ cond b (x ∷ []) []) (sym e) ∙ append-nil (filter p numbers))
kept p y x numbers false false e = ap (λ more. y ∷ more) (filter-append p numbers (x ∷ []) ∙ ap (λ b. filter p numbers ++ cond b (x ∷ []) []) (sym e))

pub each_once-push : (numbers : List ℕ) (x : ℕ) → each_once (numbers ++ x ∷ []) ≡ cond (list_any (eqb x) numbers) (each_once numbers) (each_once numbers ++ x ∷ [])
each_once-push [] x = refl
each_once-push (y ∷ numbers) x =
    ap (λ more. y ∷ filter (λ z. not (eqb y z)) more) (each_once-push numbers x)
    ∙ kept (λ z. not (eqb y z)) y x (each_once numbers) (list_any (eqb x) numbers) (eqb x y) (ap not (eqb_flips x y))

each_once-more : (numbers : List ℕ) (i : ℕ) → i < length numbers
    → each_once (take (i + 1) numbers) ≡ cond (list_any (eqb (get_or numbers i 0)) (take i numbers)) (each_once (take i numbers)) (each_once (take i numbers) ++ get_or numbers i 0 ∷ [])
each_once-more numbers i below = ap each_once (take_more numbers i 0 below) ∙ each_once-push (take i numbers) (get_or numbers i 0)

pub each_once-new : (numbers : List ℕ) (i : ℕ) → i < length numbers → list_any (eqb (get_or numbers i 0)) (take i numbers) ≡ false
    → each_once (take (i + 1) numbers) ≡ each_once (take i numbers) ++ get_or numbers i 0 ∷ []
each_once-new numbers i below new = each_once-more numbers i below ∙ ap (λ b. cond b (each_once (take i numbers)) (each_once (take i numbers) ++ get_or numbers i 0 ∷ [])) new

pub each_once-known : (numbers : List ℕ) (i : ℕ) → i < length numbers → list_any (eqb (get_or numbers i 0)) (take i numbers) ≡ true
    → each_once (take (i + 1) numbers) ≡ each_once (take i numbers)
each_once-known numbers i below known = each_once-more numbers i below ∙ ap (λ b. cond b (each_once (take i numbers)) (each_once (take i numbers) ++ get_or numbers i 0 ∷ [])) known

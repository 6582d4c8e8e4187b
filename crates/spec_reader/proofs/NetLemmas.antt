-- The numbers of nets, one after another.
use Rattle.std.proofs.Common.{◌≡◌, ℕ, ◌+◌, ◌<◌, ◌≤◌, Bool, true, false, ◌||◌, cond, List, [], ◌∷◌, ◌++◌, length, map, drop, get_or, Option, Some, None, option_map, is_none, refl, sym, ap, ◌∙◌, append_assoc}
use Rattle.std.specs.List.{cons_option}
use Rattle.std.specs.Option.{option_and_then}
use Rattle.std.proofs.lemmas.List.{at_drop_more, at_drop_all, get_or-map, length-map, append-nil}
use Rattle.circuits.specs.Circuit.{Circuit}
use Rattle.circuits.specs.Names.{net_of}
use Rattle.spec_grammar.specs.Faults.{numbers, has_unknown}

-- the numbers of all nets, where the circuit has each
abbrev pub all_numbers : Circuit → List (List ℕ) → Option (List ℕ)
all_numbers c [] = Some []
all_numbers c (net ∷ more) = option_and_then (λ n. option_map (λ ns. n ∷ ns) (all_numbers c more)) (net_of c net)

pub all_numbers-known : (c : Circuit) (nets : List (List ℕ)) → all_numbers c nets ≡ cond (has_unknown c nets) None (Some (numbers c nets))
all_numbers-known c [] = refl
all_numbers-known c (net ∷ nets) = at (net_of c net) (has_unknown c nets) (all_numbers-known c nets)
  where
    at : (o : Option ℕ) (b : Bool) → all_numbers c nets ≡ cond b None (Some (numbers c nets))
        → option_and_then (λ n. option_map (λ ns. n ∷ ns) (all_numbers c nets)) o ≡ cond (is_none o || b) None (Some (cons_option o (numbers c nets)))
    at None b e = refl
    at (Some n) true e = ap (option_map (λ ns. n ∷ ns)) e
    at (Some n) false e = ap (option_map (λ ns. n ∷ ns)) e

-- the numbers behind those that were found
abbrev pub behind : List ℕ → Option (List ℕ) → Option (List ℕ)
behind front o = option_map (λ ns. front ++ ns) o

pub behind-nothing : (o : Option (List ℕ)) → behind [] o ≡ o
behind-nothing None = refl
behind-nothing (Some ns) = refl

behind-more : (front : List ℕ) (n : ℕ) (o : Option (List ℕ)) → behind front (option_map (λ ns. n ∷ ns) o) ≡ behind (front ++ n ∷ []) o
behind-more front n None = refl
behind-more front n (Some ns) = ap Some (sym (append_assoc front (n ∷ []) ns))

module _ {X : Type 0} (see : X → List ℕ) (c : Circuit) where
  step : (names : List X) (i : ℕ) (d : X) → i < length names
      → all_numbers c (drop i (map see names)) ≡ option_and_then (λ n. option_map (λ ns. n ∷ ns) (all_numbers c (drop (i + 1) (map see names)))) (net_of c (see (get_or names i d)))
  step names i d below =
      at_drop_more (all_numbers c) (map see names) i (see d) (rw length-map below)
      ∙ ap (λ name. option_and_then (λ n. option_map (λ ns. n ∷ ns) (all_numbers c (drop (i + 1) (map see names)))) (net_of c name)) (get_or-map see names i d (see d) below)

  pub numbers-none : (names : List X) (front : List ℕ) (i : ℕ) (d : X) (whole : Option (List ℕ)) → i < length names → behind front (all_numbers c (drop i (map see names))) ≡ whole
      → net_of c (see (get_or names i d)) ≡ None → None ≡ whole
  numbers-none names front i d whole below is none =
      sym (ap (behind front) (step names i d below ∙ ap (λ o. option_and_then (λ n. option_map (λ ns. n ∷ ns) (all_numbers c (drop (i + 1) (map see names)))) o) none)) ∙ is

  pub numbers-more : (names : List X) (front : List ℕ) (n i : ℕ) (d : X) (whole : Option (List ℕ)) → i < length names → behind front (all_numbers c (drop i (map see names))) ≡ whole
      → net_of c (see (get_or names i d)) ≡ Some n → behind (front ++ n ∷ []) (all_numbers c (drop (i + 1) (map see names))) ≡ whole
  numbers-more names front n i d whole below is found =
      sym (ap (behind front) (step names i d below ∙ ap (λ o. option_and_then (λ n. option_map (λ ns. n ∷ ns) (all_numbers c (drop (i + 1) (map see names)))) o) found) ∙ behind-more front n (all_numbers c (drop (i + 1) (map see names)))) ∙ is

  pub numbers-end : (names : List X) (front : List ℕ) (i : ℕ) (whole : Option (List ℕ)) → length names ≤ i → behind front (all_numbers c (drop i (map see names))) ≡ whole → Some front ≡ whole
  numbers-end names front i whole past is =
      ap Some (sym (append-nil front)) ∙ sym (ap (behind front) (at_drop_all (all_numbers c) (map see names) i (rw length-map past))) ∙ is

-- What `Interns` allows and what it refuses, in a store that knows one of two bodies.
use Rattle.std.proofs.Common.{◌≡◌, ℕ, [], ◌∷◌, Some, Ok, Err, subst, ⊎_elim, arith, refl}
use Rattle.std.specs.Cmp.{nat_cmp_total}
use Rattle.std.specs.FinMap.{get-from_entries}
use Rattle.std.specs.List.{enumerate_from}
use Rattle.record_store.specs.Interns.{Interns}
use Rattle.record_store.specs.Path.{lower_node, upper_node}
use Rattle.record_store.specs.Solo.{Solo, solo_view}
use Rattle.record_store.specs.StoreView.{StoreView, find_in, IsKnown}

abbrev one_of_two : Solo
one_of_two = record { bodies = lower_node ∷ []; cells = 2 }

lower_is_first : find_in (solo_view one_of_two) 1 ≡ Some lower_node
lower_is_first = get-from_entries nat_cmp_total (enumerate_from 1 one_of_two.bodies) 1

-- a known body has no second id
no_second_id : (new : StoreView) → Interns (solo_view one_of_two) new lower_node (Ok 2) → ⊥
no_second_id new i = let same : ◌≡◌ {A = ℕ} 2 1 = cc (i.known_id 1 lower_is_first) in omega arith

-- a known body is not refused
not_refused : (new : StoreView) → Interns (solo_view one_of_two) new lower_node (Err (record {})) → ⊥
not_refused new i = (i.full refl).1 (1, lower_is_first)

-- a store that has room refuses nothing
has_room : (new : StoreView) → new.spent ≡ (solo_view one_of_two).spent → Interns (solo_view one_of_two) new upper_node (Err (record {})) → ⊥
has_room new same i = let full = (i.full refl).0 in cc

-- a known body is not made again
not_made_again : (new : StoreView) → new.made ≡ 1 ∷ 1 ∷ [] → Interns (solo_view one_of_two) new lower_node (Ok 1) → ⊥
not_made_again new made i =
    ⊎_elim
    (λ (none : new.made ≡ (solo_view one_of_two).made). cc)
    (λ again. let same : ◌≡◌ {A = ℕ} 1 again.0 = cc again.1 in again.2 (subst (IsKnown (solo_view one_of_two)) same (lower_node, lower_is_first)))
    i.made

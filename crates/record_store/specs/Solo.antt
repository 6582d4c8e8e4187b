-- What a `SoloStore` is, and how it is seen as a store.
use Rattle.std.specs.Prelude.{◌≡◌, ◌==◌, ◌↔◌, ℕ, ◌<◌, ◌≤◌, ◌+◌, List, [], ◌∷◌, ◌++◌, Result, Ok, length, nat_eq, Contains, IsTrue, Some, None, true, refl}
use Rattle.std.specs.Cmp.{nat_cmp_total}
use Rattle.std.specs.FinMap as map
use Rattle.std.specs.FinMap.{get-from_entries}
use Rattle.std.specs.List.{IsDistinct, enumerate_from, range_with_len}
use Rattle.record_store.specs.Path.{lower_node, upper_node}
use Rattle.record_store.specs.StoreView.{StoreView, find_in, HasBody, IsKnown}
use Rattle.record_store.specs.declared.solo.TheConstants.{MAX_CELLS}
use Rattle.record_store.specs.declared.store.StoreFull.{StoreFull}

-- the bodies in the order of their ids, and how many it may hold
pub record Solo : Type 0 where
  pub bodies : List (List ℕ)
  pub cells : ℕ

-- the ids go from 1 on, and the store made them all
abbrev pub solo_view : Solo → StoreView
solo_view s = record {
  known = map.from_entries (enumerate_from 1 s.bodies);
  made = range_with_len 1 (length s.bodies);
  spent = length s.bodies == s.cells;
  room = s.cells;
  stamp = [];
}

abbrev two_bodies : Solo
two_bodies = record { bodies = lower_node ∷ upper_node ∷ []; cells = 2 }

second_of_two : find_in (solo_view two_bodies) 2 ≡ Some upper_node
second_of_two = get-from_entries nat_cmp_total (enumerate_from 1 two_bodies.bodies) 2

third_of_two : find_in (solo_view two_bodies) 3 ≡ None
third_of_two = get-from_entries nat_cmp_total (enumerate_from 1 two_bodies.bodies) 3

made_of_two : (solo_view two_bodies).made ≡ 1 ∷ 2 ∷ []
made_of_two = refl

two_are_all : (solo_view two_bodies).spent ≡ true
two_are_all = refl

-- what holds of the view of each `SoloStore` that knows so many bodies
pub record IsSoloView (v : StoreView) (count : ℕ) : Type 0 where
  pub made : v.made ≡ range_with_len 1 count
  pub known : (id : ℕ) → IsKnown v id ↔ ((0 < id) × (id ≤ count))
  pub made_all : (id : ℕ) → IsKnown v id → Contains v.made id
  pub made_once : IsDistinct nat_eq v.made
  pub distinct : (i j : ℕ) (body : List ℕ) → find_in v i ≡ Some body → find_in v j ≡ Some body → i ≡ j
  pub spent : IsTrue v.spent ↔ (count ≡ v.room)
  pub within : count ≤ v.room
  pub some_room : 0 < v.room
  pub room : v.room ≤ MAX_CELLS
  pub stamp : v.stamp ≡ []

-- the body is not known, and a cell is left for it
abbrev pub HasRoomFor : Solo → List ℕ → Type 0
HasRoomFor s body = (HasBody (solo_view s) body → ⊥) × (length s.bodies < s.cells)

-- the body is not known, and each cell is taken
abbrev pub IsFullFor : Solo → List ℕ → Type 0
IsFullFor s body = (HasBody (solo_view s) body → ⊥) × (length s.bodies ≡ s.cells)

-- a body is put at the end, under the next id
pub record Adds (old new : Solo) (body : List ℕ) (result : Result ℕ StoreFull) : Type 0 where
  pub id : result ≡ Ok (length old.bodies + 1)
  pub bodies : new.bodies ≡ old.bodies ++ body ∷ []
  pub cells : new.cells ≡ old.cells

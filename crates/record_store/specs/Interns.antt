-- What a call of `intern` answers, and what it leaves.
use Rattle.std.specs.Prelude.{◌≡◌, ◌⊎◌, ℕ, ◌<◌, ◌≤◌, List, [], ◌∷◌, ◌++◌, Some, Ok, Result, IsErr, IfOk, IsTrue}
use Rattle.record_store.specs.StoreView.{StoreView, find_in, IsKnown, HasBody}
use Rattle.record_store.specs.declared.store.StoreFull.{StoreFull}

-- the call made nothing, or it made the id that it answers, which was not known
abbrev pub MadeBy : StoreView → StoreView → Result ℕ StoreFull → Type 0
MadeBy old new result =
    (new.made ≡ old.made)
    ⊎ ((id : ℕ) × (result ≡ Ok id) × (IsKnown old id → ⊥) × (new.made ≡ old.made ++ id ∷ []))

pub record Interns (old new : StoreView) (body : List ℕ) (result : Result ℕ StoreFull) : Type 0 where
  pub room : new.room ≡ old.room
  pub stamp : new.stamp ≡ old.stamp
  -- all that was known stays
  pub stays : (id : ℕ) (b : List ℕ) → find_in old id ≡ Some b → find_in new id ≡ Some b
  -- the answer is an id of the body
  pub answers : IfOk result (λ id. (find_in new id ≡ Some body) × (0 < id) × (id ≤ new.room))
  -- a body that was known has the id that it had
  pub known_id : (id : ℕ) → find_in old id ≡ Some body → result ≡ Ok id
  -- nothing is newly known but the answer
  pub at_most : (id : ℕ) (b : List ℕ) → find_in new id ≡ Some b → (find_in old id ≡ Some b) ⊎ (result ≡ Ok id)
  pub made : MadeBy old new result
  -- the store is full only for a body that is not known, and then it stays as it was
  pub full : IsErr result → IsTrue new.spent × (HasBody old body → ⊥) × (new.known ≡ old.known) × (new.made ≡ old.made)

-- What a store of bodies means.
use Rattle.std.specs.Prelude.{◌≡◌, ℕ, Bool, List, Option, Some, refl}
use Rattle.std.specs.Coded.{Coded, code_by, coded×, coded_bool, coded_list, coded_ℕ}
use Rattle.std.specs.FinMap as map
use Rattle.std.specs.Ordering.{nat_cmp}

pub record StoreView : Type 0 where
  -- the bodies by their ids
  pub known : map.FinMap nat_cmp (List ℕ)
  -- the ids that the store published itself, in order
  pub made : List ℕ
  -- it has no room for a further body
  pub spent : Bool
  -- each known id is from 1 to this number
  pub room : ℕ
  -- what names the table and the pass: empty for a store of one's own
  pub stamp : List ℕ

-- a view is stored as the tuple of its parts
abbrev pub view_code : Coded StoreView
view_code =
    code_by (map.FinMap nat_cmp (List ℕ) × (List ℕ × (Bool × (ℕ × List ℕ))))
    (coded× (map.code coded_ℕ (coded_list coded_ℕ)) (coded× (coded_list coded_ℕ) (coded× coded_bool (coded× coded_ℕ (coded_list coded_ℕ)))))
    (λ v. (v.known, (v.made, (v.spent, (v.room, v.stamp)))))
    (λ p. record { known = p.0; made = p.1.0; spent = p.1.1.0; room = p.1.1.1.0; stamp = p.1.1.1.1 })
    (λ _. refl)

-- the body under an id
abbrev pub find_in : StoreView → ℕ → Option (List ℕ)
find_in v id = map.get v.known id

-- a body is known under the id
abbrev pub IsKnown : StoreView → ℕ → Type 0
IsKnown v id = (body : List ℕ) × (find_in v id ≡ Some body)

-- the body is known under an id
abbrev pub HasBody : StoreView → List ℕ → Type 0
HasBody v body = (id : ℕ) × (find_in v id ≡ Some body)

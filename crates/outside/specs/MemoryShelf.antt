-- A shelf in memory.
use Rattle.std.specs.Prelude.{◌≡◌, ℕ, Bool, true, false, List, [], ◌∷◌, length, nat_lt, Option, Some, None, if◌then◌else◌, codes, refl}
use Rattle.std.proofs.Common.{ap, ◌∙◌}
use Rattle.std.specs.Option.{option_map_or}
use Rattle.std.specs.Ordering.{nat_cmp}
use Rattle.std.specs.Cmp.Lexicographic.{slice_cmp, nat_list_cmp_total}
use Rattle.std.specs.Cmp.{nat_cmp_total}
use Rattle.std.specs.Coded.{Coded, code_by, coded×, coded_ℕ, coded_list}
use Rattle.std.specs.FinMap as map
use Rattle.std.specs.FinSet as set
use Rattle.outside.specs.Count.{raised, counted}

-- the files by their names, the numbers of the fetches that are to fail, how many fetches there were, and how many were to fail
pub record ShelfState : Type 0 where
  pub files : map.FinMap (slice_cmp nat_cmp) (List ℕ)
  pub failing : set.FinSet nat_cmp
  pub fetches : ℕ
  pub faults : ℕ

-- a state is stored as the tuple of its fields
abbrev pub shelf_code : Coded ShelfState
shelf_code =
    code_by _ (coded× (map.code (coded_list coded_ℕ) (coded_list coded_ℕ)) (coded× (set.code coded_ℕ) (coded× coded_ℕ coded_ℕ)))
    (λ s. (s.files, (s.failing, (s.fetches, s.faults))))
    (λ p. record { files = p.0; failing = p.1.0; fetches = p.1.1.0; faults = p.1.1.1 })
    (λ _. refl)

-- no file, and no fetch is to fail
abbrev pub empty_shelf : ShelfState
empty_shelf = record { files = map.empty; failing = set.empty; fetches = 0; faults = 0 }

-- the bytes of the file of this name
abbrev pub file_of : ShelfState → List ℕ → Option (List ℕ)
file_of shelf name = map.get shelf.files name

-- the next fetch, counted from 1, is one that is to fail
abbrev pub fails_next : ShelfState → Bool
fails_next shelf = set.contains shelf.failing (raised shelf.fetches)

-- there is such a file, and it has more than `limit` bytes
abbrev pub has_longer : ShelfState → List ℕ → ℕ → Bool
has_longer shelf name limit = option_map_or (λ bytes. nat_lt limit (length bytes)) (file_of shelf name) false

-- after a fetch: it was counted, and so was its fault where it was one that is to fail
abbrev pub after_fetch : ShelfState → ShelfState
after_fetch shelf = record {
  files = shelf.files;
  failing = shelf.failing;
  fetches = raised shelf.fetches;
  faults = counted (fails_next shelf) shelf.faults;
}

-- a shelf whose file "a" was set twice, and whose second fetch is to fail
abbrev example_shelf : ShelfState
example_shelf = record {
  files = map.insert (map.insert map.empty (codes "a") (1 ∷ [])) (codes "a") (2 ∷ 3 ∷ []);
  failing = set.insert set.empty 2;
  fetches = 0;
  faults = 0;
}

file_of-a : file_of example_shelf (codes "a") ≡ Some (2 ∷ 3 ∷ [])
file_of-a = map.get-insert nat_list_cmp_total (map.insert map.empty (codes "a") (1 ∷ [])) (codes "a") (2 ∷ 3 ∷ []) (codes "a")

file_of-b : file_of example_shelf (codes "b") ≡ None
file_of-b =
    map.get-insert nat_list_cmp_total (map.insert map.empty (codes "a") (1 ∷ [])) (codes "a") (2 ∷ 3 ∷ []) (codes "b")
    ∙ map.get-insert nat_list_cmp_total map.empty (codes "a") (1 ∷ []) (codes "b")
    ∙ map.get-empty (slice_cmp nat_cmp) (codes "b")

fails_next-first : fails_next example_shelf ≡ false
fails_next-first = set.contains-insert nat_cmp_total set.empty 2 1 ∙ set.contains-empty nat_cmp 1

fails_next-second : fails_next (record example_shelf { fetches = 1 }) ≡ true
fails_next-second = set.contains-insert nat_cmp_total set.empty 2 2

has_longer-a : has_longer example_shelf (codes "a") 1 ≡ true
has_longer-a = ap (λ file. option_map_or (λ bytes. nat_lt 1 (length bytes)) file false) file_of-a

after_fetch-first : (after_fetch example_shelf).faults ≡ 0
after_fetch-first = ap (λ b. if b then 1 else 0) fails_next-first

after_fetch-second : (after_fetch (record example_shelf { fetches = 1 })).faults ≡ 1
after_fetch-second = ap (λ b. if b then 1 else 0) fails_next-second

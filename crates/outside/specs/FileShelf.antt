-- A shelf over the files that a system opens.
use Rattle.std.specs.Prelude.{◌≡◌, ℕ, Bool, true, false, refl}
use Rattle.outside.specs.Count.{raised, counted}

-- the system, how many fetches there were, and how many of them met a fault
pub record ShelfOver (S : Type 0) : Type 0 where
  pub system : S
  pub fetches : ℕ
  pub faults : ℕ

-- after a fetch that met a fault, or met none
abbrev pub after_fetch : {S : Type 0} → Bool → ShelfOver S → ShelfOver S
after_fetch fault shelf = record {
  system = shelf.system;
  fetches = raised shelf.fetches;
  faults = counted fault shelf.faults;
}

after_fetch-fault :
    after_fetch {S = ℕ} true (record { system = 7; fetches = 3; faults = 1 }) ≡ record { system = 7; fetches = 4; faults = 2 }
after_fetch-fault = refl

after_fetch-none :
    after_fetch {S = ℕ} false (record { system = 7; fetches = 3; faults = 1 }) ≡ record { system = 7; fetches = 4; faults = 1 }
after_fetch-none = refl

-- What a fetch gives. A shelf's files are the bytes of each name, where there are any, or `None` where the shelf does not tell.
use Rattle.std.specs.Prelude.{◌≡◌, ℕ, ◌≤◌, ◌<◌, ◌⊎◌, Bool, true, false, List, ◌++◌, length, Option, Some, None, Result, Ok, Err, codes, refl}
use Rattle.std.proofs.Common.{lit<, lit≤, inl, inr}
use Rattle.outside.specs.Count.{raised, Rose}
use Rattle.outside.specs.declared.shelf.FetchError.{FetchError}
use Rattle.outside.specs.declared.shelf.FetchError.TheVariants.{Failed, TooLong, Memory}

-- what the shelf tells of a name: nothing, that there is no such file, or its bytes
abbrev pub told : Option (List ℕ → Option (List ℕ)) → List ℕ → Option (Option (List ℕ))
told None name = None
told (Some files) name = Some (files name)

-- the shelf tells that the file of this name has these bytes
abbrev pub Holds : Option (List ℕ → Option (List ℕ)) → List ℕ → List ℕ → Type 0
Holds files name bytes = told files name ≡ Some (Some bytes)

-- the shelf tells its files, and has none of this name
abbrev pub Lacks : Option (List ℕ → Option (List ℕ)) → List ℕ → Type 0
Lacks files name = told files name ≡ Some None

holds-every_name : Holds (Some (λ name. Some name)) (codes "a") (codes "a")
holds-every_name = refl

lacks-empty : Lacks (Some (λ _. None)) (codes "a")
lacks-empty = refl

-- The count rose in a call that was given this name. Said of a shelf that tells its files it also holds where they lack the name.
abbrev pub ShelfRose : Option (List ℕ → Option (List ℕ)) → List ℕ → ℕ → ℕ → Type 0
ShelfRose files name before now = Rose before now ⊎ Lacks files name

-- These bytes are the whole file, where it is told. One that is told to be absent has none.
abbrev pub IsWhole : Option (Option (List ℕ)) → List ℕ → Type 0
IsWhole None bytes = Unit {0}
IsWhole (Some None) bytes = ⊥
IsWhole (Some (Some file)) bytes = bytes ≡ file

-- A whole file was appended, of at most `limit` bytes.
pub record AppendsFile (of_name : Option (Option (List ℕ))) (limit : ℕ) (old new : List ℕ) : Type 0 where
  pub bytes : List ℕ
  pub whole : IsWhole of_name bytes
  pub within : length bytes ≤ limit
  pub appended : new ≡ old ++ bytes

-- the file "ab" was appended to "x"
appends-ab : AppendsFile (Some (Some (codes "ab"))) 2 (codes "x") (codes "xab")
appends-ab = record {
  bytes = codes "ab";
  whole = refl;
  within = lit≤ tt;
  appended = refl;
}

-- The file has more than `limit` bytes, where it is told. One that is told to be absent is not longer.
abbrev pub IsLonger : Option (Option (List ℕ)) → ℕ → Type 0
IsLonger None limit = Unit {0}
IsLonger (Some None) limit = ⊥
IsLonger (Some (Some file)) limit = limit < length file

longer-ab : IsLonger (Some (Some (codes "ab"))) 1
longer-ab = lit< tt

-- the fetch answered `Failed`
abbrev pub is_failed : {T : Type 0} → Result T FetchError → Bool
is_failed (Ok _) = false
is_failed (Err Failed) = true
is_failed (Err TooLong) = false
is_failed (Err Memory) = false

is_failed-failed : is_failed {T = ℕ} (Err Failed) ≡ true
is_failed-failed = refl

is_failed-too_long : is_failed {T = ℕ} (Err TooLong) ≡ false
is_failed-too_long = refl

-- How the count of faults changes in a fetch. It rises by one at `Failed`, where a name that is told to be absent need be no
-- fault, and it stays at each other answer.
abbrev pub CountsFault : {T : Type 0} → Type 0 → ℕ → ℕ → Result T FetchError → Type 0
CountsFault absent before now (Ok _) = now ≡ before
CountsFault absent before now (Err Failed) = (now ≡ raised before) ⊎ (absent × (now ≡ before))
CountsFault absent before now (Err TooLong) = now ≡ before
CountsFault absent before now (Err Memory) = now ≡ before

counts-fault : CountsFault {T = ℕ} ⊥ 3 4 (Err Failed)
counts-fault = inl refl

counts-absent : CountsFault {T = ℕ} (Unit {0}) 3 3 (Err Failed)
counts-absent = inr (tt, refl)

counts-too_long : CountsFault {T = ℕ} ⊥ 3 3 (Err TooLong)
counts-too_long = refl

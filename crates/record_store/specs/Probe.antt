-- What a probe of the buckets answers.
use Rattle.std.specs.Prelude.{◌≡◌, ℕ, ◌-◌, ◌<◌, List, length, slice_get, slice_index, Some}
use Rattle.record_store.specs.Buckets.{IsReached}
use Rattle.record_store.specs.declared.probe.PathEnd.{PathEnd}
use Rattle.record_store.specs.declared.probe.PathEnd.TheVariants.{Known, Empty}

-- no body is this one
abbrev pub IsNew : List (List ℕ) → List ℕ → Type 0
IsNew bodies body = (k : ℕ) → slice_get bodies k ≡ Some body → ⊥

-- the body is that under an id, or it is new and belongs into an empty bucket
abbrev pub Probes : List ℕ → List (List ℕ) → List ℕ → PathEnd → Type 0
Probes buckets bodies body (Known id) = (0 < id) × (slice_get bodies (id - 1) ≡ Some body)
Probes buckets bodies body (Empty bucket) =
    (bucket < length buckets) × (slice_index buckets bucket ≡ 0) × IsReached buckets body bucket × IsNew bodies body

-- The verdicts of the checks, one after the other.
use Rattle.std.proofs.Common.{◌≡◌, ℕ, zero, suc, ◌+◌, ◌<◌, ◌≤◌, Bool, true, false, List, [], ◌∷◌, ◌++◌, length, refl, sym, ap, ◌∙◌, subst, arith, ⊎_elim, inl, inr}
use Rattle.std.specs.Prelude.{◌⊎◌, ◌&&◌, All, Some, slice_get}
use Rattle.std.proofs.lemmas.List.Elements.{All-head, All-tail}
use Rattle.circuits.specs.Circuit.{Circuit}
use Rattle.checks.specs.declared.verdict.Verdict.{Verdict}
use Rattle.spec_lang.specs.Specification.{Specification}
use Rattle.tables.specs.Laws.{are_allowed}
use Rattle.word_base.specs.Kind.{is_allowed}
use Rattle.word_base.specs.declared.decomp.Decomp.{Decomp}
use Rattle.word_base.specs.declared.kind_name.KindName.{KindName}
use Rattle.check_run.specs.Verdicts.{AreReported, IsReported}

-- each verdict so far is that of its check
abbrev pub ReportedSoFar : KindName → ℕ → Circuit → Specification → List Verdict → Type 0
ReportedSoFar k cells c s verdicts = (place : ℕ) (verdict : Verdict) → slice_get verdicts place ≡ Some verdict → IsReported k cells c s place verdict

-- the last of a list, or one before
at_end : {X : Type 0} (xs : List X) (x y : X) (place : ℕ) → slice_get (xs ++ x ∷ []) place ≡ Some y → (slice_get xs place ≡ Some y) ⊎ ((place ≡ length xs) × (x ≡ y))
at_end [] x y zero is = inr (refl, cc)
at_end [] x y (suc place) is = absurd (cc)
at_end (z ∷ xs) x y zero is = inl is
at_end (z ∷ xs) x y (suc place) is =
    ⊎_elim (λ before. inl before) (λ last. inr (ap suc last.0, last.1)) (at_end xs x y place is)

pub reported-more : (k : KindName) (cells : ℕ) (c : Circuit) (s : Specification) (verdicts : List Verdict) (verdict : Verdict) → ReportedSoFar k cells c s verdicts →
    IsReported k cells c s (length verdicts) verdict → ReportedSoFar k cells c s (verdicts ++ verdict ∷ [])
reported-more k cells c s verdicts verdict before last = λ place other is.
    ⊎_elim
    (λ there. before place other there)
    (λ end. subst (λ (n : ℕ). IsReported k cells c s n other) (sym end.0) (subst (IsReported k cells c s (length verdicts)) end.1 last))
    (at_end verdicts verdict other place is)

-- the kind has each of these letters
pub allowed_letters : (k : KindName) (letters : List Decomp) → All (λ letter. is_allowed k letter ≡ true) letters → are_allowed k letters ≡ true
allowed_letters k [] all = refl
allowed_letters k (d ∷ ds) all =
    let allowed : Decomp → Type 0 = λ letter. is_allowed k letter ≡ true in
    let first : is_allowed k d ≡ true = All-head allowed d ds all in
    let rest = allowed_letters k ds (All-tail allowed d ds all) in
    rw first rest

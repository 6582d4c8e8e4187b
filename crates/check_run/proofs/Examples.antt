-- Whole runs over the half adder's files.
use Rattle.word_base.specs.declared.kind_name.KindName.TheVariants.{Hdd}
use Rattle.std.proofs.Common.{◌≡◌, refl, sym, subst, ℕ, zero, suc, List, [], ◌∷◌, inl, inr, lit≤}
use Rattle.std.specs.Prelude.{codes, Ok, Some, None, slice_get}
use Rattle.std.specs.Fmt.{digits}
use Rattle.circuits.specs.Examples.{half}
use Rattle.spec_lang.specs.Specification.{half_adder, half_adder_check}
use Rattle.checks.specs.declared.verdict.Verdict.{Verdict}
use Rattle.checks.specs.declared.verdict.Verdict.TheVariants.{Equal}
use Rattle.check_run.specs.declared.status.Status.TheVariants.{Done, ReadFault}
use Rattle.check_run.specs.Files.{half_spec, half_text, two_files}
use Rattle.check_run.specs.Outside.{Files, Outside}
use Rattle.check_run.specs.Reading.{FailsIn, FailsToRead}
use Rattle.check_run.specs.Run.{IsRun}
use Rattle.check_run.specs.Verdicts.{IsReported}
use Rattle.check_run.specs.Sources.{PlainSource}
use Rattle.check_run.specs.Words.{check_n_s, n_and_s, n_and_s_by_hdd}
use Rattle.check_run.proofs.RunLaws.{failed_to_read, text_written}

-- a shelf of these files that was asked so often, and a sink that was given these bytes
abbrev at : Files → ℕ → List ℕ → Outside
at files fetches written = record {
  shelf = record { files = files; fetches = fetches; faults = 0 };
  sink = record { written = Some written; faults = 0 };
}

abbrev both : Files
both = two_files half_text (Some half_spec)

one_verdict : (place : ℕ) (verdict : Verdict) → slice_get (Equal 2 ∷ []) place ≡ Some verdict → IsReported Hdd 262144 half half_adder place verdict
one_verdict zero verdict is = let same : (Equal 2) ≡ verdict = cc in subst (IsReported Hdd 262144 half half_adder 0) same (half_adder_check, refl, refl)
one_verdict (suc place) verdict is = absurd (cc)

half-runs : IsRun check_n_s (at both 0 []) (at both 2 (codes "check 1 equal nodes 2\n")) Done
unfolding digits
half-runs =
    text_written check_n_s (at both 0 []) (at both 2 (codes "check 1 equal nodes 2\n")) (codes "check 1 equal nodes 2\n") Done refl refl
    (inr (
      n_and_s_by_hdd,
      half,
      half_adder,
      Equal 2 ∷ [],
      record {
        asks = refl;
        texts = record {
          netlist = (half_text, record { whole = refl; within = lit≤ tt }, refl);
          spec = (half_spec, record { whole = refl; within = lit≤ tt }, refl);
          fetches = refl;
        };
      },
      record { one_each = refl; each = one_verdict },
      record { text_is = refl; status_is = refl },
    ))
    refl refl

-- the specification is not there
abbrev one : Files
one = two_files half_text None

half-fails : IsRun check_n_s (at one 0 []) (at one 2 []) ReadFault
half-fails =
    failed_to_read check_n_s (at one 0 []) (at one 2 []) refl
    (n_and_s_by_hdd, refl, (tt, inr (half, (half_text, record { whole = refl; within = lit≤ tt }, refl), refl, inr (refl, refl)))) refl

-- no run asks three times
no_third_fetch : (written : List ℕ) → IsRun check_n_s (at one 0 []) (at one 3 written) ReadFault → ⊥
no_third_fetch written run = by_stop (run.read_fault refl)
  where
    at_neither : FailsIn n_and_s (at one 0 []).shelf (at one 3 written).shelf → ⊥
    at_neither (in_files, inl (once, unread)) = cc
    at_neither (in_files, inr (c, says, twice, unread)) = cc

    by_stop : FailsToRead check_n_s (at one 0 []).shelf (at one 3 written).shelf → ⊥
    by_stop (a, asks, fails) =
        let is : a.source ≡ n_and_s = let both : Ok a ≡ Ok n_and_s_by_hdd = sym asks in cc in
        at_neither (subst (λ (x : PlainSource). FailsIn x (at one 0 []).shelf (at one 3 written).shelf) is fails)

use Rattle.std.proofs.Common.{◌≡◌, ◌∙◌, ◌+◌, ◌++◌, ◌≤◌, [], ◌∷◌, ℕ, List, length, sym, ap, subst, length-append, arith}
use Rattle.checks.specs.declared.verdict.Verdict.{Verdict}
use Rattle.check_run.specs.Verdicts.{IsReported}
use Rattle.check_run.proofs.ReportLaws.{ReportedSoFar, reported-more}
use Rattle.check_run.proofs.decide.decide_all.Goals as goal

pub loop-check-preserved : goal.loop-check-preserved
loop-check-preserved g c =
    let before = c.loop-check.verdicts.items in
    let verdict = c.in_ok-check_one.field-0 in
    let pushed = c.in_ok-push.ensures.items in
    let many : length before ≡ c.loop-check.check = c.loop-check.invariant.0 in
    let reported = subst (λ (n : ℕ). IsReported c.args.settings.kind c.args.settings.cells c.args.netlist.now c.args.spec.now n verdict) (sym many) c.in_ok-check_one.ensures in (
      ap length pushed ∙ length-append before (verdict ∷ []) ∙ ap (λ (n : ℕ). n + 1) many,
      subst (ReportedSoFar c.args.settings.kind c.args.settings.cells c.args.netlist.now c.args.spec.now) (sym pushed)
          (reported-more c.args.settings.kind c.args.settings.cells c.args.netlist.now c.args.spec.now before verdict c.loop-check.invariant.1 reported),
    )

pub returns : goal.returns
returns g c =
    let many : length c.args.spec.now.checks ≤ c.loop-check.check = subst (λ (n : ℕ). n ≤ c.loop-check.check) c.checks-check-end.ensures.checks c.loop-check-test.false in
    let few : c.loop-check.check ≤ length c.args.spec.now.checks = subst (λ (n : ℕ). c.loop-check.check ≤ n) c.checks-check-end.ensures.checks c.loop-check.auto.check-end in
    record { one_each = c.loop-check.invariant.0 ∙ omega (arith, many, few); each = c.loop-check.invariant.1 }

-- The lines of all checks, verdict by verdict.
use Rattle.std.proofs.Common.{◌≡◌, ℕ, ◌+◌, ◌<◌, List, [], ◌∷◌, ◌++◌, length, get_or, take, sym, ap, ◌∙◌, append_assoc, append-nil, arith}
use Rattle.std.proofs.lemmas.List.{take_more, length-take-le}
use Rattle.checks.specs.declared.verdict.Verdict.{Verdict}
use Rattle.report.specs.Lines.{lines_from, report, verdict_line}

-- one more line
lines-more : (k : ℕ) (names : List (List ℕ)) (verdicts : List Verdict) (verdict : Verdict) →
    lines_from k names (verdicts ++ verdict ∷ []) ≡ lines_from k names verdicts ++ verdict_line (k + length verdicts) names verdict
lines-more k names [] verdict =
    let same : k ≡ k + 0 = omega arith in
    append-nil (verdict_line k names verdict) ∙ ap (λ n. verdict_line n names verdict) same
lines-more k names (first ∷ more) verdict =
    let same : k + 1 + length more ≡ k + length (first ∷ more) = omega arith in
    ap (λ text. verdict_line k names first ++ text) (lines-more (k + 1) names more verdict)
    ∙ sym (append_assoc (verdict_line k names first) (lines_from (k + 1) names more) (verdict_line (k + 1 + length more) names verdict))
    ∙ ap (λ n. lines_from k names (first ∷ more) ++ verdict_line n names verdict) same

-- a text that goes on with the line of the next check
pub report-more : (names : List (List ℕ)) (verdicts : List Verdict) (place : ℕ) (verdict : Verdict) (old new : List ℕ) → place < length verdicts → verdict ≡ get_or verdicts place verdict →
    old ≡ report names (take place verdicts) → new ≡ old ++ verdict_line (place + 1) names verdict → new ≡ report names (take (place + 1) verdicts)
report-more names verdicts place verdict old new low is is_old is_new =
    let many : place + 1 ≡ 1 + length (take place verdicts) = omega (arith, length-take-le place verdicts (omega (arith, low))) in
    let more : take (place + 1) verdicts ≡ take place verdicts ++ verdict ∷ [] =
    take_more verdicts place verdict low ∙ ap (λ v. take place verdicts ++ v ∷ []) (sym is) in
    is_new
    ∙ ap (λ text. text ++ verdict_line (place + 1) names verdict) is_old
    ∙ ap (λ n. report names (take place verdicts) ++ verdict_line n names verdict) many
    ∙ sym (lines-more 1 names (take place verdicts) verdict)
    ∙ ap (report names) (sym more)

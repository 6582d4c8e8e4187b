use Rattle.std.proofs.Common.{◌≡◌, ◌∙◌, length, sym, ap, arith}
use Rattle.spec_grammar.specs.Faults.{draft}
use Rattle.spec_grammar.specs.Forms.{check_form}
use Rattle.spec_grammar.specs.Symbols.{symbols}
use Rattle.spec_reader.specs.Steps.{check_fault, check_said}
use Rattle.spec_reader.specs.Views.{seen_draft}
use Rattle.spec_reader.proofs.DraftLemmas.{check_added}
use Rattle.spec_reader.proofs.draft.with_check.Goals as goal

pub returns : goal.returns
returns c =
    let f = check_form (symbols c.args.text.now) in
    let d = seen_draft c.args.draft in
    let count : c.len.result ≡ length d.checks = omega (arith, c.len.ensures, c.args.draft.checks.ok.0) in (
      ap (λ w. check_fault w (length d.checks) f) (sym c.deref.ensures.value) ∙ ap (λ n. check_fault c.deref.result.now n f) (sym count) ∙ c.in_ok-check.ensures.0,
      ap (draft d.order d.letters d.words) c.in_ok-push.ensures.items ∙ check_added c.args.netlist.now d f c.in_ok-check.check (ap (λ w. check_said w f) (sym c.deref.ensures.value) ∙ c.in_ok-check.ensures.1),
    )

use Rattle.std.proofs.Common.{◌∙◌, sym, ap}
use Rattle.std.specs.List.{before_first, after_first}
use Rattle.spec_grammar.specs.Faults.{draft}
use Rattle.spec_grammar.specs.Fields.{fields}
use Rattle.spec_grammar.specs.Forms.{word_form, is_equals_sign}
use Rattle.spec_reader.specs.Steps.{word_fault}
use Rattle.spec_reader.specs.Views.{seen_draft}
use Rattle.spec_reader.proofs.DraftLemmas.{word_added}
use Rattle.spec_reader.proofs.draft.with_word.Goals as goal

pub returns : goal.returns
returns c =
    let f = word_form (fields (before_first is_equals_sign c.args.text.now)) (fields (after_first is_equals_sign c.args.text.now)) in
    let d = seen_draft c.args.draft in (
      ap (λ w. word_fault c.args.netlist.now w f) (sym c.deref.ensures.value) ∙ c.in_ok-word.ensures.0,
      ap (λ w. draft d.order d.letters w d.checks) c.in_ok-push.ensures.items ∙ word_added c.args.netlist.now d f c.in_ok-word.word c.in_ok-word.ensures.1,
    )

use Rattle.std.proofs.Common.{◌≡◌, ◌∙◌, sym, ap}
use Rattle.std.specs.List.{before_first, after_first}
use Rattle.spec_grammar.specs.Faults.{form_fault}
use Rattle.spec_grammar.specs.Fields.{fields, keyword}
use Rattle.spec_grammar.specs.Forms.{form, form_of, form_behind, is_equals_sign}
use Rattle.spec_reader.specs.Views.{seen_draft}
use Rattle.spec_reader.proofs.DraftLemmas.{along_word, form_behind-word, form_behind-none}
use Rattle.spec_reader.proofs.draft.with_line.Goals as goal

pub returns-then-is-3 : goal.returns-then-is-3
returns-then-is-3 c =
    let w = c.split_keyword.result.0.now in
    let r = c.split_keyword.result.1.now in
    let text = c.before_comment.result.now in
    let same : form_of c.args.line.now ≡ form_behind w r =
    sym (ap (λ x. form_behind x r) c.split_keyword.ensures.keyword ∙ ap (form_behind (keyword text)) c.split_keyword.ensures.rest ∙ ap form c.before_comment.ensures) in
    along_word seen_draft c.args.netlist.now c.args.kind (seen_draft c.args.draft) c.with_word.result (form_of c.args.line.now)
    (fields (before_first is_equals_sign r)) (fields (after_first is_equals_sign r))
    (same ∙ form_behind-word w r (sym c.is.ensures ∙ c.if-is.false) (sym c.is-else-is.ensures ∙ c.if-is-2.false) (sym c.is-else-is-2.ensures ∙ c.if-is-3.true))
    c.with_word.ensures

pub returns-else-is-4 : goal.returns-else-is-4
returns-else-is-4 c =
    let w = c.split_keyword.result.0.now in
    let r = c.split_keyword.result.1.now in
    let text = c.before_comment.result.now in
    let same : form_of c.args.line.now ≡ form_behind w r =
    sym (ap (λ x. form_behind x r) c.split_keyword.ensures.keyword ∙ ap (form_behind (keyword text)) c.split_keyword.ensures.rest ∙ ap form c.before_comment.ensures) in
    ap (form_fault c.args.netlist.now c.args.kind (seen_draft c.args.draft))
    (same ∙ form_behind-none w r (sym c.is_empty.ensures ∙ c.if-is_empty.false) (sym c.is.ensures ∙ c.if-is.false) (sym c.is-else-is.ensures ∙ c.if-is-2.false) (sym c.is-else-is-2.ensures ∙ c.if-is-3.false)
    (sym c.is-else-is-3.ensures ∙ c.if-is-4.false))

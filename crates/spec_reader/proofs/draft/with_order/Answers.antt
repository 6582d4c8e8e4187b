use Rattle.std.proofs.Common.{◌≡◌, ◌∙◌, sym, ap, is_some}
use Rattle.spec_grammar.specs.Fields.{fields}
use Rattle.spec_grammar.specs.Forms.{order_form}
use Rattle.spec_reader.specs.Steps.{order_fault}
use Rattle.spec_reader.specs.Views.{seen_draft}
use Rattle.spec_reader.proofs.DraftLemmas.{err_told, order_added, is_some-map}
use Rattle.spec_reader.proofs.draft.with_order.Goals as goal

pub returns-in_err-order : goal.returns-in_err-order
returns-in_err-order c =
    let f = order_form (fields c.args.text.now) in
    let same : c.is_some.result ≡ is_some (seen_draft c.args.draft).order = c.is_some.ensures ∙ sym (is_some-map (λ order. order.items) c.args.draft.order) in
    err_told c.from_residual.result c.in_err-order.field-0.0 (order_fault c.args.netlist.now (is_some (seen_draft c.args.draft).order) f) _ _ c.from_residual.ensures.1
    (rw same at c.in_err-order.ensures)

pub returns : goal.returns
returns c =
    let f = order_form (fields c.args.text.now) in
    let same : c.is_some.result ≡ is_some (seen_draft c.args.draft).order = c.is_some.ensures ∙ sym (is_some-map (λ order. order.items) c.args.draft.order) in
    let none = sym (ap (λ b. order_fault c.args.netlist.now b f) same) ∙ c.in_ok-order.ensures.0 in
    (none, order_added c.args.netlist.now c.is_some.result (seen_draft c.args.draft) f c.in_ok-order.order.items c.in_ok-order.ensures.0 c.in_ok-order.ensures.1)

use Rattle.std.proofs.Common.{◌∙◌, ap}
use Rattle.std.specs.Prelude.{slice_get}
use Rattle.spec_lang.proofs.Evaluations.{as_many_inputs, values_are, evaluated-ok, evaluated-err}
use Rattle.spec_lang.proofs.spec.Spec.evaluate.Goals as goal

pub evaluate-requires : goal.evaluate-requires
evaluate-requires c =
    as_many_inputs c.args.netlist.now c.args.self.now c.deref.result.now c.args.at.now c.in_ok-inputs.inputs c.requires.over
    (c.deref.ensures.value ∙ ap (λ s. s.order) c.self.view_is) c.in_ok-inputs.ensures

pub returns-in_err-sides_at : goal.returns-in_err-sides_at
returns-in_err-sides_at c =
    evaluated-err c.args.self.now.words (slice_get c.args.self.now.checks c.args.check) c.deref-2.result.now _ c.sides_at.result c.in_err-sides_at.field-0.0 c.from_residual-in_err-sides_at.result
    c.sides_at.ensures c.in_err-sides_at.was c.from_residual-in_err-sides_at.ensures.1
    (values_are c.args.netlist.now c.args.self.now c.deref.result.now c.args.at.now c.in_ok-inputs.inputs c.deref-2.result.now c.requires.over
    (c.deref.ensures.value ∙ ap (λ s. s.order) c.self.view_is) c.in_ok-inputs.ensures (c.deref-2.ensures.value ∙ c.in_ok-evaluate.ensures.ok))

pub returns : goal.returns
returns c =
    evaluated-ok c.args.self.now.words (slice_get c.args.self.now.checks c.args.check) c.deref-2.result.now _ c.sides_at.result c.in_ok-sides_at.field-0
    c.sides_at.ensures c.in_ok-sides_at.was
    (values_are c.args.netlist.now c.args.self.now c.deref.result.now c.args.at.now c.in_ok-inputs.inputs c.deref-2.result.now c.requires.over
    (c.deref.ensures.value ∙ ap (λ s. s.order) c.self.view_is) c.in_ok-inputs.ensures (c.deref-2.ensures.value ∙ c.in_ok-evaluate.ensures.ok))

use Rattle.std.proofs.Common.{refl, sym, ◌∙◌, ap, subst, inl, inr}
use Rattle.std.specs.Prelude.{Ok}
use Rattle.diagram.specs.Calls.{IsOfBoth}
use Rattle.kind_laws.specs.Plain.{plain, answered}
use Rattle.spec_lang.specs.Formula.{Formula, number, word, negative, formula_of}
use Rattle.spec_lang.proofs.Formulas.{formula_of-Number, formula_of-Word, formula_of-Neg, formula_of-Add, formula_of-Sub, formula_of-Mul}
use Rattle.tables.specs.Table.{zip_with}
use Rattle.word_apply.specs.Applied.{operation_of, operation_work}
use Rattle.word_apply.proofs.ExpressionCalls.{first_operand}
use Rattle.word_apply.proofs.expressions.operation.Goals as goal

pub returns-in-Add-clause-operation : goal.returns-in-Add-clause-operation
returns-in-Add-clause-operation g c =
    let Made : Formula → Type 0 = λ f. IsOfBoth (zip_with (operation_of f)) (operation_work f c.args.builder.now.letters) g.K.Kind.NAME c.args.builder.now c.add.new.self
    (plain g.K.Kind.extra_of c.args.a) (plain g.K.Kind.extra_of c.args.b) (answered (plain g.K.Kind.extra_of) c.add.result) in
    subst Made (sym (ap formula_of c.in-Add.is ∙ formula_of-Add c.in-Add.field-0 c.in-Add.field-1)) c.add.ensures.sum

pub returns-in-Sub-clause-operation : goal.returns-in-Sub-clause-operation
returns-in-Sub-clause-operation g c =
    let Made : Formula → Type 0 = λ f. IsOfBoth (zip_with (operation_of f)) (operation_work f c.args.builder.now.letters) g.K.Kind.NAME c.args.builder.now c.sub.new.self
    (plain g.K.Kind.extra_of c.args.a) (plain g.K.Kind.extra_of c.args.b) (answered (plain g.K.Kind.extra_of) c.sub.result) in
    subst Made (sym (ap formula_of c.in-Sub.is ∙ formula_of-Sub c.in-Sub.field-0 c.in-Sub.field-1)) c.sub.ensures.difference

pub returns-in-Mul-clause-operation : goal.returns-in-Mul-clause-operation
returns-in-Mul-clause-operation g c =
    let Made : Formula → Type 0 = λ f. IsOfBoth (zip_with (operation_of f)) (operation_work f c.args.builder.now.letters) g.K.Kind.NAME c.args.builder.now c.mul.new.self
    (plain g.K.Kind.extra_of c.args.a) (plain g.K.Kind.extra_of c.args.b) (answered (plain g.K.Kind.extra_of) c.mul.result) in
    subst Made (sym (ap formula_of c.in-Mul.is ∙ formula_of-Mul c.in-Mul.field-0 c.in-Mul.field-1)) c.mul.ensures.product

pub returns-in-Number-clause-operation : goal.returns-in-Number-clause-operation
returns-in-Number-clause-operation g c =
    let k = g.K.Kind.NAME in
    let v = c.args.builder.now in
    let a = plain g.K.Kind.extra_of c.args.a in
    let b = plain g.K.Kind.extra_of c.args.b in
    let x = c.args.expr.now in
    let Made : Type 0 = IsOfBoth (zip_with (operation_of (formula_of x))) (operation_work (formula_of x) v.letters) k v v a b (Ok a) in
    elim c.in-Number.is as (λ _. Made) [
      | inl n ↦ first_operand k v a b x (number n.0) (ap formula_of n.1 ∙ formula_of-Number n.0) (λ y z. refl)
      | inr more ↦
          elim more as (λ _. Made) [
            | inl w ↦ first_operand k v a b x (word w.0) (ap formula_of w.1 ∙ formula_of-Word w.0) (λ y z. refl)
            | inr m ↦ first_operand k v a b x (negative (formula_of m.0)) (ap formula_of m.1 ∙ formula_of-Neg m.0) (λ y z. refl)
          ]
    ]

use Rattle.std.proofs.Common.{refl, subst, sym, inl, inr, length, drop}
use Rattle.std.specs.Prelude.{Ok}
use Rattle.diagram.specs.Calls.{IsOfBoth}
use Rattle.diagram.proofs.JoinCauses.{answers_at_once}
use Rattle.checks.specs.Work.{step_table}
use Rattle.circuits.specs.declared.gate_word.GateWord.{GateWord}
use Rattle.circuits.specs.declared.gate_word.GateWord.TheVariants.{Not, Buff}
use Rattle.kind_laws.specs.Plain.{plain, answered}
use Rattle.word_apply.specs.Applied.{step_work_at}
use Rattle.word_apply.proofs.FoldCalls.{step_of_none}
use Rattle.word_apply.proofs.fold.one_step.Goals as goal

pub returns-in-And-clause-step : goal.returns-in-And-clause-step
returns-in-And-clause-step g c =
    let Step : GateWord → Type 0 = λ w. IsOfBoth (step_table w) (step_work_at w c.args.builder.now.letters) g.K.Kind.NAME c.args.builder.now c.and.new.builder
    (plain g.K.Kind.extra_of c.args.a) (plain g.K.Kind.extra_of c.args.b) (answered (plain g.K.Kind.extra_of) c.and.result) in
    elim c.in-And.is as (λ _. Step c.args.word) [ inl e ↦ subst Step (sym e) c.and.ensures.conjunction | inr e ↦ subst Step (sym e) c.and.ensures.conjunction ]

pub returns-in-Or-clause-step : goal.returns-in-Or-clause-step
returns-in-Or-clause-step g c =
    let Step : GateWord → Type 0 = λ w. IsOfBoth (step_table w) (step_work_at w c.args.builder.now.letters) g.K.Kind.NAME c.args.builder.now c.or.new.builder
    (plain g.K.Kind.extra_of c.args.a) (plain g.K.Kind.extra_of c.args.b) (answered (plain g.K.Kind.extra_of) c.or.result) in
    elim c.in-Or.is as (λ _. Step c.args.word) [ inl e ↦ subst Step (sym e) c.or.ensures.disjunction | inr e ↦ subst Step (sym e) c.or.ensures.disjunction ]

pub returns-in-Xor-clause-step : goal.returns-in-Xor-clause-step
returns-in-Xor-clause-step g c =
    let Step : GateWord → Type 0 = λ w. IsOfBoth (step_table w) (step_work_at w c.args.builder.now.letters) g.K.Kind.NAME c.args.builder.now c.xor.new.builder
    (plain g.K.Kind.extra_of c.args.a) (plain g.K.Kind.extra_of c.args.b) (answered (plain g.K.Kind.extra_of) c.xor.result) in
    elim c.in-Xor.is as (λ _. Step c.args.word) [ inl e ↦ subst Step (sym e) c.xor.ensures.exclusive_or | inr e ↦ subst Step (sym e) c.xor.ensures.exclusive_or ]

pub returns-in-Not-clause-step : goal.returns-in-Not-clause-step
returns-in-Not-clause-step g c =
    let k = g.K.Kind.NAME in
    let v = c.args.builder.now in
    let a = plain g.K.Kind.extra_of c.args.a in
    let b = plain g.K.Kind.extra_of c.args.b in
    let Step : GateWord → Type 0 = λ w. IsOfBoth (step_table w) (step_work_at w v.letters) k v v a b (Ok a) in
    elim c.in-Not.is as (λ _. Step c.args.word) [
      | inl e ↦ subst Step (sym e) (step_of_none Not k v a b (λ x y. refl))
      | inr e ↦ subst Step (sym e) (step_of_none Buff k v a b (λ x y. refl))
    ]

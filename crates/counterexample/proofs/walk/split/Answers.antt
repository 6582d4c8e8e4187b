use Rattle.std.proofs.Common.{sym, subst}
use Rattle.kind_laws.specs.Plain.{plain}
use Rattle.word_base.specs.declared.decomp.Decomp.TheVariants.{N}
use Rattle.diagram.specs.View.{View, IsEdge}
use Rattle.diagram.specs.declared.limit.Limit.TheVariants as limit
use Rattle.counterexample.specs.Steps.{plain_choice, IsChoice}
use Rattle.counterexample.proofs.StepLaws.{err_is_answered, letter_read, no_parts, parts_good, sum_refuses, sum_offers}
use Rattle.counterexample.proofs.walk.split.Goals as goal

pub returns-in_err-low-clause-choice : goal.returns-in_err-low-clause-choice
returns-in_err-low-clause-choice g c =
    let k = g.K.Kind.NAME in
    let v = c.args.builder.now in
    let w = c.parts.new.self in
    let e = plain g.K.Kind.extra_of c.args.edge in
    subst (IsChoice k v w c.args.level e) (sym (err_is_answered (plain_choice g.K.Kind.extra_of) c.from_residual.result limit.Overflow c.from_residual.ensures.1))
    (no_parts k v w c.args.level e c.in_err-low.field-0.0 c.in_err-low.ensures.unchanged c.in_err-low.ensures.parts)

pub add-requires-clause-a_good : goal.add-requires-clause-a_good
add-requires-clause-a_good g c κs within =
    let k = g.K.Kind.NAME in
    let low = plain g.K.Kind.extra_of c.in_ok-low.low in
    let high = plain g.K.Kind.extra_of c.in_ok-low.high in
    subst (λ (x : View). IsEdge k x low) (sym c.in_ok-low.ensures.unchanged)
    (parts_good k c.args.builder.now c.args.level (plain g.K.Kind.extra_of c.args.edge) low high c.requires c.in_ok-low.ensures.parts).0

pub add-requires-clause-b_good : goal.add-requires-clause-b_good
add-requires-clause-b_good g c κs within =
    let k = g.K.Kind.NAME in
    let low = plain g.K.Kind.extra_of c.in_ok-low.low in
    let high = plain g.K.Kind.extra_of c.in_ok-low.high in
    subst (λ (x : View). IsEdge k x high) (sym c.in_ok-low.ensures.unchanged)
    (parts_good k c.args.builder.now c.args.level (plain g.K.Kind.extra_of c.args.edge) low high c.requires c.in_ok-low.ensures.parts).1

pub returns-in_err-sum-in-N-clause-choice : goal.returns-in_err-sum-in-N-clause-choice
returns-in_err-sum-in-N-clause-choice g c =
    let k = g.K.Kind.NAME in
    let v = c.args.builder.now in
    let x = c.add.new.self in
    let e = plain g.K.Kind.extra_of c.args.edge in
    let low = plain g.K.Kind.extra_of c.in_ok-low.low in
    let high = plain g.K.Kind.extra_of c.in_ok-low.high in
    let limit = c.in_err-sum-in-N.field-0.0 in
    let is = err_is_answered (plain_choice g.K.Kind.extra_of) c.from_residual-in_err-sum-in-N.result limit c.from_residual-in_err-sum-in-N.ensures.1 in
    let negative = letter_read v c.parts.new.self c.args.level N c.in_ok-low.ensures.unchanged c.in-N.ensures.letter in
    subst (IsChoice k v x c.args.level e) (sym is)
    (sum_refuses k v c.parts.new.self x c.args.level e low high limit negative c.requires.below c.in_ok-low.ensures.unchanged c.in_ok-low.ensures.parts
    c.in_err-sum-in-N.ensures.keeps c.in_err-sum-in-N.ensures.sum)

pub returns-in_ok-sum-in-N-clause-choice : goal.returns-in_ok-sum-in-N-clause-choice
returns-in_ok-sum-in-N-clause-choice g c =
    let k = g.K.Kind.NAME in
    let v = c.args.builder.now in
    let low = plain g.K.Kind.extra_of c.in_ok-low.low in
    let high = plain g.K.Kind.extra_of c.in_ok-low.high in
    let negative = letter_read v c.parts.new.self c.args.level N c.in_ok-low.ensures.unchanged c.in-N.ensures.letter in
    sum_offers k v c.parts.new.self c.add.new.self c.args.level (plain g.K.Kind.extra_of c.args.edge) low high (plain g.K.Kind.extra_of c.in_ok-sum-in-N.sum)
    negative c.requires.below c.in_ok-low.ensures.unchanged c.in_ok-low.ensures.parts c.in_ok-sum-in-N.ensures.keeps c.in_ok-sum-in-N.ensures.sum

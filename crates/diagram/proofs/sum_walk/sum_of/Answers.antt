use Rattle.std.proofs.Common.{subst}
use Rattle.std.specs.Prelude.{Err}
use Rattle.kind_laws.specs.Plain.{plain}
use Rattle.diagram.specs.declared.limit.Limit.{Limit}
use Rattle.diagram.specs.declared.limit.Limit.TheVariants as limit
use Rattle.diagram.proofs.LevelLaws.{still_edge}
use Rattle.diagram.proofs.StoreLaws.{keeps_on}
use Rattle.diagram.proofs.StrippedSums.{IsStripped, stripped_answers, plain_answers}
use Rattle.diagram.proofs.sum_walk.sum_of.Goals as goal

pub sum_by-requires-in-Err-Overflow-clause-a_good : goal.sum_by-requires-in-Err-Overflow-clause-a_good
sum_by-requires-in-Err-Overflow-clause-a_good g c κs within =
    still_edge g.K.Kind.NAME c.args.manager.now c.sum_by.new.manager (plain g.K.Kind.extra_of c.args.a) c.in-Err-Overflow.ensures.keeps c.requires.a_good

pub sum_by-requires-in-Err-Overflow-clause-b_good : goal.sum_by-requires-in-Err-Overflow-clause-b_good
sum_by-requires-in-Err-Overflow-clause-b_good g c κs within =
    still_edge g.K.Kind.NAME c.args.manager.now c.sum_by.new.manager (plain g.K.Kind.extra_of c.args.b) c.in-Err-Overflow.ensures.keeps c.requires.b_good

pub returns-in-Ok-clause-sum : goal.returns-in-Ok-clause-sum
returns-in-Ok-clause-sum g c =
    stripped_answers g.K.Kind.NAME c.args.manager.now c.sum_by.new.manager (plain g.K.Kind.extra_of c.args.a) (plain g.K.Kind.extra_of c.args.b) _ (λ e. absurd (cc))
    c.in-Ok.ensures.sum

pub returns-in-Err-Full-clause-sum : goal.returns-in-Err-Full-clause-sum
returns-in-Err-Full-clause-sum g c =
    let k = g.K.Kind.NAME in
    let v = c.args.manager.now in
    let w = c.sum_by.new.manager in
    let a = plain g.K.Kind.extra_of c.args.a in
    let b = plain g.K.Kind.extra_of c.args.b in
    stripped_answers k v w a b (Err limit.Full) (λ e. absurd (cc))
    (subst (λ (e : Limit). IsStripped k v w a b (Err e)) c.in-Err-Full.field-0-is c.in-Err-Full.ensures.sum)

pub returns-in-Err-Overflow-clause-keeps : goal.returns-in-Err-Overflow-clause-keeps
returns-in-Err-Overflow-clause-keeps g c =
    keeps_on c.args.manager.now c.sum_by.new.manager c.sum_by-in-Err-Overflow.new.manager c.in-Err-Overflow.ensures.keeps c.sum_by-in-Err-Overflow.ensures.keeps

pub returns-in-Err-Overflow-clause-sum : goal.returns-in-Err-Overflow-clause-sum
returns-in-Err-Overflow-clause-sum g c =
    plain_answers g.K.Kind.NAME c.args.manager.now c.sum_by.new.manager c.sum_by-in-Err-Overflow.new.manager (plain g.K.Kind.extra_of c.args.a) (plain g.K.Kind.extra_of c.args.b) _ _
    c.in-Err-Overflow.ensures.keeps c.in-Err-Overflow.ensures.sum c.sum_by-in-Err-Overflow.ensures.keeps c.sum_by-in-Err-Overflow.ensures.sum

use Rattle.std.proofs.Common.{arith, ℕ, ◌≤◌}
use Rattle.kind_laws.specs.Plain.{plain, answered}
use Rattle.word_apply.proofs.GateCalls.{negation_answers}
use Rattle.word_apply.proofs.gates.not.Goals as goal

pub sub-requires-clause-a_good : goal.sub-requires-clause-a_good
sub-requires-clause-a_good g c κs within = (_, c.constant-one.ensures.table 0 (omega arith))

pub returns-clause-negation : goal.returns-clause-negation
returns-clause-negation g c =
    negation_answers g.K.Kind.NAME c.args.builder.now c.sub.new.self (plain g.K.Kind.extra_of c.constant-one.result) (plain g.K.Kind.extra_of c.args.a)
    (answered (plain g.K.Kind.extra_of) c.sub.result) c.constant-one.ensures.edge c.sub.ensures.keeps c.sub.ensures.difference

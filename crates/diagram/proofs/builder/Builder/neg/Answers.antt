use Rattle.std.proofs.Common.{subst, [], ◌∷◌}
use Rattle.tables.specs.Table.{Table}
use Rattle.tables.specs.Pieces.{pieces}
use Rattle.kind_laws.specs.Plain.{plain, answered}
use Rattle.diagram.specs.Answers.{Answers}
use Rattle.diagram.proofs.MultipleLaws.{multiple-opposite}
use Rattle.diagram.proofs.builder.Builder.neg.Goals as goal

pub returns-clause-negative : goal.returns-clause-negative
returns-clause-negative g c = λ l t h.
    subst (λ (z : Table). Answers g.K.Kind.NAME c.args.self.now c.scale.new.self (pieces l (t ∷ z ∷ [])) l z (answered (plain g.K.Kind.extra_of) c.scale.result))
    (multiple-opposite c.neg.result t c.neg.ensures) (c.scale.ensures.multiple l t h)

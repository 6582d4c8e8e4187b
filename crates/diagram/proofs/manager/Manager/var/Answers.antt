use Rattle.std.proofs.Common.{ap, ◌∙◌, ◌+◌, ◌≤◌, ◌<◌, length, arith}
use Rattle.kind_laws.specs.Plain.{plain, answered}
use Rattle.diagram.specs.Calls.{variable_low, variable_high}
use Rattle.diagram.proofs.VariableLaws.{constants_can_join, variable_answers}
use Rattle.diagram.proofs.manager.Manager.var.Goals as goal

pub join-requires-after_bounds : goal.join-requires-after_bounds
join-requires-after_bounds g c = λ lives bounds.
    let k = g.K.Kind.NAME in
    let v = c.args.self.now in
    let l = c.args.level in
    let within : l < length v.letters = c.requires in
    let deeper : l + 1 ≤ length v.letters = omega arith in
    constants_can_join k v l _ _ (plain g.K.Kind.extra_of c.constant-low.result) (plain g.K.Kind.extra_of c.constant-high.result) within
    (c.constant-low.ensures.table (l + 1) deeper) (c.constant-high.ensures.table (l + 1) deeper)

pub returns-clause-table : goal.returns-clause-table
returns-clause-table g c =
    let k = g.K.Kind.NAME in
    let v = c.args.self.now in
    let l = c.args.level in
    let within : l < length v.letters = c.requires in
    let deeper : l + 1 ≤ length v.letters = omega arith in
    variable_answers k v c.join.new.self l c.variable_parts-low.result.0 c.variable_parts-low.result.1 (plain g.K.Kind.extra_of c.constant-low.result)
    (plain g.K.Kind.extra_of c.constant-high.result) (answered (plain g.K.Kind.extra_of) c.join.result) c.letter.ensures.good.allowed within
    (c.variable_parts-low.ensures.low ∙ ap variable_low c.letter.ensures.letter) (c.variable_parts-low.ensures.high ∙ ap variable_high c.letter.ensures.letter)
    (c.constant-low.ensures.table (l + 1) deeper) (c.constant-high.ensures.table (l + 1) deeper) c.join.ensures.keeps c.join.ensures.join

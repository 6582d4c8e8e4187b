use Rattle.std.proofs.Common.{sym, ◌∙◌, ap, ℤ, pos}
use Rattle.std.specs.Prelude.{unsigned_abs}
use Rattle.integers.specs.Gcd.{gcd}
use Rattle.tables.proofs.TreeLaws.{int_eq-same}
use Rattle.kind_laws.specs.Content.{content_of_fields}
use Rattle.diagram.proofs.GatherLaws.{gcd-one_left}
use Rattle.diagram.proofs.node_walk.with_content_of.Goals as goal

pub returns-then-eq : goal.returns-then-eq
returns-then-eq g c = λ f fits is.
    let n = content_of_fields g.K.Kind.NAME f in
    let one = int_eq-same c.args.content (pos 1) (sym c.eq.ensures ∙ c.if-eq.true) in
    one ∙ ap pos (sym (gcd-one_left n)) ∙ ap (λ (z : ℤ). pos (gcd (unsigned_abs z) n)) (sym one)

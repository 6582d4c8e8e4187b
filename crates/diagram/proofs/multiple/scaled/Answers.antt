use Rattle.std.proofs.Common.{◌≡◌, sym, ◌∙◌, ap, subst, ℤ, pos, true, false, ◌*ℤ◌}
use Rattle.std.specs.Prelude.{◌≢◌, Ok}
use Rattle.std.specs.Ordering.{int_eq}
use Rattle.tables.specs.Table.{multiple}
use Rattle.tables.specs.Pieces.{scale_work}
use Rattle.tables.proofs.TreeLaws.{int_eq-same}
use Rattle.kind_laws.specs.Plain.{PlainEdge, plain, constant_edge}
use Rattle.diagram.specs.Calls.{IsOfEach}
use Rattle.diagram.specs.declared.limit.Limit.TheVariants as limit
use Rattle.diagram.proofs.BothLaws.{constant_is, constant_answers_each}
use Rattle.diagram.proofs.EachLaws.{refused_each}
use Rattle.diagram.proofs.MultipleLaws.{scale_covers_multiple}
use Rattle.diagram.proofs.FactoredProducts.{scale_answers, scale_overflows}
use Rattle.diagram.proofs.RememberedLaws.{product_with_zero, known_each}
use Rattle.diagram.proofs.StoreLaws.{keeps_itself}
use Rattle.diagram.proofs.multiple.scaled.Goals as goal

not_zero : (x : ℤ) → int_eq x (pos 0) ≡ false → x ≢ pos 0
not_zero x other is =
    let same : int_eq x (pos 0) ≡ true = ap (λ (y : ℤ). int_eq y (pos 0)) is in
    absurd (cc)

pub value-requires : goal.value-requires
value-requires g c = constant_is g.K.Kind.NAME c.args.manager.now (plain g.K.Kind.extra_of c.args.a) c.requires.good c.if-a-eq0.true

pub returns-then-a-eq0-clause-multiple : goal.returns-then-a-eq0-clause-multiple
returns-then-a-eq0-clause-multiple g c = λ l x h.
    let k = g.K.Kind.NAME in
    let v = c.args.manager.now in
    let factor = c.args.factor in
    constant_answers_each k v (λ n. factor *ℤ n) (scale_work factor l x) l x (plain g.K.Kind.extra_of c.args.a) c.value.result c.mul.result _ c.value.ensures c.mul.ensures
    c.constant_of.ensures h (scale_covers_multiple k v.letters factor l x)

pub returns-then-a-eq0-clause-keeps : goal.returns-then-a-eq0-clause-keeps
returns-then-a-eq0-clause-keeps g c = keeps_itself c.args.manager.now

pub returns-then-eq-clause-keeps : goal.returns-then-eq-clause-keeps
returns-then-eq-clause-keeps g c = keeps_itself c.args.manager.now

pub returns-then-eq-clause-multiple : goal.returns-then-eq-clause-multiple
returns-then-eq-clause-multiple g c =
    let k = g.K.Kind.NAME in
    let v = c.args.manager.now in
    let a = plain g.K.Kind.extra_of c.args.a in
    let factor = c.args.factor in
    let zero = plain g.K.Kind.extra_of c.constant.result in
    let none = int_eq-same factor (pos 0) (sym c.eq.ensures ∙ c.if-eq.true) in
    known_each k factor (scale_work factor) v zero a zero c.constant.ensures.edge
    (product_with_zero k v zero a (c.constant.ensures.edge ∙ ap (constant_edge k) none))

pub returns-in_err-put_scale-clause-keeps : goal.returns-in_err-put_scale-clause-keeps
returns-in_err-put_scale-clause-keeps g c = keeps_itself c.args.manager.now

pub returns-in_err-put_scale-clause-multiple : goal.returns-in_err-put_scale-clause-multiple
returns-in_err-put_scale-clause-multiple g c =
    let k = g.K.Kind.NAME in
    let v = c.args.manager.now in
    let a = plain g.K.Kind.extra_of c.args.a in
    refused_each k (multiple c.args.factor) (scale_work c.args.factor) v v a (plain g.K.Kind.extra_of) c.from_residual.result limit.Overflow c.from_residual.ensures.1
    (scale_overflows k v c.args.factor a (c.has_factors.ensures.0 c.if-has_factors.true)
    (not_zero c.args.factor (sym c.eq.ensures ∙ c.if-eq.false)) c.in_err-put_scale.ensures)

pub returns-then-has_factors-clause-multiple : goal.returns-then-has_factors-clause-multiple
returns-then-has_factors-clause-multiple g c =
    let k = g.K.Kind.NAME in
    let v = c.args.manager.now in
    let a = plain g.K.Kind.extra_of c.args.a in
    let factor = c.args.factor in
    subst (λ (e : PlainEdge). IsOfEach (multiple factor) (scale_work factor) k v v a (Ok e)) (sym c.in_ok-put_scale.ensures.1)
    (scale_answers k v factor a (c.has_factors.ensures.0 c.if-has_factors.true) (not_zero factor (sym c.eq.ensures ∙ c.if-eq.false)))

use Rattle.std.proofs.Common.{sym, ◌∙◌, ap, subst, ◌<◌, length}
use Rattle.std.specs.Prelude.{Ok, Err}
use Rattle.kind_laws.specs.Plain.{plain}
use Rattle.diagram.specs.View.{View, letter_at}
use Rattle.diagram.proofs.BothLaws.{refused_match}
use Rattle.diagram.proofs.EachLaws.{can_part_at}
use Rattle.diagram.proofs.PartLaws.{level_read, letter_allowed}
use Rattle.diagram.proofs.SplitLaws.{node_split}
use Rattle.diagram.proofs.manager.Manager.split_one.Goals as goal

pub letter-letter-requires-after_bounds : goal.letter-letter-requires-after_bounds
letter-letter-requires-after_bounds g c κs within =
    let k = g.K.Kind.NAME in
    let v = c.args.self.now in
    let e = plain g.K.Kind.extra_of c.args.edge in
    let level = c.level_of-level.result in
    let is = level_read k v e.node level c.body_of-body.result c.body_of-body.ensures.known c.body_of-body.ensures.body c.level_of-level.ensures in
    subst (λ (w : View). level < length w.letters) (sym c.body_of-body.ensures.unchanged) (can_part_at k v e level c.requires.good c.requires.no_leaf is).below

pub parts-requires-clause-allowed : goal.parts-requires-clause-allowed
parts-requires-clause-allowed g c =
    let k = g.K.Kind.NAME in
    let v = c.args.self.now in
    let e = plain g.K.Kind.extra_of c.args.edge in
    let level = c.level_of-level.result in
    let is = level_read k v e.node level c.body_of-body.result c.body_of-body.ensures.known c.body_of-body.ensures.body c.level_of-level.ensures in
    letter_allowed k v level c.letter-letter.result c.requires.good.1.allowed (can_part_at k v e level c.requires.good c.requires.no_leaf is).below
    (c.letter-letter.ensures.letter ∙ ap (λ (w : View). letter_at w.letters level) c.body_of-body.ensures.unchanged)

pub returns-in_err-low-clause-splits : goal.returns-in_err-low-clause-splits
returns-in_err-low-clause-splits g c =
    refused_match _ c.from_residual.result _ _ c.from_residual.ensures.0
    (λ o. node_split g.K.Kind.NAME c.args.self.now c.letter-letter.result (plain g.K.Kind.extra_of c.args.edge) c.level_of-level.result c.body_of-body.result
    (Err c.in_err-low.field-0.0) c.requires.good c.requires.no_leaf
    (c.letter-letter.ensures.letter ∙ ap (λ (w : View). letter_at w.letters c.level_of-level.result) c.body_of-body.ensures.unchanged)
    c.body_of-body.ensures.known c.body_of-body.ensures.body c.level_of-level.ensures c.in_err-low.ensures)

pub returns-clause-splits : goal.returns-clause-splits
returns-clause-splits g c =
    let k = g.K.Kind.NAME in
    let v = c.args.self.now in
    let e = plain g.K.Kind.extra_of c.args.edge in
    let level = c.level_of-level.result in (
      level_read k v e.node level c.body_of-body.result c.body_of-body.ensures.known c.body_of-body.ensures.body c.level_of-level.ensures,
      node_split k v c.letter-letter.result e level c.body_of-body.result (Ok (plain g.K.Kind.extra_of c.in_ok-low.low, plain g.K.Kind.extra_of c.in_ok-low.high))
          c.requires.good c.requires.no_leaf (c.letter-letter.ensures.letter ∙ ap (λ (w : View). letter_at w.letters level) c.body_of-body.ensures.unchanged)
          c.body_of-body.ensures.known c.body_of-body.ensures.body c.level_of-level.ensures c.in_ok-low.ensures,
    )

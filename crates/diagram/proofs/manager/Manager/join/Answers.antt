use Rattle.std.proofs.Common.{◌≡◌, refl, subst, false}
use Rattle.word_base.specs.declared.decomp.Decomp.{Decomp}
use Rattle.std.specs.Prelude.{Ok, Err}
use Rattle.tables.specs.Pieces.{join_work}
use Rattle.tables.specs.Table.{merged}
use Rattle.tables.specs.Fits.{difference_in_range}
use Rattle.tables.specs.Tree.{leaf, weights}
use Rattle.kind_laws.specs.Kind.{JoinsTo}
use Rattle.kind_laws.specs.Plain.{PlainEdge, plain, plain_joined, over_shape}
use Rattle.diagram.specs.Answers.{Answers}
use Rattle.diagram.specs.View.{View, letter_at, Keeps}
use Rattle.diagram.specs.declared.limit.Limit.TheVariants as limit
use Rattle.diagram.proofs.LevelLaws.{is_rooted}
use Rattle.diagram.proofs.PartLaws.{letter_allowed}
use Rattle.diagram.proofs.StoreLaws.{interned_keeps}
use Rattle.diagram.proofs.JoinCauses.{refused, same_letter, joinable, some_tables, join_unfit, answers_overflow, skip_answers, joined_answers, full_answers, join_keeps_good, same_view}
use Rattle.diagram.proofs.manager.Manager.join.Goals as goal

pub join-requires-clause-allowed : goal.join-requires-clause-allowed
join-requires-clause-allowed g c =
    letter_allowed g.K.Kind.NAME c.args.self.now c.args.level c.letter-letter.result c.letter-letter.ensures.good.allowed c.requires.below c.letter-letter.ensures.letter

pub join-requires-clause-low_rooted : goal.join-requires-clause-low_rooted
join-requires-clause-low_rooted g c = is_rooted g.K.Kind.NAME c.args.self.now (plain g.K.Kind.extra_of c.args.low) c.requires.low_good

pub join-requires-clause-high_rooted : goal.join-requires-clause-high_rooted
join-requires-clause-high_rooted g c = is_rooted g.K.Kind.NAME c.args.self.now (plain g.K.Kind.extra_of c.args.high) c.requires.high_good

pub returns-in_err-edge-clause-join : goal.returns-in_err-edge-clause-join
returns-in_err-edge-clause-join g c = λ p q h k.
    let v = c.args.self.now in
    let low = plain g.K.Kind.extra_of c.args.low in
    let high = plain g.K.Kind.extra_of c.args.high in
    let j = joinable g.K.Kind.NAME v c.args.level p q low high c.letter-letter.ensures.good c.requires h k in
    refused g.K.Kind.NAME v v _ c.args.level _ (plain g.K.Kind.extra_of) c.from_residual.result limit.Overflow c.from_residual.ensures.1
    (answers_overflow g.K.Kind.NAME v _ c.args.level _
    (join_unfit g.K.Kind.NAME v c.args.level p q low high j
    (subst (λ (d : Decomp). difference_in_range g.K.Kind.NAME d (over_shape low leaf) (over_shape high leaf) ≡ false) c.letter-letter.ensures.letter c.in_err-edge.ensures)))

pub intern-requires-after_bounds : goal.intern-requires-after_bounds
intern-requires-after_bounds g c = λ lives bounds.
    let v = c.args.self.now in
    let low = plain g.K.Kind.extra_of c.args.low in
    let high = plain g.K.Kind.extra_of c.args.high in
    let some = some_tables g.K.Kind.NAME v c.args.level low high c.letter-letter.ensures.good c.requires in
    join_keeps_good g.K.Kind.NAME v c.args.level some.first some.second low high _ c.in-Node.body c.letter-letter.ensures.good some.joinable
    (same_letter g.K.Kind.NAME v c.args.level c.letter-letter.result low high _ c.letter-letter.ensures.letter
    (subst (λ x. JoinsTo g.K.Kind.NAME c.letter-letter.result c.args.level low high (plain_joined g.K.Kind.extra_of x)) c.in-Node.is c.in_ok-edge.ensures.1))

pub returns-in_err-node-in-Node-clause-join : goal.returns-in_err-node-in-Node-clause-join
returns-in_err-node-in-Node-clause-join g c = λ p q h k.
    let v = c.args.self.now in
    let low = plain g.K.Kind.extra_of c.args.low in
    let high = plain g.K.Kind.extra_of c.args.high in
    let j = joinable g.K.Kind.NAME v c.args.level p q low high c.letter-letter.ensures.good c.requires h k in
    let to = same_letter g.K.Kind.NAME v c.args.level c.letter-letter.result low high _ c.letter-letter.ensures.letter
    (subst (λ x. JoinsTo g.K.Kind.NAME c.letter-letter.result c.args.level low high (plain_joined g.K.Kind.extra_of x)) c.in-Node.is c.in_ok-edge.ensures.1) in
    refused g.K.Kind.NAME v c.intern.new.self _ c.args.level _ (plain g.K.Kind.extra_of) c.from_residual-in_err-node-in-Node.result limit.Full c.from_residual-in_err-node-in-Node.ensures.1
    (subst (λ (w : View). Answers g.K.Kind.NAME v w (join_work (letter_at v.letters c.args.level) c.args.level p q) c.args.level (merged (letter_at v.letters c.args.level) p q) (Err limit.Full))
    (same_view v c.intern.new.self c.in_err-node-in-Node.ensures.letters)
    (full_answers g.K.Kind.NAME v c.intern.new.self.store c.args.level p q low high _ c.in-Node.body _ c.in_err-node-in-Node.field-0.0 j to c.in_err-node-in-Node.ensures.interns refl))

pub returns-in-Skip-clause-join : goal.returns-in-Skip-clause-join
returns-in-Skip-clause-join g c = λ p q h k.
    let v = c.args.self.now in
    let low = plain g.K.Kind.extra_of c.args.low in
    let high = plain g.K.Kind.extra_of c.args.high in
    let j = joinable g.K.Kind.NAME v c.args.level p q low high c.letter-letter.ensures.good c.requires h k in
    let to = same_letter g.K.Kind.NAME v c.args.level c.letter-letter.result low high _ c.letter-letter.ensures.letter
    (subst (λ x. JoinsTo g.K.Kind.NAME c.letter-letter.result c.args.level low high (plain_joined g.K.Kind.extra_of x)) c.in-Skip.is c.in_ok-edge.ensures.1) in
    skip_answers g.K.Kind.NAME v c.args.level p q low high (plain g.K.Kind.extra_of c.in-Skip.edge) j to

pub returns-in_ok-node-in-Node-clause-keeps : goal.returns-in_ok-node-in-Node-clause-keeps
returns-in_ok-node-in-Node-clause-keeps g c =
    subst (Keeps c.args.self.now) (same_view c.args.self.now c.intern.new.self c.in_ok-node-in-Node.ensures.letters)
    (interned_keeps c.args.self.now c.intern.new.self.store c.in-Node.body (Ok c.in_ok-node-in-Node.node) c.in_ok-node-in-Node.ensures.interns)

pub returns-in_ok-node-in-Node-clause-join : goal.returns-in_ok-node-in-Node-clause-join
returns-in_ok-node-in-Node-clause-join g c = λ p q h k.
    let v = c.args.self.now in
    let low = plain g.K.Kind.extra_of c.args.low in
    let high = plain g.K.Kind.extra_of c.args.high in
    let j = joinable g.K.Kind.NAME v c.args.level p q low high c.letter-letter.ensures.good c.requires h k in
    let to = same_letter g.K.Kind.NAME v c.args.level c.letter-letter.result low high _ c.letter-letter.ensures.letter
    (subst (λ x. JoinsTo g.K.Kind.NAME c.letter-letter.result c.args.level low high (plain_joined g.K.Kind.extra_of x)) c.in-Node.is c.in_ok-edge.ensures.1) in
    let e : PlainEdge = record { root = weights c.in-Node.weight (g.K.Kind.extra_of c.in-Node.extra); node = c.in_ok-node-in-Node.node } in
    subst (λ (w : View). Answers g.K.Kind.NAME v w (join_work (letter_at v.letters c.args.level) c.args.level p q) c.args.level (merged (letter_at v.letters c.args.level) p q) (Ok e))
    (same_view v c.intern.new.self c.in_ok-node-in-Node.ensures.letters)
    (joined_answers g.K.Kind.NAME v c.intern.new.self.store c.args.level p q low high e _ c.in-Node.body _ j to c.in_ok-node-in-Node.ensures.interns refl refl)

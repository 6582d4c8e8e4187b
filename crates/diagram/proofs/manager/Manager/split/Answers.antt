use Rattle.std.proofs.Common.{◌≡◌, sym, ◌∙◌, ap, subst, ℕ, ◌<◌, length}
use Rattle.word_base.specs.declared.decomp.Decomp.{Decomp}
use Rattle.kind_laws.specs.Plain.{plain}
use Rattle.diagram.specs.View.{View, letter_at}
use Rattle.diagram.proofs.BothLaws.{HaveNode, refused_match}
use Rattle.diagram.proofs.PartLaws.{letter_allowed}
use Rattle.diagram.proofs.SplitLaws.{are_read, body_there, parts_by_node, are_split, first_refused, second_refused}
use Rattle.diagram.proofs.manager.Manager.split.Goals as goal

letter_there : (v w x : View) (level : ℕ) (d : Decomp) → w ≡ v → x ≡ w → d ≡ letter_at x.letters level → d ≡ letter_at v.letters level
letter_there v w x level d e f is = is ∙ ap (λ (z : View). letter_at z.letters level) (f ∙ e)

pub letter-letter-requires-after_bounds : goal.letter-letter-requires-after_bounds
letter-letter-requires-after_bounds g c κs within =
    let k = g.K.Kind.NAME in
    let v = c.args.self.now in
    let w = c.node_of-first.new.self in
    let a = plain g.K.Kind.extra_of c.args.a in
    let b = plain g.K.Kind.extra_of c.args.b in
    let one = c.node_of-first.result in
    let two = c.node_of-second.result in
    let level = c.min-level.result in
    let have : HaveNode k v a b = record { first = c.requires.a_good; second = c.requires.b_good; some = c.requires.some_node } in
    let read = are_read k v w a b one.level one.body two.level two.body level have c.node_of-first.ensures.unchanged c.node_of-first.ensures.node c.node_of-second.ensures.node
    c.min-level.ensures in
    subst (λ (x : View). level < length x.letters) (sym (c.node_of-second.ensures.unchanged ∙ c.node_of-first.ensures.unchanged)) read.can_first.below

pub parts_by-requires-clause-allowed : goal.parts_by-requires-clause-allowed
parts_by-requires-clause-allowed g c κs within =
    let k = g.K.Kind.NAME in
    let v = c.args.self.now in
    let w = c.node_of-first.new.self in
    let a = plain g.K.Kind.extra_of c.args.a in
    let b = plain g.K.Kind.extra_of c.args.b in
    let one = c.node_of-first.result in
    let two = c.node_of-second.result in
    let level = c.min-level.result in
    let have : HaveNode k v a b = record { first = c.requires.a_good; second = c.requires.b_good; some = c.requires.some_node } in
    let read = are_read k v w a b one.level one.body two.level two.body level have c.node_of-first.ensures.unchanged c.node_of-first.ensures.node c.node_of-second.ensures.node
    c.min-level.ensures in
    let letter = letter_there v w c.node_of-second.new.self level c.letter-letter.result c.node_of-first.ensures.unchanged c.node_of-second.ensures.unchanged
    c.letter-letter.ensures.letter in
    letter_allowed k v level c.letter-letter.result c.requires.a_good.1.allowed read.can_first.below letter

pub parts_by-requires-clause-body : goal.parts_by-requires-clause-body
parts_by-requires-clause-body g c κs within =
    let k = g.K.Kind.NAME in
    let v = c.args.self.now in
    let w = c.node_of-first.new.self in
    let a = plain g.K.Kind.extra_of c.args.a in
    let b = plain g.K.Kind.extra_of c.args.b in
    let one = c.node_of-first.result in
    let two = c.node_of-second.result in
    let level = c.min-level.result in
    let have : HaveNode k v a b = record { first = c.requires.a_good; second = c.requires.b_good; some = c.requires.some_node } in
    let read = are_read k v w a b one.level one.body two.level two.body level have c.node_of-first.ensures.unchanged c.node_of-first.ensures.node c.node_of-second.ensures.node
    c.min-level.ensures in
    body_there k v level a one.level one.body read.can_first read.first_node

pub parts_by-requires-2-clause-allowed : goal.parts_by-requires-2-clause-allowed
parts_by-requires-2-clause-allowed g c κs within =
    let k = g.K.Kind.NAME in
    let v = c.args.self.now in
    let w = c.node_of-first.new.self in
    let a = plain g.K.Kind.extra_of c.args.a in
    let b = plain g.K.Kind.extra_of c.args.b in
    let one = c.node_of-first.result in
    let two = c.node_of-second.result in
    let level = c.min-level.result in
    let have : HaveNode k v a b = record { first = c.requires.a_good; second = c.requires.b_good; some = c.requires.some_node } in
    let read = are_read k v w a b one.level one.body two.level two.body level have c.node_of-first.ensures.unchanged c.node_of-first.ensures.node c.node_of-second.ensures.node
    c.min-level.ensures in
    let letter = letter_there v w c.node_of-second.new.self level c.letter-letter.result c.node_of-first.ensures.unchanged c.node_of-second.ensures.unchanged
    c.letter-letter.ensures.letter in
    letter_allowed k v level c.letter-letter.result c.requires.a_good.1.allowed read.can_first.below letter

pub parts_by-requires-2-clause-body : goal.parts_by-requires-2-clause-body
parts_by-requires-2-clause-body g c κs within =
    let k = g.K.Kind.NAME in
    let v = c.args.self.now in
    let w = c.node_of-first.new.self in
    let a = plain g.K.Kind.extra_of c.args.a in
    let b = plain g.K.Kind.extra_of c.args.b in
    let one = c.node_of-first.result in
    let two = c.node_of-second.result in
    let level = c.min-level.result in
    let have : HaveNode k v a b = record { first = c.requires.a_good; second = c.requires.b_good; some = c.requires.some_node } in
    let read = are_read k v w a b one.level one.body two.level two.body level have c.node_of-first.ensures.unchanged c.node_of-first.ensures.node c.node_of-second.ensures.node
    c.min-level.ensures in
    body_there k v level b two.level two.body read.can_second read.second_node

pub returns-in_err-first_low-clause-splits : goal.returns-in_err-first_low-clause-splits
returns-in_err-first_low-clause-splits g c =
    let k = g.K.Kind.NAME in
    let v = c.args.self.now in
    let w = c.node_of-first.new.self in
    let a = plain g.K.Kind.extra_of c.args.a in
    let b = plain g.K.Kind.extra_of c.args.b in
    let one = c.node_of-first.result in
    let two = c.node_of-second.result in
    let level = c.min-level.result in
    let have : HaveNode k v a b = record { first = c.requires.a_good; second = c.requires.b_good; some = c.requires.some_node } in
    let read = are_read k v w a b one.level one.body two.level two.body level have c.node_of-first.ensures.unchanged c.node_of-first.ensures.node c.node_of-second.ensures.node
    c.min-level.ensures in
    let letter = letter_there v w c.node_of-second.new.self level c.letter-letter.result c.node_of-first.ensures.unchanged c.node_of-second.ensures.unchanged
    c.letter-letter.ensures.letter in
    refused_match _ c.from_residual.result _ _ c.from_residual.ensures.0
    (λ o. first_refused k v a b level c.in_err-first_low.field-0.0 o read.level_is
    (parts_by_node k v level c.letter-letter.result a one.level one.body _ read.can_first letter read.first_node c.in_err-first_low.ensures))

pub returns-in_err-second_low-clause-splits : goal.returns-in_err-second_low-clause-splits
returns-in_err-second_low-clause-splits g c =
    let k = g.K.Kind.NAME in
    let v = c.args.self.now in
    let w = c.node_of-first.new.self in
    let a = plain g.K.Kind.extra_of c.args.a in
    let b = plain g.K.Kind.extra_of c.args.b in
    let one = c.node_of-first.result in
    let two = c.node_of-second.result in
    let level = c.min-level.result in
    let have : HaveNode k v a b = record { first = c.requires.a_good; second = c.requires.b_good; some = c.requires.some_node } in
    let read = are_read k v w a b one.level one.body two.level two.body level have c.node_of-first.ensures.unchanged c.node_of-first.ensures.node c.node_of-second.ensures.node
    c.min-level.ensures in
    let letter = letter_there v w c.node_of-second.new.self level c.letter-letter.result c.node_of-first.ensures.unchanged c.node_of-second.ensures.unchanged
    c.letter-letter.ensures.letter in
    refused_match _ c.from_residual-in_err-second_low.result _ _ c.from_residual-in_err-second_low.ensures.0
    (λ o. second_refused k v a b level c.in_err-second_low.field-0.0 o read.level_is
    (parts_by_node k v level c.letter-letter.result b two.level two.body _ read.can_second letter read.second_node c.in_err-second_low.ensures))

pub returns-clause-splits : goal.returns-clause-splits
returns-clause-splits g c =
    let k = g.K.Kind.NAME in
    let v = c.args.self.now in
    let w = c.node_of-first.new.self in
    let a = plain g.K.Kind.extra_of c.args.a in
    let b = plain g.K.Kind.extra_of c.args.b in
    let one = c.node_of-first.result in
    let two = c.node_of-second.result in
    let level = c.min-level.result in
    let have : HaveNode k v a b = record { first = c.requires.a_good; second = c.requires.b_good; some = c.requires.some_node } in
    let read = are_read k v w a b one.level one.body two.level two.body level have c.node_of-first.ensures.unchanged c.node_of-first.ensures.node c.node_of-second.ensures.node
    c.min-level.ensures in
    let letter = letter_there v w c.node_of-second.new.self level c.letter-letter.result c.node_of-first.ensures.unchanged c.node_of-second.ensures.unchanged
    c.letter-letter.ensures.letter in
    are_split k v a b level (plain g.K.Kind.extra_of c.in_ok-first_low.first_low, plain g.K.Kind.extra_of c.in_ok-first_low.first_high)
    (plain g.K.Kind.extra_of c.in_ok-second_low.second_low, plain g.K.Kind.extra_of c.in_ok-second_low.second_high) read.level_is
    (parts_by_node k v level c.letter-letter.result a one.level one.body _ read.can_first letter read.first_node c.in_ok-first_low.ensures)
    (parts_by_node k v level c.letter-letter.result b two.level two.body _ read.can_second letter read.second_node c.in_ok-second_low.ensures)

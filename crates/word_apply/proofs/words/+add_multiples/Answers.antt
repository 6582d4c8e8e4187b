use Rattle.std.proofs.Common.{◌+◌, ◌-◌, ◌^◌, List, [], length, take, drop, subst, sym}
use Rattle.std.specs.Prelude.{Ok}
use Rattle.diagram.proofs.LevelLaws.{still_edge, good_at}
use Rattle.diagram.proofs.StoreLaws.{keeps_on}
use Rattle.kind_laws.specs.Plain.{plain, answered}
use Rattle.word_apply.specs.Applied.{plain_edges, AreEdges, IsOfRest, sum_work}
use Rattle.word_apply.proofs.EdgeLists.{first_and_rest, still_edges, shorter, is_empty}
use Rattle.word_apply.proofs.WordCalls.{sum_from, sum_of_none, multiple_refuses, sum_refuses, sum_answers, one_fewer}
use Rattle.word_apply.proofs.words.+add_multiples.Goals as goal

pub returns-in_err-multiple-in-len1-up-clause-sum : goal.returns-in_err-multiple-in-len1-up-clause-sum
returns-in_err-multiple-in-len1-up-clause-sum g t c =
    let k = g.K.Kind.NAME in
    let of = g.K.Kind.extra_of in
    let v = c.args.builder.now in
    let w = c.scale.new.self in
    let bits = c.args.bits.now in
    let power = 2 ^ c.args.exponent in
    let start = plain of c.args.start in
    let all = first_and_rest bits c.bit-item.result c.in-len1-up.len_at_least c.bit-item.is in
    subst (λ (es : List _). IsOfRest (sum_from power) (sum_work power) k v w start (plain_edges of es) (answered (plain of) c.from_residual.result)) (sym all)
    (multiple_refuses power k v w c.power_of_two.result start (plain of c.bit-item.result) (plain_edges of (take (length bits - 1) (drop 1 bits))) (plain of)
    c.from_residual.result c.in_err-multiple-in-len1-up.field-0.0 c.power_of_two.ensures c.from_residual.ensures.1 c.in_err-multiple-in-len1-up.ensures.keeps
    c.in_err-multiple-in-len1-up.ensures.multiple)

pub add-requires-clause-a_good : goal.add-requires-clause-a_good
add-requires-clause-a_good g t c κs within =
    still_edge g.K.Kind.NAME c.args.builder.now c.scale.new.self (plain g.K.Kind.extra_of c.args.start) c.in_ok-multiple-in-len1-up.ensures.keeps c.requires.start_good

pub add-requires-clause-b_good : goal.add-requires-clause-b_good
add-requires-clause-b_good g t c κs within =
    let k = g.K.Kind.NAME in
    let of = g.K.Kind.extra_of in
    let bits = c.args.bits.now in
    let all = first_and_rest bits c.bit-item.result c.in-len1-up.len_at_least c.bit-item.is in
    let bit = (subst (λ (es : List _). AreEdges k c.args.builder.now (plain_edges of es)) all c.requires.bits_good).0 in
    good_at k c.scale.new.self (plain of c.in_ok-multiple-in-len1-up.multiple) 0 _ (c.in_ok-multiple-in-len1-up.ensures.multiple 0 bit.0 bit.1).stands

pub returns-in_err-sum-in-len1-up-clause-keeps : goal.returns-in_err-sum-in-len1-up-clause-keeps
returns-in_err-sum-in-len1-up-clause-keeps g t c =
    keeps_on c.args.builder.now c.scale.new.self c.add.new.self c.in_ok-multiple-in-len1-up.ensures.keeps c.in_err-sum-in-len1-up.ensures.keeps

pub returns-in_err-sum-in-len1-up-clause-sum : goal.returns-in_err-sum-in-len1-up-clause-sum
returns-in_err-sum-in-len1-up-clause-sum g t c =
    let k = g.K.Kind.NAME in
    let of = g.K.Kind.extra_of in
    let v = c.args.builder.now in
    let w = c.scale.new.self in
    let x = c.add.new.self in
    let bits = c.args.bits.now in
    let power = 2 ^ c.args.exponent in
    let start = plain of c.args.start in
    let all = first_and_rest bits c.bit-item.result c.in-len1-up.len_at_least c.bit-item.is in
    let result = c.from_residual-in_err-sum-in-len1-up.result in
    subst (λ (es : List _). IsOfRest (sum_from power) (sum_work power) k v x start (plain_edges of es) (answered (plain of) result)) (sym all)
    (sum_refuses power k v w x c.power_of_two.result start (plain of c.bit-item.result) (plain of c.in_ok-multiple-in-len1-up.multiple)
    (plain_edges of (take (length bits - 1) (drop 1 bits))) (plain of) result c.in_err-sum-in-len1-up.field-0.0 c.power_of_two.ensures
    c.from_residual-in_err-sum-in-len1-up.ensures.1 c.in_ok-multiple-in-len1-up.ensures.keeps c.in_ok-multiple-in-len1-up.ensures.multiple
    c.in_err-sum-in-len1-up.ensures.keeps c.in_err-sum-in-len1-up.ensures.sum)

pub add_multiples-requires-clause-start_good : goal.add_multiples-requires-clause-start_good
add_multiples-requires-clause-start_good g t c κs within =
    let k = g.K.Kind.NAME in
    let of = g.K.Kind.extra_of in
    let v = c.args.builder.now in
    let w = c.scale.new.self in
    let bits = c.args.bits.now in
    let all = first_and_rest bits c.bit-item.result c.in-len1-up.len_at_least c.bit-item.is in
    let bit = (subst (λ (es : List _). AreEdges k v (plain_edges of es)) all c.requires.bits_good).0 in
    let start = still_edge k v w (plain of c.args.start) c.in_ok-multiple-in-len1-up.ensures.keeps c.requires.start_good in
    let multiple = (c.in_ok-multiple-in-len1-up.ensures.multiple 0 bit.0 bit.1).stands in
    good_at k c.add.new.self (plain of c.in_ok-sum-in-len1-up.sum) 0 _ (c.in_ok-sum-in-len1-up.ensures.sum 0 start.0 _ start.1 multiple).stands

pub add_multiples-requires-clause-bits_good : goal.add_multiples-requires-clause-bits_good
add_multiples-requires-clause-bits_good g t c κs within =
    let k = g.K.Kind.NAME in
    let of = g.K.Kind.extra_of in
    let v = c.args.builder.now in
    let bits = c.args.bits.now in
    let all = first_and_rest bits c.bit-item.result c.in-len1-up.len_at_least c.bit-item.is in
    let more = (subst (λ (es : List _). AreEdges k v (plain_edges of es)) all c.requires.bits_good).1 in
    still_edges k v c.add.new.self (plain_edges of (take (length bits - 1) (drop 1 bits)))
    (keeps_on v c.scale.new.self c.add.new.self c.in_ok-multiple-in-len1-up.ensures.keeps c.in_ok-sum-in-len1-up.ensures.keeps) more

pub returns-in-empty-clause-sum : goal.returns-in-empty-clause-sum
returns-in-empty-clause-sum g t c =
    let k = g.K.Kind.NAME in
    let of = g.K.Kind.extra_of in
    let v = c.args.builder.now in
    let start = plain of c.args.start in
    let power = 2 ^ c.args.exponent in
    subst (λ (es : List _). IsOfRest (sum_from power) (sum_work power) k v v start (plain_edges of es) (Ok start))
    (sym (is_empty c.args.bits.now c.in-empty.len_below)) (sum_of_none power k v start)

pub returns-in_ok-sum-in-len1-up-clause-keeps : goal.returns-in_ok-sum-in-len1-up-clause-keeps
returns-in_ok-sum-in-len1-up-clause-keeps g t c =
    keeps_on c.args.builder.now c.add.new.self c.add_multiples.new.builder
    (keeps_on c.args.builder.now c.scale.new.self c.add.new.self c.in_ok-multiple-in-len1-up.ensures.keeps c.in_ok-sum-in-len1-up.ensures.keeps) c.add_multiples.ensures.keeps

pub returns-in_ok-sum-in-len1-up-clause-sum : goal.returns-in_ok-sum-in-len1-up-clause-sum
returns-in_ok-sum-in-len1-up-clause-sum g t c =
    let k = g.K.Kind.NAME in
    let of = g.K.Kind.extra_of in
    let v = c.args.builder.now in
    let w = c.scale.new.self in
    let x = c.add.new.self in
    let y = c.add_multiples.new.builder in
    let bits = c.args.bits.now in
    let power = 2 ^ c.args.exponent in
    let start = plain of c.args.start in
    let all = first_and_rest bits c.bit-item.result c.in-len1-up.len_at_least c.bit-item.is in
    let result = answered (plain of) c.add_multiples.result in
    subst (λ (es : List _). IsOfRest (sum_from power) (sum_work power) k v y start (plain_edges of es) result) (sym all)
    (sum_answers c.args.exponent k v w x y c.power_of_two.result start (plain of c.bit-item.result) (plain of c.in_ok-multiple-in-len1-up.multiple)
    (plain of c.in_ok-sum-in-len1-up.sum) (plain_edges of (take (length bits - 1) (drop 1 bits))) result c.power_of_two.ensures
    c.in_ok-multiple-in-len1-up.ensures.keeps c.in_ok-multiple-in-len1-up.ensures.multiple c.in_ok-sum-in-len1-up.ensures.keeps c.in_ok-sum-in-len1-up.ensures.sum
    c.add_multiples.ensures.keeps c.add_multiples.ensures.sum)

use Rattle.std.proofs.Common.{◌≡◌, refl, ◌∙◌, sym, ap, subst, ℕ, List, false, length, arith}
use Rattle.std.specs.Prelude.{IfSome, Ok, Err, Option, slice_get}
use Rattle.std.proofs.lemmas.List.{length-map, length-replicate}
use Rattle.spec_lang.specs.Formula.{formula_of, word}
use Rattle.spec_lang.specs.Named.{words_of_check}
use Rattle.spec_lang.specs.Specification.{Check}
use Rattle.spec_lang.specs.WellFormed.{NamesBelow}
use Rattle.spec_lang.proofs.Naming.{left_named, right_named}
use Rattle.diagram.specs.View.{StandsAt}
use Rattle.diagram.proofs.LevelLaws.{good_at, stays}
use Rattle.diagram.proofs.StoreLaws.{keeps_on}
use Rattle.checks.specs.Forward.{building_work}
use Rattle.checks.specs.Sides.{side}
use Rattle.kind_laws.specs.Plain.{PlainEdge, plain}
use Rattle.word_apply.specs.Applied.{AreEdges, plain_edges}
use Rattle.word_apply.proofs.EdgeLists.{still_edges}
use Rattle.word_apply.proofs.ExpressionCalls.{IsFormula}
use Rattle.cone_builder.specs.Built.{or_listed, NetsAreBuilt}
use Rattle.cone_builder.specs.Causes.{limit_met}
use Rattle.cone_builder.proofs.BuiltLaws.{plain_replicate, still_built}
use Rattle.cone_builder.proofs.CauseLaws.{causes_answered, causes_on, error_refused, limit_refused, memory_refused}
use Rattle.cone_builder.proofs.InputLaws.{repeated_good}
use Rattle.cone_builder.proofs.NetLaws.{check_there, if_some_at, written_back}
use Rattle.cone_builder.proofs.SideLaws.{names_at, numbers_below, nets_within, side_answers, words_are_built, named_are_built}
use Rattle.cone_builder.proofs.WorkLaws.{causes_there, has_parts, side_after, words_caused}
use Rattle.cone_builder.proofs.expressions.build_one.Goals as goal

pub build_words-requires-clause-numbers : goal.build_words-requires-clause-numbers
build_words-requires-clause-numbers g c κs within_bounds =
    let found = check_there c.args.spec.now c.args.check c.requires.check in
    numbers_below c.args.spec.now c.args.check found.0 c.deref.result.now c.words.ensures.well_formed found.1
    (c.deref.ensures.value
    ∙ if_some_at (slice_get c.args.spec.now.checks c.args.check) found.0 (λ x. c.in_ok-numbers.numbers.items ≡ words_of_check x) found.1 c.in_ok-numbers.ensures)

pub build_words-requires-clause-within : goal.build_words-requires-clause-within
build_words-requires-clause-within g c κs within_bounds =
    let of = g.K.Kind.extra_of in
    let many = sym (length-map c.deref-2.result.now (plain of)) ∙ ap length (ap (plain_edges of) c.deref-2.ensures.value) ∙ c.in_ok-nets.ensures.built.many in
    nets_within c.args.netlist.now c.args.spec.now c.deref.result.now (length c.deref-2.result.now) c.requires.over many

pub build_words-requires-clause-nets_good : goal.build_words-requires-clause-nets_good
build_words-requires-clause-nets_good g c κs within_bounds =
    subst (AreEdges g.K.Kind.NAME c.build_nets.new.builder) (ap (plain_edges g.K.Kind.extra_of) (sym c.deref-2.ensures.value)) c.in_ok-nets.ensures.built.good

pub build_words-requires-clause-good : goal.build_words-requires-clause-good
build_words-requires-clause-good g c κs within_bounds =
    let k = g.K.Kind.NAME in
    let of = g.K.Kind.extra_of in
    let v = c.build_nets.new.builder in
    let none_yet = ap (plain_edges of) (c.as_mut_slice.ensures.value ∙ c.in_ok-words.ensures) ∙ plain_replicate of c.words.result c.constant.result in
    subst (AreEdges k v) (sym none_yet) (repeated_good k v c.words.result (plain of c.constant.result) (_, c.constant.ensures.table 0 (omega arith)))

pub expression-requires-clause-good : goal.expression-requires-clause-good
expression-requires-clause-good g c κs within_bounds =
    let of = g.K.Kind.extra_of in
    let sides : Check = record { left = formula_of c.check.result.0.now; right = formula_of c.check.result.1.now } in
    let names = names_at c.args.spec.now c.args.check sides c.words.ensures.well_formed c.check.ensures in
    let items : length c.in_ok-words.words.items ≡ length c.args.spec.now.words =
    ap length c.in_ok-words.ensures ∙ length-replicate c.words.result c.constant.result ∙ c.words.ensures.words in
    let same : length c.build_words.new.words ≡ length c.in_ok-words.words.items = c.build_words.auto.words ∙ ap length c.as_mut_slice.ensures.value in
    let back = written_back c.in_ok-words.words.len c.in_ok-words.words.items c.build_words.new.words c.in_ok-words.words.ok.0 same in
    subst (AreEdges g.K.Kind.NAME c.build_words.new.builder) (ap (plain_edges of) (sym (c.deref-3.ensures.value ∙ back))) c.in_ok-build_words.ensures.good

pub expression-requires-clause-named : goal.expression-requires-clause-named
expression-requires-clause-named g c κs within_bounds =
    let of = g.K.Kind.extra_of in
    let sides : Check = record { left = formula_of c.check.result.0.now; right = formula_of c.check.result.1.now } in
    let names = names_at c.args.spec.now c.args.check sides c.words.ensures.well_formed c.check.ensures in
    let items : length c.in_ok-words.words.items ≡ length c.args.spec.now.words =
    ap length c.in_ok-words.ensures ∙ length-replicate c.words.result c.constant.result ∙ c.words.ensures.words in
    let same : length c.build_words.new.words ≡ length c.in_ok-words.words.items = c.build_words.auto.words ∙ ap length c.as_mut_slice.ensures.value in
    let back = written_back c.in_ok-words.words.len c.in_ok-words.words.items c.build_words.new.words c.in_ok-words.words.ok.0 same in
    subst (λ (n : ℕ). NamesBelow n sides.left) (sym (ap length (c.deref-3.ensures.value ∙ back) ∙ same ∙ items)) names.left

pub expression-requires-2-clause-good : goal.expression-requires-2-clause-good
expression-requires-2-clause-good g c κs within_bounds =
    let of = g.K.Kind.extra_of in
    let sides : Check = record { left = formula_of c.check.result.0.now; right = formula_of c.check.result.1.now } in
    let names = names_at c.args.spec.now c.args.check sides c.words.ensures.well_formed c.check.ensures in
    let items : length c.in_ok-words.words.items ≡ length c.args.spec.now.words =
    ap length c.in_ok-words.ensures ∙ length-replicate c.words.result c.constant.result ∙ c.words.ensures.words in
    let same : length c.build_words.new.words ≡ length c.in_ok-words.words.items = c.build_words.auto.words ∙ ap length c.as_mut_slice.ensures.value in
    let back = written_back c.in_ok-words.words.len c.in_ok-words.words.items c.build_words.new.words c.in_ok-words.words.ok.0 same in
    subst (AreEdges g.K.Kind.NAME c.expression.new.builder) (ap (plain_edges of) (sym (c.deref-4.ensures.value ∙ back)))
    (still_edges g.K.Kind.NAME c.build_words.new.builder c.expression.new.builder (plain_edges of c.build_words.new.words) c.in_ok-left.ensures.keeps
    c.in_ok-build_words.ensures.good)

pub expression-requires-2-clause-named : goal.expression-requires-2-clause-named
expression-requires-2-clause-named g c κs within_bounds =
    let of = g.K.Kind.extra_of in
    let sides : Check = record { left = formula_of c.check.result.0.now; right = formula_of c.check.result.1.now } in
    let names = names_at c.args.spec.now c.args.check sides c.words.ensures.well_formed c.check.ensures in
    let items : length c.in_ok-words.words.items ≡ length c.args.spec.now.words =
    ap length c.in_ok-words.ensures ∙ length-replicate c.words.result c.constant.result ∙ c.words.ensures.words in
    let same : length c.build_words.new.words ≡ length c.in_ok-words.words.items = c.build_words.auto.words ∙ ap length c.as_mut_slice.ensures.value in
    let back = written_back c.in_ok-words.words.len c.in_ok-words.words.items c.build_words.new.words c.in_ok-words.words.ok.0 same in
    subst (λ (n : ℕ). NamesBelow n sides.right) (sym (ap length (c.deref-4.ensures.value ∙ back) ∙ same ∙ items)) names.right

pub returns-clause-sides : goal.returns-clause-sides
returns-clause-sides g c =
    let k = g.K.Kind.NAME in
    let of = g.K.Kind.extra_of in
    let n = c.args.netlist.now in
    let s = c.args.spec.now in
    let u = c.args.builder.now in
    let v = c.build_nets.new.builder in
    let w = c.build_words.new.builder in
    let x = c.expression.new.builder in
    let sides : Check = record { left = formula_of c.check.result.0.now; right = formula_of c.check.result.1.now } in
    let is = c.check.ensures in
    let good = c.words.ensures.well_formed in
    let edges = plain_edges of c.build_words.new.words in
    let items : length c.in_ok-words.words.items ≡ length s.words =
    ap length c.in_ok-words.ensures ∙ length-replicate c.words.result c.constant.result ∙ c.words.ensures.words in
    let same : length c.build_words.new.words ≡ length c.in_ok-words.words.items = c.build_words.auto.words ∙ ap length c.as_mut_slice.ensures.value in
    let many : length edges ≡ length s.words = length-map c.build_words.new.words (plain of) ∙ (same ∙ items) in
    let back = written_back c.in_ok-words.words.len c.in_ok-words.words.items c.build_words.new.words c.in_ok-words.words.ok.0 same in
    let numbers : c.deref.result.now ≡ words_of_check sides =
    c.deref.ensures.value ∙ if_some_at (slice_get s.checks c.args.check) sides (λ z. c.in_ok-numbers.numbers.items ≡ words_of_check z) is c.in_ok-numbers.ensures in
    let nets = plain_edges of c.deref-2.result.now in
    let nets_built = subst (NetsAreBuilt k n s c.args.check v) (ap (plain_edges of) (sym c.deref-2.ensures.value)) c.in_ok-nets.ensures.built in
    let none_yet = ap (plain_edges of) (c.as_mut_slice.ensures.value ∙ c.in_ok-words.ensures) ∙ plain_replicate of c.words.result c.constant.result in
    let old_good = subst (AreEdges k v) (sym none_yet) (repeated_good k v c.words.result (plain of c.constant.result) (_, c.constant.ensures.table 0 (omega arith))) in
    let built = words_are_built k n s c.args.check sides v w nets (plain_edges of c.as_mut_slice.result.now) edges c.deref.result.now good is numbers nets_built old_good
    c.in_ok-build_words.ensures.built in
    let letters = c.build_words.ensures.keeps.letters ∙ c.build_nets.ensures.keeps.letters ∙ c.requires.levels in
    let y = c.expression-2.new.builder in
    let left_edge = plain of c.in_ok-left.left in
    let right_edge = plain of c.in_ok-right.right in
    let left = side_answers k n s w x edges sides.left (or_listed (λ i. false) c.deref.result.now) (Ok left_edge) good letters many built
    (named_are_built s c.args.check sides c.deref.result.now sides.left good is numbers (left_named sides))
    (subst (λ (es : List PlainEdge). IsFormula sides.left k w x es (Ok left_edge)) (ap (plain_edges of) (c.deref-3.ensures.value ∙ back)) c.in_ok-left.ensures.formula) in
    let letters_x = c.in_ok-left.ensures.keeps.letters ∙ letters in
    let right = side_answers k n s x y edges sides.right (or_listed (λ i. false) c.deref.result.now) (Ok right_edge) good letters_x many
    (still_built k w x (λ i. side n s (word i)) (or_listed (λ i. false) c.deref.result.now) edges c.in_ok-left.ensures.keeps built)
    (named_are_built s c.args.check sides c.deref.result.now sides.right good is numbers (right_named sides))
    (subst (λ (es : List PlainEdge). IsFormula sides.right k x y es (Ok right_edge)) (ap (plain_edges of) (c.deref-4.ensures.value ∙ back)) c.in_ok-right.ensures.formula) in
    subst (λ (o : Option Check). IfSome o (λ z. StandsAt k y 0 (side n s z.left) left_edge × StandsAt k y 0 (side n s z.right) right_edge)) (sym is)
    (stays k x y 0 (side n s sides.left) left_edge c.in_ok-right.ensures.keeps left.stands, right.stands)

pub returns-in_err-nets-clause-causes : goal.returns-in_err-nets-clause-causes
returns-in_err-nets-clause-causes g c =
    let k = g.K.Kind.NAME in
    let of = g.K.Kind.extra_of in
    let n = c.args.netlist.now in
    let s = c.args.spec.now in
    let u = c.args.builder.now in
    let v = c.build_nets.new.builder in
    let found = check_there s c.args.check c.requires.check in
    let ps = building_work n s found.0 in
    let parts = has_parts n s found.0 in
    let nets = c.build_nets.ensures.causes found.0 ps found.1 parts.inputs parts.gates in
    causes_there k n s c.args.check found.0 u v (limit_met c.from_residual.result) found.1
    (error_refused k u v ps c.from_residual.result c.build_nets.result c.in_err-nets.field-0.0 c.in_err-nets.was c.from_residual.ensures.1 nets)

pub returns-in_err-numbers-clause-causes : goal.returns-in_err-numbers-clause-causes
returns-in_err-numbers-clause-causes g c =
    let k = g.K.Kind.NAME in
    let of = g.K.Kind.extra_of in
    let n = c.args.netlist.now in
    let s = c.args.spec.now in
    let u = c.args.builder.now in
    let v = c.build_nets.new.builder in
    let found = check_there s c.args.check c.requires.check in
    let ps = building_work n s found.0 in
    let parts = has_parts n s found.0 in
    let nets = c.build_nets.ensures.causes found.0 ps found.1 parts.inputs parts.gates in
    causes_there k n s c.args.check found.0 u v (limit_met c.from_residual-in_err-numbers.result) found.1
    (memory_refused k u v ps c.from_residual-in_err-numbers.result (limit_met c.build_nets.result) c.from_residual-in_err-numbers.ensures.1 nets)

pub returns-in_err-words-clause-causes : goal.returns-in_err-words-clause-causes
returns-in_err-words-clause-causes g c =
    let k = g.K.Kind.NAME in
    let of = g.K.Kind.extra_of in
    let n = c.args.netlist.now in
    let s = c.args.spec.now in
    let u = c.args.builder.now in
    let v = c.build_nets.new.builder in
    let found = check_there s c.args.check c.requires.check in
    let ps = building_work n s found.0 in
    let parts = has_parts n s found.0 in
    let nets = c.build_nets.ensures.causes found.0 ps found.1 parts.inputs parts.gates in
    causes_there k n s c.args.check found.0 u v (limit_met c.from_residual-in_err-words.result) found.1
    (memory_refused k u v ps c.from_residual-in_err-words.result (limit_met c.build_nets.result) c.from_residual-in_err-words.ensures.1 nets)

pub returns-in_err-build_words-clause-causes : goal.returns-in_err-build_words-clause-causes
returns-in_err-build_words-clause-causes g c =
    let k = g.K.Kind.NAME in
    let of = g.K.Kind.extra_of in
    let n = c.args.netlist.now in
    let s = c.args.spec.now in
    let u = c.args.builder.now in
    let v = c.build_nets.new.builder in
    let found = check_there s c.args.check c.requires.check in
    let ps = building_work n s found.0 in
    let parts = has_parts n s found.0 in
    let nets = c.build_nets.ensures.causes found.0 ps found.1 parts.inputs parts.gates in
    let w = c.build_words.new.builder in
    let numbers : c.deref.result.now ≡ words_of_check found.0 =
    c.deref.ensures.value ∙ if_some_at (slice_get s.checks c.args.check) found.0 (λ z. c.in_ok-numbers.numbers.items ≡ words_of_check z) found.1 c.in_ok-numbers.ensures in
    let words = words_caused k n s c.args.check found.0 v w (plain_edges of c.deref-2.result.now) c.deref.result.now (limit_met c.build_words.result) ps found.1 numbers
    (subst (NetsAreBuilt k n s c.args.check v) (ap (plain_edges of) (sym c.deref-2.ensures.value)) c.in_ok-nets.ensures.built) c.build_words.ensures.causes parts.words in
    causes_there k n s c.args.check found.0 u w (limit_met c.from_residual-in_err-build_words.result) found.1
    (error_refused k u w ps c.from_residual-in_err-build_words.result c.build_words.result c.in_err-build_words.field-0.0 c.in_err-build_words.was
    c.from_residual-in_err-build_words.ensures.1
    (causes_on k u v w ps (limit_met c.build_nets.result) (limit_met c.build_words.result) c.build_nets.ensures.keeps c.build_words.ensures.keeps nets words))

pub returns-in_err-left-clause-causes : goal.returns-in_err-left-clause-causes
returns-in_err-left-clause-causes g c =
    let k = g.K.Kind.NAME in
    let of = g.K.Kind.extra_of in
    let n = c.args.netlist.now in
    let s = c.args.spec.now in
    let u = c.args.builder.now in
    let v = c.build_nets.new.builder in
    let w = c.build_words.new.builder in
    let x = c.expression.new.builder in
    let sides : Check = record { left = formula_of c.check.result.0.now; right = formula_of c.check.result.1.now } in
    let is = c.check.ensures in
    let good = c.words.ensures.well_formed in
    let edges = plain_edges of c.build_words.new.words in
    let items : length c.in_ok-words.words.items ≡ length s.words =
    ap length c.in_ok-words.ensures ∙ length-replicate c.words.result c.constant.result ∙ c.words.ensures.words in
    let same : length c.build_words.new.words ≡ length c.in_ok-words.words.items = c.build_words.auto.words ∙ ap length c.as_mut_slice.ensures.value in
    let many : length edges ≡ length s.words = length-map c.build_words.new.words (plain of) ∙ (same ∙ items) in
    let back = written_back c.in_ok-words.words.len c.in_ok-words.words.items c.build_words.new.words c.in_ok-words.words.ok.0 same in
    let numbers : c.deref.result.now ≡ words_of_check sides =
    c.deref.ensures.value ∙ if_some_at (slice_get s.checks c.args.check) sides (λ z. c.in_ok-numbers.numbers.items ≡ words_of_check z) is c.in_ok-numbers.ensures in
    let nets = plain_edges of c.deref-2.result.now in
    let nets_built = subst (NetsAreBuilt k n s c.args.check v) (ap (plain_edges of) (sym c.deref-2.ensures.value)) c.in_ok-nets.ensures.built in
    let none_yet = ap (plain_edges of) (c.as_mut_slice.ensures.value ∙ c.in_ok-words.ensures) ∙ plain_replicate of c.words.result c.constant.result in
    let old_good = subst (AreEdges k v) (sym none_yet) (repeated_good k v c.words.result (plain of c.constant.result) (_, c.constant.ensures.table 0 (omega arith))) in
    let built = words_are_built k n s c.args.check sides v w nets (plain_edges of c.as_mut_slice.result.now) edges c.deref.result.now good is numbers nets_built old_good
    c.in_ok-build_words.ensures.built in
    let letters = c.build_words.ensures.keeps.letters ∙ c.build_nets.ensures.keeps.letters ∙ c.requires.levels in
    let ps = building_work n s sides in
    let parts = has_parts n s sides in
    let words = words_caused k n s c.args.check sides v w nets c.deref.result.now (limit_met c.build_words.result) ps is numbers nets_built c.build_words.ensures.causes parts.words in
    let so_far = causes_on k u v w ps (limit_met c.build_nets.result) (limit_met c.build_words.result) c.build_nets.ensures.keeps c.build_words.ensures.keeps
    (c.build_nets.ensures.causes sides ps is parts.inputs parts.gates) words in
    let before = keeps_on u v w c.build_nets.ensures.keeps c.build_words.ensures.keeps in
    let left_words = ap (plain_edges of) (c.deref-3.ensures.value ∙ back) in
    let left = side_after k n s c.args.check sides u w x edges c.deref.result.now sides.left (limit_met c.build_words.result) (Err c.in_err-left.field-0.0) good is numbers letters many built
    (left_named sides) parts.left before c.in_err-left.ensures.keeps so_far
    (subst (λ (es : List PlainEdge). IsFormula sides.left k w x es (Err c.in_err-left.field-0.0)) left_words c.in_err-left.ensures.formula) in
    causes_there k n s c.args.check sides u x (limit_met c.from_residual-in_err-left.result) is
    (limit_refused {X = PlainEdge} k u x ps c.from_residual-in_err-left.result (Err c.in_err-left.field-0.0) c.in_err-left.field-0.0 refl c.from_residual-in_err-left.ensures.1 left)

pub returns-in_err-right-clause-causes : goal.returns-in_err-right-clause-causes
returns-in_err-right-clause-causes g c =
    let k = g.K.Kind.NAME in
    let of = g.K.Kind.extra_of in
    let n = c.args.netlist.now in
    let s = c.args.spec.now in
    let u = c.args.builder.now in
    let v = c.build_nets.new.builder in
    let w = c.build_words.new.builder in
    let x = c.expression.new.builder in
    let sides : Check = record { left = formula_of c.check.result.0.now; right = formula_of c.check.result.1.now } in
    let is = c.check.ensures in
    let good = c.words.ensures.well_formed in
    let edges = plain_edges of c.build_words.new.words in
    let items : length c.in_ok-words.words.items ≡ length s.words =
    ap length c.in_ok-words.ensures ∙ length-replicate c.words.result c.constant.result ∙ c.words.ensures.words in
    let same : length c.build_words.new.words ≡ length c.in_ok-words.words.items = c.build_words.auto.words ∙ ap length c.as_mut_slice.ensures.value in
    let many : length edges ≡ length s.words = length-map c.build_words.new.words (plain of) ∙ (same ∙ items) in
    let back = written_back c.in_ok-words.words.len c.in_ok-words.words.items c.build_words.new.words c.in_ok-words.words.ok.0 same in
    let numbers : c.deref.result.now ≡ words_of_check sides =
    c.deref.ensures.value ∙ if_some_at (slice_get s.checks c.args.check) sides (λ z. c.in_ok-numbers.numbers.items ≡ words_of_check z) is c.in_ok-numbers.ensures in
    let nets = plain_edges of c.deref-2.result.now in
    let nets_built = subst (NetsAreBuilt k n s c.args.check v) (ap (plain_edges of) (sym c.deref-2.ensures.value)) c.in_ok-nets.ensures.built in
    let none_yet = ap (plain_edges of) (c.as_mut_slice.ensures.value ∙ c.in_ok-words.ensures) ∙ plain_replicate of c.words.result c.constant.result in
    let old_good = subst (AreEdges k v) (sym none_yet) (repeated_good k v c.words.result (plain of c.constant.result) (_, c.constant.ensures.table 0 (omega arith))) in
    let built = words_are_built k n s c.args.check sides v w nets (plain_edges of c.as_mut_slice.result.now) edges c.deref.result.now good is numbers nets_built old_good
    c.in_ok-build_words.ensures.built in
    let letters = c.build_words.ensures.keeps.letters ∙ c.build_nets.ensures.keeps.letters ∙ c.requires.levels in
    let ps = building_work n s sides in
    let parts = has_parts n s sides in
    let words = words_caused k n s c.args.check sides v w nets c.deref.result.now (limit_met c.build_words.result) ps is numbers nets_built c.build_words.ensures.causes parts.words in
    let so_far = causes_on k u v w ps (limit_met c.build_nets.result) (limit_met c.build_words.result) c.build_nets.ensures.keeps c.build_words.ensures.keeps
    (c.build_nets.ensures.causes sides ps is parts.inputs parts.gates) words in
    let before = keeps_on u v w c.build_nets.ensures.keeps c.build_words.ensures.keeps in
    let left_words = ap (plain_edges of) (c.deref-3.ensures.value ∙ back) in
    let left = side_after k n s c.args.check sides u w x edges c.deref.result.now sides.left (limit_met c.build_words.result) (Ok (plain of c.in_ok-left.left)) good is numbers letters many built
    (left_named sides) parts.left before c.in_ok-left.ensures.keeps so_far
    (subst (λ (es : List PlainEdge). IsFormula sides.left k w x es (Ok (plain of c.in_ok-left.left))) left_words c.in_ok-left.ensures.formula) in
    let y = c.expression-2.new.builder in
    let right_words = ap (plain_edges of) (c.deref-4.ensures.value ∙ back) in
    let right = side_after k n s c.args.check sides u x y edges c.deref.result.now sides.right (Ok (plain of c.in_ok-left.left)) (Err c.in_err-right.field-0.0) good is numbers
    (c.in_ok-left.ensures.keeps.letters ∙ letters) many
    (still_built k w x (λ i. side n s (word i)) (or_listed (λ i. false) c.deref.result.now) edges c.in_ok-left.ensures.keeps built)
    (right_named sides) parts.right (keeps_on u w x before c.in_ok-left.ensures.keeps) c.in_err-right.ensures.keeps left
    (subst (λ (es : List PlainEdge). IsFormula sides.right k x y es (Err c.in_err-right.field-0.0)) right_words c.in_err-right.ensures.formula) in
    causes_there k n s c.args.check sides u y (limit_met c.from_residual-in_err-right.result) is
    (limit_refused {X = PlainEdge} k u y ps c.from_residual-in_err-right.result (Err c.in_err-right.field-0.0) c.in_err-right.field-0.0 refl
    c.from_residual-in_err-right.ensures.1 right)

pub returns-clause-causes : goal.returns-clause-causes
returns-clause-causes g c =
    let k = g.K.Kind.NAME in
    let of = g.K.Kind.extra_of in
    let n = c.args.netlist.now in
    let s = c.args.spec.now in
    let u = c.args.builder.now in
    let v = c.build_nets.new.builder in
    let w = c.build_words.new.builder in
    let x = c.expression.new.builder in
    let sides : Check = record { left = formula_of c.check.result.0.now; right = formula_of c.check.result.1.now } in
    let is = c.check.ensures in
    let good = c.words.ensures.well_formed in
    let edges = plain_edges of c.build_words.new.words in
    let items : length c.in_ok-words.words.items ≡ length s.words =
    ap length c.in_ok-words.ensures ∙ length-replicate c.words.result c.constant.result ∙ c.words.ensures.words in
    let same : length c.build_words.new.words ≡ length c.in_ok-words.words.items = c.build_words.auto.words ∙ ap length c.as_mut_slice.ensures.value in
    let many : length edges ≡ length s.words = length-map c.build_words.new.words (plain of) ∙ (same ∙ items) in
    let back = written_back c.in_ok-words.words.len c.in_ok-words.words.items c.build_words.new.words c.in_ok-words.words.ok.0 same in
    let numbers : c.deref.result.now ≡ words_of_check sides =
    c.deref.ensures.value ∙ if_some_at (slice_get s.checks c.args.check) sides (λ z. c.in_ok-numbers.numbers.items ≡ words_of_check z) is c.in_ok-numbers.ensures in
    let nets = plain_edges of c.deref-2.result.now in
    let nets_built = subst (NetsAreBuilt k n s c.args.check v) (ap (plain_edges of) (sym c.deref-2.ensures.value)) c.in_ok-nets.ensures.built in
    let none_yet = ap (plain_edges of) (c.as_mut_slice.ensures.value ∙ c.in_ok-words.ensures) ∙ plain_replicate of c.words.result c.constant.result in
    let old_good = subst (AreEdges k v) (sym none_yet) (repeated_good k v c.words.result (plain of c.constant.result) (_, c.constant.ensures.table 0 (omega arith))) in
    let built = words_are_built k n s c.args.check sides v w nets (plain_edges of c.as_mut_slice.result.now) edges c.deref.result.now good is numbers nets_built old_good
    c.in_ok-build_words.ensures.built in
    let letters = c.build_words.ensures.keeps.letters ∙ c.build_nets.ensures.keeps.letters ∙ c.requires.levels in
    let ps = building_work n s sides in
    let parts = has_parts n s sides in
    let words = words_caused k n s c.args.check sides v w nets c.deref.result.now (limit_met c.build_words.result) ps is numbers nets_built c.build_words.ensures.causes parts.words in
    let so_far = causes_on k u v w ps (limit_met c.build_nets.result) (limit_met c.build_words.result) c.build_nets.ensures.keeps c.build_words.ensures.keeps
    (c.build_nets.ensures.causes sides ps is parts.inputs parts.gates) words in
    let before = keeps_on u v w c.build_nets.ensures.keeps c.build_words.ensures.keeps in
    let left_words = ap (plain_edges of) (c.deref-3.ensures.value ∙ back) in
    let left = side_after k n s c.args.check sides u w x edges c.deref.result.now sides.left (limit_met c.build_words.result) (Ok (plain of c.in_ok-left.left)) good is numbers letters many built
    (left_named sides) parts.left before c.in_ok-left.ensures.keeps so_far
    (subst (λ (es : List PlainEdge). IsFormula sides.left k w x es (Ok (plain of c.in_ok-left.left))) left_words c.in_ok-left.ensures.formula) in
    let y = c.expression-2.new.builder in
    let right_words = ap (plain_edges of) (c.deref-4.ensures.value ∙ back) in
    let right = side_after k n s c.args.check sides u x y edges c.deref.result.now sides.right (Ok (plain of c.in_ok-left.left)) (Ok (plain of c.in_ok-right.right)) good is numbers
    (c.in_ok-left.ensures.keeps.letters ∙ letters) many
    (still_built k w x (λ i. side n s (word i)) (or_listed (λ i. false) c.deref.result.now) edges c.in_ok-left.ensures.keeps built)
    (right_named sides) parts.right (keeps_on u w x before c.in_ok-left.ensures.keeps) c.in_ok-right.ensures.keeps left
    (subst (λ (es : List PlainEdge). IsFormula sides.right k x y es (Ok (plain of c.in_ok-right.right))) right_words c.in_ok-right.ensures.formula) in
    causes_there k n s c.args.check sides u y (Ok tt) is (causes_answered k u y ps (Ok (plain of c.in_ok-right.right)) tt right)

-- ---- what stays
pub returns-in_err-build_words-clause-keeps : goal.returns-in_err-build_words-clause-keeps
returns-in_err-build_words-clause-keeps g c =
    keeps_on c.args.builder.now c.build_nets.new.builder c.build_words.new.builder c.build_nets.ensures.keeps c.build_words.ensures.keeps

pub returns-in_err-left-clause-keeps : goal.returns-in_err-left-clause-keeps
returns-in_err-left-clause-keeps g c =
    keeps_on c.args.builder.now c.build_words.new.builder c.expression.new.builder
    (keeps_on c.args.builder.now c.build_nets.new.builder c.build_words.new.builder c.build_nets.ensures.keeps c.build_words.ensures.keeps) c.in_err-left.ensures.keeps

pub returns-in_err-right-clause-keeps : goal.returns-in_err-right-clause-keeps
returns-in_err-right-clause-keeps g c =
    keeps_on c.args.builder.now c.expression.new.builder c.expression-2.new.builder
    (keeps_on c.args.builder.now c.build_words.new.builder c.expression.new.builder
    (keeps_on c.args.builder.now c.build_nets.new.builder c.build_words.new.builder c.build_nets.ensures.keeps c.build_words.ensures.keeps) c.in_ok-left.ensures.keeps)
    c.in_err-right.ensures.keeps

pub returns-clause-keeps : goal.returns-clause-keeps
returns-clause-keeps g c =
    keeps_on c.args.builder.now c.expression.new.builder c.expression-2.new.builder
    (keeps_on c.args.builder.now c.build_words.new.builder c.expression.new.builder
    (keeps_on c.args.builder.now c.build_nets.new.builder c.build_words.new.builder c.build_nets.ensures.keeps c.build_words.ensures.keeps) c.in_ok-left.ensures.keeps)
    c.in_ok-right.ensures.keeps

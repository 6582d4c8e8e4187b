use Rattle.std.proofs.Common.{◌∙◌, map, refl, sym, ap, option_map, arith}
use Rattle.std.proofs.lemmas.Result.{IfOk-weaker}
use Rattle.spec_grammar.specs.Parsing.{parsed_from, step}
use Rattle.spec_reader.specs.Good.{is_good}
use Rattle.spec_reader.specs.Meanings.{over}
use Rattle.spec_reader.specs.Views.{seen_symbol, seen_state}
use Rattle.spec_reader.proofs.Formulas.{parsed-formula}
use Rattle.spec_reader.proofs.Lists.{at_all_seen}
use Rattle.spec_reader.proofs.Minuses.{minuses-seen, step_minuses}
use Rattle.spec_reader.proofs.Runs.{runs_on, runs_out, runs_to_end}
use Rattle.spec_reader.proofs.expression.expression.Goals as goal

pub step-requires-clause-good : goal.step-requires-clause-good
step-requires-clause-good c = at_all_seen seen_symbol (is_good c.args.words.now) c.args.symbols.now c.loop-symbol.symbol-index _ c.loop-symbol-test.true c.requires.good

pub returns-in-None : goal.returns-in-None
returns-in-None c =
    let m = over c.args.words.now in
    runs_out (parsed_from m) (step m) (λ s y ys. refl) seen_symbol c.args.symbols.now (seen_state c.loop-symbol.state) c.loop-symbol.symbol-index _ _ c.loop-symbol-test.true c.loop-symbol.invariant.rest
    (sym c.in_ok-next.ensures ∙ ap (option_map seen_state) c.in-None.is)
    ∙ sym (parsed-formula c.args.words.now (map seen_symbol c.args.symbols.now))

pub loop-symbol-preserved : goal.loop-symbol-preserved
loop-symbol-preserved c =
    let m = over c.args.words.now in
    let s = seen_state c.loop-symbol.state in
    let found = sym c.in_ok-next.ensures ∙ ap (option_map seen_state) c.in-Some.is in
    let before = minuses-seen c.loop-symbol.state.place in
    let after = minuses-seen c.in-Some.next.place in
    let more = step_minuses m s.open_fronts s.place _ (seen_state c.in-Some.next) c.loop-symbol.symbol-index (let h = c.loop-symbol.invariant.small in omega arith) found in
    record {
      rest = runs_on (parsed_from m) (step m) (λ s y ys. refl) seen_symbol c.args.symbols.now s (seen_state c.in-Some.next) c.loop-symbol.symbol-index _ _ c.loop-symbol-test.true c.loop-symbol.invariant.rest found;
      small = omega arith;
    }

pub returns : goal.returns
returns c =
    let m = over c.args.words.now in
    IfOk-weaker c.whole.result _ _
    (λ found e. e
    ∙ runs_to_end (parsed_from m) (step m) (λ s y ys. refl) seen_symbol c.args.symbols.now (seen_state c.loop-symbol.state) c.loop-symbol.symbol-index _ c.loop-symbol-test.false c.loop-symbol.invariant.rest
    ∙ sym (parsed-formula c.args.words.now (map seen_symbol c.args.symbols.now)))
    c.whole.ensures

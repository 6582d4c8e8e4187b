use Rattle.std.proofs.Common.{◌≡◌, ◌<◌, ℕ, ◌+◌, ◌-◌, [], ◌∷◌, ◌++◌, List, length, slice_get, Some, sym, subst, ap, ◌∙◌, arith}
use Rattle.std.proofs.lemmas.List.{length_push}
use Rattle.std.proofs.lemmas.List.Elements.{All-nil, All-push, All-same}
use Rattle.std.proofs.lemmas.List.FromFn.{length-range_with_len}
use Rattle.unique_table.specs.Values.{IsOf, begun}
use Rattle.unique_table.specs.declared.token.PassValue.{PassValue}
use Rattle.unique_table.proofs.Dealing.{last_left, is_begun, pushed, begins_all, rest_after, each_after}
use Rattle.unique_table.proofs.table.deal.Goals as goal

pub loop-init : goal.loop-init
loop-init c =
    let none : c.new-tokens.result.items ≡ [] = c.new-tokens.ensures.items in
    let zero_of : length c.new-tokens.result.items ≡ 0 = ap length none in
    record {
      counted = omega arith;
      rest = begins_all c.args.table.now c.args.last c.new-tokens.result.items c.args.passes none c.requires.all;
      each = λ k h. absurd (omega arith);
      own = All-same (IsOf c.args.table.now) c.new-tokens.result.items [] none (All-nil (IsOf c.args.table.now));
    }

pub deal-requires-clause-own : goal.deal-requires-clause-own
deal-requires-clause-own c = (is_begun c.args.table.now c.loop.last _ c.loop.invariant.rest).0

pub deal-requires-clause-two : goal.deal-requires-clause-two
deal-requires-clause-two c =
    let n : ℕ = length c.loop.tokens.items in
    let tokens = (is_begun c.args.table.now c.loop.last _ c.loop.invariant.rest).2 in
    let counted = c.loop.invariant.counted in
    let more = c.loop-test.true in
    omega (arith, ap length tokens, length-range_with_len n (c.args.passes - n))

pub loop-preserved : goal.loop-preserved
loop-preserved c =
    let xs : List PassValue = c.loop.tokens.items in
    let counted = c.loop.invariant.counted in
    let more = c.loop-test.true in
    let items = c.in_ok-push.ensures.items in
    record {
      counted = omega (arith, ap length items, length_push xs c.deal.result);
      rest = rest_after c.args.table.now c.args.passes xs c.push.new.self.items c.loop.last c.loop.invariant.rest c.loop.invariant.each c.deal.result items c.deal.new.self (omega arith) c.deal.ensures.kept;
      each = each_after c.args.table.now c.args.passes xs c.push.new.self.items c.loop.last c.loop.invariant.rest c.loop.invariant.each c.deal.result items (omega arith) c.deal.ensures.dealt;
      own = All-same (IsOf c.args.table.now) c.push.new.self.items (xs ++ c.deal.result ∷ []) items (All-push (IsOf c.args.table.now) xs c.deal.result c.loop.invariant.own (is_begun c.args.table.now c.deal.result _ c.deal.ensures.dealt).0);
    }

pub returns-clause-count : goal.returns-clause-count
returns-clause-count c =
    let counted = c.loop.invariant.counted in
    let done = c.loop-test.false in
    let some = c.requires.some in
    let end = c.loop.auto.counter-end in
    omega (arith, ap length c.in_ok-push-2.ensures.items, length_push c.loop.tokens.items c.loop.last)

pub returns-clause-each : goal.returns-clause-each
returns-clause-each c =
    let xs : List PassValue = c.loop.tokens.items in
    let counted = c.loop.invariant.counted in
    let done = c.loop-test.false in
    let some = c.requires.some in
    let end = c.loop.auto.counter-end in
    let items = c.in_ok-push-2.ensures.items in
    let n : ℕ = length xs in
    let last : n + 1 ≡ c.args.passes = omega arith in
    let is : c.loop.last ≡ begun c.args.table.now (n ∷ []) = c.loop.invariant.rest ∙ ap (begun c.args.table.now) (last_left n c.args.passes last) in
    let all = subst (λ (ys : List PassValue). (k : ℕ) → k < length ys → slice_get ys k ≡ Some (begun c.args.table.now (k ∷ []))) (sym items) (pushed c.args.table.now xs c.loop.last c.loop.invariant.each is) in
    λ k h. all k (omega (arith, ap length items, length_push xs c.loop.last))

pub returns-clause-own : goal.returns-clause-own
returns-clause-own c =
    let xs : List PassValue = c.loop.tokens.items in
    All-same (IsOf c.args.table.now) c.push-2.new.self.items (xs ++ c.loop.last ∷ []) c.in_ok-push-2.ensures.items (All-push (IsOf c.args.table.now) xs c.loop.last c.loop.invariant.own (is_begun c.args.table.now c.loop.last _ c.loop.invariant.rest).0)

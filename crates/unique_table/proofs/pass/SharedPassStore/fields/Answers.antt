use Rattle.std.proofs.Common.{◌≡◌, ℕ, List, Some, ap, sym, subst, ◌∙◌, arith, inr}
use Rattle.record_store.specs.StoreView.{find_in}
use Rattle.table_rule.specs.Counts.{IsIn}
use Rattle.table_rule.specs.declared.view.PassView.{PassView}
use Rattle.table_rule.proofs.PassStore.{known_in}
use Rattle.unique_table.specs.Passes.{pass_view}
use Rattle.unique_table.specs.declared.token.PassValue.{PassValue}
use Rattle.unique_table.proofs.Passes.{is_body}
use Rattle.unique_table.proofs.pass.SharedPassStore.fields.Goals as goal

pub first_word-first-requires-clause-met : goal.first_word-first-requires-clause-met
first_word-first-requires-clause-met c =
    let t = c.self.inside.table.now in
    let v : PassView = c.self.inside.place.me.0 in
    let found : find_in (pass_view (record { names = t.names; layout = t.layout; view = v })) c.args.id ≡ Some c.requires.0 = ap (λ (p : PassValue). find_in (pass_view p) c.args.id) c.self.view_is ∙ c.requires.1 in
    inr (c.requires.0, known_in t.names t.layout v c.args.id c.requires.0 found)

pub read_word-requires-clause-met : goal.read_word-requires-clause-met
read_word-requires-clause-met c =
    let t = c.self.inside.table.now in
    let v : PassView = c.self.inside.place.me.0 in
    let node : List ℕ = c.requires.0 in
    let found : find_in (pass_view (record { names = t.names; layout = t.layout; view = v })) c.args.id ≡ Some node = ap (λ (p : PassValue). find_in (pass_view p) c.args.id) c.self.view_is ∙ c.requires.1 in
    let known : IsIn v.known (c.args.id, node) = known_in t.names t.layout v c.args.id node found in
    inr (node, subst (λ (es : List (ℕ × List ℕ)). IsIn es (c.args.id, node)) (sym c.loop-i.invariant.read.explored.looked.known) known)

pub returns-clause-body : goal.returns-clause-body
returns-clause-body c =
    let t = c.self.inside.table.now in
    let v : PassView = c.self.inside.place.me.0 in
    let node : List ℕ = c.requires.0 in
    let i = c.loop-i.invariant in
    let done = c.loop-i-test.false in
    let found : find_in (pass_view (record { names = t.names; layout = t.layout; view = v })) c.args.id ≡ Some node = ap (λ (p : PassValue). find_in (pass_view p) c.args.id) c.self.view_is ∙ c.requires.1 in
    let known : IsIn v.known (c.args.id, node) = known_in t.names t.layout v c.args.id node found in
    let same : node ≡ c.loop-i.body = is_body t.names t.layout v c.self.invariant.seated.possible c.args.id node c.loop-i.body known i.long (λ j few. i.words node known j (omega arith)) in
    c.requires.1 ∙ ap Some same

use Rattle.std.proofs.Common.{◌≡◌, ℕ, List, refl, arith, rules}
use Rattle.std.proofs.lemmas.Bool.Decides.{Decides-eqb}
use Rattle.std.specs.Prelude.{slice_index}
use Rattle.table_rule.specs.Views.{read}
use Rattle.table_rule.specs.declared.view.PassView.{PassView}
use Rattle.unique_table.proofs.Exploring.{read_on, read_a_word}
use Rattle.unique_table.proofs.body.has_body.Goals as goal

pub read_last-last-requires-clause-read : goal.read_last-last-requires-clause-read
read_last-last-requires-clause-read c =
    let i = c.loop-i.invariant.words in
    let end = c.loop-i.auto.i-end in
    let done = c.loop-i-test.false in
    λ j few. (slice_index c.args.body.now j, i j (omega arith))

pub returns-clause-yes : goal.returns-clause-yes
returns-clause-yes c =
    let v : PassView = c.args.place.now.me.0 in
    let u : PassView = c.loop-i.place.me.0 in
    let id : ℕ = c.args.id in
    let node : List ℕ = c.args.body.now in
    let word : ℕ = slice_index node 7 in
    let done = c.loop-i-test.false in
    λ yes.
    let same : c.read_last-last.result ≡ word = (Decides-eqb c.read_last-last.result word).0 yes in
    record {
      before = read id 7 word u;
      read = read_on v u (read id 7 word u) c.loop-i.invariant.read (read_a_word id 7 word u);
      known = c.read_last-last.ensures.last same node (search rules) (λ j few. c.loop-i.invariant.words j (omega arith)) refl;
    }

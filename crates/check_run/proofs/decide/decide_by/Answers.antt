use Rattle.kind_laws.specs.declared.kind.Edge.{Edge}
use Rattle.std.proofs.Common.{◌≡◌, ap, subst, ◌∙◌, [], length}
use Rattle.std.specs.Prelude.{Ok, slice_get}
use Rattle.diagram.specs.Answers.{Causes, HasNodeShape}
use Rattle.diagram.specs.View.{View}
use Rattle.checks.specs.Forward.{building_work}
use Rattle.cone_builder.proofs.NetLaws.{check_there, if_some_at, if_some_from}
use Rattle.record_store.specs.Solo.{Solo, solo_view, IsSoloView}
use Rattle.record_store.specs.StoreView.{StoreView}
use Rattle.check_run.proofs.DecideLaws.{built_of_fresh, not_built_decided}
use Rattle.check_run.proofs.decide.decide_by.Goals as goal

pub compare-requires-clause-levels : goal.compare-requires-clause-levels
compare-requires-clause-levels g c κs within =
    ap length (c.in-Ok-build_one.ensures.keeps.letters ∙ ap (λ (v : View). v.letters) c.in-Ok.ensures.made) ∙ c.in_ok-levels.ensures.as_many

pub compare-requires-clause-built : goal.compare-requires-clause-built
compare-requires-clause-built g c κs within =
    let k = g.K.Kind.NAME in
    let n = c.args.netlist.now in
    let s = c.args.spec.now in
    let v = c.in-Ok.builder in
    let w = c.build_one.new.builder in
    let found = check_there s c.args.check c.requires.check in
    let start = c.in-Ok.ensures.made in
    let store = c.in_ok-store.ensures.empty in
    let none_made : v.store.made ≡ [] = ap (λ (x : View). x.store.made) start ∙ ap (λ (x : Solo). (solo_view x).made) store in
    let causes = if_some_at (slice_get s.checks c.args.check) found.0 (λ x. Causes k v w (building_work n s x) (Ok tt)) found.1 c.in-Ok-build_one.ensures.causes in
    record {
      letters = c.in-Ok-build_one.ensures.keeps.letters ∙ ap (λ (x : View). x.letters) start ∙ c.in_ok-levels.ensures.letters;
      made = λ id has. if_some_from (slice_get s.checks c.args.check) found.0 (λ x. HasNodeShape k w (building_work n s x) id) found.1
          (built_of_fresh k n s found.0 v w (building_work n s found.0) (Ok tt) none_made causes id has);
    }

pub returns : goal.returns
returns g c =
    let k = g.K.Kind.NAME in
    let n = c.args.netlist.now in
    let s = c.args.spec.now in
    let v = c.in-Ok.builder in
    let w = c.build_one.new.builder in
    let found = check_there s c.args.check c.requires.check in
    let start = c.in-Ok.ensures.made in
    let store = c.in_ok-store.ensures.empty in
    let none_made : v.store.made ≡ [] = ap (λ (x : View). x.store.made) start ∙ ap (λ (x : Solo). (solo_view x).made) store in
    let cells : v.store.room ≡ c.args.cells = ap (λ (x : View). x.store.room) start ∙ ap (λ (x : Solo). x.cells) store in
    let letters = c.in-Err-build_one.ensures.keeps.letters ∙ ap (λ (x : View). x.letters) start ∙ c.in_ok-levels.ensures.letters in
    let solo = subst (λ (x : StoreView). IsSoloView x c.len-known.result) c.store.ensures c.len-known.ensures.view in
    not_built_decided (Edge g.row.K.Denot g.row.K-Extra.Denot g.row.K-Extra.Denot × Edge g.row.K.Denot g.row.K-Extra.Denot g.row.K-Extra.Denot) k c.args.cells n s c.args.check found.0 v w c.len-known.result c.in-Err-build_one.error c.verdict_of_limit.result found.1 none_made letters
    (c.in-Err-build_one.ensures.keeps.room ∙ cells) solo c.in-Err-build_one.ensures.keeps c.in-Err-build_one.ensures.causes c.verdict_of_limit.ensures

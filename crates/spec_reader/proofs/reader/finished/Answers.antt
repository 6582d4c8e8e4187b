use Rattle.std.proofs.Common.{◌≡◌, ◌∙◌, ◌==◌, length, false, sym, ap, subst, Ok, arith, vec_len}
use Rattle.spec_grammar.proofs.Drafts.{specified_is_good}
use Rattle.spec_grammar.specs.Reading.{specified}
use Rattle.spec_lang.specs.WellFormed.{IsWellFormed}
use Rattle.spec_reader.specs.Views.{seen_draft}
use Rattle.spec_reader.proofs.Reading.{made_so, ended_well}
use Rattle.spec_reader.proofs.reader.finished.Goals as goal

pub new-requires : goal.new-requires
new-requires c =
    let d = seen_draft c.args.draft in
    let same = made_so c.args.netlist.now c.args.kind d c.in_ok-order.order.items c.deref.result.now c.deref-2.result.now c.in_ok-letters.letters.items
    c.in_ok-order.ensures c.deref.ensures.value c.deref-2.ensures.value c.in_ok-letters.ensures in
    subst IsWellFormed (sym same) (specified_is_good c.args.netlist.now c.args.kind d c.requires).well_formed

pub returns-clause-spec : goal.returns-clause-spec
returns-clause-spec c =
    let d = seen_draft c.args.draft in
    let same = made_so c.args.netlist.now c.args.kind d c.in_ok-order.order.items c.deref.result.now c.deref-2.result.now c.in_ok-letters.letters.items
    c.in_ok-order.ensures c.deref.ensures.value c.deref-2.ensures.value c.in_ok-letters.ensures in
    let count : length d.checks ≡ vec_len c.args.draft.checks = omega (arith, c.args.draft.checks.ok.0) in
    let some : (length d.checks == 0) ≡ false = ap (λ n. n == 0) count ∙ sym c.is_empty.ensures ∙ c.if-is_empty.false in
    ended_well d.checks (specified c.args.netlist.now c.args.kind d) some ∙ ap Ok (sym same ∙ sym c.new.ensures)

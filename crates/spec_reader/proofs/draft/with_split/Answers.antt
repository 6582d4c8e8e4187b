use Rattle.std.proofs.Common.{◌∙◌, ◌++◌, map, sym, ap}
use Rattle.spec_grammar.specs.Faults.{draft}
use Rattle.spec_grammar.specs.Fields.{fields}
use Rattle.spec_grammar.specs.Forms.{split_form}
use Rattle.spec_reader.specs.Steps.{split_fault}
use Rattle.spec_reader.specs.Views.{seen_draft}
use Rattle.spec_reader.proofs.DraftLemmas.{split_added}
use Rattle.spec_reader.proofs.draft.with_split.Goals as goal

pub returns : goal.returns
returns c =
    let f = split_form (fields c.args.text.now) in
    let d = seen_draft c.args.draft in (
      ap (λ l. split_fault c.args.netlist.now c.args.kind l f) (sym c.deref.ensures.value) ∙ c.in_ok-letter.ensures.0,
      ap (λ l. draft d.order l d.words d.checks) (c.in_ok-put_letters.ensures ∙ ap (λ ns. d.letters ++ map (λ n. (n, c.in_ok-letter.letter)) ns) c.deref-2.ensures.value)
          ∙ split_added c.args.netlist.now d f c.in_ok-letter.letter c.in_ok-letter.nets.items c.in_ok-letter.ensures.1,
    )

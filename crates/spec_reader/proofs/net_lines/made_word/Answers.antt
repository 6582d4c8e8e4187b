use Rattle.std.proofs.Common.{◌≡◌, ◌∙◌, sym, ap, subst, string_bytes}
use Rattle.spec_lang.specs.Specification.{named_word}
use Rattle.spec_lang.specs.WellFormed.{IsSizedWord}
use Rattle.spec_reader.proofs.Numbers.{word_names_are_utf8}
use Rattle.texts.proofs.NameLemmas.{ok_since}
use Rattle.spec_reader.proofs.net_lines.made_word.Goals as goal

pub unwrap-requires : goal.unwrap-requires
unwrap-requires c = ok_since c.from_utf8.result _ _ c.from_utf8.ensures.cases (λ e h. h.0 (word_names_are_utf8 c.args.name.now c.requires.name))

pub new-requires : goal.new-requires
new-requires c =
    let same : c.unwrap.result.now ≡ c.args.name.now = (rw c.unwrap.ensures at c.from_utf8.ensures.cases).0 in
    let is : string_bytes c.in_ok-name.name ≡ c.args.name.now = c.in_ok-name.ensures.ok ∙ same in
    subst (λ name. IsSizedWord (named_word name c.args.nets.items)) (sym is) c.requires.sized

pub returns : goal.returns
returns c =
    let same : c.unwrap.result.now ≡ c.args.name.now = (rw c.unwrap.ensures at c.from_utf8.ensures.cases).0 in
    let is : string_bytes c.in_ok-name.name ≡ c.args.name.now = c.in_ok-name.ensures.ok ∙ same in
    c.new.ensures ∙ ap (λ name. named_word name c.args.nets.items) is

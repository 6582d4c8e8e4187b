use Rattle.std.proofs.Common.{◌∙◌, ap, is_some}
use Rattle.std.specs.Str.{bytes_eq}
use Rattle.spec_reader.proofs.Lists.{is_some-position}
use Rattle.spec_reader.proofs.atom.word.Goals as goal

pub unwrap-requires : goal.unwrap-requires
unwrap-requires c = ap is_some c.place_of.ensures ∙ is_some-position (λ w. bytes_eq c.args.name.now w.name) c.args.words.now ∙ c.requires.known

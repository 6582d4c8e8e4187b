use Rattle.std.proofs.Common.{◌≡◌, ◌∙◌, sym, inl, inr, true}
use Rattle.std.proofs.lemmas.Bool.{and_parts}
use Rattle.clap.specs.Words.{app_of, is_simple}
use Rattle.settings.specs.Words.{texts}
use Rattle.command_line.specs.Found.{rows_in}
use Rattle.command_line.proofs.FoundLaws.{accepted, refused}
use Rattle.command_line.proofs.find.found.Goals as goal

pub returns-in-Ok : goal.returns-in-Ok
returns-in-Ok c =
    let simple : is_simple (app_of c.args.command) ≡ true = (and_parts _ _ c.requires).0 in
    sym (accepted (app_of c.args.command) (texts c.args.words.now) (rows_in c.in-Ok.matches) (c.in-Ok.ensures.kinds c.requires)
    (c.in-Ok.ensures.matches simple).0)

pub returns : goal.returns
returns c = elim (c.in-Err.ensures.kinds c.requires) [
  | inl memory ↦ absurd (c.in_default.not-OutOfMemory (c.kind.ensures ∙ memory))
  | inr among ↦ sym (refused (app_of c.args.command) (texts c.args.words.now) _ among)
]

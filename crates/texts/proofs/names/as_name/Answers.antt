use Rattle.std.proofs.Common.{sym, ◌∙◌}
use Rattle.texts.proofs.NameLemmas.{whole_is_utf8, ok_since}
use Rattle.texts.proofs.names.as_name.Goals as goal

pub unwrap-requires : goal.unwrap-requires
unwrap-requires c =
    ok_since c.from_utf8.result _ _ c.from_utf8.ensures.cases (λ e h. h.0 (whole_is_utf8 c.args.text.now (sym c.has_name_bytes_only.ensures ∙ c.if-has_name_bytes_only.true)))

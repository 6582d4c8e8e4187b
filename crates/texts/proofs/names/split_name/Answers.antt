use Rattle.std.proofs.Common.{◌≡◌, refl}
use Rattle.std.specs.Str.{IsUtf8}
use Rattle.texts.proofs.NameLemmas.{front_is_utf8, ok_since}
use Rattle.texts.proofs.names.split_name.Goals as goal

pub unwrap-requires : goal.unwrap-requires
unwrap-requires c =
    let text : IsUtf8 c.split_at.result.0.now = rw (c.split_at.ensures.front, c.name_len.ensures.exact) (front_is_utf8 c.args.text.now) in
    ok_since c.from_utf8.result _ _ c.from_utf8.ensures.cases (λ e h. h.0 text)

pub returns-clause-name : goal.returns-clause-name
returns-clause-name c =
    let same : c.unwrap.result.now ≡ c.split_at.result.0.now = (rw c.unwrap.ensures at c.from_utf8.ensures.cases).0 in
    rw (same, c.split_at.ensures.front, c.name_len.ensures.exact) refl

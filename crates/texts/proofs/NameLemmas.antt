-- Names are ASCII, and so text.
use Rattle.std.proofs.Common.{◌≡◌, ℕ, ◌<◌, true, not, ◌&&◌, nat_lt, nat_eq, codes, List, [], ◌∷◌, take, Result, Ok, Err, IsOk, MatchResult, refl, sym, ap, subst, arith, ⊎_elim}
use Rattle.std.specs.List.{list_any, list_all}
use Rattle.std.specs.Str.{IsAscii, IsUtf8}
use Rattle.std.proofs.lemmas.Bool.{ltb-true, and_parts, cases_Bool}
use Rattle.std.proofs.lemmas.Str.{IsUtf8-from_ascii}
use Rattle.std.proofs.lemmas.Str.Ascii.{IsAscii-nil, IsAscii-cons}
use Rattle.circuits.specs.Names.{is_name_byte}
use Rattle.texts.specs.Names.{name_len, front_name}
use Rattle.texts.proofs.Places.{place_later, place_first}

below_127 : (b : ℕ) → is_name_byte b ≡ true → b < 128
below_127 b e = omega (arith, ltb-true b 127 (and_parts (nat_lt 32 b) (nat_lt b 127) (and_parts (nat_lt 32 b && nat_lt b 127) (not (list_any (nat_eq b) (codes "(),=#"))) e).0).1)

whole_is_ascii : (text : List ℕ) → list_all is_name_byte text ≡ true → IsAscii text
whole_is_ascii [] e = IsAscii-nil
whole_is_ascii (b ∷ text) e =
    let parts = and_parts (is_name_byte b) (list_all is_name_byte text) e in
    IsAscii-cons b text (below_127 b parts.0) (whole_is_ascii text parts.1)

front_is_ascii : (text : List ℕ) → IsAscii (front_name text)
front_is_ascii [] = IsAscii-nil
front_is_ascii (b ∷ text) = ⊎_elim
    (λ e. subst (λ n. IsAscii (take n (b ∷ text))) (sym (place_later (λ b. not (is_name_byte b)) b text (ap not e))) (IsAscii-cons b (front_name text) (below_127 b e) (front_is_ascii text)))
    (λ e. subst (λ n. IsAscii (take n (b ∷ text))) (sym (place_first (λ b. not (is_name_byte b)) b text (ap not e))) IsAscii-nil)
    (cases_Bool (is_name_byte b))

pub whole_is_utf8 : (text : List ℕ) → list_all is_name_byte text ≡ true → IsUtf8 text
whole_is_utf8 text e = IsUtf8-from_ascii text (whole_is_ascii text e)

pub front_is_utf8 : (text : List ℕ) → IsUtf8 (front_name text)
front_is_utf8 text = IsUtf8-from_ascii (front_name text) (front_is_ascii text)

pub ok_since : {A E : Type 0} (r : Result A E) (P : A → Type 0) (Q : E → Type 0) → MatchResult r P Q → ((e : E) → Q e → ⊥) → IsOk r
ok_since (Ok x) P Q m h = refl
ok_since (Err e) P Q m h = absurd (h e m)

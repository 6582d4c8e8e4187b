use Rattle.std.proofs.Common.{◌≡◌, [], ◌∷◌, ◌++◌, ℕ, ◌+◌, ◌<◌, ◌≤◌, ◌-◌, ◌^◌, length, set, sym, subst, ap, ◌∙◌, arith}
use Rattle.std.specs.Vec.{vec_capacity}
use Rattle.result_cache.specs.Cache.{Places, kept}
use Rattle.result_cache.specs.CacheInside.{IsSound, places}
use Rattle.result_cache.specs.Place.{place_of}
use Rattle.result_cache.specs.declared.key.CacheKey.{CacheKey}
use Rattle.result_cache.proofs.CacheLaws.{place_within, some_places, number_read, kept_taken, kept_new, sound_new, room_left}
use Rattle.result_cache.proofs.cache.ResultCache.keep.Goals as goal

pub overflow_cast-len : goal.overflow_cast-len
overflow_cast-len c =
    let index = c.self.inside.index.items in
    let is = number_read index c.args.key.now c.place-place.result c.len.result c.index.result.now c.self.invariant.power (c.len.ensures ∙ c.self.inside.index.ok.0) c.place-place.ensures c.index.ensures in
    let within = place_within c.args.key.now (length index) (some_places index c.self.invariant.power) in
    let room = room_left index (place_of c.args.key.now (length index)) within (is ∙ c.if-number-eq0.true) in
    let few : c.len-in-Ok.result < 2 ^ 32 = omega (arith, room, c.self.invariant.taken, c.self.invariant.few, c.len-in-Ok.ensures, c.in-Ok.ensures.len, c.self.inside.entries.ok.0) in
    search (arith, few)

pub invariant_of-self : goal.invariant_of-self
invariant_of-self c =
    let index = c.self.inside.index.items in
    let entries = c.self.inside.entries.items in
    let whole = c.len.ensures ∙ c.self.inside.index.ok.0 in
    let is = number_read index c.args.key.now c.place-place.result c.len.result c.index.result.now c.self.invariant.power whole c.place-place.ensures c.index.ensures in
    let at = c.place-place.ensures ∙ ap (place_of c.args.key.now) whole in
    let within = place_within c.args.key.now (length index) (some_places index c.self.invariant.power) in
    let next : c.len-in-Ok.result ≡ length entries + 1 = omega (arith, c.len-in-Ok.ensures, c.in-Ok.ensures.len, c.self.inside.entries.ok.0) in
    subst (λ (p : ℕ). IsSound (set index p c.len-in-Ok.result) c.push.new.self.items (vec_capacity c.push.new.self)) (sym at)
    (sound_new index entries c.push.new.self.items (vec_capacity c.self.inside.entries) (vec_capacity c.push.new.self) (place_of c.args.key.now (length index)) c.len-in-Ok.result _
    c.self.invariant within (is ∙ c.if-number-eq0.true) c.in-Ok.ensures.items next c.in-Ok.ensures.capacity)

pub returns-in-Ok : goal.returns-in-Ok
returns-in-Ok c =
    let index = c.self.inside.index.items in
    let entries = c.self.inside.entries.items in
    let at = c.place-place.ensures ∙ ap (place_of c.args.key.now) (c.len.ensures ∙ c.self.inside.index.ok.0) in
    let next : c.len-in-Ok.result ≡ length entries + 1 = omega (arith, c.len-in-Ok.ensures, c.in-Ok.ensures.len, c.self.inside.entries.ok.0) in
    let pushed = subst (λ (key : CacheKey). c.push.new.self.items ≡ entries ++ (record { key = key; value = c.args.value } ∷ [])) c.key.ensures c.in-Ok.ensures.items in
    ap (λ (p : ℕ). places (set index p c.len-in-Ok.result) c.push.new.self.items) at
    ∙ kept_new index entries c.push.new.self.items (vec_capacity c.self.inside.entries) c.args.key.now c.args.value c.len-in-Ok.result c.self.invariant pushed next
    ∙ ap (λ (v : Places). kept v c.args.key.now c.args.value) c.self.view_is

pub returns-in_default : goal.returns-in_default
returns-in_default c =
    let index = c.self.inside.index.items in
    let is = number_read index c.args.key.now c.place-place.result c.len.result c.index.result.now c.self.invariant.power (c.len.ensures ∙ c.self.inside.index.ok.0) c.place-place.ensures c.index.ensures in
    let within = place_within c.args.key.now (length index) (some_places index c.self.invariant.power) in
    let room = room_left index (place_of c.args.key.now (length index)) within (is ∙ c.if-number-eq0.true) in
    let full = c.in_default.ensures.full in
    absurd (omega (arith, room, full, c.self.invariant.taken, c.self.invariant.capacious, c.self.inside.entries.ok.0))

pub returns-else-number-eq0 : goal.returns-else-number-eq0
returns-else-number-eq0 c =
    let index = c.self.inside.index.items in
    let entries = c.self.inside.entries.items in
    let is = number_read index c.args.key.now c.place-place.result c.len.result c.index.result.now c.self.invariant.power (c.len.ensures ∙ c.self.inside.index.ok.0) c.place-place.ensures c.index.ensures in
    ap (λ (key : CacheKey). places index (set entries (c.index.result.now - 1) (record { key = key; value = c.args.value }))) c.key.ensures
    ∙ kept_taken index entries _ c.args.key.now c.args.value c.index.result.now c.self.invariant (some_places index c.self.invariant.power) is (omega (arith, c.if-number-eq0.false))
    ∙ ap (λ (v : Places). kept v c.args.key.now c.args.value) c.self.view_is

pub index_mut-requires-else-number-eq0 : goal.index_mut-requires-else-number-eq0
index_mut-requires-else-number-eq0 c =
    let index = c.self.inside.index.items in
    let is = number_read index c.args.key.now c.place-place.result c.len.result c.index.result.now c.self.invariant.power (c.len.ensures ∙ c.self.inside.index.ok.0) c.place-place.ensures c.index.ensures in
    let bound = subst (λ (m : ℕ). m ≤ length c.self.inside.entries.items) is (c.self.invariant.ids (place_of c.args.key.now (length index))) in
    omega (arith, bound, c.if-number-eq0.false, c.self.inside.entries.ok.0)

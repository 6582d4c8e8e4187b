use Rattle.std.proofs.Common.{ℕ, ◌≤◌, length, sym, subst, ap, ◌∙◌, arith}
use Rattle.std.proofs.lemmas.Bool.{and_parts, and_from, eqb-true, eq-eqb, false≢true}
use Rattle.std.proofs.lemmas.Slice.Eq.{bytes_eq-Decides}
use Rattle.result_cache.specs.Cache.{Places, Holds}
use Rattle.result_cache.specs.Place.{place_of}
use Rattle.result_cache.proofs.CacheLaws.{some_places, number_read, nothing_read, entry_read, same_key, value_read, other_read}
use Rattle.result_cache.proofs.cache.ResultCache.look.Goals as goal

pub returns-then-number-eq0 : goal.returns-then-number-eq0
returns-then-number-eq0 c = λ value h.
    let index = c.self.inside.index.items in
    let key = c.args.key.now in
    let is = number_read index key c.place-place.result c.len.result c.index.result.now c.self.invariant.power (c.len.ensures ∙ c.self.inside.index.ok.0) c.place-place.ensures c.index.ensures in
    nothing_read index c.self.inside.entries.items key value (some_places index c.self.invariant.power) (is ∙ c.if-number-eq0.true)
    (subst (λ (v : Places). Holds v key value) (sym c.self.view_is) h)

pub returns-then-eq : goal.returns-then-eq
returns-then-eq c =
    let index = c.self.inside.index.items in
    let entries = c.self.inside.entries.items in
    let key = c.args.key.now in
    let entry = c.index-entry.result.now in
    let n = c.index.result.now in
    let is = number_read index key c.place-place.result c.len.result n c.self.invariant.power (c.len.ensures ∙ c.self.inside.index.ok.0) c.place-place.ensures c.index.ensures in
    let bound = subst (λ (m : ℕ). m ≤ length entries) is (c.self.invariant.ids (place_of key (length index))) in
    let read = entry_read index entries key entry n (some_places index c.self.invariant.power) is (omega (arith, c.if-number-eq0.false)) bound c.index-entry.ensures in
    let all = and_parts _ _ (sym c.if-eq.ensures) in
    let rest = and_parts _ _ all.1 in
    let same = same_key entry.key c.key.result.now (eqb-true _ _ all.0) ((bytes_eq-Decides _ _).0 rest.0) ((bytes_eq-Decides _ _).0 rest.1) ∙ c.key.ensures in
    subst (λ (v : Places). Holds v key entry.value) c.self.view_is (value_read _ key entry read same)

pub returns-else-eq : goal.returns-else-eq
returns-else-eq c = λ value h.
    let index = c.self.inside.index.items in
    let entries = c.self.inside.entries.items in
    let key = c.args.key.now in
    let entry = c.index-entry.result.now in
    let n = c.index.result.now in
    let is = number_read index key c.place-place.result c.len.result n c.self.invariant.power (c.len.ensures ∙ c.self.inside.index.ok.0) c.place-place.ensures c.index.ensures in
    let bound = subst (λ (m : ℕ). m ≤ length entries) is (c.self.invariant.ids (place_of key (length index))) in
    let read = entry_read index entries key entry n (some_places index c.self.invariant.power) is (omega (arith, c.if-number-eq0.false)) bound c.index-entry.ensures in
    let same = other_read _ key entry value read (subst (λ (v : Places). Holds v key value) (sym c.self.view_is) h) ∙ sym c.key.ensures in
    let found = c.key.result.now in
    false≢true (c.if-eq.ensures
    ∙ and_from _ _ (eq-eqb entry.key.op found.op (ap (λ k. k.op) same))
    (and_from _ _ ((bytes_eq-Decides entry.key.first found.first).1 (ap (λ k. k.first) same)) ((bytes_eq-Decides entry.key.second found.second).1 (ap (λ k. k.second) same))))

use Rattle.std.proofs.Common.{◌≡◌, ◌+◌, ◌-◌, ◌<◌, ◌++◌, [], ◌∷◌, List, ℕ, ap, sym, subst, ◌∙◌, arith, Ok, Err, length, slice_get, get_or}
use Rattle.record_store.specs.Buckets.{IsReached}
use Rattle.record_store.specs.Interns.{Interns}
use Rattle.record_store.specs.Probe.{IsNew}
use Rattle.record_store.specs.Solo.{Solo, solo_view}
use Rattle.record_store.specs.StoreView.{HasBody}
use Rattle.record_store.proofs.PushLaws.{sound_push}
use Rattle.record_store.proofs.SoloLaws.{has_at, has_new, interns_known, interns_full, interns_new}
use Rattle.record_store.proofs.solo.SoloStoreStore.intern.Goals as goal

pub returns-in-Known-clause-interns : goal.returns-in-Known-clause-interns
returns-in-Known-clause-interns c =
    let s : Solo = record { bodies = c.self.inside.bodies.items; cells = c.self.inside.cells } in
    let held = c.self.invariant in
    let is = ap (λ bs. slice_get bs (c.in-Known.id - 1)) (sym c.deref-2.ensures.value) ∙ c.in-Known.ensures.1 in
    subst (λ v. Interns (solo_view v) (solo_view v) c.args.body.now (Ok c.in-Known.id)) c.self.view_is
    (interns_known s c.args.body.now c.in-Known.id held.index.distinct held.within c.in-Known.ensures.0 is)

-- the body was known
was_known : (c : goal.In-Known) → HasBody (solo_view c.args.self.now) c.args.body.now
was_known c =
    let s : Solo = record { bodies = c.self.inside.bodies.items; cells = c.self.inside.cells } in
    let is = ap (λ bs. slice_get bs (c.in-Known.id - 1)) (sym c.deref-2.ensures.value) ∙ c.in-Known.ensures.1 in
    subst (λ v. HasBody (solo_view v) c.args.body.now) c.self.view_is (has_at s (c.in-Known.id - 1) c.args.body.now is)

pub returns-in-Known-clause-added : goal.returns-in-Known-clause-added
returns-in-Known-clause-added c can = absurd (can.0 (was_known c))

pub returns-in-Known-clause-full : goal.returns-in-Known-clause-full
returns-in-Known-clause-full c is = absurd (is.0 (was_known c))

pub returns-then-len-self-clause-interns : goal.returns-then-len-self-clause-interns
returns-then-len-self-clause-interns c =
    let s : Solo = record { bodies = c.self.inside.bodies.items; cells = c.self.inside.cells } in
    let new = subst (λ bs. IsNew bs c.args.body.now) c.deref-2.ensures.value c.in-Empty.ensures.3 in
    let full : length s.bodies ≡ s.cells = sym (c.len.ensures ∙ c.self.inside.bodies.ok.0) ∙ c.if-len-self.true in
    subst (λ v. Interns (solo_view v) (solo_view v) c.args.body.now (Err (record {}))) c.self.view_is
    (interns_full s c.args.body.now new full)

pub invariant_of-self : goal.invariant_of-self
invariant_of-self c =
    let held = c.self.invariant in
    let values = c.deref.ensures.value in
    let new = subst (λ bs. IsNew bs c.args.body.now) c.deref-2.ensures.value c.in-Empty.ensures.3 in
    let within = subst (λ bs. c.in-Empty.bucket < length bs) values c.in-Empty.ensures.0 in
    let empty = subst (λ bs. get_or bs c.in-Empty.bucket 0 ≡ 0) values c.in-Empty.ensures.1 in
    let reached = subst (λ bs. IsReached bs c.args.body.now c.in-Empty.bucket) values c.in-Empty.ensures.2 in
    let below : length c.self.inside.bodies.items < c.self.inside.cells = omega (arith, c.len.ensures, c.self.inside.bodies.ok.0, held.within, c.if-len-self.false) in
    sound_push c.self.inside.buckets.items c.self.inside.bodies.items c.push.new.self.items c.args.body.now c.in-Empty.bucket c.len-id.result c.self.inside.cells _ _
    held within empty reached new below (omega (arith, c.len-id.ensures, c.in-Ok.ensures.len, c.self.inside.bodies.ok.0)) c.in-Ok.ensures.items c.in-Ok.ensures.capacity

pub returns-in-Ok-clause-interns : goal.returns-in-Ok-clause-interns
returns-in-Ok-clause-interns c =
    let s : Solo = record { bodies = c.self.inside.bodies.items; cells = c.self.inside.cells } in
    let held = c.self.invariant in
    let new = subst (λ bs. IsNew bs c.args.body.now) c.deref-2.ensures.value c.in-Empty.ensures.3 in
    let below : length s.bodies < s.cells = omega (arith, c.len.ensures, c.self.inside.bodies.ok.0, held.within, c.if-len-self.false) in
    let next : length s.bodies + 1 ≡ c.len-id.result = omega (arith, c.len-id.ensures, c.in-Ok.ensures.len, c.self.inside.bodies.ok.0) in
    let after : List (List ℕ) → Solo = λ bs. record { bodies = bs; cells = c.self.inside.cells } in
    subst (λ v. Interns (solo_view v) (solo_view (after c.push.new.self.items)) c.args.body.now (Ok c.len-id.result)) c.self.view_is
    (subst (λ bs. Interns (solo_view s) (solo_view (after bs)) c.args.body.now (Ok c.len-id.result)) (sym c.in-Ok.ensures.items)
    (subst (λ id. Interns (solo_view s) (solo_view (after (s.bodies ++ c.args.body.now ∷ []))) c.args.body.now (Ok id)) next
    (interns_new s c.args.body.now new below)))

pub returns-in-Ok-clause-known : goal.returns-in-Ok-clause-known
returns-in-Ok-clause-known c known =
    let s : Solo = record { bodies = c.self.inside.bodies.items; cells = c.self.inside.cells } in
    let new = subst (λ bs. IsNew bs c.args.body.now) c.deref-2.ensures.value c.in-Empty.ensures.3 in
    absurd (has_new s c.args.body.now new (subst (λ v. HasBody (solo_view v) c.args.body.now) (sym c.self.view_is) known))

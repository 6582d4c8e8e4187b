-- Chains of calls that wait in frames: the innermost frame, and how far a walk is.
use Rattle.std.proofs.Common.{◌≡◌, refl, sym, ◌∙◌, ap, subst, ℕ, zero, suc, ◌+◌, ◌-◌, ◌*◌, ◌^◌, ◌<◌, ◌≤◌, Bool, true, false, List, [], ◌∷◌, ◌++◌, length, arith, suc-mul}
use Rattle.std.proofs.Math.ListN.{get_or, take, set}
use Rattle.std.proofs.Math.Seq.{set-append_seam, take-length, take-append_seam}
use Rattle.std.proofs.lemmas.List.{take_more, length-append}
use Rattle.std.proofs.lemmas.Nat.{mul-le}
use native.Mathlib.Numerals.{unary_clauses}
use Rattle.diagram.specs.Frames.{Chain, Climbs, cost, fuel, rest_of}

-- a call waits in a new frame for the next
pub chain_push : {T F : Type 0} (Waits : T → F → T → Type 0) (outer middle inner : T) (fs : List F) (f : F) → Chain Waits outer fs middle → Waits middle f inner →
    Chain Waits outer (fs ++ f ∷ []) inner
chain_push {T} Waits outer middle inner [] f same waits = (inner, subst (λ (t : T). Waits t f inner) (sym same) waits, refl)
chain_push {T} Waits outer middle inner (g ∷ fs) f (next, here, rest) waits = (next, here, chain_push Waits next middle inner fs f rest waits)

-- the innermost frame
pub record Innermost {T F : Type 0} (Waits : T → F → T → Type 0) (outer : T) (fs : List F) (f : F) (inner : T) : Type 0 where
  pub middle : T
  pub chain : Chain Waits outer fs middle
  pub waits : Waits middle f inner

pub chain_pop : {T F : Type 0} (Waits : T → F → T → Type 0) (outer inner : T) (fs : List F) (f : F) → Chain Waits outer (fs ++ f ∷ []) inner →
    Innermost Waits outer fs f inner
chain_pop {T} Waits outer inner [] f (next, here, same) = record { middle = outer; chain = refl; waits = subst (λ (t : T). Waits outer f t) same here }
chain_pop {T} Waits outer inner (g ∷ fs) f (next, here, rest) =
    let last = chain_pop Waits next inner fs f rest in
    record { middle = last.middle; chain = (next, here, last.chain); waits = last.waits }

-- what is handed on by each frame is handed on by all
pub chain_hands_on : {T F : Type 0} (Waits : T → F → T → Type 0) (Is : T → Type 0) → ((outer inner : T) (f : F) → Waits outer f inner → Is inner → Is outer) →
    (outer inner : T) (fs : List F) → Chain Waits outer fs inner → Is inner → Is outer
chain_hands_on Waits Is step outer inner [] same is = subst Is (sym same) is
chain_hands_on Waits Is step outer inner (f ∷ fs) (next, here, rest) is = step outer next f here (chain_hands_on Waits Is step next inner fs rest is)

-- ---- lists of frames
pub longer : {A : Type 0} (frames : List A) (f : A) → length (frames ++ f ∷ []) ≡ length frames + 1
longer frames f = omega (arith, length-append frames (f ∷ []))

-- where no frame waits the innermost call is the outermost one
pub no_frames : {T F : Type 0} (Waits : T → F → T → Type 0) (outer inner : T) (fs : List F) → length fs ≡ 0 → Chain Waits outer fs inner → outer ≡ inner
no_frames Waits outer inner [] none chain = chain
no_frames Waits outer inner (f ∷ fs) none chain = absurd (omega arith)

-- the frames are those below the innermost one, and it
last_frame : {A : Type 0} (frames : List A) (f : A) → 0 < length frames → f ≡ get_or frames (length frames - 1) f →
    frames ≡ take (length frames - 1) frames ++ f ∷ []
last_frame {A} frames f some is =
    let n = length frames - 1 in
    let less : n < length frames = omega arith in
    let whole : n + 1 ≡ length frames = omega arith in
    let all = take_more frames n f less in
    sym (take-length frames) ∙ ap (λ (m : ℕ). take m frames) (sym whole) ∙ all ∙ ap (λ (g : A). take n frames ++ g ∷ []) (sym is)

pub last_of : {A : Type 0} (frames : List A) (f : A) (waiting : ℕ) → waiting ≡ length frames → (waiting ≡ 0 → ⊥) → f ≡ get_or frames (waiting - 1) f →
    frames ≡ take (length frames - 1) frames ++ f ∷ []
last_of frames f waiting count some is =
    let many : 0 < length frames = omega (arith, some) in
    last_frame frames f many (is ∙ ap (λ (n : ℕ). get_or frames (n - 1) f) count)

-- the innermost frame is written anew
changed_frames : {A : Type 0} (frames rest : List A) (f g : A) → frames ≡ rest ++ f ∷ [] → set frames (length frames - 1) g ≡ rest ++ g ∷ []
changed_frames {A} frames rest f g are =
    let last : length frames - 1 ≡ length rest = omega (arith, ap length are, longer rest f) in
    ap (λ (n : ℕ). set frames n g) last ∙ ap (λ (fs : List A). set fs (length rest) g) are ∙ set-append_seam rest f [] g

pub written_frames : {A : Type 0} (frames new rest : List A) (f g : A) (waiting : ℕ) → frames ≡ rest ++ f ∷ [] → waiting ≡ length frames → new ≡ set frames (waiting - 1) g →
    new ≡ rest ++ g ∷ []
written_frames {A} frames new rest f g waiting are is written = written ∙ ap (λ (n : ℕ). set frames (n - 1) g) is ∙ changed_frames frames rest f g are

-- and then it is taken away
popped_rest : {A : Type 0} (frames rest : List A) (f g : A) → frames ≡ rest ++ f ∷ [] → take (length frames - 1) (set frames (length frames - 1) g) ≡ rest
popped_rest {A} frames rest f g are =
    let last : length frames - 1 ≡ length rest = omega (arith, ap length are, longer rest f) in
    ap (λ (n : ℕ). take n (set frames (length frames - 1) g)) last ∙ ap (take (length rest)) (changed_frames frames rest f g are) ∙ take-append_seam rest (g ∷ [])

pub popped_frames : {A : Type 0} (frames new rest : List A) (f g : A) (waiting : ℕ) → frames ≡ rest ++ f ∷ [] → waiting ≡ length frames →
    new ≡ take (waiting - 1) (set frames (waiting - 1) g) → new ≡ rest
popped_frames {A} frames new rest f g waiting are is popped = popped ∙ ap (λ (n : ℕ). take (n - 1) (set frames (n - 1) g)) is ∙ popped_rest frames rest f g are

-- ---- levels
pub climbs_push : {F : Type 0} (level : F → ℕ) (place : ℕ) (fs : List F) (f : F) → Climbs level place fs → place + length fs ≤ level f → Climbs level place (fs ++ f ∷ [])
climbs_push level place [] f climbs high = (omega arith, tt)
climbs_push level place (g ∷ fs) f (here, rest) high = let next : place + 1 + length fs ≤ level f = omega arith in (here, climbs_push level (place + 1) fs f rest next)

pub climbs_pop : {F : Type 0} (level : F → ℕ) (place : ℕ) (fs : List F) (f : F) → Climbs level place (fs ++ f ∷ []) → Climbs level place fs × (place + length fs ≤ level f)
climbs_pop level place [] f (here, rest) = (tt, omega arith)
climbs_pop level place (g ∷ fs) f (here, rest) = let last = climbs_pop level (place + 1) fs f rest in ((here, last.0), omega (arith, last.1))

-- ---- steps
sums : (a b c : ℕ) → a + (b + c) ≡ (a + b) + c
sums a b c = omega arith

pub fuel_push : {F : Type 0} (level rest : F → ℕ) (levels : ℕ) (fs : List F) (f : F) →
    fuel level rest levels (fs ++ f ∷ []) ≡ fuel level rest levels fs + (rest f * (cost levels (level f + 1) + 1) + 1)
fuel_push level rest levels [] f = omega arith
fuel_push level rest levels (g ∷ fs) f =
    let last = fuel_push level rest levels fs f in
    let here = rest g * (cost levels (level g + 1) + 1) + 1 in
    let more = rest f * (cost levels (level f + 1) + 1) + 1 in
    ap (λ (n : ℕ). here + n) last ∙ sums here (fuel level rest levels fs) more

-- ---- costs
power_next : (m : ℕ) → 6 ^ suc m ≡ 6 * 6 ^ m
power_next m = simp unary_clauses (omega arith)

some_power : (m : ℕ) → 1 ≤ 6 ^ m
some_power zero = simp unary_clauses (omega arith)
some_power (suc m) = let p = some_power m in omega (arith, power_next m)

more_power : (m n : ℕ) → 6 ^ n ≤ 6 ^ (m + n)
more_power zero n = let same : 0 + n ≡ n = omega arith in subst (λ (k : ℕ). 6 ^ n ≤ 6 ^ k) (sym same) (omega arith)
more_power (suc m) n =
    let p = more_power m n in
    let same : suc m + n ≡ suc (m + n) = omega arith in
    subst (λ (k : ℕ). 6 ^ n ≤ 6 ^ k) (sym same) (omega (arith, power_next (m + n)))

-- a call deeper down takes no more
pub cost_falls : (levels here there : ℕ) → here ≤ there → cost levels there ≤ cost levels here
cost_falls levels here there down =
    let gap = (levels + 1 - here) - (levels + 1 - there) in
    let same : gap + (levels + 1 - there) ≡ levels + 1 - here = omega arith in
    subst (λ (n : ℕ). cost levels there ≤ 6 ^ n) same (more_power gap (levels + 1 - there))

-- and one level down it takes a sixth
pub cost_below : (levels level : ℕ) → level ≤ levels → cost levels level ≡ 6 * cost levels (level + 1)
cost_below levels level within =
    let same : levels + 1 - level ≡ suc (levels + 1 - (level + 1)) = omega arith in
    ap (λ (n : ℕ). 6 ^ n) same ∙ power_next (levels + 1 - (level + 1))

pub cost_some : (levels level : ℕ) → 1 ≤ cost levels level
cost_some levels level = some_power (levels + 1 - level)

-- ---- each step leaves fewer
parts_fall : (m n c : ℕ) → m < n → m * c + c ≤ n * c
parts_fall m n c less =
    let grown : suc m ≤ n = omega arith in
    let same : c ≤ c = omega arith in
    subst (λ (x : ℕ). x ≤ n * c) (suc-mul m c) (mul-le (suc m) c n c grown same)

few_begun : (u p c d t e : ℕ) → p ≤ 3 * (c + 1) → d ≡ 6 * c → c ≡ 6 * e → 1 ≤ e → t ≤ c → u + (p + 1) + t < u + d
few_begun u p c d t e few sixth again some small = omega arith

few_changed : (u p q c t : ℕ) → p + (c + 1) ≤ q → t ≤ c → u + (p + 1) + t < u + (q + 1)
few_changed u p q c t less small = omega arith

few_popped : (u p : ℕ) → u < u + (p + 1)
few_popped u p = omega arith

-- a call waits in a new frame, with three parts to come at most
pub fewer_pushed : {F : Type 0} (level rest : F → ℕ) (frames : List F) (f : F) (levels top : ℕ) → rest f ≤ 3 → level f < levels → level f < top →
    fuel level rest levels (frames ++ f ∷ []) + cost levels top < fuel level rest levels frames + cost levels (level f)
fewer_pushed level rest frames f levels top few within deeper =
    let here = level f in
    let u = fuel level rest levels frames in
    let at : here ≤ levels = omega arith in
    let next : here + 1 ≤ levels = omega arith in
    let down : here + 1 ≤ top = omega arith in
    let c = cost levels (here + 1) in
    let same : c + 1 ≤ c + 1 = omega arith in
    subst (λ (n : ℕ). n + cost levels top < u + cost levels here) (sym (fuel_push level rest levels frames f))
    (few_begun u (rest f * (c + 1)) c (cost levels here) (cost levels top) (cost levels (here + 1 + 1)) (mul-le (rest f) (c + 1) 3 (c + 1) few same)
    (cost_below levels here at) (cost_below levels (here + 1) next) (cost_some levels (here + 1 + 1)) (cost_falls levels (here + 1) top down))

-- of two parts the first is known
pub one_fewer : (before after : Bool) → before ≡ false → after ≡ true → rest_of after < rest_of before
one_fewer before after not yet = omega (arith, ap rest_of not, ap rest_of yet)

-- it begins one of the parts
pub fewer_changed : {F : Type 0} (level rest : F → ℕ) (frames new under : List F) (f g : F) (levels top : ℕ) → frames ≡ under ++ f ∷ [] → new ≡ under ++ g ∷ [] →
    level g ≡ level f → rest g < rest f → level f < top → fuel level rest levels new + cost levels top < fuel level rest levels frames
fewer_changed {F} level rest frames new under f g levels top before after same less deeper =
    let u = fuel level rest levels under in
    let c = cost levels (level f + 1) in
    let down : level f + 1 ≤ top = omega arith in
    let first : fuel level rest levels frames ≡ u + (rest f * (c + 1) + 1) = ap (fuel level rest levels) before ∙ fuel_push level rest levels under f in
    let second : fuel level rest levels new ≡ u + (rest g * (c + 1) + 1) =
    ap (fuel level rest levels) after ∙ fuel_push level rest levels under g ∙ ap (λ (l : ℕ). u + (rest g * (cost levels (l + 1) + 1) + 1)) same in
    subst (λ (n : ℕ). fuel level rest levels new + cost levels top < n) (sym first)
    (subst (λ (n : ℕ). n + cost levels top < u + (rest f * (c + 1) + 1)) (sym second)
    (few_changed u (rest g * (c + 1)) (rest f * (c + 1)) c (cost levels top) (parts_fall (rest g) (rest f) (c + 1) less) (cost_falls levels (level f + 1) top down)))

-- it is answered
pub fewer_popped : {F : Type 0} (level rest : F → ℕ) (frames new : List F) (f : F) (levels : ℕ) → frames ≡ new ++ f ∷ [] →
    fuel level rest levels new < fuel level rest levels frames
fewer_popped {F} level rest frames new f levels before =
    subst (λ (n : ℕ). fuel level rest levels new < n) (sym (ap (fuel level rest levels) before ∙ fuel_push level rest levels new f))
    (few_popped (fuel level rest levels new) (rest f * (cost levels (level f + 1) + 1)))

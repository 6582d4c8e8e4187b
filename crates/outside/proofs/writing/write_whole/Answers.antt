use Rattle.std.proofs.Common.{◌≡◌, ℕ, ◌-◌, List, ◌++◌, Option, length, take, drop, sym, ap, ◌∙◌, subst, arith, append_assoc, take-append-drop, Bor}
use Rattle.std.proofs.lemmas.List.{length-append, take_rest}
use Rattle.std.proofs.Math.Seq.{take-append_seam}
use Rattle.std.specs.Io.KnownBytes.{Appends}
use Rattle.std.proofs.KnownBytes.{Appends-trans, Appends-kept}
use Rattle.outside.specs.Sink.{AppendsPrefix}
use Rattle.outside.proofs.writing.write_whole.Goals as goal
use Rattle.outside.proofs.writing.write_whole.Goals.{in-Ok, in-Err+else-ne}

-- what was written is the front of the bytes
front-written : (old now : Option (List ℕ)) (bytes done rest : List ℕ) → bytes ≡ done ++ rest → Appends old now done → AppendsPrefix old now bytes
front-written old now bytes done rest split written = record {
  count = length done;
  within = let size = ap length split ∙ length-append done rest in omega arith;
  appended = subst (Appends old now) (sym (ap (take (length done)) split ∙ take-append_seam done rest)) written;
}

-- the next n bytes go over to what was written
moves_on : (bytes done rest : List ℕ) (n : ℕ) → bytes ≡ done ++ rest → bytes ≡ (done ++ take n rest) ++ drop n rest
moves_on bytes done rest n split =
    split ∙ ap (λ l. done ++ l) (sym (take-append-drop n rest)) ∙ sym (append_assoc done (take n rest) (drop n rest))

-- they go over, and the part behind them is left
moves_to_part : (bytes done rest : List ℕ) (n : ℕ) → bytes ≡ done ++ rest →
    bytes ≡ (done ++ take n rest) ++ take (length rest - n) (drop n rest)
moves_to_part bytes done rest n split =
    moves_on bytes done rest n split ∙ ap (λ l. (done ++ take n rest) ++ l) (sym (take_rest rest n))

pub returns-in-Ok-eq0-clause-err : goal.returns-in-Ok-eq0-clause-err
returns-in-Ok-eq0-clause-err g c =
    let (done, split, written) = c.loop.invariant in
    front-written _ _ _ _ _ (moves_on _ _ _ c.in-Ok-eq0.field-0 split) (Appends-trans _ _ _ _ _ written c.in-Ok-eq0.ensures.bytes)

pub returns-then-ne-clause-err : goal.returns-then-ne-clause-err
returns-then-ne-clause-err g c =
    let (done, split, written) = c.loop.invariant in
    front-written _ _ _ _ _ split (Appends-kept _ _ _ _ written c.in-Err.ensures.bytes)

pub loop-preserved : goal.loop-preserved
loop-preserved g c =
    let (done, split, written) = c.loop.invariant in
    let rest = c.loop.rest.now in
    elim c.match-write.branch [
      | in-Ok w ↦
          let n = w.in-Ok.taken in (
            done ++ take n rest,
            moves_to_part _ _ _ n split ∙ ap (λ (r : Bor (List ℕ)). (done ++ take n rest) ++ r.now) (sym w.rest-is),
            Appends-trans _ _ _ _ _ written w.in-Ok.ensures.bytes,
          )
      | in-Err+else-ne w ↦ (
        done,
        split ∙ ap (λ (r : Bor (List ℕ)). done ++ r.now) (sym w.rest-is),
        Appends-kept _ _ _ _ written w.in-Err.ensures.bytes,
      )
    ]

pub returns-clause-err : goal.returns-clause-err
returns-clause-err g c =
    let (done, split, written) = c.loop.invariant in
    front-written _ _ _ _ _ split written

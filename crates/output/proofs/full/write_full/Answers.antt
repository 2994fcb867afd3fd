-- A failed write leaves what the writes before it appended, which is a beginning; another write appends more of the bytes.
use Rattle.std.proofs.Common.{◌≡◌, ℕ, ◌-◌, List, ◌++◌, rules, length, take, drop, sym, ap, ◌∙◌, subst, append_assoc, take-append-drop}
use Rattle.std.proofs.lemmas.List.{take_rest}
use Rattle.std.proofs.lemmas.Result.{MatchResult-at_ok}
use Rattle.std.proofs.KnownBytes.{Appends-nil, Appends-kept, Appends-trans}
use Rattle.output.specs.Appending.{AppendsBeginning}
use Rattle.output.proofs.Beginnings.{beginning_after}
use Rattle.output.proofs.full.write_full.Goals as goal

moves_front : (all done rest : List ℕ) (n : ℕ) → all ≡ done ++ rest → all ≡ (done ++ take n rest) ++ take (length rest - n) (drop n rest)
moves_front all done rest n e =
    e ∙ ap (λ l. done ++ l) (sym (take-append-drop n rest)) ∙ sym (append_assoc done (take n rest) (drop n rest)) ∙ ap (λ l. (done ++ take n rest) ++ l) (sym (take_rest rest n))

pub loop-rest-preserved-in-Ok : goal.loop-rest-preserved-in-Ok
loop-rest-preserved-in-Ok g c =
    let (done, split, appended) = c.loop-rest.invariant in
    (done ++ take c.in-Ok.n c.loop-rest.rest.now, moves_front _ done _ c.in-Ok.n split, Appends-trans _ _ _ _ _ appended c.in-Ok.ensures.bytes)

pub returns-in-Ok-eq0 : goal.returns-in-Ok-eq0
returns-in-Ok-eq0 g c =
    let (done, split, appended) = c.loop-rest.invariant in
    subst (AppendsBeginning _ _) (sym split) (beginning_after _ _ _ done c.loop-rest.rest.now appended (_, search rules, MatchResult-at_ok _ _ _ c.in-Ok-eq0.is c.write.ensures.bytes))

pub returns-in-Err-2 : goal.returns-in-Err-2
returns-in-Err-2 g c =
    let (done, split, appended) = c.loop-rest.invariant in
    subst (AppendsBeginning _ _) (sym split)
    (beginning_after _ _ _ done c.loop-rest.rest.now appended (0, search rules, Appends-kept _ _ _ _ (Appends-nil _) c.in-Err-2.ensures.bytes))

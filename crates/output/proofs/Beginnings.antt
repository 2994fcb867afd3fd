-- A beginning of a text that was written after another text, or before more of it. Assumes nothing.
use Prim.Native.Nat.{ℕ, ◌+◌}
use mathlib.Core.Path.{sym, subst}
use mathlib.Core.List.{List, ◌++◌}
use lib.ListN.{length, length-append}
use lib.Seq.{take-append-add, take-append-le}
use native.Mathlib.Omega.{arith}
use Rattle.std.specs.declared.option.Option.{Option}
use Rattle.std.specs.declared.result.Result.{Result}
use Rattle.std.specs.Io.KnownBytes.{Appends}
use Rattle.std.proofs.KnownBytes.{Appends-trans}
use Rattle.std.proofs.lemmas.Result.{MatchResult-weaker}
use Rattle.output.specs.Appending.{AppendsBeginning, Appended}

-- It is a beginning of a longer text.
pub beginning_of_more : (old now : Option (List ℕ)) (text more : List ℕ) → AppendsBeginning old now text → AppendsBeginning old now (text ++ more)
beginning_of_more old now text more b =
    (b.0, omega (arith, length-append text more, b.1), subst (Appends old now) (sym (take-append-le b.0 text more (omega (arith, b.1)))) b.2)

module _ (old mid now : Option (List ℕ)) (done text : List ℕ) (a : Appends old mid done) where
  -- With what was written before, it is a beginning of both.
  pub beginning_after : AppendsBeginning mid now text → AppendsBeginning old now (done ++ text)
  beginning_after b = (
    length done + b.0,
    omega (arith, length-append done text, b.1),
    subst (Appends old now) (sym (take-append-add done text b.0)) (Appends-trans old mid now done _ a b.2),
  )

  pub appended_after : {T E : Type 0} (r : Result T E) → Appended mid now r text → Appended old now r (done ++ text)
  appended_after r w = MatchResult-weaker r w (λ _. Appends-trans old mid now done text a) (λ _. beginning_after)

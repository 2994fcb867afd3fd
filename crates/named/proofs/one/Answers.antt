-- At most one call was made.
use Rattle.std.proofs.Common.{rules, refl}
use Rattle.std.proofs.lemmas.Fn.{called_at}
use Rattle.named.proofs.Handing.{none_handed, one_handed}
use Rattle.named.proofs.one.Goals as goal

pub returns-in_err-println-clause-handed : goal.returns-in_err-println-clause-handed
returns-in_err-println-clause-handed g c = none_handed _ _ _ _

pub returns-in_err-n-in-Ok-clause-handed : goal.returns-in_err-n-in-Ok-clause-handed
returns-in_err-n-in-Ok-clause-handed g c = none_handed _ _ _ _

pub returns-in_ok-n-in-Ok-clause-handed : goal.returns-in_ok-n-in-Ok-clause-handed
returns-in_ok-n-in-Ok-clause-handed g c = one_handed _ _ _ _ _ _ (search rules) (called_at g.F.FnMut c.take.ensures refl)

pub returns-in-Err-clause-handed : goal.returns-in-Err-clause-handed
returns-in-Err-clause-handed g c = none_handed _ _ _ _

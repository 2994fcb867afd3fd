-- The file that is handed over comes after those before it.
use Rattle.std.proofs.Common.{rules}
use Rattle.named.proofs.Handing.{handed_on, taken_on}
use Rattle.named.proofs.each.Goals as goal

pub returns-in_err-one-in-Ok-clause-handed : goal.returns-in_err-one-in-Ok-clause-handed
returns-in_err-one-in-Ok-clause-handed g c = handed_on _ _ _ _ _ _ _ _ (search rules) (search rules) c.loop-i.invariant.1 c.one.ensures.handed

pub loop-i-preserved : goal.loop-i-preserved
loop-i-preserved g c = (c.one.ensures.callable, taken_on _ _ _ _ _ _ (search rules) c.loop-i.invariant.1 c.in_ok-one-in-Ok.ensures.handed)

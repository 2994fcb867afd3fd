-- Where no record failed, nothing is put.
use Rattle.std.proofs.Common.{arith}
use Rattle.text.proofs.Pages.{still, widen}
use Rattle.listing.proofs.end_line.Goals as goal

pub returns-in_default : goal.returns-in_default
returns-in_default c = rw c.in_default.is (widen (still c.args.page.now (omega arith)) (omega arith))

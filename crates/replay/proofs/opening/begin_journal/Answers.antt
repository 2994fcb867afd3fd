-- An accepted description puts nothing on the page.
use Rattle.std.specs.Prelude.{[], true, Ok}
use native.Mathlib.Omega.{arith}
use Rattle.text.proofs.Pages.{still}
use Rattle.replay.proofs.Ending.{begun_opened}
use Rattle.replay.proofs.Replaying.{replied_so}
use Rattle.replay.proofs.opening.begin_journal.Goals as goal

pub returns-in-Ok : goal.returns-in-Ok
returns-in-Ok c =
    let o = c.open_journal-o.result in
    replied_so _ _ [] o.state o.place 0 true _ c.new-page.ensures (still c.new-page.result (omega arith)) (omega arith) c.len-in-Ok.ensures
    (begun_opened c.args.s.now o (Ok tt) c.if-s-gt-LONGEST.false c.open_journal-o.ensures c.in-Ok.is)
    c.begun-in-Ok.ensures

-- A WI that is whole stands within the bytes, and a record that was read is what is asked. Assumes nothing.
use Rattle.std.proofs.Common.{refl, arith}
use Rattle.replay.proofs.Records.{watches_onward}
use Rattle.planning_times.proofs.watch_once.Goals as goal

pub windows_at-reply-requires : goal.windows_at-reply-requires
windows_at-reply-requires c = let w = watches_onward c.args.bytes.now 0 _ c.in-Watches.ensures _ refl in omega (arith, w.0, w.1)

-- `replay::next_record` meets its contract. Assumes nothing.
use Rattle.replay.proofs.Replaying.{one_record, replied_as}
use Rattle.replay.proofs.page.next_record.Goals as goal

pub returns : goal.returns
returns c = replied_as (one_record c.args.k c.args.state c.args.s.now c.args.at) c.replies.ensures

-- What printing the calls of a book leaves. Assumes nothing.
use Rattle.std.specs.Prelude.{ℕ, ◌≡◌, List}
use Rattle.model.specs.declared.Balance.{Balance}
use Rattle.record.specs.Calls.{calls_of}
use Rattle.calls.specs.declared.Ran.{Ran}
use Rattle.calls.specs.Running.{ran}
use Rattle.text.specs.declared.Page.{Page}
use Rattle.text.specs.Page.{Puts}
use Rattle.listing.specs.Listing.{call_lines}

-- The call lines are put on the page, and what is handed back is what running the calls gives: how they end, and the balance after them.
pub record Printed (s : List ℕ) (at : ℕ) (b : Balance) (old new : Page) (r : Ran) : Type 0 where
  pub lines : Puts 1048576 old (call_lines 1 b (calls_of s at)) new
  pub ran : r ≡ ran s at b

-- What is on the page and what the calls that are left put there are all call lines, and the balance stays sound. Each record takes bytes.
use Rattle.std.proofs.Common.{◌≡◌, ◌-◌, length}
use mathlib.Core.Bool.{true}
use Rattle.model.specs.View.{view_of}
use Rattle.basin.specs.Sound.{sound}
use Rattle.listing.proofs.Calling.{Printing}
use Rattle.listing.proofs.call_lines.Given as goal

abbrev pub invariant-loop-refusal : goal.invariant-loop-refusal
invariant-loop-refusal l = Printing l.s l.from l.initial.b l.initial.page l.page l.b l.at l.k × (sound (view_of l.b) ≡ true)

abbrev pub decreases-loop-refusal : goal.decreases-loop-refusal
decreases-loop-refusal l = length l.s - l.at

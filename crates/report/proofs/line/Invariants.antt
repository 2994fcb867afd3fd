-- The first word and the parts so far are on the page, each part after a space.
use Rattle.std.proofs.Common.{◌+◌, ◌++◌, length, take}
use Rattle.std.specs.List.{flat_map, sum_by}
use Rattle.text.specs.Page.{Puts}
use Rattle.report.specs.Parts.{part_room}
use Rattle.report.proofs.Parts.{spaced}
use Rattle.report.proofs.line.Given as goal

abbrev pub invariant-loop-part : goal.invariant-loop-part
invariant-loop-part l =
    let done = take l.part-index l.parts in
    Puts (length l.first + sum_by part_room done) l.fn.page (l.first ++ flat_map spaced done) l.page

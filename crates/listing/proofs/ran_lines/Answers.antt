-- The table follows the line of a record that failed.
use Rattle.std.proofs.Common.{arith}
use Rattle.text.proofs.Pages.{then}
use Rattle.listing.proofs.ran_lines.Goals as goal

pub table-requires : goal.table-requires
table-requires c = let w = c.end_line.ensures in omega (arith, w.put.short, w.put.place, w.size)

pub returns : goal.returns
returns c = then c.end_line.ensures c.table.ensures

-- A space and then the word.
use Rattle.text.proofs.Pages.{then}
use Rattle.report.proofs.Part.put.Goals as goal

pub returns-in-Word : goal.returns-in-Word
returns-in-Word c = rw c.in-Word.is (then c.byte.ensures c.word.ensures)

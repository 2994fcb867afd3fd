-- The beginning, and then all that is left, are all that is printed. Assumes nothing.
use mathlib.Core.Path.{subst}
use Rattle.std.proofs.Common.{rules}
use Rattle.std.proofs.lemmas.Result.{MatchResult-from_err}
use Rattle.output.specs.Appending.{AppendsBeginning, Appended}
use Rattle.output.proofs.Beginnings.{beginning_of_more, appended_after}
use Rattle.output.proofs.Putting.{journal_put}
use Rattle.output.proofs.journals.put_journal.Goals as goal

pub returns-in_err-write_full : goal.returns-in_err-write_full
returns-in_err-write_full g c =
    MatchResult-from_err c.from_residual.result _ _ (search rules)
    (λ _. subst (AppendsBeginning _ _) (journal_put _ _ c.begin_journal-begun.ensures)
    (beginning_of_more _ _ _ _ c.in_err-write_full.ensures))

pub returns : goal.returns
returns g c =
    subst (Appended _ _ c.put_pages.result) (journal_put _ _ c.begin_journal-begun.ensures)
    (appended_after _ _ _ _ _ c.in_ok-write_full.ensures c.put_pages.result c.put_pages.ensures)

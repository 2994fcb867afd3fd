-- An accepted description leaves a sound balance. Assumes nothing.
use Rattle.std.proofs.Common.{sym}
use Rattle.book.proofs.Promises.{opened_sound}
use Rattle.dashboard.proofs.hasheqro_figures.Goals as goal

pub run_tested-requires : goal.run_tested-requires
run_tested-requires c = sym (opened_sound c.args.book.now _ c.read_book-opened.ensures)

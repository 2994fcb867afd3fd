-- `listing::book_lines` meets its contract. Assumes nothing.
use Rattle.std.proofs.Common.{sym, ap, ◌∙◌, arith}
use Rattle.book.specs.declared.Opened.{Opened}
use Rattle.book.proofs.Promises.{opened_sound}
use Rattle.model.specs.Answers.{number}
use Rattle.report.specs.Lines.{refused_line}
use Rattle.text.proofs.Pages.{widen, restate}
use Rattle.listing.specs.Listing.{run_text}
use Rattle.listing.proofs.Tables.{printed_long, printed_accepted, printed_refused}
use Rattle.listing.proofs.book_lines.Goals as goal

pub returns-then-s-gt-LONGEST : goal.returns-then-s-gt-LONGEST
returns-then-s-gt-LONGEST c = widen (restate c.refused_line.ensures (printed_long c.args.s.now c.if-s-gt-LONGEST.true)) (omega arith)

pub run_lines-requires : goal.run_lines-requires
run_lines-requires c = (omega (arith, c.if-s-gt-LONGEST.false), (opened_sound c.args.s.now _ c.read_book-o.ensures, omega arith))

pub returns-in-Ok : goal.returns-in-Ok
returns-in-Ok c =
    let s = c.args.s.now in
    let r = c.read_book-o.ensures in
    restate c.run_lines.ensures
    (ap (λ (o : Opened). run_text s o.place o.balance) r
    ∙ printed_accepted s c.if-s-gt-LONGEST.false (ap (λ (o : Opened). o.answer) (sym r) ∙ c.in-Ok.is))

pub returns-in-Err : goal.returns-in-Err
returns-in-Err c =
    let s = c.args.s.now in
    let r = c.read_book-o.ensures in
    widen
    (restate c.refused_line-in-Err.ensures
    (ap (λ (o : Opened). refused_line (number c.in-Err.refusal) o.place) r
    ∙ printed_refused s _ c.if-s-gt-LONGEST.false (ap (λ (o : Opened). o.answer) (sym r) ∙ c.in-Err.is)))
    (omega arith)

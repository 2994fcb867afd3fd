-- Each window puts its line behind those of the windows before it.
use Rattle.std.proofs.Common.{◌≡◌, ◌*◌, length, subst, ap, add-one, arith, ℕ}
use Rattle.text.specs.Page.{Puts}
use Rattle.text.proofs.Pages.{still, restate}
use Rattle.listing.specs.Listing.{lines_of}
use Rattle.listing.proofs.Rows.{lines_to, line_more}
use Rattle.report.specs.Lines.{window_line}
use Rattle.replies.specs.Reply.{window_text}
use Rattle.replies.proofs.window_lines.Goals as goal

pub loop-k-init : goal.loop-k-init
unfolding lines_of
loop-k-init c = still c.args.page.now (omega arith)

pub put-requires : goal.put-requires
put-requires c = let i = c.loop-k.invariant in omega (arith, i.put.short, i.put.place, i.size)

pub loop-k-preserved : goal.loop-k-preserved
loop-k-preserved c =
    let turn = c.loop-k in
    let line = ap (λ (n : ℕ). window_line n c.from.result) (add-one turn.k) in
    line_more window_text 0 c.args.runoffs.now 64 turn.k c.from.result c.from.ensures turn.invariant (restate c.put.ensures line)

pub returns : goal.returns
returns c =
    let all : c.loop-k.k ≡ length c.args.runoffs.now = omega arith in
    subst (λ (n : ℕ). Puts (64 * n) c.args.page.now (lines_to window_text 0 c.args.runoffs.now n) c.loop-k.page) all c.loop-k.invariant

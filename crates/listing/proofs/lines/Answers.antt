-- Each row puts its line behind those of the rows before it.
use Rattle.std.proofs.Common.{◌≡◌, ◌*◌, length, refl, subst, arith, ℕ}
use Rattle.std.proofs.lemmas.List.{get_or_read_under}
use Rattle.text.specs.Page.{Puts}
use Rattle.text.proofs.Pages.{still}
use Rattle.listing.specs.Listing.{lines_of}
use Rattle.listing.proofs.Rows.{lines_to, line_more}
use Rattle.listing.proofs.lines.Goals as goal

pub loop-k-init : goal.loop-k-init
unfolding lines_of
loop-k-init g c = still c.args.page.now (omega arith)

pub put-requires : goal.put-requires
put-requires g c = let i = c.loop-k.invariant in (omega arith, omega (arith, i.put.short, i.put.place, i.size))

pub loop-k-preserved : goal.loop-k-preserved
loop-k-preserved g c =
    let turn = c.loop-k in
    let rows = c.args.rows.now in
    let read = get_or_read_under rows turn.k (length rows) _ g.T.Row.none c.index-rows-k.is c.loop-k-test.true refl in
    line_more g.T.Row.line g.T.Row.none rows 128 turn.k _ read turn.invariant c.put.ensures

pub returns : goal.returns
returns g c =
    let all : c.loop-k.k ≡ length c.args.rows.now = omega arith in
    subst (λ (n : ℕ). Puts (128 * n) c.args.page.now (lines_to g.T.Row.line g.T.Row.none c.args.rows.now n) c.loop-k.page) all c.loop-k.invariant

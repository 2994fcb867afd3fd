-- The aquifers change as the title asks: it draws from one of them, or from none. Assumes nothing.
use Rattle.std.proofs.Common.{◌≡◌, ap, inl, inr}
use Rattle.model.specs.declared.Title.{Title}
use Rattle.titles.specs.Posting.{postings}
use Rattle.titles.specs.Adds.{return_of}
use Rattle.effect.proofs.Changing.{well_changed, wells_kept}
use Rattle.effect.proofs.change.change_wells.Goals as goal

-- What a title posts to the aquifers, by the kind that it is.
drawn : {t kind : Title} → t ≡ kind → (postings t (return_of t)).wells ≡ (postings kind (return_of kind)).wells
drawn e = ap (λ (t : Title). (postings t (return_of t)).wells) e

pub returns-in-UnitWithdrawal : goal.returns-in-UnitWithdrawal
returns-in-UnitWithdrawal g c =
    wells_kept g.D.Direction.op g.met.D.Direction.neutral _ c.args.title
    (elim c.in-UnitWithdrawal.is [ inl (u, r, v, e) ↦ drawn e | inr (f, t, v, e) ↦ drawn e ])

pub returns-in-AquiferWithdrawal : goal.returns-in-AquiferWithdrawal
returns-in-AquiferWithdrawal g c =
    well_changed g.D.Direction.op g.met.D.Direction.neutral g.D.Direction.left _ c.args.title _ c.in-AquiferWithdrawal.aquifer c.in-AquiferWithdrawal.volume _ c.requires
    (elim c.in-AquiferWithdrawal.is [ inl e ↦ drawn e | inr (inl (u, e)) ↦ drawn e | inr (inr (u, r, e)) ↦ drawn e ])
    c.from.ensures c.change-a.ensures

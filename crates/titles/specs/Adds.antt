-- What titles add to the entries. Assumes nothing.
use Rattle.std.specs.Prelude.{ℕ, ◌*◌, ◌/◌, cond, eqb}
use Rattle.laws.specs.Sum.{naturals, sum_of, only}
use Rattle.model.specs.declared.Title.{Title}
use Rattle.model.specs.declared.Title.TheVariants.{UnitWithdrawal, AquiferWithdrawal, UnitTransfer, AquiferTransfer, ReturningWithdrawal}
use Rattle.model.specs.declared.Place.{Place}
use Rattle.titles.specs.Slot.{Slot}
use Rattle.model.specs.View.{View}
use Rattle.titles.specs.Posting.{posts, slot, postings}

-- The percentage of a use that returns: 1 agriculture 20, 2 urban 75, 3 industry 55, 4 domestic 75, 5 livestock 15,
-- 6 aquaculture 100, 7 power 100.
abbrev pub return_percent : ℕ → ℕ
return_percent r =
    cond (eqb r 1) 20
    (cond (eqb r 2) 75 (cond (eqb r 3) 55 (cond (eqb r 4) 75 (cond (eqb r 5) 15 (cond (eqb r 6) 100 (cond (eqb r 7) 100 0))))))

-- floor(volume × r / 100)
abbrev pub returned : ℕ → ℕ → ℕ
returned usage volume = volume * return_percent usage / 100

-- The return of a title: that of its use and volume for a withdrawal from a unit and for one from an aquifer that returns to a unit, by the
-- same table; 0 for the other kinds.
abbrev pub return_of : Title → ℕ
return_of (UnitWithdrawal u r v) = returned r v
return_of (AquiferWithdrawal a v) = 0
return_of (UnitTransfer g r v) = 0
return_of (AquiferTransfer a u v) = 0
return_of (ReturningWithdrawal a u r v) = returned r v

-- What a title with its return adds to an entry of the unit or aquifer at index j.
abbrev pub adds : Title → ℕ → Slot → ℕ → ℕ
adds t back s j = posts (slot (postings t back) s) j

-- What a place adds: its title's amount if that is in force.
abbrev pub place_adds : Place → Slot → ℕ → ℕ
place_adds p s j = only naturals p.in_force (adds p.title (return_of p.title) s j)

-- What the titles in force among the first n add together to an entry.
abbrev pub titled : View → ℕ → Slot → ℕ → ℕ
titled v n s j = sum_of naturals n (λ k. place_adds (v.place k) s j)

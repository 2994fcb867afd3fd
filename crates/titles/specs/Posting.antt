-- What a title posts to the entries. Assumes nothing.
use Rattle.std.specs.Prelude.{ℕ, suc, eqb}
use Rattle.laws.specs.Sum.{naturals, only}
use Rattle.model.specs.declared.Title.{Title}
use Rattle.model.specs.declared.Title.TheVariants.{UnitWithdrawal, AquiferWithdrawal, UnitTransfer, AquiferTransfer, ReturningWithdrawal}
use Rattle.titles.specs.Slot.{Slot, Extraction, Exports, Imports, Returns, WellExtraction}

-- What is posted to an entry: nothing, or an amount for the unit or aquifer of a number.
pub data Posting : Type 0 where
  nothing : Posting
  post : ℕ → ℕ → Posting

-- What a posting adds at index j.
abbrev pub posts : Posting → ℕ → ℕ
posts nothing j = 0
posts (post number amount) j = only naturals (eqb number (suc j)) amount

-- What is posted to each of the five entries that titles raise.
pub record Postings : Type 0 where
  pub extraction : Posting
  pub exports : Posting
  pub imports : Posting
  pub returns : Posting
  pub wells : Posting

abbrev pub slot : Postings → Slot → Posting
slot p Extraction = p.extraction
slot p Exports = p.exports
slot p Imports = p.imports
slot p Returns = p.returns
slot p WellExtraction = p.wells

-- What a title posts, of which so much returns. A withdrawal from a unit adds its volume to the extraction and its return to the returns;
-- a withdrawal from an aquifer to the aquifer's extraction; a transfer from a unit to the giver's exports and the receiver's imports; a
-- transfer from an aquifer to the aquifer's extraction and the unit's imports. Of a withdrawal from an aquifer whose return goes to a named
-- unit the aquifer loses the whole volume, and the return is added to that unit's returns.
abbrev pub postings : Title → ℕ → Postings
postings (UnitWithdrawal u r v) back =
    record { extraction = post u v; exports = nothing; imports = nothing; returns = post u back; wells = nothing }
postings (AquiferWithdrawal a v) back =
    record { extraction = nothing; exports = nothing; imports = nothing; returns = nothing; wells = post a v }
postings (UnitTransfer g r v) back =
    record { extraction = nothing; exports = post g v; imports = post r v; returns = nothing; wells = nothing }
postings (AquiferTransfer a u v) back =
    record { extraction = nothing; exports = nothing; imports = post u v; returns = nothing; wells = post a v }
postings (ReturningWithdrawal a u r v) back =
    record { extraction = nothing; exports = nothing; imports = nothing; returns = post u back; wells = post a v }

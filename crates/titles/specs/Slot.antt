-- The entries that titles raise. Assumes nothing.

-- Four entries of a unit, and the extraction of an aquifer.
pub data Slot : Type 0 where
  Extraction : Slot
  Exports : Slot
  Imports : Slot
  Returns : Slot
  WellExtraction : Slot

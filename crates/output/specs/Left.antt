-- What is left to write of a journal at an offset, on a state. Assumes nothing.
use Rattle.std.specs.Prelude.{ℕ, ◌+◌, Bool, cond, List, length}
use Rattle.model.specs.View.{view_of}
use Rattle.planning.specs.declared.State.{State}
use Rattle.listing.specs.Listing.{table_text}
use Rattle.replay.specs.Page.{page_of}
use Rattle.replay.specs.Journal.{replies_text}

-- The replies to the records that are left, the first of them at place k, if there may be any, and the table.
abbrev pub left_text : List ℕ → ℕ → ℕ → State → Bool → List ℕ
left_text s at k st more = cond more (replies_text (page_of (length s + 1) k st s at)) (table_text (view_of st.balance))

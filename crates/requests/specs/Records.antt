-- The records of a journal after its description: the calls of a book, KP (keep under a name) and GB (go back to a name), the name eight
-- bytes, and WI (the moving window). Assumes nothing.
use Rattle.std.specs.Prelude.{ℕ, ◌+◌, ◌-◌, cond, List, ltb, length, take, drop, Option, Some, None}
use Rattle.model.specs.declared.Refusal.{Refusal}
use Rattle.model.specs.declared.Refusal.TheVariants.{Short}
use Rattle.record.specs.declared.CallAt.{CallAt}
use Rattle.record.specs.declared.CallAt.TheVariants.{End as noCall, Fails as failing, Asks}
use Rattle.record.specs.Bytes.{bits8}
use Rattle.record.specs.Record.{spells}
use Rattle.record.specs.Calls.{call_at}
use Rattle.planning.specs.declared.Name.{Name}
use Rattle.planning.specs.Names.{name_length}
use Rattle.requests.specs.Watched.{window_size}
use Rattle.requests.specs.declared.OwnMark.{OwnMark}
use Rattle.requests.specs.declared.OwnMark.TheVariants.{Kp, Gb, Wi}
use Rattle.requests.specs.declared.RecordAt.{RecordAt}
use Rattle.requests.specs.declared.RecordAt.TheVariants.{End, Fails, Calls, Keeps, Returns, Watches}

-- The marks of a journal alone, in ASCII: KP, GB, WI.
abbrev pub own_mark : ℕ → ℕ → Option OwnMark
own_mark a b = cond (spells a b 75 80) (Some Kp) (cond (spells a b 71 66) (Some Gb) (cond (spells a b 87 73) (Some Wi) None))

-- The mark of a journal alone at an offset: two bytes that are one.
abbrev pub own_at : List ℕ → ℕ → Option OwnMark
own_at s at = cond (ltb (length s - at) 2) None (own_mark (bits8 s at) (bits8 s (at + 1)))

-- The name at an offset: the eight bytes from there on.
abbrev pub name_at : List ℕ → ℕ → Name
name_at s at = record { bytes = take name_length (drop at s) }

-- 1 fewer bytes left than the record's mark and body.
abbrev pub whole_record : List ℕ → ℕ → ℕ → (ℕ → RecordAt) → RecordAt
whole_record s at size go = cond (ltb (length s - at) size) (Fails Short) (go (at + size))

-- How many bytes the record of each mark has: KP and GB ten, and those of a WI follow from its counts.
abbrev pub own_size : OwnMark → List ℕ → ℕ → ℕ
own_size Kp s at = 10
own_size Gb s at = 10
own_size Wi s at = window_size s at

-- What each is.
abbrev pub own_is : OwnMark → ℕ → RecordAt
own_is Kp to = Keeps to
own_is Gb to = Returns to
own_is Wi to = Watches to

-- A record whose mark is no journal's own fails as the calls of a book say.
abbrev pub own_marked : Option OwnMark → List ℕ → ℕ → Refusal → RecordAt
own_marked (Some m) s at r = whole_record s at (own_size m s at) (own_is m)
own_marked None s at r = Fails r

abbrev pub own_record : List ℕ → ℕ → Refusal → RecordAt
own_record s at r = own_marked (own_at s at) s at r

-- What stands at an offset after the description: a call of a book, or a record that those calls do not know.
abbrev pub besides : CallAt → List ℕ → ℕ → RecordAt
besides noCall s at = End
besides (failing r) s at = own_record s at r
besides (Asks c to) s at = Calls c to

unfoldable pub record_at : List ℕ → ℕ → RecordAt
record_at s at = besides (call_at s at) s at

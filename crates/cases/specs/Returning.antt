-- The printed book with other calls, of well water that comes back (document 02 [2]), and the balances that they leave. Assumes nothing.
use Rattle.std.specs.Prelude.{◌≡◌, refl, true, false, List, [], ◌∷◌, replicate, Ok, Err}
use Rattle.std.proofs.Common.{sym}
use Rattle.laws.specs.Sum.{sum_of, every}
use Rattle.laws.specs.Gather.{gather, gather_to}
use Rattle.laws.specs.Table.{table, tabulate, indexed}
use Rattle.model.specs.declared.Refusal.TheVariants.{NoWater, FlowNeeded}
use Rattle.model.specs.declared.Title.{Title}
use Rattle.model.specs.declared.Title.TheVariants.{UnitWithdrawal, ReturningWithdrawal}
use Rattle.model.specs.declared.Call.{Call}
use Rattle.model.specs.declared.Call.TheVariants.{Grant, Cancel}
use Rattle.model.specs.declared.Balance.{Balance}
use Rattle.model.specs.Fresh.{empty_place}
use Rattle.model.specs.Entries.{place_of}
use Rattle.model.specs.View.{view_of}
use Rattle.model.specs.Answers.{first_from}
use Rattle.runoff.specs.Soil.{coefficient, coefficients}
use Rattle.runoff.specs.Year.{rain_year}
use Rattle.runoff.specs.Mean.{rounded}
use Rattle.runoff.specs.Record.{area_of, weighted_of, years_sum}
use Rattle.river.specs.Flow.{flow}
use Rattle.river.specs.Reserve.{committed_to, committed}
use Rattle.basin.specs.Sound.{sound, flowing}
use Rattle.reach.specs.Reach.{outlet_to, outlet}
use Rattle.book.specs.Reading.{reading_from, opened}
use Rattle.record.specs.Calls.{call_at, calls_from, calls_of, ending_from, ending_of}
use Rattle.record.specs.Entries.{entry_at}
use Rattle.effect.specs.Granted.{granted}
use Rattle.effect.specs.Cancelled.{cancelled}
use Rattle.refusal.specs.Grant.{no_water}
use Rattle.register.specs.Reply.{grant_reply}
use Rattle.register.specs.Cancel.{cancel_reply}
use Rattle.register.proofs.Replies.{reply_given, reply_dry}
use Rattle.register.proofs.Leaving.{reply_needed, reply_cancelled}
use Rattle.cases.specs.Printed.{printed_description, returning_calls, returning_book, released_calls, released_book}
use Rattle.cases.specs.Balances.{second_with, third_with, book_balance, printed_balance, printed_sound}

-- A town pumps 200 from the aquifer for urban use, of which 150 return to unit 2; a pond asks for 1 of which all returns there; and 1938
-- are withdrawn from unit 2.
abbrev pub town_title : Title
town_title = ReturningWithdrawal 1 2 2 200

abbrev pub more_title : Title
more_title = ReturningWithdrawal 1 2 6 1

abbrev pub use_title : Title
use_title = UnitWithdrawal 2 1 1938

abbrev pub returning_asked : List Call
returning_asked = Grant town_title ∷ Grant more_title ∷ Grant use_title ∷ Cancel 1 ∷ []

abbrev pub released_asked : List Call
released_asked = Grant town_title ∷ Cancel 1 ∷ []

-- After the first call, after the third, and after the first call with its title cancelled.
unfoldable pub town_balance : Balance
unfolding book_balance
town_balance = book_balance (second_with 0 150) (third_with 3000 0 0) 1500 (place_of town_title true ∷ replicate 255 empty_place) 1

unfoldable pub used_balance : Balance
unfolding book_balance
used_balance =
    book_balance (second_with 1938 537) (third_with 3000 0 0) 1500 (place_of town_title true ∷ place_of use_title true ∷ replicate 254 empty_place) 2

unfoldable pub released_balance : Balance
unfolding book_balance
released_balance = book_balance (second_with 0 0) (third_with 3000 0 0) 1300 (place_of town_title false ∷ replicate 255 empty_place) 1

-- What the book opens, the calls that stand in it, and that it ends with them.
pub returning_opens : opened returning_book ≡ record { answer = Ok tt; place = 379; balance = printed_balance }
unfolding returning_book printed_description returning_calls printed_balance reading_from entry_at table tabulate first_from flow gather gather_to sum_of years_sum area_of weighted_of rain_year coefficient coefficients rounded
returning_opens = refl

pub returning_asks : calls_of returning_book 379 ≡ returning_asked
unfolding returning_book printed_description returning_calls calls_from call_at
returning_asks = refl

pub returning_ends : ending_of returning_book 379 ≡ Ok tt
unfolding returning_book printed_description returning_calls ending_from call_at
returning_ends = refl

-- The same of the book whose title is cancelled.
pub released_opens : opened released_book ≡ record { answer = Ok tt; place = 379; balance = printed_balance }
unfolding released_book printed_description released_calls printed_balance reading_from entry_at table tabulate first_from flow gather gather_to sum_of years_sum area_of weighted_of rain_year coefficient coefficients rounded
released_opens = refl

pub released_asks : calls_of released_book 379 ≡ released_asked
unfolding released_book printed_description released_calls calls_from call_at
released_asks = refl

pub released_ends : ending_of released_book 379 ≡ Ok tt
unfolding released_book printed_description released_calls ending_from call_at
released_ends = refl

-- The town's title is given: the aquifer's availability falls to 0.
pub town_reply : grant_reply printed_balance town_title ≡ record { answer = Ok tt; number = 1; balance = town_balance }
unfolding printed_balance town_balance indexed
town_reply = sym (reply_given printed_balance town_title printed_sound refl refl)

pub town_sound : sound (view_of town_balance) ≡ true
unfolding sound town_balance flow gather gather_to sum_of every
town_sound = refl

-- The pond's title is refused: the aquifer would be short, though unit 2 gains what it loses.
pub more_reply : grant_reply town_balance more_title ≡ record { answer = Err NoWater; number = 0; balance = town_balance }
unfolding town_balance
more_reply = sym (reply_dry town_balance more_title town_sound refl refl)

-- The withdrawal from unit 2 is given.
use_water : no_water (granted (view_of town_balance) use_title) use_title ≡ false
unfolding town_balance flow gather gather_to sum_of committed committed_to every outlet outlet_to
use_water = refl

pub use_reply : grant_reply town_balance use_title ≡ record { answer = Ok tt; number = 2; balance = used_balance }
unfolding town_balance used_balance indexed
use_reply = sym (reply_given town_balance use_title town_sound refl use_water)

pub used_sound : sound (view_of used_balance) ≡ true
unfolding sound used_balance flow gather gather_to sum_of every
used_sound = refl

-- Without what comes back unit 2's flow would be −11.
use_needs : flowing (cancelled (view_of used_balance) 1) ≡ false
unfolding used_balance flow gather gather_to sum_of every
use_needs = refl

pub needed_reply : cancel_reply used_balance 1 ≡ record { answer = Err FlowNeeded; number = 0; balance = used_balance }
unfolding used_balance
needed_reply = sym (reply_needed used_balance 1 used_sound refl use_needs)

-- Before that withdrawal the town's title can be cancelled, and all entries are what they were.
town_released : flowing (cancelled (view_of town_balance) 1) ≡ true
unfolding town_balance flow gather gather_to sum_of every
town_released = refl

pub released_reply : cancel_reply town_balance 1 ≡ record { answer = Ok tt; number = 1; balance = released_balance }
unfolding town_balance released_balance indexed
released_reply = sym (reply_cancelled town_balance 1 town_sound refl town_released)

pub released_sound : sound (view_of released_balance) ≡ true
unfolding sound released_balance flow gather gather_to sum_of every
released_sound = refl

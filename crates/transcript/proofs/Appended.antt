-- What a journal said stays said when bytes are appended. Assumes nothing.
use Rattle.std.specs.Prelude.{Ok}
use Prim.Native.Nat.{ℕ, ◌<◌}
use mathlib.Core.Path.{◌≡◌, ap, ◌∙◌}
use mathlib.Core.List.{List, ◌++◌, append_assoc}
use lib.ListN.{length}
use native.Mathlib.Omega.{arith}
use Rattle.model.specs.View.{view_of}
use Rattle.planning.specs.declared.Opened.{Opened}
use Rattle.requests.specs.Requests.{Request, requests_of}
use Rattle.listing.specs.Listing.{table_text}
use Rattle.replay.specs.Page.{joined}
use Rattle.replay.specs.Journal.{journal_opened, all_replies, replies_text}
use Rattle.transcript.specs.Followed.{requests_in, replies_in}
use Rattle.transcript.specs.Appended.{end_of, Whole, appended_replies, Appended}
use Rattle.transcript.proofs.Followed.{printed_after}
use Rattle.transcript.proofs.Appending.{requests_appended, replies_appended}
use Rattle.transcript.proofs.Moved.{requests_alone, whole_appended}
use Rattle.transcript.proofs.Opening.{opening_appended}

module _ (s t : List ℕ) (e : (journal_opened s).answer ≡ Ok tt) (h : (journal_opened s).place < length s) (w : Whole s (journal_opened s).place) where
  opening : journal_opened (s ++ t) ≡ journal_opened s
  opening = opening_appended s t e h

  replies : replies_in (s ++ t) ≡ joined (replies_in s) (appended_replies s t)
  replies =
      ap (λ (o : Opened). all_replies (s ++ t) o.place o.state) opening
      ∙ replies_appended s t 1 (journal_opened s).state (journal_opened s).place (omega arith) w

  -- A journal that is accepted, with records after its description and all of them whole, is the first part of every journal that begins with it.
  pub journal_appended : Appended s t
  journal_appended =
      record {
        opening = opening;
        requests =
            ap (λ (o : Opened). requests_of (s ++ t) o.place) opening
            ∙ requests_appended s t (journal_opened s).place w
            ∙ ap (λ (l : List Request). requests_in s ++ l) (requests_alone s t);
        replies = replies;
        printed = λ l.
            printed_after (s ++ t) l (ap (λ (o : Opened). o.answer) opening ∙ e)
            ∙ ap replies_text replies
            ∙ append_assoc (replies_in s).text (appended_replies s t).text (table_text (view_of (appended_replies s t).state.balance));
        whole = λ v.
            ap (λ (o : Opened). end_of (s ++ t) o.place) opening ∙ whole_appended s t (journal_opened s).place w v;
      }

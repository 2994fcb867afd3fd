-- The promise of keepings, returns and moving windows, on every accepted book after every list of requests, refused ones included. Assumes nothing.
use Prim.Native.Nat.{ℕ}
use mathlib.Core.Path.{◌≡◌, refl, ap, subst⁻¹, ◌∙◌}
use mathlib.Core.Bool.{true}
use mathlib.Core.List.{List, [], ◌∷◌}
use Rattle.laws.proofs.Arrays.{filled_start, filled_table}
use Rattle.model.specs.declared.Balance.{Balance}
use Rattle.register.specs.Calls.{after}
use Rattle.book.specs.Reading.{Description, read, reading, opened}
use Rattle.conservation.specs.Demand3.{start, tallied, reported, Demand3}
use Rattle.conservation.specs.Replies.{Said}
use Rattle.conservation.proofs.Following.{Follows, follows_start}
use Rattle.conservation.proofs.Promise.{demand_3}
use Rattle.planning.specs.declared.State.{State}
use Rattle.planning.specs.Names.{place_limit}
use Rattle.planning.specs.State.{empty_kept, nothing_kept, sound_state}
use Rattle.planning.specs.Calls.{opened_state}
use Rattle.requests.specs.Requests.{Request, states_after}
use Rattle.history.specs.Asked.{Asked, nothing_asked, name_at, asking, history, telling, tellings}
use Rattle.history.specs.Claim.{all_told, kept_as, described, Conserved}
use Rattle.history.proofs.Kept.{Well, well_start}
use Rattle.history.proofs.Following.{held_balance, sound_described, step}

-- After opening the program holds what is described where nothing was asked.
start_described : (b : Balance) → nothing_kept b ≡ described b nothing_asked
unfolding after
start_described b = λ i.
    record {
      balance = b;
      kept = filled_table place_limit empty_kept (λ k. kept_as b nothing_asked (name_at [] k)) 0 _ (filled_start place_limit empty_kept _) i;
      count = 0;
    }

module _ (d : Description) (b : Balance) (f : Follows d b start) where
  well_after : (a : Asked) → Well a → (rs : List Request) → Well (history a rs)
  unfolding history
  well_after a w [] = w
  well_after a w (r ∷ rs) = well_after (asking a r) (step d b f a w r).well rs

  state_is : (a : Asked) → Well a → (rs : List Request) → states_after (described b a) rs ≡ described b (history a rs)
  unfolding history states_after
  state_is a w [] = refl
  state_is a w (r ∷ rs) =
      let p = step d b f a w r in
      ap (λ (s : State). states_after s rs) p.holds ∙ state_is (asking a r) p.well rs

  told_is : (a : Asked) → Well a → (rs : List Request) → all_told (described b a) rs ≡ tellings d a rs
  unfolding all_told tellings
  told_is a w [] = refl
  told_is a w (r ∷ rs) =
      let p = step d b f a w r in
      (λ i. p.tells i ∷ all_told (p.holds i) rs) ∙ ap (λ (l : List Said). telling d a r ∷ l) (told_is (asking a r) p.well rs)

module _ (s : List ℕ) (d : Description) (at : ℕ) (e : reading s ≡ read d at) where
  -- On every accepted book, after every list of requests, the program's whole state is the one that what was asked
  -- describes.
  pub state_follows : (rs : List Request) → states_after (opened_state s).state rs ≡ described (opened s).balance (history nothing_asked rs)
  state_follows rs =
      ap (λ (x : State). states_after x rs) (start_described (opened s).balance)
      ∙ state_is d (opened s).balance (follows_start s d at e) nothing_asked well_start rs

  -- Every answer and number that the program tells is the one that what was asked says.
  pub replies_follow : (rs : List Request) → all_told (opened_state s).state rs ≡ tellings d nothing_asked rs
  replies_follow rs =
      ap (λ (x : State). all_told x rs) (start_described (opened s).balance)
      ∙ told_is d (opened s).balance (follows_start s d at e) nothing_asked well_start rs

  described_conserved : (a : Asked) → Well a → Conserved d a (described (opened s).balance a)
  described_conserved a w =
      record {
        current = demand_3 s d at e a.current;
        kept = λ k h.
            subst⁻¹ (λ (y : Balance). Demand3 d (tallied d start (a.line (name_at a.names k))) (reported y))
            (held_balance d (opened s).balance (follows_start s d at e) a w k h)
            (demand_3 s d at e (a.line (name_at a.names k)));
      }

  well : (rs : List Request) → Well (history nothing_asked rs)
  well rs = well_after d (opened s).balance (follows_start s d at e) nothing_asked well_start rs

  -- Demand 3 holds of the current balance and of each that is kept, each with its own list of calls.
  pub demand_3_kept : (rs : List Request) → Conserved d (history nothing_asked rs) (states_after (opened_state s).state rs)
  demand_3_kept rs =
      subst⁻¹ (Conserved d (history nothing_asked rs)) (state_follows rs) (described_conserved (history nothing_asked rs) (well rs))

  -- Opening, calls, keepings and returns never hand out a state that falls under 0.
  pub state_sound : (rs : List Request) → sound_state (states_after (opened_state s).state rs) ≡ true
  state_sound rs =
      subst⁻¹ (λ (x : State). sound_state x ≡ true) (state_follows rs)
      (sound_described d (opened s).balance (follows_start s d at e) (history nothing_asked rs) (well rs))

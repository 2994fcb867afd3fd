-- The program's state follows what was asked, request by request. Assumes nothing.
use Rattle.std.specs.Prelude.{Some, None, Ok, Err}
use Prim.Native.Nat.{ℕ, ◌+◌, ◌≤◌, ◌<◌}
use mathlib.Core.Path.{◌≡◌, refl, sym, ap, subst⁻¹, ◌∙◌}
use mathlib.Core.Bool.{Bool, true, false, cond, not, ◌&&◌, true≢false}
use mathlib.Core.List.{List, [], ◌∷◌, ◌++◌}
use lib.Dec.{leb}
use lib.ListN.{length, get_or, set}
use native.Mathlib.Omega.{arith}
use borrow.Author.Tests.{le-leb, lt-leb}
use Rattle.laws.specs.Table.{table}
use Rattle.laws.proofs.Cases.{by_bool, by_lt}
use Rattle.laws.proofs.Every.{each_every}
use Rattle.laws.proofs.Arrays.{table_at, table_put, table_same, table_more}
use Rattle.model.specs.declared.Refusal.TheVariants.{FifthName, NoSuchName}
use Rattle.model.specs.declared.Balance.{Balance}
use Rattle.model.specs.declared.Call.{Call}
use Rattle.model.specs.Answers.{Answer, refuse}
use Rattle.model.specs.View.{view_of}
use Rattle.river.proofs.Firsts.{first_same}
use Rattle.basin.specs.Sound.{sound}
use Rattle.register.specs.Calls.{after}
use Rattle.book.specs.Reading.{Description}
use Rattle.conservation.specs.Demand3.{start, tallied}
use Rattle.conservation.specs.Replies.{Said, saying}
use Rattle.conservation.proofs.Following.{Follows, follows_calls}
use Rattle.conservation.proofs.Agreement.{same_saying, after_list}
use Rattle.planning.specs.declared.Name.{Name}
use Rattle.planning.specs.declared.Kept.{Kept}
use Rattle.planning.specs.declared.Reply.{Reply}
use Rattle.planning.specs.Names.{place_limit, same_name, place_of, distinct}
use Rattle.planning.specs.State.{empty_kept, no_kept, name_at as held_at, balance_at, kept_sound, sound_state}
use Rattle.planning.specs.Calls.{place_in, kept_under}
use Rattle.planning.proofs.Naming.{same_self, same_sym, same_through}
use Rattle.planning.proofs.Replying.{stands, keep_again, keep_fifth, keep_new, back_none, back_to}
use Rattle.requests.specs.Watched.{Watched}
use Rattle.requests.specs.Requests.{Request, ask, keep, back, watch, state_after}
use Rattle.runoff.specs.declared.Plot.{Plot}
use Rattle.window.specs.Refused.{windows_refusal}
use Rattle.window.specs.Window.{replied}
use Rattle.history.specs.Asked.{Asked, name_at, among, asking, telling}
use Rattle.history.specs.Claim.{told, kept_as, described}
use Rattle.history.proofs.Kept.{Sought, found, absent, sought, Well, name_before, name_last, one_longer, replacing, adding, kept_again, kept_new, kept_fifth, back_found, back_absent, well_replacing, well_adding}

-- What a reply of keeping or going back says.
abbrev said_in : Reply → Said
said_in r = record { answer = r.answer; number = r.number }

-- A moving window is told its own refusal, or 0 as the number.
windows_told : (r : Answer) (plots : List Plot) (years : List ℕ) (width : ℕ)
    → record { answer = (replied r plots years width).answer; number = (replied r plots years width).number } ≡ saying r 0
windows_told (Ok u) plots years width = refl
windows_told (Err k) plots years width = refl

-- One request: the program's state, what it tells, and that what was asked stays well.
pub record Step (d : Description) (b : Balance) (a : Asked) (r : Request) : Type 0 where
  pub holds : state_after (described b a) r ≡ described b (asking a r)
  pub tells : told (described b a) r ≡ telling d a r
  pub well : Well (asking a r)

module _ (d : Description) (b : Balance) (f : Follows d b start) (a : Asked) (w : Well a) where
  -- The names and the balances that the described state holds.
  held : (k : ℕ) → k < length a.names → get_or (described b a).kept k no_kept ≡ kept_as b a (name_at a.names k)
  held k h = table_at place_limit empty_kept (length a.names) (λ j. kept_as b a (name_at a.names j)) _ k h (omega (arith, w.few))

  held_name : (k : ℕ) → k < length a.names → held_at (described b a).kept k ≡ name_at a.names k
  held_name k h = ap (λ (x : Kept). x.name) (held k h)

  pub held_balance : (k : ℕ) → k < length a.names → balance_at (described b a).kept k ≡ after b (a.line (name_at a.names k))
  held_balance k h = ap (λ (x : Kept). x.balance) (held k h)

  sound_after : (cs : List Call) → sound (view_of (after b cs)) ≡ true
  sound_after cs = (follows_calls d b start f cs).stands

  kept_sound_lem : kept_sound (described b a).kept (length a.names) ≡ true
  unfolding kept_sound
  kept_sound_lem =
      each_every _ (length a.names) (λ k h. subst⁻¹ (λ (y : Balance). sound (view_of y) ≡ true) (held_balance k h) (sound_after _))

  names_apart : distinct (held_at (described b a).kept) (length a.names) ≡ true
  unfolding distinct
  names_apart =
      each_every _ (length a.names)
      (λ k h.
      each_every _ k (λ j g. (λ i. not (same_name (held_name j (omega arith) i) (held_name k h i))) ∙ ap not (w.apart k j h g)))

  -- The described state is sound.
  pub sound_described : sound_state (described b a) ≡ true
  sound_described =
      stands (described b a) (record { current = sound_after a.current; few = w.few; kept = kept_sound_lem; apart = names_apart })

  place_same : (n : Name) → place_in (described b a) n ≡ place_of (name_at a.names) (length a.names) n
  place_same n = first_same (length a.names) _ _ (λ k h. ap (λ (m : Name). same_name m n) (held_name k h))

  -- No other name is the same as one that is found.
  other : (n : Name) (k j : ℕ) → k < length a.names → j < length a.names → same_name (name_at a.names k) n ≡ true → (j ≡ k → ⊥)
      → same_name (name_at a.names j) n ≡ false
  other n k j h g e q =
      let x = name_at a.names j in
      let y = name_at a.names k in
      by_bool (same_name x n)
      (λ p.
      by_lt j k
      (λ l. absurd (true≢false (sym (same_through x n y p (same_sym y n e)) ∙ w.apart k j h l)))
      (λ l. absurd (true≢false (sym (same_through y n x e (same_sym x n p)) ∙ w.apart j k g (omega arith)))))
      (λ p. p)

  -- What stands under a name once another one was kept, by whether the two are the same.
  abbrev kept_after : Name → Name → Bool → Kept
  kept_after n m t = record { name = m; balance = after b (cond t a.current (a.line m)) }

  replaced : (n : Name) (k : ℕ) → k < length a.names → same_name (name_at a.names k) n ≡ true
      → kept_under (described b a) k (held_at (described b a).kept k) ≡ (described b (replacing a n)).kept
  replaced n k h e =
      table_put place_limit empty_kept (length a.names) _ _ k _ w.few h
      (λ i. kept_after n (held_name k h i) (sym e i))
      (λ j g q. ap (kept_after n (name_at a.names j)) (sym (other n k j h g e q)))

  keep_found : (n : Name) (k : ℕ) → place_of (name_at a.names) (length a.names) n ≡ Some k → k < length a.names
      → same_name (name_at a.names k) n ≡ true → among a.names n ≡ true → Step d b a (keep n)
  keep_found n k p h e q =
      let r = keep_again (described b a) n sound_described k (place_same n ∙ p) in
      record {
        holds =
            ap (λ (y : Reply). y.state) r
            ∙ (λ i. record { balance = after b a.current; kept = replaced n k h e i; count = length a.names })
            ∙ ap (described b) (sym (kept_again a n q));
        tells = ap said_in r ∙ sym (λ i. saying (refuse FifthName (not (q i) && leb place_limit (length a.names)) (Ok tt)) 0);
        well = subst⁻¹ Well (kept_again a n q) (well_replacing a n w);
      }

  -- A new name takes the next place.
  added : (n : Name) → length a.names < place_limit → ((k : ℕ) → k < length a.names → same_name (name_at a.names k) n ≡ false)
      → kept_under (described b a) (length a.names) n ≡ (described b (adding a n)).kept
  added n h none-same =
      let names = a.names ++ (n ∷ []) in
      let next : ℕ → Kept = λ k. kept_after n (name_at names k) (same_name (name_at names k) n) in
      let last = kept_after n n true in
      ap (λ (l : List Kept). set l (length a.names) last)
      (table_same place_limit empty_kept (length a.names) (λ k. kept_as b a (name_at a.names k)) next w.few
      (λ k g.
      sym ((λ i. kept_after n (name_before a.names n k g i) (same_name (name_before a.names n k g i) n))
      ∙ ap (kept_after n (name_at a.names k)) (none-same k g))))
      ∙ table_more place_limit empty_kept (length a.names) next last h
      (sym ((λ i. kept_after n (name_last a.names n i) (same_name (name_last a.names n i) n)) ∙ ap (kept_after n n) (same_self n)))
      ∙ (λ i. table place_limit empty_kept (sym (one_longer a.names n) i) next)

  keep_added : (n : Name) → place_of (name_at a.names) (length a.names) n ≡ None
      → ((k : ℕ) → k < length a.names → same_name (name_at a.names k) n ≡ false) → among a.names n ≡ false
      → length a.names < place_limit → Step d b a (keep n)
  keep_added n p none-same q h =
      let r = keep_new (described b a) n sound_described (place_same n ∙ p) h in
      let full = lt-leb place_limit (length a.names) h in
      let counted : length a.names + 1 ≡ length (a.names ++ (n ∷ [])) = omega (arith, one_longer a.names n) in
      record {
        holds =
            ap (λ (y : Reply). y.state) r
            ∙ (λ i. record { balance = after b a.current; kept = added n h none-same i; count = counted i })
            ∙ ap (described b) (sym (kept_new a n q full));
        tells = ap said_in r ∙ sym (λ i. saying (refuse FifthName (not (q i) && full i) (Ok tt)) 0);
        well = subst⁻¹ Well (kept_new a n q full) (well_adding a n w h none-same);
      }

  keep_refused_lem : (n : Name) → place_of (name_at a.names) (length a.names) n ≡ None → among a.names n ≡ false
      → place_limit ≤ length a.names → Step d b a (keep n)
  keep_refused_lem n p q h =
      let r = keep_fifth (described b a) n sound_described (place_same n ∙ p) h in
      let full = le-leb place_limit (length a.names) h in
      record {
        holds = ap (λ (y : Reply). y.state) r ∙ ap (described b) (sym (kept_fifth a n q full));
        tells = ap said_in r ∙ sym (λ i. saying (refuse FifthName (not (q i) && full i) (Ok tt)) 0);
        well = subst⁻¹ Well (kept_fifth a n q full) w;
      }

  keep_step : (n : Name) → Sought a.names n → Step d b a (keep n)
  keep_step n (found k p h e q) = keep_found n k p h e q
  keep_step n (absent p none-same q) =
      by_lt (length a.names) place_limit (keep_added n p none-same q) (keep_refused_lem n p q)

  back_step : (n : Name) → Sought a.names n → Step d b a (back n)
  back_step n (found k p h e q) =
      let r = back_to (described b a) n sound_described k (place_same n ∙ p) in
      record {
        holds =
            ap (λ (y : Reply). y.state) r
            ∙ (λ i.
            record {
              balance = (held_balance k h ∙ ap (after b) (w.steady (name_at a.names k) n e)) i;
              kept = (described b a).kept;
              count = length a.names;
            })
            ∙ ap (described b) (sym (back_found a n q));
        tells = ap said_in r ∙ sym (λ i. saying (refuse NoSuchName (not (q i)) (Ok tt)) 0);
        well = subst⁻¹ Well (back_found a n q) (record { few = w.few; apart = w.apart; steady = w.steady });
      }
  back_step n (absent p none-same q) =
      let r = back_none (described b a) n sound_described (place_same n ∙ p) in
      record {
        holds = ap (λ (y : Reply). y.state) r ∙ ap (described b) (sym (back_absent a n q));
        tells = ap said_in r ∙ sym (λ i. saying (refuse NoSuchName (not (q i)) (Ok tt)) 0);
        well = subst⁻¹ Well (back_absent a n q) w;
      }

  ask_step : (c : Call) → Step d b a (ask c)
  ask_step c =
      record {
        holds = λ i.
            record {
              balance = sym (after_list b a.current c) i;
              kept = (described b a).kept;
              count = length a.names;
            };
        tells = same_saying d (after b a.current) (tallied d start a.current) (follows_calls d b start f a.current) c;
        well = record { few = w.few; apart = w.apart; steady = w.steady };
      }

  -- A moving window leaves what is held.
  watch_step : (q : Watched) → Step d b a (watch q)
  watch_step q = record { holds = refl; tells = windows_told (windows_refusal q.plots q.years q.width) q.plots q.years q.width; well = w }

  pub step : (r : Request) → Step d b a r
  step (ask c) = ask_step c
  step (keep n) = keep_step n (sought a.names n)
  step (back n) = back_step n (sought a.names n)
  step (watch q) = watch_step q

-- What two lists of bytes have alike that are the same below an offset: the fields, and the records of a description and of calls that end by
-- it. Assumes nothing.
use Rattle.std.specs.Prelude.{Option, Some, None}
use Prim.Native.Nat.{ℕ, ◌+◌, ◌-◌, ◌*◌, ◌≤◌, ◌<◌}
use mathlib.Core.Path.{◌≡◌, sym, ap, ap₂, ◌∙◌}
use mathlib.Core.List.{List, []}
use lib.ListN.{length, get_or}
use native.Mathlib.Omega.{arith}
use borrow.Author.Tests.{lt-ltb, le-ltb, eq-eqb, ne_eqb}
use Rattle.laws.specs.Signed.{signed32}
use Rattle.laws.proofs.Cases.{by_lt, by_eq}
use Rattle.model.specs.declared.Refusal.TheVariants.{Short}
use Rattle.model.specs.declared.Title.TheVariants.{UnitWithdrawal, AquiferWithdrawal, UnitTransfer, AquiferTransfer, ReturningWithdrawal}
use Rattle.model.specs.declared.Call.{Call}
use Rattle.model.specs.declared.Call.TheVariants.{Grant, Cancel}
use Rattle.runoff.specs.declared.Measure.{Measure}
use Rattle.runoff.specs.declared.Measure.TheVariants.{Millimetres, Tenths}
use Rattle.runoff.specs.declared.Rain.{Rain}
use Rattle.runoff.specs.declared.Gauged.{Gauged}
use Rattle.runoff.specs.Record.{of_rain, of_gauge}
use Rattle.record.specs.declared.Mark.{Mark}
use Rattle.record.specs.declared.Mark.TheVariants.{Un, Su, Pr, Pd, Af, Ac, Call as CallMarked}
use Rattle.record.specs.declared.CallMark.{CallMark}
use Rattle.record.specs.declared.CallMark.TheVariants.{Gu, Ga, Tu, Ta, Gw, Ca}
use Rattle.record.specs.declared.CallAt.TheVariants.{End as noCall, Fails as failed, Asks}
use Rattle.record.specs.Bytes.{bits8, bits16, bits32, signed_bits32}
use Rattle.record.specs.Record.{mark_of, call_mark, aquifer_record}
use Rattle.record.specs.Described.{unit_at, plot_at, rain_at, gauged_at}
use Rattle.record.specs.Entries.{Entry, unit_entry, soil_entry, year_entry, aquifer_entry, no_entry, failing, stands, whole_entry, entry_marked, entry_at}
use Rattle.record.specs.Calls.{size_of, call_of, call_marked, call_at}

module _ (s : List ℕ) (at : ℕ) where
  -- Nothing left ends the description.
  pub entry_end : length s ≤ at → entry_at s at ≡ no_entry
  unfolding entry_at
  entry_end h = rw (eq-eqb (length s - at) 0 (omega arith))

  -- A lone last byte is 1.
  pub entry_lone : length s ≡ at + 1 → entry_at s at ≡ failing Short
  unfolding entry_at
  entry_lone h = rw (ne_eqb (length s - at) 0 (λ e. omega arith), eq-eqb (length s - at) 1 (omega arith))

  -- Two bytes or more are read by their mark.
  pub entry_marked_lem : at + 2 ≤ length s → entry_at s at ≡ entry_marked (mark_of (bits8 s at) (bits8 s (at + 1))) s at
  unfolding entry_at
  entry_marked_lem h = rw (ne_eqb (length s - at) 0 (λ e. omega arith), ne_eqb (length s - at) 1 (λ e. omega arith))

-- Of a list that has the bytes of another below an offset P.
module _ (s t : List ℕ) (P : ℕ) (same : (i : ℕ) → i < P → get_or t i 0 ≡ get_or s i 0) (within : P ≤ length t) where
  -- 16 bits below the offset are the same.
  pub same_16 : (i : ℕ) → i + 2 ≤ P → bits16 t i ≡ bits16 s i
  same_16 i h = λ k. same i (omega arith) k + 256 * same (i + 1) (omega arith) k

  -- 32 bits are the same.
  pub same_32 : (i : ℕ) → i + 4 ≤ P → bits32 t i ≡ bits32 s i
  same_32 i h = λ k. same_16 i (omega arith) k + 65536 * same_16 (i + 2) (omega arith) k

  -- Signed 32 bits are the same.
  pub same_signed : (i : ℕ) → i + 4 ≤ P → signed_bits32 t i ≡ signed_bits32 s i
  same_signed i h = ap signed32 (same_32 i h)

  -- A UN is the same.
  pub same_unit : (at : ℕ) → at + 31 ≤ P → unit_at t at ≡ unit_at s at
  same_unit at h = λ k.
      record {
        at = at;
        downstream = same (at + 2) (omega arith) k;
        extraction = same_32 (at + 3) (omega arith) k;
        exports = same_32 (at + 7) (omega arith) k;
        imports = same_32 (at + 11) (omega arith) k;
        returns = same_32 (at + 15) (omega arith) k;
        evaporation = same_32 (at + 19) (omega arith) k;
        storage = same_signed (at + 23) (omega arith) k;
        commitment = same_32 (at + 27) (omega arith) k;
        plots = [];
        years = [];
      }

  -- An SU is the same.
  pub same_plot : (at : ℕ) → at + 8 ≤ P → plot_at t at ≡ plot_at s at
  same_plot at h = λ k.
      record { cover = same (at + 2) (omega arith) k; soil = same (at + 3) (omega arith) k; hectares = same_32 (at + 4) (omega arith) k }

  -- A PR or PD is the same.
  pub same_rain : (m : Measure) (at : ℕ) → at + 4 ≤ P → rain_at m t at ≡ rain_at m s at
  same_rain m at h = λ k. record { measure = m; depth = same_16 (at + 2) (omega arith) k }

  -- An AF is the same.
  pub same_gauge : (at : ℕ) → at + 34 ≤ P → gauged_at t at ≡ gauged_at s at
  same_gauge at h = λ k.
      record {
        outflow = same_32 (at + 2) (omega arith) k;
        inflow = same_32 (at + 6) (omega arith) k;
        extraction = same_32 (at + 10) (omega arith) k;
        exports = same_32 (at + 14) (omega arith) k;
        imports = same_32 (at + 18) (omega arith) k;
        returns = same_32 (at + 22) (omega arith) k;
        evaporation = same_32 (at + 26) (omega arith) k;
        storage = same_signed (at + 30) (omega arith) k;
      }

  -- An AC is the same.
  pub same_aquifer : (at : ℕ) → at + 22 ≤ P → aquifer_record t at ≡ aquifer_record s at
  same_aquifer at h = λ k.
      record {
        storage = same_signed (at + 2) (omega arith) k;
        natural = same_32 (at + 6) (omega arith) k;
        pumped = same_32 (at + 10) (omega arith) k;
        committed = same_32 (at + 14) (omega arith) k;
        extraction = same_32 (at + 18) (omega arith) k;
      }

  module _ (at : ℕ) (e : Entry) (to : ℕ) (h : to ≤ P) where
    -- A record that is whole in the one and ends by the offset P is whole in the other.
    same_whole : (size : ℕ) (x y : Entry) → 2 ≤ size → (at + size ≤ P → y ≡ x) → whole_entry s at size x ≡ stands e to
        → (at + 2 ≤ to) × (whole_entry t at size y ≡ stands e to)
    same_whole size x y big eq q =
        by_lt (length s - at) size
        (λ l.
        let w : failing Short ≡ stands e to = rw (lt-ltb (length s - at) size l) at q in
        let z : ◌≡◌ {A = ℕ} 0 1 = cc in
        absurd (omega arith))
        (λ l.
        let w : stands x (at + size) ≡ stands e to = rw (le-ltb (length s - at) size l) at q in
        let v : at + size ≡ to = cc in
        let g : stands y (at + size) ≡ stands x (at + size) = ap (λ (z : Entry). stands z (at + size)) (eq (omega arith)) in
        (omega arith, rw (le-ltb (length t - at) size (omega arith)) (g ∙ w)))

    -- A record of any mark that stands in the one and ends by P stands in the other.
    same_marked : (m : Option Mark) → entry_marked m s at ≡ stands e to → (at + 2 ≤ to) × (entry_marked m t at ≡ stands e to)
    same_marked (Some Un) q = same_whole 31 _ _ (omega arith) (λ l. ap unit_entry (same_unit at l)) q
    same_marked (Some Su) q = same_whole 8 _ _ (omega arith) (λ l. ap soil_entry (same_plot at l)) q
    same_marked (Some Pr) q = same_whole 4 _ _ (omega arith) (λ l. ap (λ (r : Rain). year_entry (of_rain r)) (same_rain Millimetres at l)) q
    same_marked (Some Pd) q = same_whole 4 _ _ (omega arith) (λ l. ap (λ (r : Rain). year_entry (of_rain r)) (same_rain Tenths at l)) q
    same_marked (Some Af) q = same_whole 34 _ _ (omega arith) (λ l. ap (λ (y : Gauged). year_entry (of_gauge y)) (same_gauge at l)) q
    same_marked (Some Ac) q = same_whole 22 _ _ (omega arith) (λ l. ap aquifer_entry (same_aquifer at l)) q
    same_marked (Some CallMarked) q = let z : ◌≡◌ {A = ℕ} 0 1 = cc in absurd (omega arith)
    same_marked None q = let z : ◌≡◌ {A = ℕ} 0 1 = cc in absurd (omega arith)

    -- So does the record at an offset, since the marks are the same.
    pub same_entry : entry_at s at ≡ stands e to → entry_at t at ≡ stands e to
    same_entry q =
        by_lt at (length s)
        (λ l. by_eq (length s) (at + 1)
        (λ g. let w = sym (entry_lone s at g) ∙ q in let z : ◌≡◌ {A = ℕ} 0 1 = cc in absurd (omega arith))
        (λ g.
        let m = same_marked (mark_of (bits8 s at) (bits8 s (at + 1))) (sym (entry_marked_lem s at (omega arith)) ∙ q) in
        let b : mark_of (bits8 t at) (bits8 t (at + 1)) ≡ mark_of (bits8 s at) (bits8 s (at + 1)) =
        ap₂ mark_of (same at (omega (arith, m.0))) (same (at + 1) (omega (arith, m.0))) in
        entry_marked_lem t at (omega (arith, m.0)) ∙ ap (λ (x : Option Mark). entry_marked x t at) b ∙ m.1))
        (λ l. let w = sym (entry_end s at l) ∙ q in let z : ◌≡◌ {A = ℕ} 0 1 = cc in absurd (omega arith))

module _ (s : List ℕ) (at : ℕ) where
  -- Nothing left ends the calls.
  pub call_end : length s ≤ at → call_at s at ≡ noCall
  unfolding call_at
  call_end h = rw (eq-eqb (length s - at) 0 (omega arith))

  -- A lone last byte is 1.
  pub call_lone : length s ≡ at + 1 → call_at s at ≡ failed Short
  unfolding call_at
  call_lone h = rw (ne_eqb (length s - at) 0 (λ e. omega arith), eq-eqb (length s - at) 1 (omega arith))

  -- Two bytes or more are read by their mark.
  pub call_marked_lem : at + 2 ≤ length s → call_at s at ≡ call_marked (call_mark (bits8 s at) (bits8 s (at + 1))) s at
  unfolding call_at
  call_marked_lem h = rw (ne_eqb (length s - at) 0 (λ e. omega arith), ne_eqb (length s - at) 1 (λ e. omega arith))

-- Of a list that has all the bytes of another.
module _ (s t : List ℕ) (same : (i : ℕ) → i < length s → get_or t i 0 ≡ get_or s i 0) (within : length s ≤ length t) where
  -- Bits within the one are the same.
  byte : (i : ℕ) → i + 1 ≤ length s → bits8 t i ≡ bits8 s i
  byte i h = same i (omega arith)

  half : (i : ℕ) → i + 2 ≤ length s → bits16 t i ≡ bits16 s i
  half i h = same_16 s t (length s) same within i h

  word : (i : ℕ) → i + 4 ≤ length s → bits32 t i ≡ bits32 s i
  word i h = same_32 s t (length s) same within i h

  module _ (at : ℕ) where
    -- A call is the same.
    same_call_of : (m : CallMark) → at + size_of m ≤ length s → call_of m t at ≡ call_of m s at
    same_call_of Gu h = λ k. Grant (UnitWithdrawal (byte (at + 2) (omega arith) k) (byte (at + 3) (omega arith) k) (word (at + 4) (omega arith) k))
    same_call_of Ga h = λ k. Grant (AquiferWithdrawal (byte (at + 2) (omega arith) k) (word (at + 3) (omega arith) k))
    same_call_of Tu h = λ k. Grant (UnitTransfer (byte (at + 2) (omega arith) k) (byte (at + 3) (omega arith) k) (word (at + 4) (omega arith) k))
    same_call_of Ta h = λ k. Grant (AquiferTransfer (byte (at + 2) (omega arith) k) (byte (at + 3) (omega arith) k) (word (at + 4) (omega arith) k))
    same_call_of Gw h = λ k.
        Grant (ReturningWithdrawal (byte (at + 2) (omega arith) k) (byte (at + 3) (omega arith) k) (byte (at + 4) (omega arith) k) (word (at + 5) (omega arith) k))
    same_call_of Ca h = λ k. Cancel (half (at + 2) (omega arith) k)

    -- A call's record has four to nine bytes.
    sizes : (m : CallMark) → (4 ≤ size_of m) × (size_of m ≤ 9)
    sizes Gu = (omega arith, omega arith)
    sizes Ga = (omega arith, omega arith)
    sizes Tu = (omega arith, omega arith)
    sizes Ta = (omega arith, omega arith)
    sizes Gw = (omega arith, omega arith)
    sizes Ca = (omega arith, omega arith)

    -- A record of any mark that is whole in the one is whole in the other.
    same_call_marked : (m : Option CallMark) (c : Call) (to : ℕ) → call_marked m s at ≡ Asks c to → call_marked m t at ≡ Asks c to
    same_call_marked None c to q = cc
    same_call_marked (Some m) c to q =
        by_lt (length s - at) (size_of m)
        (λ l. let w : failed Short ≡ Asks c to = rw (lt-ltb (length s - at) (size_of m) l) at q in cc)
        (λ l.
        let g : at + size_of m ≤ length s = omega (arith, (sizes m).0) in
        let w : Asks (call_of m s at) (at + size_of m) ≡ Asks c to = rw (le-ltb (length s - at) (size_of m) l) at q in
        rw (le-ltb (length t - at) (size_of m) (omega arith)) (ap (λ (x : Call). Asks x (at + size_of m)) (same_call_of m g) ∙ w))

    marks : at + 2 ≤ length s → call_mark (bits8 t at) (bits8 t (at + 1)) ≡ call_mark (bits8 s at) (bits8 s (at + 1))
    marks h = ap₂ call_mark (byte at (omega arith)) (byte (at + 1) (omega arith))

    -- A call of the one is a call of the other.
    pub same_call : (c : Call) (to : ℕ) → call_at s at ≡ Asks c to → call_at t at ≡ Asks c to
    same_call c to q =
        by_lt at (length s)
        (λ l. by_eq (length s) (at + 1)
        (λ g. let w = sym (call_lone s at g) ∙ q in cc)
        (λ g.
        let b = marks (omega arith) in
        let w = sym (call_marked_lem s at (omega arith)) ∙ q in
        call_marked_lem t at (omega arith) ∙ ap (λ (x : Option CallMark). call_marked x t at) b
        ∙ same_call_marked (call_mark (bits8 s at) (bits8 s (at + 1))) c to w))
        (λ l. let w = sym (call_end s at l) ∙ q in cc)

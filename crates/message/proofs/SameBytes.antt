-- What is read and written again is the same bytes: each payload is spelt out byte by byte. Assumes nothing.
use Prim.Native.Nat.{ℕ, ◌+◌, ◌*◌, ◌/◌, ◌%◌, ◌<◌, ◌≤◌}
use mathlib.Core.Path.{◌≡◌, refl, sym, ap, ◌∙◌}
use mathlib.Core.Bool.{Bool, true, false, cond, ◌&&◌, true≢false}
use mathlib.Core.List.{List, [], ◌∷◌, ◌++◌, append-nil, cons≢nil, tail-eq_of_cons-eq}
use native.Mathlib.Omega.{arith}
use borrow.Author.Tests.{ltb-true, eqb-true, eqb-false, leb-true}
use lib.Dec.{eqb, leb, ltb}
use lib.ListN.{length, get_or, take, drop, length-drop, take-append-drop, drop_of_length-le}
use lib.Seq.{drop-cons, get_or-drop, take_at, drop_at, length-take-le, drop-drop}
use Rattle.base.proofs.Tests.{both}
use Rattle.base.proofs.Keys.{among_holds}
use Rattle.base.specs.Numbers.{two, four, two_at, four_at}
use Rattle.message.specs.Numbers.{eight_at, eight}
use Rattle.base.specs.Keys.{among}
use Rattle.message.specs.Counter.{status_values, status_allowed, control_values, control_allowed, status_in, control_in}
use Rattle.message.specs.Counter.{status_bytes, control_bytes}
use Rattle.message.specs.Commands.{from, table, profile_in, kind_of}
use Rattle.message.specs.Layouts.{network_values, time_values, fits, size_fits}
use Rattle.message.specs.Messages.{network_in, unix_in, information_bytes, network_bytes, time_bytes, unix_bytes}
use Rattle.message.specs.Messages.{command_in, message_in, payload_in}
use Rattle.message.specs.ReadWritten.{opaque_of}
use Rattle.message.specs.SameBytes.{Again, SameBytes}
use Rattle.message.specs.declared.counter.Status.{Status}
use Rattle.message.specs.declared.counter.Control.{Control}
use Rattle.message.specs.declared.values.Extra.TheVariants as extra
use Rattle.message.specs.declared.values.Network.{Network}
use Rattle.message.specs.declared.values.Time.{Time}
use Rattle.std.specs.Prelude.{Option, None, Some}
use Rattle.message.specs.declared.values.Message.{Message}
use Rattle.message.specs.declared.values.Message.TheVariants as message
use Rattle.message.proofs.Numbers.{value}
use Rattle.message.proofs.Spelt.{from_place, whole, high_bits, low_bits, flagged, two_flagged}
use Rattle.message.proofs.Accepted.{Accepted, accepted}
use Rattle.message.proofs.ReadAgain.{empty_payload, control_read}

-- ---- sizes

one_size : (x n : ℕ) → among x (n ∷ []) ≡ true → x ≡ n
one_size x n h = among_holds (λ m. m ≡ n) x (n ∷ []) (refl, tt) h

filled : (t : Bool) (l : List ℕ) {v : ℕ} {vs : List ℕ} → cond t [] l ≡ v ∷ vs → t ≡ false
filled true l e = absurd (cons≢nil (sym e))
filled false l e = refl

-- no values
unfilled : (t : Bool) (v : ℕ) → cond t [] (v ∷ []) ≡ [] → t ≡ true
unfilled true v e = refl
unfilled false v e = absurd (cons≢nil e)

-- ---- a control

control_spelt : (c : Control) (f v h l : ℕ) → f < 8 → v < 8 → l < 256 → control_values (f ∷ v ∷ h ∷ l ∷ [])
    ≡ control_in c
    → control_bytes c ≡ f ∷ ((f % 2) * (v % 2) + (f / 2 % 2) * (v / 2) * 2) ∷ (f / 4) * h ∷ (f / 4) * l ∷ []
control_spelt c f v h l small-f small-v small-l e =
    let lamp = flagged c.flags.lamp _ _ _ (value 0 e) (value 3 e) in
    let mode = flagged c.flags.mode _ _ _ (value 1 e) (value 4 e) in
    let volume = flagged c.flags.volume _ _ _ (value 2 e) (value 5 e) in
    let bytes = two_flagged c.flags.volume _ h l (value 2 e) small-l in
    let all : f / 1 % 2 + f / 2 % 2 * 2 + f / 4 % 2 * 4 ≡ f = omega arith in
    let f_lamp : f / 1 % 2 ≡ f % 2 = omega arith in
    let f_volume : f / 4 % 2 ≡ f / 4 = omega arith in
    let v_lamp : v / 1 % 2 ≡ v % 2 = omega arith in
    let v_mode : v / 2 % 4 ≡ v / 2 = omega arith in
    rw (
      lamp,
      mode,
      volume,
      bytes.0,
      bytes.1,
      ← value 0 e,
      ← value 1 e,
      ← value 2 e,
      all,
      f_lamp,
      f_volume,
      v_lamp,
      v_mode,
    )

-- ---- a status after the first byte

status_same : (s : List ℕ) (status : Status) → length s ≡ 8 → ((i : ℕ) → get_or s i 0 < 256) → status_allowed s ≡ true
    → status_values s ≡ status_in status → status_bytes status ≡ s
status_same s status size bytes h e =
    let first : get_or s 0 0 < 16 = ltb-true _ _ (both (ltb (get_or s 0 0) 16) h).0 in
    let last : get_or s 7 0 < 8 = ltb-true _ _ (both (ltb (get_or s 7 0) 8) (both (ltb (get_or s 0 0) 16) h).1).0 in
    whole 8 s (status_bytes status) size
    (omega (
      arith,
      value 0 e,
      value 1 e,
      value 2 e,
      value 3 e,
      value 4 e,
      value 5 e,
      value 6 e,
      value 7 e,
      bytes 2,
      bytes 4,
      bytes 5,
      bytes 6,
    ))

module _ (p : List ℕ) (bytes : (i : ℕ) → get_or p i 0 < 256) where
  after_first : (action : ℕ) (status : Status) → get_or p 0 0 ≡ action → length p ≡ 9 → status_allowed (drop 1 p) ≡ true
      → status_values (drop 1 p) ≡ status_in status → action ∷ status_bytes status ≡ p
  after_first action status first size h e =
      let rest : status_bytes status ≡ drop 1 p =
      status_same (drop 1 p) status (omega (arith, length-drop 1 p))
      (λ i. rw (get_or-drop 1 p i 0) (bytes (1 + i))) h e in
      let split : p ≡ get_or p 0 0 ∷ drop 1 p = drop-cons p 0 0 (omega arith) in
      cc

  -- ---- device information

  -- its numbers are between the two pieces of the caller's data
  information_same : (numbers : List ℕ) → 64 ≤ length p → numbers ++ drop 74 p ≡ drop 64 p
      → information_bytes numbers (opaque_of 0x02 p) ≡ p
  information_same numbers h e =
      let front : length (take 64 p) ≡ 64 = length-take-le 64 p h in
      rw (take_at (take 64 p) (drop 74 p) 64 front, drop_at (take 64 p) (drop 74 p) 64 front, e) (take-append-drop 64 p)

  with_attributes : (timeout attributes : ℕ) → 74 ≤ length p → two_at p 64 ≡ timeout → eight_at p 66 ≡ attributes
      → information_bytes (two timeout (eight attributes [])) (opaque_of 0x02 p) ≡ p
  with_attributes timeout attributes h t e =
      information_same (two timeout (eight attributes [])) (omega arith)
      (from_place 64 10 p (two timeout (eight attributes [])) h
      (omega (arith, bytes 65, bytes 67, bytes 68, bytes 69, bytes 70, bytes 71, bytes 72, bytes 73)) refl)

  -- ---- the time

  time_same : (time : Time) (u : Option ℕ) → among (length p) (7 ∷ 11 ∷ []) ≡ true
      → time_values p (cond (eqb (length p) 7) [] (four_at p 7 ∷ []))
      ≡ time.year ∷ time.month ∷ time.day ∷ time.hour ∷ time.minute ∷ time.second ∷ unix_in u
      → time_bytes time (unix_bytes u) ≡ p
  time_same time None h e =
      let size : length p ≡ 7 = eqb-true _ _ (unfilled (eqb (length p) 7) _ (ap (drop 6) e)) in
      whole 7 p (time_bytes time []) size
      (omega (arith, value 0 e, value 1 e, value 2 e, value 3 e, value 4 e, value 5 e, bytes 1))
  time_same time (Some seconds) h e =
      let long : eqb (length p) 7 ≡ false = filled (eqb (length p) 7) _ (ap (drop 6) e) in
      let size : length p ≡ 11 = among_holds (λ n. eqb n 7 ≡ false → n ≡ 11) (length p) (7 ∷ 11 ∷ [])
      ((λ q. absurd (true≢false q)), ((λ q. refl), tt)) h long in
      let last : four_at p 7 ≡ seconds = value 0 (rw long at (ap (drop 6) e)) in
      whole 11 p (time_bytes time (four seconds [])) size
      (omega (
        arith,
        value 0 e,
        value 1 e,
        value 2 e,
        value 3 e,
        value 4 e,
        value 5 e,
        bytes 1,
        bytes 8,
        bytes 9,
        bytes 10,
      ))

  -- ---- the size of a piece, after the check code

  ready_size : (n size : ℕ) → length p ≡ 0 + 2 + n + 2 → two_at p (2 + n) ≡ size → two size [] ≡ drop n (drop 2 p)
  ready_size n size h e =
      sym (append-nil (two size []))
      ∙ from_place (2 + n) 2 p (two size []) (omega arith) (omega (arith, bytes (2 + n + 1)))
      (sym (drop_of_length-le p {i = 2 + n + 2} (omega arith)))
      ∙ sym (drop-drop n 2 p)

  -- ---- what reading ignores

  network_same : (network : Network) → 0x0D ∷ network_values p ≡ 0x0D ∷ network_in network
      → network_bytes network ≡ get_or p 0 0 % 32 ∷ get_or p 1 0 % 64 ∷ []
  network_same network e =
      let high : get_or (network_bytes network) 0 0 ≡ get_or p 0 0 % 32 = omega
      (arith, value 7 e, value 8 e, value 9 e, high_bits (get_or p 0 0) (get_or p 1 0) (bytes 1)) in
      let low : get_or (network_bytes network) 1 0 ≡ get_or p 1 0 % 64 =
      rw (← value 1 e, ← value 2 e, ← value 3 e, ← value 4 e, ← value 5 e, ← value 6 e)
      (low_bits (two_at p 0) ∙ omega arith) in
      cc

  -- a value whose flag is 0 is 0
  control_same : (c : Control) → control_allowed (drop 1 p) ≡ true → control_values (drop 1 p) ≡ control_in c
      → control_bytes c
      ≡ get_or p 1 0 ∷ ((get_or p 1 0 % 2) * (get_or p 2 0 % 2) + (get_or p 1 0 / 2 % 2) * (get_or p 2 0 / 2) * 2)
      ∷ (get_or p 1 0 / 4) * get_or p 3 0 ∷ (get_or p 1 0 / 4) * get_or p 4 0 ∷ []
  control_same c h e =
      let flags : get_or p 1 0 < 8 =
      ltb-true _ _ (rw (get_or-drop 1 p 0 0) at (both (ltb (get_or (drop 1 p) 0 0) 8) h).0) in
      let rest = (both (ltb (get_or (drop 1 p) 1 0) 8) (both (ltb (get_or (drop 1 p) 0 0) 8) h).1).0 in
      let values : get_or p 2 0 < 8 = ltb-true _ _ (rw (get_or-drop 1 p 1 0) at rest) in
      control_spelt c (get_or p 1 0) (get_or p 2 0) (get_or p 3 0) (get_or p 4 0) flags values (bytes 4)
      (rw (get_or-drop 1 p 0 0, get_or-drop 1 p 1 0, get_or-drop 1 p 2 0, get_or-drop 1 p 3 0) at e)

  -- ---- each message

  -- one byte
  byte_same : (n : ℕ) → (among (length p) (1 ∷ []) && fits (from 0) p) ≡ true → get_or p 0 0 ≡ n → n ∷ [] ≡ p
  byte_same n h e = whole 1 p (n ∷ []) (one_size (length p) 1 (both (among (length p) (1 ∷ [])) h).0) (sym e, tt)

  -- a command of which reading ignores nothing
  all_read : (m : Message) → eqb (command_in m) 0x0D ≡ false → eqb (command_in m) 0x03 ≡ false
      → payload_in m (opaque_of (command_in m) p) ≡ p → Again (command_in m) p m
  all_read m n d e =
      record {
        size = ap (λ (l : List ℕ). length l) e;
        same = λ _ _. e;
        network = λ q. absurd (eqb-false _ _ n q);
        control = λ q _. absurd (eqb-false _ _ d q);
      }

  again : (m : Message) → Accepted (kind_of (command_in m)) (command_in m) p (message_in m) → Again (command_in m) p m
  unfolding table profile_in size_fits fits among
  again (message.Empty c) a =
      let e : p ≡ [] = empty_payload (kind_of c) p a.sized (tail-eq_of_cons-eq a.values) in
      record {
        size = ap (λ (l : List ℕ). length l) (sym e);
        same = λ _ _. sym e;
        network = λ q. absurd (true≢false (sym (rw (q, e) at a.sized)));
        control = λ _ f. absurd (eqb-false 0 1 refl (rw e at f));
      }
  again (message.Information timeout extra.Absent) a =
      let size : length p ≡ 66 = value 1 a.values in
      all_read (message.Information timeout extra.Absent) refl refl
      (information_same (two timeout []) (omega arith)
      (from_place 64 2 p (two timeout []) (omega arith) (omega (arith, value 2 a.values, bytes 65))
      (drop_of_length-le p {i = 74} (omega arith) ∙ sym (drop_of_length-le p {i = 66} (omega arith)))))
  again (message.Information timeout (extra.Attributes attributes)) a =
      let size : length p ≡ 74 = value 1 a.values in
      all_read (message.Information timeout (extra.Attributes attributes)) refl refl
      (with_attributes timeout attributes (omega arith) (value 2 a.values) (rw size at (value 3 a.values)))
  again (message.Information timeout (extra.AttributesAndSecret attributes)) a =
      let size : length p ≡ 106 = value 1 a.values in
      all_read (message.Information timeout (extra.AttributesAndSecret attributes)) refl refl
      (with_attributes timeout attributes (omega arith) (value 2 a.values) (rw size at (value 3 a.values)))
  again (message.Control control) a =
      let first : get_or p 0 0 ≡ 1 = value 1 a.values in
      let long = (both (leb 1 (length p)) a.sized).1 in
      record {
        size = sym (one_size (length p) 5 (rw first at long));
        same = λ _ d. absurd (d refl first);
        network = λ q. absurd (eqb-false 0x03 0x0D refl q);
        control = λ _ _. ap (λ (l : List ℕ). 1 ∷ l)
            (control_same control (rw first at a.allows) (control_read p control a));
      }
  again message.Query a =
      let first : get_or p 0 0 ≡ 2 = value 1 a.values in
      let long = (both (leb 1 (length p)) a.sized).1 in
      let one : length p ≡ 1 = one_size (length p) 1 (rw first at long) in
      record {
        size = sym one;
        same = λ _ _. whole 1 p (2 ∷ []) one (omega arith);
        network = λ q. absurd (eqb-false 0x03 0x0D refl q);
        control = λ _ f. absurd (eqb-false 2 1 refl (sym first ∙ f));
      }
  again (message.Status status) a =
      let values : cond (eqb (length p) 0) [] (get_or p 0 0 ∷ status_values (drop 1 p)) ≡ 3 ∷ status_in status =
      tail-eq_of_cons-eq a.values in
      let some : eqb (length p) 0 ≡ false = filled (eqb (length p) 0) _ values in
      let first : get_or p 0 0 ≡ 3 = value 0 (rw some at values) in
      let size = (both (leb 0 (length p)) a.sized).1 in
      all_read (message.Status status) refl refl
      (after_first 3 status first (one_size (length p) 9 (rw first at size))
      (both (eqb (get_or p 0 0) 3) (rw some at a.allows)).1 (tail-eq_of_cons-eq (rw some at values)))
  again (message.Report status) a =
      let first : get_or p 0 0 ≡ 4 = value 1 a.values in
      let size = (both (leb 1 (length p)) a.sized).1 in
      all_read (message.Report status) refl refl
      (after_first 4 status first (one_size (length p) 9 (rw first at size))
      (both (eqb (get_or p 0 0) 4) a.allows).1 (ap (λ (l : List ℕ). drop 2 l) a.values))
  again (message.Onboarding way) a =
      all_read (message.Onboarding way) refl refl (byte_same _ a.sized (value 1 a.values))
  again (message.Network network) a =
      record {
        size = sym (one_size (length p) 2 (both (among (length p) (2 ∷ [])) a.sized).0);
        same = λ n _. absurd (n refl);
        network = λ _. network_same network a.values;
        control = λ q _. absurd (eqb-false 0x0D 0x03 refl q);
      }
  again (message.ModuleReject code) a =
      all_read (message.ModuleReject code) refl refl (byte_same _ a.sized (value 1 a.values))
  again (message.BoxReject code) a =
      all_read (message.BoxReject code) refl refl (byte_same _ a.sized (value 1 a.values))
  again (message.Time time) a =
      all_read (message.Time time) refl refl
      (time_same time time.unix (both (among (length p) (7 ∷ 11 ∷ [])) a.sized).0
      (tail-eq_of_cons-eq a.values))
  again (message.Announcement size) a =
      let counted : length p ≡ 4 + 2 + two_at p 4 + 0 = eqb-true _ _
      (both (eqb (length p) (4 + 2 + two_at p 4 + 0)) a.sized).0 in
      all_read (message.Announcement size) refl refl
      (from_place 0 6 p (four size (two (length (drop 6 p)) [])) (omega arith)
      (omega (arith, length-drop 6 p, value 1 a.values, bytes 1, bytes 2, bytes 3, bytes 5)) refl)
  again (message.Ready size) a =
      let counted : length p ≡ 0 + 2 + two_at p 0 + 2 = eqb-true _ _
      (both (eqb (length p) (0 + 2 + two_at p 0 + 2)) a.sized).0 in
      let code : List ℕ = take (two_at p 0) (drop 2 p) in
      let long : length code ≡ two_at p 0 = length-take-le (two_at p 0) (drop 2 p) (omega (arith, length-drop 2 p)) in
      let last : two size [] ≡ drop (two_at p 0) (drop 2 p) =
      ready_size (two_at p 0) size counted (value 1 a.values) in
      all_read (message.Ready size) refl refl
      (from_place 0 2 p (two (length code) []) (omega arith) (omega (arith, bytes 1))
      (rw last (take-append-drop (two_at p 0) (drop 2 p))))
  again (message.Piece index total) a =
      let least : 4 ≤ length p = leb-true _ _ (both (leb 4 (length p)) a.sized).0 in
      all_read (message.Piece index total) refl refl
      (from_place 0 4 p (two index (two total [])) least
      (omega (arith, value 1 a.values, value 2 a.values, bytes 1, bytes 3)) refl)

pub same_bytes : SameBytes
same_bytes command p bytes m e =
    let a : Accepted (kind_of command) command p (message_in m) = accepted e in
    let is : command ≡ command_in m = value 0 a.values in
    rw is (again p bytes m (rw is at a))

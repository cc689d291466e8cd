-- The cases of each command, from the tests of its layout. Assumes nothing.
use Prim.Native.Nat.{ℕ, suc, ◌+◌, ◌*◌, ◌/◌, ◌%◌, ◌≤◌, ◌<◌}
use mathlib.Core.Path.{◌≡◌, refl, sym, ap, ◌∙◌}
use mathlib.Core.Bool.{Bool, true, false, ◌||◌}
use mathlib.Core.List.{List, [], ◌∷◌}
use mathlib.Core.Logic.{◌≢◌}
use native.Mathlib.Omega.{arith}
use borrow.Author.Tests.{eq-eqb, ne_eqb, eqb-false, lt-ltb, le-ltb, ltb-true, le-leb, lt-leb}
use lib.Dec.{eqb, ltb}
use lib.ListN.{length, get_or}
use Rattle.base.specs.Rows.{row}
use Rattle.base.specs.Keys.{among}
use Rattle.base.specs.Numbers.{two_at}
use Rattle.base.proofs.Keys.{among_none, among_next}
use Rattle.base.proofs.Lists.{all_same}
use Rattle.base.proofs.Tests.{by_test, either_way}
use Rattle.message.specs.Counter.{status_values, status_allowed, control_values, control_allowed}
use Rattle.message.specs.Commands.{exactly, from, counted, table, profile_in, kind_of}
use Rattle.message.specs.Layouts.{code_allowed, status_sizes, status_allowed_after, is_listed, sizes_of, chosen_of}
use Rattle.message.specs.Layouts.{allowed, values_of, fits, size_fits}
use Rattle.message.specs.Reading.{decode_as, read_of}
use Rattle.message.specs.ReadingExact.{EmptyRead, attributes_in, InformationRead, controlled, ControlRead}
use Rattle.message.specs.ReadingExact.{ActionRead, nine_bytes, StatusRead, ByteRead, NetworkRead, TimeRead}
use Rattle.message.specs.ReadingExact.{AnnouncementRead, ReadyRead, PieceRead, ReadsExactly}
use Rattle.message.specs.declared.kind.Kind.{Kind}
use Rattle.message.specs.declared.kind.Kind.TheVariants as kind
use Rattle.message.proofs.CommandLists.{command_lists}
use Rattle.message.proofs.Tests.{and_false}
use Rattle.message.proofs.Decoding.{size_fits_lem, fits_any, fits_some, fits_from, fits_exactly, sized_one}
use Rattle.message.proofs.Decoding.{sized_counted, whole}

-- ---- the row of a listed command, by its tests

module _ (k : Kind) (command : ℕ) (p : List ℕ) (listed : is_listed k ≡ true) where
  read : {vs : List ℕ} → size_fits k p ≡ true → allowed k p ≡ true → values_of k p ≡ vs
      → (decode_as k command p).row ≡ row 0 (command ∷ vs)
  read s a v = rw (listed, s, a, v)

  size : size_fits k p ≡ false → (decode_as k command p).row ≡ row 32 []
  size s = rw (listed, s)

  field : size_fits k p ≡ true → allowed k p ≡ false → (decode_as k command p).row ≡ row 33 []
  field s a = rw (listed, s, a)

unlisted : (k : Kind) (command : ℕ) (p : List ℕ) → is_listed k ≡ false → (decode_as k command p).row ≡ row 31 []
unlisted k command p e = rw e

-- the row of a command whose kind is known
as_kind : (k : Kind) (command : ℕ) → kind_of command ≡ k → (p : List ℕ) → read_of command p
    ≡ (decode_as k command p).row
as_kind k command is p = ap (λ (k : Kind). (decode_as k command p).row) is

-- ---- numbers

four_spelt : (w x y z : ℕ) → (w * 256 + x) * 65536 + (y * 256 + z) ≡ w * 16777216 + x * 65536 + y * 256 + z
four_spelt w x y z = omega arith

whole_byte : (x : ℕ) → x / 1 ≡ x
whole_byte x = omega arith

-- ---- no payload

empty : (command : ℕ) → kind_of command ≡ kind.Empty → EmptyRead command
unfolding among fits size_fits
empty command is =
    record {
      read = as_kind kind.Empty command is [];
      size = λ b p. as_kind kind.Empty command is (b ∷ p)
          ∙ size kind.Empty command (b ∷ p) refl (simp (ne_eqb (length (b ∷ p)) 0 (omega arith)));
    }

-- ---- 02

information : (p : List ℕ) → InformationRead p
unfolding table profile_in among
information p =
    let two_sizes : (n : ℕ) → eqb n 66 ≡ false → length p ≡ n → among n (66 ∷ 74 ∷ 106 ∷ []) ≡ true
    → read_of 0x02 p ≡ row 0 (0x02 ∷ n ∷ (get_or p 64 0 * 256 + get_or p 65 0) ∷ attributes_in p ∷ []) =
    λ n other h one. read kind.Information 0x02 p refl (simp (size_fits_lem, fits_exactly, fits_any, h, one)) refl
    (rw (h, other, four_spelt (get_or p 66 0), four_spelt (get_or p 70 0))) in
    record {
      plain = λ h. read kind.Information 0x02 p refl (simp (size_fits_lem, fits_exactly, fits_any, h)) refl (rw h);
      attributes = λ h. two_sizes 74 refl h refl;
      secret = λ h. two_sizes 106 refl h refl;
      size = λ f g h. size kind.Information 0x02 p refl
          (simp (size_fits_lem, fits_exactly, ne_eqb (length p) 66 f, ne_eqb (length p) 74 g, ne_eqb (length p) 106 h));
    }

-- ---- 03

module _ (f v h l : ℕ) where
  allows : f < 8 → v < 8 → (f / 2 % 2 ≡ 1 → v < 6) → control_allowed (f ∷ v ∷ h ∷ l ∷ []) ≡ true
  allows small low mode =
      rw (lt-ltb f 8 small, lt-ltb v 8 low) (by_test (λ t. t ≡ true) (eqb (f / 2 % 2) 0) (λ _. refl)
      (λ e. let one : f / 2 % 2 ≡ 1 = omega (arith, eqb-false (f / 2 % 2) 0 e) in
      let least : v < 6 = mode one in lt-ltb (v / 2 % 4) 3 (omega arith)))

  values : f < 8 → v < 8 → control_values (f ∷ v ∷ h ∷ l ∷ [])
      ≡ f % 2 ∷ f / 2 % 2 ∷ f / 4 ∷ (f % 2 * (v % 2)) ∷ (f / 2 % 2 * (v / 2)) ∷ (f / 4 * (h * 256 + l)) ∷ []
  values small low =
      let third : f / 4 % 2 ≡ f / 4 = omega arith in
      let mode : v / 2 % 4 ≡ v / 2 = omega arith in
      rw (whole_byte f, whole_byte v, third, mode)

  foreign_flag : 8 ≤ f → control_allowed (f ∷ v ∷ h ∷ l ∷ []) ≡ false
  foreign_flag e = rw (le-ltb f 8 e)

  foreign_value : 8 ≤ v → control_allowed (f ∷ v ∷ h ∷ l ∷ []) ≡ false
  foreign_value e = rw (le-ltb v 8 e) (and_false (ltb f 8))

  third_mode : f / 2 % 2 ≡ 1 → 6 ≤ v → control_allowed (f ∷ v ∷ h ∷ l ∷ []) ≡ false
  third_mode one e =
      either_way (ltb v 8)
      (λ t. rw (t, one, le-ltb (v / 2 % 4) 3 (omega (arith, ltb-true v 8 t))) (and_false (ltb f 8)))
      (λ t. rw t (and_false (ltb f 8)))

  control : ControlRead f v h l
  unfolding table profile_in among fits size_fits
  control =
      record {
        read = λ a b c. read kind.Action 0x03 (controlled f v h l) refl refl (allows a b c)
            (ap (λ (vs : List ℕ). 1 ∷ vs) (values a b));
        flag = λ e. field kind.Action 0x03 (controlled f v h l) refl refl (foreign_flag e);
        value = λ e. field kind.Action 0x03 (controlled f v h l) refl refl (foreign_value e);
        mode = λ one e. field kind.Action 0x03 (controlled f v h l) refl refl (third_mode one e);
      }

action : ActionRead
unfolding table profile_in among fits size_fits
action =
    record {
      control = control;
      control_size = λ p h. size kind.Action 0x03 (1 ∷ p) refl
          (simp (fits_some, ne_eqb (length (1 ∷ p)) 5 (omega arith), ne_eqb (length (1 ∷ p)) 0 (omega arith)));
      query = refl;
      query_size = λ p h. size kind.Action 0x03 (2 ∷ p) refl
          (simp (fits_some, ne_eqb (length (2 ∷ p)) 1 (omega arith), ne_eqb (length (2 ∷ p)) 0 (omega arith)));
      other = λ b p g h. field kind.Action 0x03 (b ∷ p) refl
          (simp (fits_some, fits_any, ne_eqb b 1 g, ne_eqb b 2 h, ne_eqb (length (b ∷ p)) 0 (omega arith)))
          (simp (ne_eqb b 1 g, ne_eqb b 2 h));
      none = refl;
    }

-- ---- 04 and 05

module _ (a h l w x y z e : ℕ) where
  abbrev status : List ℕ
  status = a ∷ h ∷ l ∷ w ∷ x ∷ y ∷ z ∷ e ∷ []

  status_allows : a < 12 → e < 8 → status_allowed status ≡ true
  status_allows low small = rw (lt-ltb a 16 (omega arith), lt-ltb e 8 small, lt-ltb (a / 4 % 4) 3 (omega arith))

  status_values_lem : a < 12 → e < 8 → status_values status
      ≡ a % 2 ∷ a / 2 % 2 ∷ a / 4 ∷ (h * 256 + l) ∷ (w * 16777216 + x * 65536 + y * 256 + z)
      ∷ e % 2 ∷ e / 2 % 2 ∷ e / 4 ∷ []
  status_values_lem low small = all_same _ _ (omega arith)

  no_first : 12 ≤ a → status_allowed status ≡ false
  no_first least =
      either_way (ltb a 16)
      (λ t. rw (t, le-ltb (a / 4 % 4) 3 (omega (arith, ltb-true a 16 t))) (and_false (ltb e 8)))
      (λ t. rw t)

  no_last : 8 ≤ e → status_allowed status ≡ false
  no_last least = rw (le-ltb e 8 least) (and_false (ltb a 16))

-- a kind whose first byte chooses a status
record Counting (k : Kind) (action : ℕ) : Type 0 where
  listed : is_listed k ≡ true
  some : (byte : ℕ) (p : List ℕ) → fits (sizes_of k) (byte ∷ p) ≡ true
  chosen : (byte : ℕ) → chosen_of k byte ≡ status_sizes action byte
  allows : (byte : ℕ) (p : List ℕ) → allowed k (byte ∷ p) ≡ status_allowed_after action (byte ∷ p)
  values : (byte : ℕ) (p : List ℕ) → values_of k (byte ∷ p) ≡ byte ∷ status_values p

module _ (k : Kind) (command action : ℕ) (is : kind_of command ≡ k) (c : Counting k action) where
  own : eqb action action ≡ true
  own = eq-eqb action action refl

  nine : {b : Bool} (p : List ℕ) → eqb (length (action ∷ p)) 9 ≡ b → size_fits k (action ∷ p) ≡ b
  nine {b} p e = simp (size_fits_lem, c.some, c.chosen, own, fits_exactly, among_next, among_none, e) (whole b)

  status_read : StatusRead command action
  status_read =
      record {
        read = λ a h l w x y z e f g. as_kind k command is (nine_bytes command action a h l w x y z e)
            ∙ read k command _ c.listed (nine _ refl) (c.allows _ _ ∙ rw (own, status_allows a h l w x y z e f g))
            (c.values _ _ ∙ ap (λ (vs : List ℕ). action ∷ vs) (status_values_lem a h l w x y z e f g));
        first = λ a h l w x y z e f. as_kind k command is (nine_bytes command action a h l w x y z e)
            ∙ field k command _ c.listed (nine _ refl) (c.allows _ _ ∙ rw (own, no_first a h l w x y z e f));
        last = λ a h l w x y z e f. as_kind k command is (nine_bytes command action a h l w x y z e)
            ∙ field k command _ c.listed (nine _ refl) (c.allows _ _ ∙ rw (own, no_last a h l w x y z e f));
        size = λ p h. as_kind k command is (action ∷ p) ∙ size k command _ c.listed
            (nine p (ne_eqb (length (action ∷ p)) 9 (omega arith)));
        other = λ b p h. as_kind k command is (b ∷ p) ∙ field k command _ c.listed
            (simp (size_fits_lem, c.some, c.chosen, ne_eqb b action h, fits_any))
            (c.allows b p ∙ rw (ne_eqb b action h));
      }

-- ---- 09, 11 and 12

-- a kind that is one byte
record Single (k : Kind) (max : ℕ) : Type 0 where
  listed : is_listed k ≡ true
  one : sizes_of k ≡ exactly (1 ∷ [])
  any : (byte : ℕ) → chosen_of k byte ≡ from 0
  within : (byte : ℕ) → 1 ≤ byte → byte ≤ max → allowed k (byte ∷ []) ≡ true
  zero : allowed k (0 ∷ []) ≡ false
  above : (byte : ℕ) → max < byte → allowed k (byte ∷ []) ≡ false
  values : (byte : ℕ) → values_of k (byte ∷ []) ≡ byte ∷ []

module _ (k : Kind) (command max : ℕ) (is : kind_of command ≡ k) (c : Single k max) where
  sized : (p : List ℕ) → eqb (length p) 1 ≡ size_fits k p
  sized p = sized_one k p (c.any (get_or p 0 0)) 1 c.one

  byte_read : ByteRead command max
  byte_read =
      record {
        read = λ b g h. as_kind k command is (b ∷ []) ∙ read k command (b ∷ []) c.listed (sym (sized (b ∷ [])))
            (c.within b g h) (c.values b);
        zero = as_kind k command is (0 ∷ []) ∙ field k command (0 ∷ []) c.listed (sym (sized (0 ∷ []))) c.zero;
        above = λ b h. as_kind k command is (b ∷ []) ∙ field k command (b ∷ []) c.listed (sym (sized (b ∷ [])))
            (c.above b h);
        size = λ p h. as_kind k command is p ∙ size k command p c.listed (sym (sized p) ∙ ne_eqb (length p) 1 h);
      }

way : Single kind.Onboarding 2
way =
    record {
      listed = refl;
      one = refl;
      any = λ b. refl;
      within = λ b g h. either_way (eqb b 1) (λ e. rw e) (λ e. rw (e, eq-eqb b 2 (omega (arith, eqb-false b 1 e))));
      zero = refl;
      above = λ b h. rw (ne_eqb b 1 (omega arith), ne_eqb b 2 (omega arith));
      values = λ b. refl;
    }

-- a code
module _
    (k : Kind) (listed : is_listed k ≡ true) (one : sizes_of k ≡ exactly (1 ∷ []))
    (any : (byte : ℕ) → chosen_of k byte ≡ from 0) (allows : (byte : ℕ) → allowed k (byte ∷ []) ≡ code_allowed byte)
    (values : (byte : ℕ) → values_of k (byte ∷ []) ≡ byte ∷ []) where
  code : Single k 4
  code =
      record {
        listed = listed;
        one = one;
        any = any;
        within = λ b g h. allows b ∙ rw (le-leb 1 b g, le-leb b 4 h);
        zero = allows 0;
        above = λ b h. allows b ∙ rw (le-leb 1 b (omega arith), lt-leb b 4 h);
        values = values;
      }

-- ---- 0D

network : NetworkRead
unfolding table profile_in among fits size_fits
network =
    record {
      read = λ h l small. ap (λ (vs : List ℕ). row 0 (0x0D ∷ vs)) (all_same _ _ (omega arith));
      size = λ p h. size kind.Network 0x0D p refl (simp (ne_eqb (length p) 2 h));
    }

-- ---- 19 and 1B

module _ (k : Kind) (before after : ℕ) (p : List ℕ) where
  abbrev counts : ℕ
  counts = before + 2 + after + two_at p before

  module _ (any : chosen_of k (get_or p 0 0) ≡ from 0) (sizes : sizes_of k ≡ counted before after) where
    as_counted : length p ≡ counts → size_fits k p ≡ true
    as_counted h = sym (sized_counted k p any before after sizes) ∙ eq-eqb (length p) counts h

    miscounted : length p ≢ counts → size_fits k p ≡ false
    miscounted h = sym (sized_counted k p any before after sizes) ∙ ne_eqb (length p) counts h

pub announced : (w x y z h l : ℕ) (p : List ℕ) → length p ≡ h * 256 + l
    → size_fits kind.Announcement (w ∷ x ∷ y ∷ z ∷ h ∷ l ∷ p) ≡ true
announced w x y z h l p e =
    as_counted kind.Announcement 4 0 (w ∷ x ∷ y ∷ z ∷ h ∷ l ∷ p) refl refl (omega arith)

announcement : AnnouncementRead
unfolding table profile_in
announcement =
    record {
      read = λ w x y z h l p e. read kind.Announcement 0x19 (w ∷ x ∷ y ∷ z ∷ h ∷ l ∷ p) refl
          (announced w x y z h l p e) refl (rw (four_spelt w x y z));
      size = λ w x y z h l p e. size kind.Announcement 0x19 (w ∷ x ∷ y ∷ z ∷ h ∷ l ∷ p) refl
          (miscounted kind.Announcement 4 0 (w ∷ x ∷ y ∷ z ∷ h ∷ l ∷ p) refl refl (λ q. e (omega arith)));
      short = λ p h. size kind.Announcement 0x19 p refl
          (miscounted kind.Announcement 4 0 p refl refl (λ q. omega arith));
    }

-- a byte after the count
after_count : (h l n : ℕ) (p : List ℕ) → get_or (h ∷ l ∷ p) (2 + n) 0 ≡ get_or p n 0
after_count h l n p = let two : 2 + n ≡ suc (suc n) = omega arith in rw two

pub ready_sized : (h l : ℕ) (p : List ℕ) → length p ≡ h * 256 + l + 2 → size_fits kind.Ready (h ∷ l ∷ p) ≡ true
ready_sized h l p e = as_counted kind.Ready 0 2 (h ∷ l ∷ p) refl refl (omega arith)

ready : ReadyRead
unfolding table profile_in
ready =
    record {
      read = λ h l p e.
          let next : 2 + (h * 256 + l) + 1 ≡ 2 + (h * 256 + l + 1) = omega arith in
          read kind.Ready 0x1B (h ∷ l ∷ p) refl (ready_sized h l p e) refl
          (rw (next, after_count h l (h * 256 + l) p, after_count h l (h * 256 + l + 1) p));
      size = λ h l p e. size kind.Ready 0x1B (h ∷ l ∷ p) refl
          (miscounted kind.Ready 0 2 (h ∷ l ∷ p) refl refl (λ q. e (omega arith)));
      short = λ p h. size kind.Ready 0x1B p refl (miscounted kind.Ready 0 2 p refl refl (λ q. omega arith));
    }

-- ---- 1D

pub piece_sized : (a b c d : ℕ) (p : List ℕ) → size_fits kind.Piece (a ∷ b ∷ c ∷ d ∷ p) ≡ true
piece_sized a b c d p =
    simp (size_fits_lem, fits_any, fits_from, le-leb 4 (length (a ∷ b ∷ c ∷ d ∷ p)) (omega arith))

piece : PieceRead
unfolding table profile_in
piece =
    record {
      read = λ a b c d p. read kind.Piece 0x1D (a ∷ b ∷ c ∷ d ∷ p) refl (piece_sized a b c d p) refl refl;
      short = λ p h. size kind.Piece 0x1D p refl (simp (size_fits_lem, fits_from, lt-leb 4 (length p) h));
    }

-- ---- 18

time : TimeRead
unfolding table profile_in among fits size_fits
time =
    record {
      read = λ a b m d h n s. refl;
      seconds = λ a b m d h n s w x y z. rw (four_spelt w x y z);
      size = λ p g h. size kind.Time 0x18 p refl (simp (ne_eqb (length p) 7 g, ne_eqb (length p) 11 h));
    }

-- ---- all commands

-- in neither of both lists
neither : {a b c : Bool} → c ≡ (a || b) → a ≡ false → b ≡ false → c ≡ false
neither e p q = e ∙ rw (p, q)

pub reads_exactly : ReadsExactly
unfolding table profile_in among fits size_fits
reads_exactly =
    record {
      unlisted = λ c p g h. unlisted (kind_of c) c p (neither (command_lists.listed c) g h);
      empty = λ c h. empty c (command_lists.empty c h);
      information = information;
      action = action;
      acknowledged = refl;
      status = status_read kind.Status 0x04 3 refl record {
        listed = refl;
        some = λ b p. fits_any (b ∷ p);
        chosen = λ b. refl;
        allows = λ b p. rw (ne_eqb (length (b ∷ p)) 0 (omega arith));
        values = λ b p. rw (ne_eqb (length (b ∷ p)) 0 (omega arith));
      };
      no_report = refl;
      report = status_read kind.Report 0x05 4 refl record {
        listed = refl;
        some = λ b p. le-leb 1 (length (b ∷ p)) (omega arith);
        chosen = λ b. refl;
        allows = λ b p. refl;
        values = λ b p. refl;
      };
      onboarding = byte_read kind.Onboarding 0x09 2 refl way;
      network = network;
      module_reject = byte_read kind.ModuleReject 0x11 4 refl
          (code kind.ModuleReject refl refl (λ b. refl) (λ b. refl) (λ b. refl));
      box_reject = byte_read kind.BoxReject 0x12 4 refl
          (code kind.BoxReject refl refl (λ b. refl) (λ b. refl) (λ b. refl));
      time = time;
      announcement = announcement;
      ready = ready;
      piece = piece;
    }

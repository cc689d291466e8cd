-- The table looked up: what holds of its commands and off the table holds of every command. Assumes nothing.
use Prim.Native.Nat.{ℕ, ◌+◌}
use mathlib.Core.Path.{◌≡◌, refl, sym, ap, ◌∙◌}
use mathlib.Core.Bool.{Bool, true, false, cond, ◌||◌, true≢false}
use mathlib.Core.List.{List, [], ◌∷◌, map}
use lib.Dec.{eqb}
use Rattle.base.proofs.Keys.{agree}
use Rattle.base.proofs.Tests.{by_test, either_way, cond_same}
use Rattle.base.specs.Keys.{among}
use Rattle.message.specs.Commands.{TableEntry, is_box, table, unlisted, profile_in, profile_of, kind_of}
use Rattle.message.specs.Commands.{from_box, owed_of}
use Rattle.message.specs.Layouts.{is_listed}
use Rattle.message.specs.Owed.{handed}
use Rattle.message.specs.CommandLists.{BoxListed, box_commands, handed_commands, empty_commands, other_commands}
use Rattle.message.specs.CommandLists.{CommandLists}
use Rattle.message.specs.declared.kind.Kind.{Kind}
use Rattle.message.specs.declared.kind.Kind.TheVariants as kind
use Rattle.message.specs.declared.kind.Profile.{Profile}
use Rattle.message.specs.declared.kind.Owed.{Owed}
use Rattle.message.specs.declared.kind.Owed.TheVariants as owes

-- ---- from the table to every command

abbrev keys_in : List TableEntry → List ℕ
keys_in es = map (λ (e : TableEntry). e.command) es

-- a command that the table does not list
off : (es : List TableEntry) (c : ℕ) → among c (keys_in es) ≡ false → profile_in es c ≡ unlisted
unfolding among profile_in
off [] c h = refl
off (e ∷ es) c h =
    by_test (λ l. cond (eqb c e.command) true (among c (keys_in es)) ≡ false → l ≡ unlisted) (eqb c e.command)
    (λ t q. absurd (true≢false (rw t at q))) (λ t q. off es c (rw t at q)) h

-- two functions of a command that agree on the table's commands and on all others
pub every : {A : Type 0} (f g : ℕ → A) → map f (keys_in table) ≡ map g (keys_in table)
    → ((c : ℕ) → profile_of c ≡ unlisted → among c (keys_in table) ≡ false → f c ≡ g c) → (c : ℕ) → f c ≡ g c
every f g e none c =
    either_way (among c (keys_in table)) (agree f g (keys_in table) c e) (λ h. none c (off table c h) h)

-- a command that the table does not list is not one of some that it lists
none_of : (ks : List ℕ) → map (λ c. among c (keys_in table)) ks ≡ map (λ _. true) ks → (c : ℕ)
    → among c (keys_in table) ≡ false → among c ks ≡ false
none_of ks e c h =
    either_way (among c ks) (λ t. absurd (true≢false
    (sym (agree (λ c. among c (keys_in table)) (λ _. true) ks c e t) ∙ h))) (λ f. f)

-- ---- the kinds

-- what holds of each kind, in the enum's order, holds of all
abbrev pub by_kind :
    (P : Kind → Type 0) → P kind.Unlisted → P kind.Empty → P kind.Information → P kind.Action → P kind.Status
    → P kind.Report
    → P kind.Onboarding → P kind.Network → P kind.ModuleReject → P kind.BoxReject → P kind.Time → P kind.Announcement
    → P kind.Ready → P kind.Piece → (k : Kind) → P k
by_kind P u e i a s r o n m b t c y d kind.Unlisted = u
by_kind P u e i a s r o n m b t c y d kind.Empty = e
by_kind P u e i a s r o n m b t c y d kind.Information = i
by_kind P u e i a s r o n m b t c y d kind.Action = a
by_kind P u e i a s r o n m b t c y d kind.Status = s
by_kind P u e i a s r o n m b t c y d kind.Report = r
by_kind P u e i a s r o n m b t c y d kind.Onboarding = o
by_kind P u e i a s r o n m b t c y d kind.Network = n
by_kind P u e i a s r o n m b t c y d kind.ModuleReject = m
by_kind P u e i a s r o n m b t c y d kind.BoxReject = b
by_kind P u e i a s r o n m b t c y d kind.Time = t
by_kind P u e i a s r o n m b t c y d kind.Announcement = c
by_kind P u e i a s r o n m b t c y d kind.Ready = y
by_kind P u e i a s r o n m b t c y d kind.Piece = d

-- the only command of a kind; of a kind with several, the command itself
abbrev pub sole_of : Kind → ℕ → ℕ
sole_of k c = by_kind (λ _. ℕ) c c 0x02 0x03 0x04 0x05 0x09 0x0D 0x11 0x12 0x18 0x19 0x1B 0x1D k

-- a command whose kind has only one command is that one
pub only : (c : ℕ) (k : Kind) (n : ℕ) → sole_of k c ≡ n → kind_of c ≡ k → c ≡ n
unfolding among table profile_in
only c k n e f =
    let sole : sole_of (kind_of c) c ≡ c = every (λ c. sole_of (kind_of c) c) (λ c. c) refl
    (λ c none _. ap (λ (l : Profile). sole_of l.kind c) none) c in
    sym sole ∙ ap (λ (k : Kind). sole_of k c) f ∙ e

-- ---- the claims

neither : {a b : Bool} → a ≡ false → b ≡ false → false ≡ (a || b)
neither p q = rw (p, q)

pub unless : {A : Type 0} {t : Bool} (x : A) {y z : A} → t ≡ false → cond t x y ≡ z → y ≡ z
unless x h e = rw h at e

abbrev replied : List ℕ
replied = 0x01 ∷ 0x03 ∷ 0x07 ∷ 0x0D ∷ 0x0F ∷ handed_commands

abbrev owed_unless : ℕ → Owed
owed_unless c = cond (among c replied) owes.Nothing (owed_of c)

pub command_lists : CommandLists
unfolding among table profile_in
command_lists =
    record {
      sizes = refl;
      box = refl;
      from_box_is = every from_box (λ c. among c box_commands) refl
          (λ c none h. ap (λ (l : Profile). is_box l.sender) none ∙ sym (none_of box_commands refl c h));
      listed =
          every (λ c. is_listed (kind_of c)) (λ c. among c empty_commands || among c other_commands) refl
          (λ c none h.
          ap (λ (l : Profile). is_listed l.kind) none ∙ neither (none_of empty_commands refl c h)
          (none_of other_commands refl c h));
      empty = λ c. agree kind_of (λ _. kind.Empty) empty_commands c refl;
      others = refl;
      acknowledged = λ c. agree owed_of (λ c. owes.Acknowledge (c + 1)) (0x03 ∷ 0x07 ∷ 0x0D ∷ 0x0F ∷ []) c refl;
      information = refl;
      control = λ values. refl;
      query = λ values. refl;
      begin = refl;
      store = refl;
      stop = refl;
      handed_over = every (λ c. handed (owed_of c)) (λ c. among c handed_commands) refl
          (λ c none h. ap (λ (l : Profile). handed l.owed) none ∙ sym (none_of handed_commands refl c h));
      no_reply = λ c h.
          unless owes.Nothing h
          (every owed_unless (λ _. owes.Nothing) refl
          (λ c none _. ap (λ (l : Profile). cond (among c replied) owes.Nothing l.owed) none ∙ cond_same
          (among c replied) owes.Nothing) c);
    }

pub box_listed : BoxListed
unfolding among table profile_in
box_listed c h =
    agree (λ c. is_listed (kind_of c)) (λ _. true) box_commands c refl (sym (command_lists.from_box_is c) ∙ h)

-- a command that is handed to the caller is listed, and the module sends it
module _ (c : ℕ) (h : handed (owed_of c) ≡ true) where
  in_list : among c handed_commands ≡ true
  in_list = sym (command_lists.handed_over c) ∙ h

  pub handed_listed : is_listed (kind_of c) ≡ true
  unfolding among table profile_in
  handed_listed = agree (λ c. is_listed (kind_of c)) (λ _. true) handed_commands c refl in_list

  pub handed_inward : from_box c ≡ false
  unfolding among table profile_in
  handed_inward = agree from_box (λ _. false) handed_commands c refl in_list

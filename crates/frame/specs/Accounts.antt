-- Statement: what each call of a list promises: its answer's number, its count, its end.
-- It reads no field of the reader. PROTOCOL 4.1, 4.11, 4.16, 4.18, 5.2, 5.3, 5.8, 5.9, 5.11.
-- It uses base's `among` of the model, held by looked_up.
use Rattle.std.specs.Prelude.{◌≡◌, ℕ, ◌+◌, ◌^◌, ◌<◌, ◌≤◌, true, ◌≢◌, List, [], ◌∷◌, length, slice_index}
use Rattle.base.specs.Keys.{among}
use Rattle.frame.specs.Logs.{feed, finish, Entry, offered, consumed_in, decided}

-- the answers that a feed of a reader that began fresh may have: PROTOCOL 4.1 to 4.11 without CLEAN, OPEN
-- and STATE
abbrev pub feed_numbers : List ℕ
feed_numbers = 0 ∷ 1 ∷ 11 ∷ 12 ∷ 13 ∷ 14 ∷ 15 ∷ 18 ∷ 19 ∷ []

-- and a finish: CLEAN, OPEN
abbrev pub finish_numbers : List ℕ
finish_numbers = 2 ∷ 16 ∷ []

-- what one call promises, where all earlier counts add up to n
pub record Account (n : ℕ) (e : Entry) : Type 0 where
  pub feed_row : (bytes : List ℕ) → e.call ≡ feed bytes → among e.row.number feed_numbers ≡ true
  pub finish_row : e.call ≡ finish → among e.row.number finish_numbers ≡ true
  pub within : consumed_in e ≤ length (offered e.call)  -- PROTOCOL 5.2
  pub all : e.row.number ≡ 0 → consumed_in e ≡ length (offered e.call)  -- MORE: PROTOCOL 4.1
  pub progress : e.row.number ≢ 18 → 1 ≤ length (offered e.call) → 1 ≤ consumed_in e  -- PROTOCOL 5.11
  pub empty : e.call ≡ feed [] → (e.row.number ≡ 0) × (e.after ≡ e.before)  -- PROTOCOL 4.16
  pub ends : decided e.row.number ≡ true → slice_index e.row.values 2 ≡ n + consumed_in e  -- PROTOCOL 5.8
  pub used : e.row.number ≡ 18 → 2 ^ 62 < n + length (offered e.call)  -- PROTOCOL 4.11
  pub unused : e.row.number ≢ 18 → n + length (offered e.call) ≤ 2 ^ 62  -- PROTOCOL 4.18
  pub finished : e.call ≡ finish → slice_index e.row.values 0 ≡ n  -- PROTOCOL 5.9
  -- PROTOCOL 5.3
  pub used_none : e.row.number ≡ 18 → consumed_in e ≡ 0
  pub used_kept : e.row.number ≡ 18 → e.after ≡ e.before
  pub finish_kept : e.call ≡ finish → e.after ≡ e.before

-- the same of each call of a list, where the counts before the list add up to n
unfoldable pub Accounts : ℕ → List Entry → Type 0
Accounts n [] = Unit {0}
Accounts n (e ∷ es) = Account n e × Accounts (n + consumed_in e) es

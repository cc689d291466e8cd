-- Statement: the layout of each kind of payload: sizes, allowed values, fields and parts. PROTOCOL 7.4 to 7.17, 7.21.
-- It uses base's `among` of the model, held by looked_up.
use Rattle.std.specs.Prelude.{ℕ, ◌+◌, ◌-◌, Bool, true, false, cond, ◌&&◌, ◌||◌, List, [], ◌∷◌, length, get_or, drop}
use Rattle.std.specs.Prelude.{◌≡◌, eqb, leb, Result, MatchResult}
use Rattle.base.specs.Keys.{among}
use Rattle.base.specs.Numbers.{four_at, two_at}
use Rattle.message.specs.Numbers.{bits, bit, eight_at}
use Rattle.message.specs.Counter.{status_values, status_allowed, control_values, control_allowed}
use Rattle.message.specs.Parts.{place, nowhere, texts_and, no_texts, no_parts}
use Rattle.message.specs.Commands.{Sizes, exactly, from, counted}
use Rattle.message.specs.declared.kind.Kind.{Kind}
use Rattle.message.specs.declared.kind.Kind.TheVariants.{Unlisted, Empty, Information, Action, Status, Report}
use Rattle.message.specs.declared.kind.Kind.TheVariants.{Onboarding, Network, ModuleReject, BoxReject, Time}
use Rattle.message.specs.declared.kind.Kind.TheVariants.{Announcement, Ready, Piece}
use Rattle.message.specs.declared.parts.Parts.{Parts}
use Rattle.message.specs.declared.values.Code.{Code}
use Rattle.message.specs.declared.values.Code.TheVariants as code
use Rattle.message.specs.declared.values.Way.{Way}
use Rattle.message.specs.declared.values.Way.TheVariants as way
use Rattle.message.specs.declared.values.UnknownNumber.{UnknownNumber}

-- ---- bytes that stand for a name

-- 09: PROTOCOL 7.11
abbrev pub way_allowed : ℕ → Bool
way_allowed way = eqb way 1 || eqb way 2

-- the number of each way to set the module up
abbrev pub way_number : Way → ℕ
way_number way.SoftAp = 1
way_number way.AirLink = 2

-- the way with a number, or that number, where it stands for none
abbrev pub NamesWay : ℕ → Result Way UnknownNumber → Type 0
NamesWay n r =
    MatchResult r (λ w. (way_number w ≡ n) × (way_allowed n ≡ true)) (λ e. (e.0 ≡ n) × (way_allowed n ≡ false))

-- 11 and 12: PROTOCOL 7.13
abbrev pub code_allowed : ℕ → Bool
code_allowed code = leb 1 code && leb code 4

-- the number of each error code
abbrev pub code_number : Code → ℕ
code_number code.Sum = 1
code_number code.Command = 2
code_number code.Other = 3
code_number code.FileType = 4

-- the error code with a number, or that number, where it stands for none
abbrev pub NamesCode : ℕ → Result Code UnknownNumber → Type 0
NamesCode n r =
    MatchResult r (λ c. (code_number c ≡ n) × (code_allowed n ≡ true)) (λ e. (e.0 ≡ n) × (code_allowed n ≡ false))

-- ---- 03, 04 and 05: the payload's first byte chooses the layout, PROTOCOL 7.17

-- 03: 1 and a control in 5 bytes, 2 alone is a query
abbrev pub action_sizes : ℕ → Sizes
action_sizes first = cond (eqb first 1) (exactly (5 ∷ [])) (cond (eqb first 2) (exactly (1 ∷ [])) (from 0))

-- 04 with first byte 3, 05 with first byte 4: a status, in 9 bytes
abbrev pub status_sizes : ℕ → ℕ → Sizes
status_sizes action first = cond (eqb first action) (exactly (9 ∷ [])) (from 0)

-- 03: any other first byte is FIELD
abbrev pub action_allowed : List ℕ → Bool
action_allowed p = cond (eqb (get_or p 0 0) 1) (control_allowed (drop 1 p)) (eqb (get_or p 0 0) 2)

-- 04 and 05: the same
abbrev pub status_allowed_after : ℕ → List ℕ → Bool
status_allowed_after action p = eqb (get_or p 0 0) action && status_allowed (drop 1 p)

-- 03: the first byte, and the values of a control
abbrev pub action_values : List ℕ → List ℕ
action_values p = get_or p 0 0 ∷ cond (eqb (get_or p 0 0) 1) (control_values (drop 1 p)) []

-- 04 and 05: the first byte, and the values of a status
abbrev pub report_values : List ℕ → List ℕ
report_values p = get_or p 0 0 ∷ status_values (drop 1 p)

-- ---- 02, 0D and 18

-- 02: PROTOCOL 7.10
--
--   byte 0        8          16         24         32    64        66           74       106
--        | serial | protocol | hardware | software | key | timeout | attributes | secret |
--   size |<--------------------- every size ---------------------->|  74, 106   |  106   |
abbrev pub information_values : List ℕ → List ℕ
information_values p = length p ∷ two_at p 64 ∷ cond (eqb (length p) 66) [] (eight_at p 66 ∷ [])

-- 0D: PROTOCOL 7.12
--
--   bit   15 14 13 |   12    | 11  | 10 9 8   | 7 6  |   5    |   4    |    3    |     2      |    1    |   0
--         reserved | testing | app | strength | res. | server | router | binding | onboarding | station | softap
abbrev pub network_values : List ℕ → List ℕ
network_values p =
    bit 0 (two_at p 0) ∷ bit 1 (two_at p 0) ∷ bit 2 (two_at p 0) ∷ bit 3 (two_at p 0) ∷ bit 4 (two_at p 0)
    ∷ bit 5 (two_at p 0) ∷ bits 8 3 (two_at p 0) ∷ bit 11 (two_at p 0) ∷ bit 12 (two_at p 0) ∷ []

-- 18: year in 2 bytes, month, day, hour, minute, second; then `more`: PROTOCOL 7.14
abbrev pub time_values : List ℕ → List ℕ → List ℕ
time_values p more = two_at p 0 ∷ get_or p 2 0 ∷ get_or p 3 0 ∷ get_or p 4 0 ∷ get_or p 5 0 ∷ get_or p 6 0 ∷ more

-- ---- the record of a layout

-- what a payload of a kind must be, and what it says
pub record Layout : Type 0 where
  -- whether it is listed; if not, COMMAND (31)
  pub listed : Bool
  -- its sizes, and the sizes of the whole payload that its first byte chooses; any other size is SIZE (32)
  pub sizes : Sizes
  pub chosen : ℕ → Sizes
  -- whether its values are allowed, of a payload whose size fits; if not, FIELD (33)
  pub allowed : List ℕ → Bool
  -- its values; texts, key, secret, check code and data are not values
  pub values : List ℕ → List ℕ
  -- the places of these
  pub parts : List ℕ → Parts

-- the layout of a listed kind
abbrev pub layout : Sizes → (ℕ → Sizes) → (List ℕ → Bool) → (List ℕ → List ℕ) → (List ℕ → Parts) → Layout
layout sizes chosen allowed values parts =
    record { listed = true; sizes = sizes; chosen = chosen; allowed = allowed; values = values; parts = parts }

-- a first byte that does not restrict the size
abbrev pub any : ℕ → Sizes
any first = from 0

-- a payload whose values are all allowed
abbrev pub always : List ℕ → Bool
always p = true

-- the value of a single byte
abbrev pub byte : List ℕ → List ℕ
byte p = get_or p 0 0 ∷ []

-- no parts
abbrev pub none : List ℕ → Parts
none p = no_parts

-- ---- the layout of each kind

-- sizes, sizes that the first byte chooses, allowed values, values, parts. The counted ones are
--
--   19   | size 4 | n 2 | check code n |          1B   | n 2 | check code n | piece size 2 |
--   1D   | index 2 | total 2 | data |             PROTOCOL 7.15, 7.16
abbrev pub layout_of : Kind → Layout
layout_of Unlisted =
    record { listed = false; sizes = exactly []; chosen = any; allowed = λ p. false; values = λ p. []; parts = none }
layout_of Empty = layout (exactly (0 ∷ [])) any always (λ p. []) none
layout_of Information =
    layout (exactly (66 ∷ 74 ∷ 106 ∷ [])) any always information_values
    (λ p. texts_and (cond (eqb (length p) 106) (place 74 32) nowhere))
layout_of Action = layout (from 1) action_sizes action_allowed action_values none
layout_of Status =
    layout (from 0) (status_sizes 3) (λ p. cond (eqb (length p) 0) true (status_allowed_after 3 p))
    (λ p. cond (eqb (length p) 0) [] (report_values p)) none
layout_of Report = layout (from 1) (status_sizes 4) (status_allowed_after 4) report_values none
layout_of Onboarding = layout (exactly (1 ∷ [])) any (λ p. way_allowed (get_or p 0 0)) byte none
layout_of Network = layout (exactly (2 ∷ [])) any always network_values none
layout_of ModuleReject = layout (exactly (1 ∷ [])) any (λ p. code_allowed (get_or p 0 0)) byte none
layout_of BoxReject = layout (exactly (1 ∷ [])) any (λ p. code_allowed (get_or p 0 0)) byte none
layout_of Time =
    layout (exactly (7 ∷ 11 ∷ [])) any always (λ p. time_values p (cond (eqb (length p) 7) [] (four_at p 7 ∷ []))) none
layout_of Announcement =
    layout (counted 4 0) any always (λ p. four_at p 0 ∷ []) (λ p. no_texts (place 6 (two_at p 4)) nowhere)
layout_of Ready =
    layout (counted 0 2) any always (λ p. two_at p (2 + two_at p 0) ∷ []) (λ p. no_texts (place 2 (two_at p 0)) nowhere)
layout_of Piece =
    layout (from 4) any always (λ p. two_at p 0 ∷ two_at p 2 ∷ []) (λ p. no_texts nowhere (place 4 (length p - 4)))

-- ---- the layouts looked up

-- whether it is listed; if not, COMMAND (31): PROTOCOL 7.4
abbrev pub is_listed : Kind → Bool
is_listed k = (layout_of k).listed

-- the sizes of a kind
abbrev pub sizes_of : Kind → Sizes
sizes_of k = (layout_of k).sizes

-- the sizes that a first byte chooses
abbrev pub chosen_of : Kind → ℕ → Sizes
chosen_of k first = (layout_of k).chosen first

-- whether the values are allowed, of a payload whose size fits; if not, FIELD (33): PROTOCOL 7.6
abbrev pub allowed : Kind → List ℕ → Bool
allowed k p = (layout_of k).allowed p

-- the values of a payload
abbrev pub values_of : Kind → List ℕ → List ℕ
values_of k p = (layout_of k).values p

-- the places of its parts
abbrev pub parts_in : Kind → List ℕ → Parts
parts_in k p = (layout_of k).parts p

-- whether a payload has one of some sizes
unfoldable pub fits : Sizes → List ℕ → Bool
fits (exactly sizes) p = among (length p) sizes
fits (from min) p = leb min (length p)
fits (counted before after) p = eqb (length p) (before + 2 + two_at p before + after)

-- whether the size fits the kind and the layout that the first byte chooses; if not, SIZE (32): PROTOCOL 7.5
unfoldable pub size_fits : Kind → List ℕ → Bool
size_fits k p = fits (sizes_of k) p && fits (chosen_of k (get_or p 0 0)) p

-- The members of each watch, found anew (02, Job 5): "A member list always equals the list a range over that rectangle would give if no age were tested".
use Rattle.std.specs.Prelude.{◌≡◌, ℕ, ◌+◌, ◌%◌, ◌<◌, ◌≤◌, Bool, not, List, ◌==◌, ◌≢◌, nat_le, get_or, slice_index, Option, None, Some}
use Rattle.terms.specs.Terms.{Place, max_radio}
use Rattle.lists.specs.Bits.{bits}
use Rattle.lists.specs.Tests.{both}
use Rattle.rules.specs.Limits.{last_metre}
use Rattle.rules.specs.Grid.{Span, takes_in, covers}
use Rattle.rules.specs.Watches.{max_watches}
use Rattle.desk.specs.declared.Watch.{Watch as DeskWatch}
use Rattle.desk.specs.Layout.{no_watch}
use Rattle.desk.specs.Views.{area_in}

-- no radio has a place
abbrev pub nowhere : ℕ → Option Place
nowhere r = None

-- ---- the radios on, in their order

-- the first n of a list
pub record Filled {A : Type 0} (f : ℕ → A) (none : A) (n : ℕ) (xs : List A) : Type 0 where
  pub at : (i : ℕ) → i < n → get_or xs i none ≡ f i

-- a number for each of the first n
abbrev pub Numbers : (ℕ → ℕ) → ℕ → List ℕ → Type 0
Numbers f n numbers = Filled f 0 n numbers

-- a column by radio, for these alone
abbrev pub OnColumn : List ℕ → List ℕ → ℕ → List ℕ → Type 0
OnColumn column radios n dense = Numbers (λ i. slice_index column (slice_index radios i)) n dense

abbrev pub place_at : List ℕ → List ℕ → ℕ → Place
place_at easts norths i = record { east = slice_index easts i; north = slice_index norths i }

-- the place of each
pub record PlacesOn (places : ℕ → Option Place) (radios : List ℕ) (n : ℕ) (easts norths : List ℕ) : Type 0 where
  pub at : (i : ℕ) → i < n → places (slice_index radios i) ≡ Some (place_at easts norths i)

-- two edges take in nothing: the high one is not above the low one, and not the last metre
abbrev pub voids : Span → Bool
voids s = both (nat_le s.high s.low) (not (s.high == last_metre))

-- how many numbers 16 bits have
abbrev pub field_end : ℕ
field_end = 65536

-- what two edges take in is what lies at most so far above the low one, round the end of 16 bits
abbrev pub Reaches : Span → ℕ → Type 0
Reaches s reach = (x distance : ℕ) → distance < field_end → (distance + s.low) % field_end ≡ x → nat_le distance reach ≡ takes_in s x

-- bit w is set exactly if watch w takes in the place
abbrev pub taken_in : List DeskWatch → Place → ℕ
taken_in vs p = bits max_watches (λ w. covers (area_in (get_or vs w no_watch)) p)

-- the first n numbers are radios, each once
pub record OnceOn (n : ℕ) (radios : List ℕ) : Type 0 where
  pub small : (i : ℕ) → i < n → slice_index radios i ≤ max_radio
  pub once : (i j : ℕ) → i < n → j < i → slice_index radios i ≢ slice_index radios j

-- no other radio has a place
abbrev pub OnlyOn : (ℕ → Option Place) → ℕ → List ℕ → Type 0
OnlyOn places n radios = (r : ℕ) → ((i : ℕ) → i < n → slice_index radios i ≢ r) → places r ≡ None

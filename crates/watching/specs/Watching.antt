-- A watch that is set, in the words of a serving program (02, Job 5).
use Rattle.std.specs.Prelude.{ℕ, ◌≡◌, ◌<◌}
use Rattle.rules.specs.Watches.{max_watches}
use Rattle.rules.specs.Calls.{Call, sets}

-- the watch's number, "west, east, south, north"
abbrev pub sets_within : ℕ → ℕ → ℕ → ℕ → ℕ → Call
sets_within watch west east south north = sets watch (record { easts = record { low = west; high = east }; norths = record { low = south; high = north } })

-- a call that is not turned down: it is of this watch
pub record Passes (watch number w : ℕ) : Type 0 where
  pub named : w ≡ watch
  pub few : w < max_watches
  pub passes : number ≡ 0

-- All radios on (02, Job 6): what each one's latest report told, as rows by rising number.
use Rattle.std.specs.Prelude.{[], ◌∷◌, ℕ, suc, Option}
use Rattle.terms.specs.Terms.{Fix, max_radio}
use Rattle.lists.specs.Parts.{tab}
use Rattle.lists.specs.Rows.{Rows, put_row}
use Rattle.rules.specs.Store.{Store}
use Rattle.rules.specs.Carry.{latest}
use Rattle.rules.specs.Plain.{Plain}

-- of each of these radios what its latest report told, whatever its age
unfoldable pub rows_of : (ℕ → Option Fix) → Rows (Unit {0}) → Rows Fix
rows_of latest_of [] = []
rows_of latest_of (x ∷ xs) = put_row x.key (latest_of x.key) (rows_of latest_of xs)

-- "all radios on", "rising radio numbers"
unfoldable pub everyone : Store → Rows Fix
everyone s = rows_of (latest s) s.on

-- the same by the plain rule
unfoldable pub plain_everyone : Plain → Rows Fix
plain_everyone x = rows_of x.latest (tab max_radio (λ i. record { key = suc i; val = tt }))

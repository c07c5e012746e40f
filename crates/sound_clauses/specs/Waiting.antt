-- Tests of the waiting reports (01, "A sound store").
use Rattle.std.specs.Prelude.{Bool, ℕ, leb, ltb, length}
use Rattle.terms.specs.Terms.{max_radio}
use Rattle.lists.specs.Rows.{Rows}
use Rattle.lists.specs.Tests.{both, all}
use Rattle.rules.specs.Limits.{full_box, full_memory}
use Rattle.rules.specs.Grid.{Cuts, boxes}
use Rattle.rules.specs.Store.{Report}
use Rattle.rules.specs.Carry.{waiting_in}
use Rattle.sound_clauses.specs.Loops.{rises_to, keys}
use Rattle.sound_clauses.specs.Grid.{place_test}

-- "One waiting report a radio, by rising radio, at most 127"
unfoldable pub waiting_test : Rows Report → Bool
waiting_test ws = both (ltb (length ws) full_memory) (rises_to max_radio 0 (keys ws))

-- "A place is east and north, each 0 to 65,535 metres."
unfoldable pub places_test : Rows Report → Bool
places_test ws = all (λ w. place_test w.val.fix.place) ws

-- no "waiting report above" the highest minute
unfoldable pub dated_test : ℕ → Rows Report → Bool
dated_test highest ws = all (λ w. leb w.val.fix.minute highest) ws

-- "fewer than 8 a memory cell"
unfoldable pub few_test : Cuts → Rows Report → Bool
few_test cuts ws = all (λ m. ltb (waiting_in cuts ws m) full_box) (boxes cuts)

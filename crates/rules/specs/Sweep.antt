-- Sweep (01, "How a record is carried out").
use Rattle.std.specs.Prelude.{Bool, false, not, cond, List, [], ◌∷◌, ◌++◌, ◌-◌, ◌+◌, ltb, Option, None, Some}
use Rattle.terms.specs.Terms.{Place, Fix}
use Rattle.lists.specs.Rows.{Row, Rows, find, alter}
use Rattle.lists.specs.Sums.{filter}
use Rattle.rules.specs.Limits.{sweep_every}
use Rattle.rules.specs.Grid.{same_place}
use Rattle.rules.specs.Store.{Line, Cell, Store, with_entries, with_cells, with_free, with_memo, with_tally, settled, free_after}

abbrev pub is_at : Option Place → Place → Bool
is_at None p = false
is_at (Some q) p = same_place q p

-- another place or "none"
abbrev pub stale_by : Option Line → Fix → Bool
stale_by None f = false
stale_by (Some l) f = not (is_at l.last f.place)

-- an "entry whose radio has a memo line with another place or none"
abbrev pub stale : Rows Line → Row Fix → Bool
stale memo e = stale_by (find memo e.key) e.val

-- "lower the missed count by 1; drop the line at 0"
abbrev pub lowered : Option Line → Option Line
lowered None = None
lowered (Some l) = cond (ltb 1 l.missed) (Some (record { missed = l.missed - 1; last = l.last })) None

unfoldable pub lower_each : Rows Fix → Rows Line → Rows Line
lower_each [] memo = memo
lower_each (e ∷ es) memo = lower_each es (alter lowered e.key memo)

-- what stays, and the memo then
unfoldable pub swept_entries : Rows Line → Rows Fix → Rows Fix
swept_entries memo es = filter (λ e. not (stale memo e)) es

unfoldable pub swept_memo : Rows Line → Rows Fix → Rows Line
swept_memo memo es = lower_each (filter (stale memo) es) memo

unfoldable pub swept : Rows Line → Cell → Cell
swept memo c = with_entries (swept_entries memo c.entries) c

-- "At 16, sweep the cell at the front of the round, move it to the end, set c to 0."
unfoldable pub sweep_front : List Cell → Store → Store
sweep_front [] s = s
sweep_front (c ∷ cs) s =
    with_cells (cs ++ (settled s.free (swept s.memo c) ∷ []))
    (with_free (free_after s.free (swept s.memo c)) (with_memo (swept_memo s.memo c.entries) (with_tally 0 s)))

abbrev pub counted : Store → Store
counted s = with_tally (s.tally + 1) s

-- "Each accepted sign-on, report or sign-off adds 1 to c."
unfoldable pub tick : Store → Store
tick s = cond (ltb (s.tally + 1) sweep_every) (counted s) (sweep_front s.cells s)

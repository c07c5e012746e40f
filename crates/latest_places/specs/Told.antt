-- What a table is once entries were told, and that it is so one after the other.
use Rattle.std.specs.Prelude.{List, [], ◌++◌, ◌≡◌, refl}
use Rattle.std.proofs.Common.{sym, ap, ◌∙◌}
use Rattle.terms.specs.Terms.{Fix}
use Rattle.lists.specs.Rows.{Row}
use Rattle.range_places.specs.Places.{over, entry_over, entries_over}
use Rattle.range_places.specs.Told.{over-append}
use Rattle.latest_places.specs.declared.Columns.{Columns}
use Rattle.latest_places.specs.Latest.{anywhere, unjudged, places_by}

abbrev pub entries_told : Columns → List (Row Fix) → Columns → Type 0
entries_told s l t = places_by t.easts t.norths ≡ entries_over unjudged anywhere l (places_by s.easts s.norths)

pub none_told : (s : Columns) → entries_told s [] s
unfolding entries_over over
none_told s = refl

pub more_told : (s t u : Columns) (a b : List (Row Fix)) → entries_told s a t → entries_told t b u → entries_told s (a ++ b) u
unfolding entries_over
more_told s t u a b e f = f ∙ ap (over (entry_over unjudged anywhere) b) e ∙ sym (over-append (entry_over unjudged anywhere) a b (places_by s.easts s.norths))

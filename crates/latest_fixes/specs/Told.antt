-- What the fixes are once entries were told, and that they are so one after the other.
use Rattle.std.specs.Prelude.{Bool, List, [], ◌++◌, ◌≡◌, ℕ, refl}
use Rattle.std.proofs.Common.{sym, ap, ◌∙◌}
use Rattle.terms.specs.Terms.{Fix}
use Rattle.terms.specs.declared.Fix.{Fix as HeldFix}
use Rattle.lists.specs.Rows.{Row}
use Rattle.range_places.specs.Places.{over}
use Rattle.range_places.specs.Told.{over-append}
use Rattle.latest_fixes.specs.Fixes.{fixes_in, entry_told, entries_told}

-- those of the entries that are not stale lie over the fixes
abbrev pub Told : List ℕ → (Row Fix → Bool) → List HeldFix → List (Row Fix) → List HeldFix → Type 0
Told seats old s l t = fixes_in t ≡ entries_told seats old l (fixes_in s)

pub none_told : (seats : List ℕ) (old : Row Fix → Bool) (s : List HeldFix) → Told seats old s [] s
unfolding entries_told over
none_told seats old s = refl

pub more_told : (seats : List ℕ) (old : Row Fix → Bool) (s t u : List HeldFix) (a b : List (Row Fix)) → Told seats old s a t → Told seats old t b u → Told seats old s (a ++ b) u
unfolding entries_told
more_told seats old s t u a b e f = f ∙ ap (over (entry_told seats old) b) e ∙ sym (over-append (entry_told seats old) a b (fixes_in s))

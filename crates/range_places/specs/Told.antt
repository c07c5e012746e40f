-- What a table by radio is once entries were told, and that it is so one after the other.
use Rattle.std.specs.Prelude.{Bool, List, [], ◌∷◌, ◌++◌, ◌≡◌, Option, refl}
use Rattle.std.proofs.Common.{sym, ap, ◌∙◌}
use Rattle.terms.specs.Terms.{Fix}
use Rattle.terms.specs.declared.Place.{Place as HeldPlace}
use Rattle.lists.specs.Rows.{Row}
use Rattle.range_places.specs.Places.{Sought, places_in, over, entry_over, entries_over}

-- those of the entries that are not stale lie over the table
abbrev pub entries_told : (Row Fix → Bool) → Sought → List (Option HeldPlace) → List (Row Fix) → List (Option HeldPlace) → Type 0
entries_told old q s l t = places_in t ≡ entries_over old q l (places_in s)

module _ {A B : Type 0} (step : A → B → B) where
  pub over-append : (a b : List A) (f : B) → over step (a ++ b) f ≡ over step b (over step a f)
  unfolding over
  over-append [] b f = refl
  over-append (x ∷ a) b f = over-append a b (step x f)

pub none_told : (old : Row Fix → Bool) (q : Sought) (s : List (Option HeldPlace)) → entries_told old q s [] s
unfolding entries_over over
none_told old q s = refl

pub more_told : (old : Row Fix → Bool) (q : Sought) (s t u : List (Option HeldPlace)) (a b : List (Row Fix)) → entries_told old q s a t → entries_told old q t b u → entries_told old q s (a ++ b) u
unfolding entries_over
more_told old q s t u a b e f = f ∙ ap (over (entry_over old q) b) e ∙ sym (over-append (entry_over old q) a b (places_in s))

-- The rectangles laid out without members.
use Rattle.std.proofs.Common.{◌≡◌, Bool, true, false, eqb, List, length, get_or, refl, sym, ap, ◌∙◌, arith}
use Rattle.std.specs.Prelude.{Some}
use Rattle.lists.specs.Tests.{is_some}
use Rattle.lists.proofs.Cases.{by_cases, false-true, is_some-false}
use Rattle.rules.specs.Grid.{Rect}
use Rattle.rules.specs.Watches.{max_watches}
use Rattle.desk.specs.declared.Watch.{Watch as DeskWatch}
use Rattle.desk.specs.Layout.{watch_of, unset_watch, no_watch, watches_of}
use Rattle.desk.specs.Views.{area_in, watch_in, watches_in}
use Rattle.desk.proofs.WatchesLaws.{watches_same, length_in, watch_there, blank_watch}
use Rattle.watches.specs.Watches.{with_area}
use Rattle.watch_members.specs.Members.{nowhere, Filled}

-- ---- the code's two ways: the watch is set, or it is not

set_watch : (v : DeskWatch) → is_some (watch_in v) ≡ true → Some (area_in v) ≡ watch_in v
unfolding watch_in
set_watch v = by_cases (eqb v.set 0) (λ t. rw t (λ e. false-true e)) (λ t. rw t (λ _. refl))

-- nobody is a member, of a watch that is set or not
bare_area : (rect : Rect) → with_area rect unset_watch ≡ watch_of nowhere (Some rect)
unfolding watch_of
bare_area rect = ap (with_area rect) (sym (blank_watch nowhere))

module _ (v : DeskWatch) {mark : Bool} (told : mark ≡ is_some (watch_in v)) where
  pub bare_set : {rect : Rect} {x : DeskWatch} → mark ≡ true → rect ≡ area_in v → x ≡ with_area rect unset_watch → x ≡ watch_of nowhere (watch_in v)
  bare_set {rect} t a e = e ∙ bare_area rect ∙ ap (watch_of nowhere) (ap Some a ∙ set_watch v (sym told ∙ t))

  pub bare_unset : mark ≡ false → unset_watch ≡ watch_of nowhere (watch_in v)
  bare_unset t = sym (blank_watch nowhere) ∙ ap (watch_of nowhere) (sym (is_some-false (watch_in v) (sym told ∙ t)))

-- ---- all of them

pub areas_end : (vs : List DeskWatch) {xs : List DeskWatch} → length vs ≡ max_watches → length xs ≡ max_watches
    → Filled (λ w. watch_of nowhere (watch_in (get_or vs w no_watch))) no_watch max_watches xs → xs ≡ watches_of nowhere (watches_in vs)
areas_end vs {xs} n m e =
    let size = length_in vs in
    watches_same nowhere (watches_in vs) xs (omega arith) (λ w h. e.at w (omega arith) ∙ ap (watch_of nowhere) (sym (watch_there vs w)))

-- What `map` does under cuts, filters and stores: a table of structs read as a table of rows.
use mathlib.Core.Bool.{Bool}
use mathlib.Core.Path.{◌≡◌, refl, ap, ap₂, ◌∙◌}
use mathlib.Core.List.{List, [], ◌∷◌, ◌++◌, map, map-append}
use Prim.Native.Nat.{ℕ, zero, suc}
use lib.ListN.{take, drop, set}
use Rattle.lists.specs.Parts.{insert_at, remove_at}
use Rattle.lists.specs.Sums.{filter}
use Rattle.lists.proofs.Cases.{by_cases}

module _ {A B : Type 0} (f : A → B) where
  pub map-take : (n : ℕ) (l : List A) → map f (take n l) ≡ take n (map f l)
  map-take zero l = refl
  map-take (suc n) [] = refl
  map-take (suc n) (x ∷ xs) = ap (λ (r : List B). f x ∷ r) (map-take n xs)

  pub map-drop : (n : ℕ) (l : List A) → map f (drop n l) ≡ drop n (map f l)
  map-drop zero l = refl
  map-drop (suc n) [] = refl
  map-drop (suc n) (x ∷ xs) = map-drop n xs

  pub map-filter : (p : B → Bool) (l : List A) → map f (filter (λ x. p (f x)) l) ≡ filter p (map f l)
  unfolding filter
  map-filter p [] = refl
  map-filter p (x ∷ xs) = by_cases (p (f x)) (λ t. rw (t, map-filter p xs)) (λ t. rw (t, map-filter p xs))

  pub map-set : (l : List A) (i : ℕ) (v : A) → map f (set l i v) ≡ set (map f l) i (f v)
  map-set [] i v = refl
  map-set (x ∷ xs) zero v = refl
  map-set (x ∷ xs) (suc i) v = ap (λ (r : List B). f x ∷ r) (map-set xs i v)

  pub map-insert_at : (l : List A) (a : ℕ) (v : A) → map f (insert_at l a v) ≡ insert_at (map f l) a (f v)
  unfolding insert_at
  map-insert_at l a v = map-append f (take a l) (v ∷ drop a l) ∙ ap₂ (λ (x y : List B). x ++ (f v ∷ y)) (map-take a l) (map-drop a l)

  pub map-remove_at : (l : List A) (a : ℕ) → map f (remove_at l a) ≡ remove_at (map f l) a
  unfolding remove_at
  map-remove_at l a = map-append f (take a l) (drop (suc a) l) ∙ ap₂ (λ (x y : List B). x ++ y) (map-take a l) (map-drop (suc a) l)

  pub map_injective : ((x y : A) → f x ≡ f y → x ≡ y) → (l m : List A) → map f l ≡ map f m → l ≡ m
  map_injective h [] [] e = refl
  map_injective h [] (y ∷ m) e = cc
  map_injective h (x ∷ l) [] e = cc
  map_injective h (x ∷ l) (y ∷ m) e =
      let e₀ : f x ≡ f y = cc in
      let e₁ : map f l ≡ map f m = cc in
      ap₂ ◌∷◌ (h x y e₀) (map_injective h l m e₁)

pub map-map : {A B C : Type 0} (g : B → C) (f : A → B) (l : List A) → map g (map f l) ≡ map (λ x. g (f x)) l
map-map g f [] = refl
map-map g f (x ∷ xs) = ap (λ (y : List _). g (f x) ∷ y) (map-map g f xs)

pub map_same : {A : Type 0} (f : A → A) → ((x : A) → f x ≡ x) → (l : List A) → map f l ≡ l
map_same f h [] = refl
map_same f h (x ∷ xs) = ap₂ ◌∷◌ (h x) (map_same f h xs)

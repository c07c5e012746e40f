-- Tables by radio: rows that are added one after the other.
use Rattle.std.proofs.Common.{◌≡◌, ℕ, ◌+◌, ◌%◌, ◌<◌, ◌≤◌, List, [], ◌∷◌, map, length, get_or, take, drop, set, sym, refl, ap, ◌∙◌, subst}
use Rattle.terms.specs.Terms.{max_radio}
use Rattle.lists.specs.Rows.{Row, Rows, UpTo}
use Rattle.lists.proofs.MapLaws.{map-drop}
use Rattle.lists.proofs.SlotsLaws.{used_cons, used_none}
use Rattle.sound_balance.specs.Tables.{field_end, added}

-- ---- what the slots in use stand for

module _ {A B : Type 0} (f : A → B) (xs : List A) (n i : ℕ) where
  pub row_next : (d : A) → n ≤ length xs → i < n → drop i (map f (take n xs)) ≡ f (get_or xs i d) ∷ drop (i + 1) (map f (take n xs))
  row_next d h k = sym (map-drop f i (take n xs)) ∙ ap (map f) (used_cons xs n i d h k) ∙ ap (λ (l : List B). f (get_or xs i d) ∷ l) (map-drop f (i + 1) (take n xs))

  pub row_none : n ≤ i → drop i (map f (take n xs)) ≡ []
  row_none h = sym (map-drop f i (take n xs)) ∙ ap (map f) (used_none xs n i h)

-- ---- rows that are added

module _ {Val : Type 0} where
  -- a table to which a row is added
  abbrev pub added_one : (Row Val → ℕ) → List ℕ → Row Val → List ℕ
  added_one w t x = set t x.key ((get_or t x.key 0 + w x) % field_end)

  pub added-nil : (w : Row Val → ℕ) (t : List ℕ) → added w t [] ≡ t
  unfolding added
  added-nil w t = refl

  pub added-cons : (w : Row Val → ℕ) (t : List ℕ) (x : Row Val) (xs : Rows Val) → added w t (x ∷ xs) ≡ added w (added_one w t x) xs
  unfolding added
  added-cons w t x xs = refl

-- ---- a loop that adds rows

-- those before i are added: with the rest it is the whole
pub record Adding {Val : Type 0} (w : Row Val → ℕ) (t₀ : List ℕ) (l : Rows Val) (i : ℕ) (t : List ℕ) : Type 0 where
  pub radios : UpTo max_radio (drop i l)
  pub same : added w t (drop i l) ≡ added w t₀ l

module _ {Val : Type 0} where
  pub Adding_start : (w : Row Val → ℕ) {t : List ℕ} {l : Rows Val} → UpTo max_radio l → Adding w t l 0 t
  Adding_start w u = record { radios = u; same = refl }

  module _ {w : Row Val → ℕ} {t₀ : List ℕ} {l : Rows Val} {i : ℕ} {t : List ℕ} (a : Adding w t₀ l i t) where
    pub Adding_end : drop i l ≡ [] → t ≡ added w t₀ l
    Adding_end e = sym (added-nil w t) ∙ ap (added w t) (sym e) ∙ a.same

    module _ {x : Row Val} (e : drop i l ≡ x ∷ drop (i + 1) l) where
      here : UpTo max_radio (x ∷ drop (i + 1) l)
      here = subst (λ (y : Rows Val). UpTo max_radio y) e a.radios

      pub Adding_key : x.key ≤ max_radio
      Adding_key = here.0

      pub Adding_turn : {k v : ℕ} → k ≡ x.key → v ≡ (get_or t k 0 + w x) % field_end → Adding w t₀ l (i + 1) (set t k v)
      Adding_turn {k} {v} p q =
          let b : Adding w t₀ l (i + 1) (set t x.key ((get_or t x.key 0 + w x) % field_end)) = record {
            radios = here.1;
            same = sym (added-cons w t x (drop (i + 1) l)) ∙ ap (added w t) (sym e) ∙ a.same;
          } in
          rw (q, p) b

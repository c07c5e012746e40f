-- Laws of parts, of writes at an offset, and of tables.
use mathlib.Core.Path.{◌≡◌, refl, sym, ap, ap₂, ◌∙◌}
use Prim.Native.Nat.{ℕ, zero, suc, ◌+◌, ◌-◌, ◌*◌, ◌≤◌, ◌<◌}
use native.Mathlib.Nat.{not-suc-le-zero, le_of_suc-le-suc, suc_inj, add_assoc, add-zero, zero-add}
use mathlib.Core.List.{List, [], ◌∷◌, ◌++◌, append_assoc, append-nil}
use native.Mathlib.Omega.{arith}
use native.Mathlib.Numerals.{add-one}
use lib.ListN.{take, drop, length, replicate, length-replicate, replicate-append-replicate, get_or, set, length-take, length-drop, length-append, get_or-append, take-append-drop, drop_of_length-le}
use lib.Seq.{get_or-take, get_or-drop, take_at, drop_at, drop-drop, set_split, length-take-le, take-append-le, take-take, take-suc, drop-cons, take-append_seam, take-add, ext_get_or}
use mathlib.Core.Logic.{◌≢◌}
use Rattle.lists.specs.Parts.{part, put, tab}
use Rattle.lists.specs.Sums.{concat}

module _ {ℓ} {A : Type ℓ} where
  pub length-part : (xs : List A) (a n : ℕ) → a + n ≤ length xs → length (part xs a n) ≡ n
  unfolding part
  length-part xs a n h = simp (length-take, length-drop) (omega arith)

  pub get_or-part : (xs : List A) (a n i : ℕ) (d : A) → i < n → get_or (part xs a n) i d ≡ get_or xs (a + i) d
  unfolding part
  get_or-part xs a n i d h = rw (get_or-take, get_or-drop)

  -- what a write leaves before it, up to its end, and after it
  head_len : (xs : List A) (a : ℕ) (vs : List A) → a ≤ length xs → length (take a xs ++ vs) ≡ a + length vs
  head_len xs a vs h = simp (length-append, length-take) (omega arith)

  pub take-put : (xs : List A) (a : ℕ) (vs : List A) → a ≤ length xs → take (a + length vs) (put xs a vs) ≡ take a xs ++ vs
  unfolding put
  take-put xs a vs h = rw (← append_assoc) (take_at (take a xs ++ vs) _ _ (head_len xs a vs h))

  pub drop-put : (xs : List A) (a : ℕ) (vs : List A) → a ≤ length xs → drop (a + length vs) (put xs a vs) ≡ drop (a + length vs) xs
  unfolding put
  drop-put xs a vs h = rw (← append_assoc) (drop_at (take a xs ++ vs) _ _ (head_len xs a vs h))

  pub take-put-le : (xs : List A) (a : ℕ) (vs : List A) (n : ℕ) → n ≤ a → a ≤ length xs → take n (put xs a vs) ≡ take n xs
  unfolding put
  take-put-le xs a vs n h k =
      take-append-le n (take a xs) _ (simp length-take (omega arith)) ∙ take-take n a xs h

  pub length-put : (xs : List A) (a : ℕ) (vs : List A) → a + length vs ≤ length xs → length (put xs a vs) ≡ length xs
  unfolding put
  length-put xs a vs h = simp (length-append, length-take, length-drop) (omega arith)

  -- for a proof in which `put` stays shut
  pub put_def : (xs : List A) (a : ℕ) (vs : List A) → put xs a vs ≡ take a xs ++ (vs ++ drop (a + length vs) xs)
  unfolding put
  put_def xs a vs = refl

  pub drop_into : (xs : List A) (a : ℕ) (vs : List A) → a ≤ length xs → drop a (put xs a vs) ≡ vs ++ drop (a + length vs) xs
  unfolding put
  drop_into xs a vs h = drop_at (take a xs) _ a (length-take-le a xs h)

  pub put-nil : (xs : List A) (a : ℕ) → put xs a [] ≡ xs
  unfolding put
  put-nil xs a = rw add-zero (take-append-drop a xs)

  pub put_whole : (xs vs : List A) → length vs ≡ length xs → put xs 0 vs ≡ vs
  unfolding put
  put_whole xs vs h = rw (zero-add, drop_of_length-le xs {i = length vs} (omega arith)) (append-nil vs)

  -- two writes, one after the other, are one
  pub put-put : (xs : List A) (a : ℕ) (vs ws : List A) → a + length vs ≤ length xs
      → put (put xs a vs) (a + length vs) ws ≡ put xs a (vs ++ ws)
  unfolding put
  put-put xs a vs ws h =
      let b : a ≤ length xs = omega arith in
      let e : drop (a + length vs + length ws) (put xs a vs) ≡ drop (a + length (vs ++ ws)) xs =
      sym (drop-drop (length ws) (a + length vs) (put xs a vs))
      ∙ ap (drop (length ws)) (drop-put xs a vs b)
      ∙ drop-drop (length ws) (a + length vs) xs
      ∙ rw (length-append, add_assoc) in
      ap₂ (λ (l r : List A). l ++ (ws ++ r)) (take-put xs a vs b) e ∙ simp append_assoc

  pub set-put : (xs : List A) (a : ℕ) (v : A) → a < length xs → set xs a v ≡ put xs a (v ∷ [])
  unfolding put
  set-put xs a v h = rw add-one (set_split xs a v h)

  pub get_or-put_before : (xs : List A) (a : ℕ) (vs : List A) (i : ℕ) (d : A) → i < a → a ≤ length xs → get_or (put xs a vs) i d ≡ get_or xs i d
  unfolding put
  get_or-put_before xs a vs i d h k =
      get_or-append (take a xs) _ d i (simp length-take (omega arith)) ∙ get_or-take a xs i d h

  pub get_or-put_after : (xs : List A) (a : ℕ) (vs : List A) (i : ℕ) (d : A) → a + length vs ≤ i → a ≤ length xs → get_or (put xs a vs) i d ≡ get_or xs i d
  get_or-put_after xs a vs i d h k =
      let m : ℕ = i - (a + length vs) in
      let e : i ≡ a + length vs + m = omega arith in
      rw e (sym (get_or-drop _ (put xs a vs) m d) ∙ ap (λ l. get_or l m d) (drop-put xs a vs k) ∙ get_or-drop _ xs m d)

  -- a part, cut from a front
  pub drop-take : (xs : List A) (b n : ℕ) → b ≤ length xs → drop b (take (b + n) xs) ≡ part xs b n
  unfolding part
  drop-take xs b n h = rw take-add (drop_at (take b xs) _ b (length-take-le b xs h))

  pub put_snoc : (xs : List A) (a : ℕ) (vs : List A) (v : A) → a + length vs < length xs
      → set (put xs a vs) (a + length vs) v ≡ put xs a (vs ++ (v ∷ []))
  put_snoc xs a vs v h =
      let l : length (put xs a vs) ≡ length xs = length-put xs a vs (omega arith) in
      set-put (put xs a vs) _ v (omega arith) ∙ put-put xs a vs (v ∷ []) (omega arith)

  -- a part after a write: the written one, and one that does not meet it
  pub part-put : (xs : List A) (a : ℕ) (vs : List A) → a + length vs ≤ length xs → part (put xs a vs) a (length vs) ≡ vs
  unfolding part
  part-put xs a vs h =
      let e : drop a (put xs a vs) ≡ vs ++ drop (a + length vs) xs = unfold put in drop_at (take a xs) _ a (length-take-le a xs (omega arith)) in
      rw e (take-append_seam vs _)

  pub part-put_before : (xs : List A) (a : ℕ) (vs : List A) (b n : ℕ) → b + n ≤ a → a + length vs ≤ length xs → part (put xs a vs) b n ≡ part xs b n
  part-put_before xs a vs b n h k =
      let l : length (put xs a vs) ≡ length xs = length-put xs a vs k in
      sym (drop-take (put xs a vs) b n (omega arith)) ∙ ap (drop b) (take-put-le xs a vs (b + n) h (omega arith)) ∙ drop-take xs b n (omega arith)

  pub part-put_after : (xs : List A) (a : ℕ) (vs : List A) (b n : ℕ) → a + length vs ≤ b → a + length vs ≤ length xs → part (put xs a vs) b n ≡ part xs b n
  unfolding part
  part-put_after xs a vs b n h k =
      let m : ℕ = b - (a + length vs) in
      let e : b ≡ a + length vs + m = omega arith in
      ap (take n) (rw e (sym (drop-drop m _ _) ∙ ap (drop m) (drop-put xs a vs (omega arith)) ∙ drop-drop m _ _))

  pub length-tab : (n : ℕ) (f : ℕ → A) → length (tab n f) ≡ n
  unfolding tab
  length-tab zero f = refl
  length-tab (suc n) f = ap suc (length-tab n (λ k. f (suc k)))

  pub get_or-tab : (n : ℕ) (f : ℕ → A) (i : ℕ) (d : A) → i < n → get_or (tab n f) i d ≡ f i
  unfolding tab
  get_or-tab zero f i d h = absurd (not-suc-le-zero h)
  get_or-tab (suc n) f zero d h = refl
  get_or-tab (suc n) f (suc i) d h = get_or-tab n (λ k. f (suc k)) i d (le_of_suc-le-suc h)

  -- a list is the table of what it holds
  pub tab_of : (xs : List A) (n : ℕ) (d : A) (f : ℕ → A) → length xs ≡ n → ((i : ℕ) → i < n → get_or xs i d ≡ f i) → xs ≡ tab n f
  tab_of xs n d f l h =
      ext_get_or d xs (tab n f) (l ∙ sym (length-tab n f)) (λ i b. h i (omega arith) ∙ sym (get_or-tab n f i d (omega arith)))

  pub tab_ext : (n : ℕ) (f g : ℕ → A) → ((i : ℕ) → i < n → f i ≡ g i) → tab n f ≡ tab n g
  unfolding tab
  tab_ext zero f g h = refl
  tab_ext (suc n) f g h = ap₂ ◌∷◌ (h 0 (omega arith)) (tab_ext n (λ k. f (suc k)) (λ k. g (suc k)) (λ i b. h (suc i) (omega arith)))

  pub tab-cons : (n : ℕ) (f : ℕ → A) → tab (suc n) f ≡ f 0 ∷ tab n (λ k. f (suc k))
  unfolding tab
  tab-cons n f = refl

  pub tab_suc : (n : ℕ) (f : ℕ → A) → tab (n + 1) f ≡ tab n f ++ (f n ∷ [])
  unfolding tab
  tab_suc zero f = refl
  tab_suc (suc n) f = rw (add-one (suc n)) (ap (λ l. f 0 ∷ l) (rw add-one at (tab_suc n (λ k. f (suc k)))))

  -- two stores side by side are one write
  pub put_two : (xs : List A) (a : ℕ) (v w : A) → a + 1 < length xs → set (set xs a v) (a + 1) w ≡ put xs a (v ∷ w ∷ [])
  put_two xs a v w h = rw (set-put xs a v (omega arith)) (put_snoc xs a (v ∷ []) w h)

  pub part_suc : (xs : List A) (a n : ℕ) (d : A) → a + n < length xs → part xs a (n + 1) ≡ part xs a n ++ (get_or xs (a + n) d ∷ [])
  unfolding part
  part_suc xs a n d h =
      let l : length (drop a xs) ≡ length xs - a = length-drop a xs in
      rw (add-one, take-suc (drop a xs) n d (omega arith), get_or-drop)

  pub part_zero : (xs : List A) (a : ℕ) → part xs a 0 ≡ []
  unfolding part
  part_zero xs a = refl

  pub part-cons : (xs : List A) (a n : ℕ) (d : A) → a < length xs → part xs a (suc n) ≡ get_or xs a d ∷ part xs (a + 1) n
  unfolding part
  part-cons xs a n d h = rw (add-one, drop-cons xs a d h)

  -- two parts side by side
  pub part-append : (xs : List A) (a m n : ℕ) → part xs a m ++ part xs (a + m) n ≡ part xs a (m + n)
  unfolding part
  part-append xs a m n = rw (← drop-drop m a xs) (sym (take-add m n (drop a xs)))

  -- a write, then a write right after it
  pub put_then : (xs : List A) {ys zs : List A} (a : ℕ) {b : ℕ} (u w : List A) → ys ≡ put xs a u → zs ≡ put ys b w → a + length u ≡ b → b ≤ length xs → zs ≡ put xs a (u ++ w)
  put_then xs a u w e f g h = f ∙ rw (e, ← g) (put-put xs a u w (omega arith))

  -- a loop that fills: one store more
  pub put_fill : (xs : List A) {ys : List A} (a i : ℕ) (v : A) → a ≤ i → i < length xs
      → ys ≡ put xs a (replicate (i - a) v) → set ys i v ≡ put xs a (replicate (i + 1 - a) v)
  put_fill xs a i v h k e =
      let n : ℕ = i - a in
      let l : length (replicate n v) ≡ n = length-replicate n v in
      let q : a + length (replicate n v) ≡ i = omega arith in
      let m : i + 1 - a ≡ n + 1 = omega arith in
      rw (e, m, ← replicate-append-replicate n 1 v) (rw q at (put_snoc xs a (replicate n v) v (omega arith)))

  -- where it starts, and where it ends
  pub put_none : (xs : List A) (a : ℕ) (v : A) → xs ≡ put xs a (replicate (a - a) v)
  put_none xs a v = let e : a - a ≡ 0 = omega arith in rw e (sym (put-nil xs a))

  -- a table with one value changed
  pub set-tab : (n : ℕ) (f g : ℕ → A) (i : ℕ) (v : A) → i < n → g i ≡ v → ((j : ℕ) → j ≢ i → g j ≡ f j) → tab n g ≡ set (tab n f) i v
  unfolding tab
  set-tab zero f g i v h e k = absurd (not-suc-le-zero h)
  set-tab (suc n) f g zero v h e k = ap₂ ◌∷◌ e (tab_ext n _ _ (λ j b. k (suc j) (omega arith)))
  set-tab (suc n) f g (suc i) v h e k =
      ap₂ ◌∷◌ (k 0 (omega arith)) (set-tab n (λ j. f (suc j)) (λ j. g (suc j)) i v (le_of_suc-le-suc h) e (λ j b. k (suc j) (λ q. b (suc_inj q))))

  -- what a part that was lent from a to e comes back as
  pub lent : (xs ys : List A) (a k : ℕ) → length ys ≡ k → take a xs ++ (ys ++ drop k (drop a xs)) ≡ put xs a ys
  unfolding put
  lent xs ys a k h = rw (drop-drop k a xs, h)

-- ---- pieces of one length side by side

module _ {A : Type 0} (w : ℕ) where
  part_first : (b : List A) → part b (w * 0) w ≡ take w b
  unfolding part
  part_first b = let z : w * 0 ≡ 0 = omega arith in rw z

  part_next : (b : List A) (i : ℕ) → part b (w * suc i) w ≡ part (drop w b) (w * i) w
  unfolding part
  part_next b i = let q : w * suc i ≡ w + w * i = omega arith in rw (q, ← drop-drop (w * i) w b)

  pub length_pieces : (n : ℕ) (f : ℕ → List A) → ((k : ℕ) → length (f k) ≡ w) → length (concat (tab n f)) ≡ w * n
  unfolding concat tab
  length_pieces zero f h = omega arith
  length_pieces (suc n) f h = length-append (f 0) _ ∙ omega (arith, h 0, length_pieces n (λ k. f (suc k)) (λ k. h (suc k)))

  -- the one at i
  pub part_pieces : (n : ℕ) (f : ℕ → List A) (i : ℕ) → ((k : ℕ) → length (f k) ≡ w) → i < n → part (concat (tab n f)) (w * i) w ≡ f i
  unfolding concat tab
  part_pieces zero f i h b = absurd (not-suc-le-zero b)
  part_pieces (suc n) f zero h b = part_first _ ∙ take_at (f 0) (concat (tab n (λ k. f (suc k)))) w (h 0)
  part_pieces (suc n) f (suc i) h b =
      part_next _ i
      ∙ ap (λ (l : List A). part l (w * i) w) (drop_at (f 0) (concat (tab n (λ k. f (suc k)))) w (h 0))
      ∙ part_pieces n (λ k. f (suc k)) i (λ k. h (suc k)) (le_of_suc-le-suc b)

  -- a list is its pieces
  pub pieces_of : (n : ℕ) (b : List A) → length b ≡ w * n → b ≡ concat (tab n (λ i. part b (w * i) w))
  unfolding concat tab
  pieces_of zero [] l = refl
  pieces_of zero (x ∷ b) l = absurd (omega arith)
  pieces_of (suc n) b l =
      sym (take-append-drop w b)
      ∙ ap₂ (λ (x y : List A). x ++ y) (sym (part_first b))
      (pieces_of n (drop w b) (rw length-drop (omega arith)) ∙ ap concat (tab_ext n _ _ (λ i h. sym (part_next b i))))

-- An element of a list, and what stands before and after it.
use Rattle.std.specs.Prelude.{List, ◌∷◌, ◌++◌, ◌≡◌}

module _ {A : Type 0} where
  pub record Among (l : List A) (x : A) : Type 0 where
    pub before : List A
    pub after : List A
    pub split : l ≡ before ++ (x ∷ after)

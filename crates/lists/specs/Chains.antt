-- Chains: lists of pages linked by a next-function, which is `end` at the last.
use Rattle.std.specs.Prelude.{cond, List, [], ◌∷◌, ◌++◌, ◌≡◌, ℕ, zero, suc, ◌<◌, eqb, take, drop}

module _ (end : ℕ) where
  -- the first page, `end` for none
  abbrev pub chain_head : List ℕ → ℕ
  chain_head [] = end
  chain_head (p ∷ ps) = p

  -- the pages from p on, at most as many as there is fuel
  unfoldable pub walk : (ℕ → ℕ) → ℕ → ℕ → List ℕ
  walk next zero p = []
  walk next (suc fuel) p = cond (eqb p end) [] (p ∷ walk next fuel (next p))

  -- each page leads to the next, the last to `end`
  abbrev pub Linked : (ℕ → ℕ) → List ℕ → Type 0
  Linked next [] = Unit {0}
  Linked next (p ∷ ps) = (p < end) × (next p ≡ chain_head ps) × Linked next ps

-- a chain is brought to `need` pages: it gives its last up first, to the front of the free chain, or takes from that front
unfoldable pub settled_chain : ℕ → List ℕ → List ℕ → List ℕ
settled_chain need chain free = take need (chain ++ free)

unfoldable pub settled_free : ℕ → List ℕ → List ℕ → List ℕ
settled_free need chain free = drop need (chain ++ free)

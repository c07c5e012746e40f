-- The neighbour that is joined (02, Job 7): that there is one at most on a side, and worked points of the order of the sides.
use Rattle.std.specs.Prelude.{true, List, [], ◌∷◌, map, ◌≡◌, ℕ, suc, ◌+◌, ◌*◌, Option, None, Some}
use Rattle.terms.specs.Terms.{fix_at}
use Rattle.lists.specs.Among.{Among}
use Rattle.lists.specs.Parts.{tab}
use Rattle.rules.specs.Grid.{Span}
use Rattle.rules.specs.Store.{Cell, Store, fresh}
use Rattle.rules.specs.Flush.{Side, west, east, south, north, beside, neighbour}

-- ---- "on one side only one cell can make a rectangle with ours"

-- two cells that lie on the same side of d, and each make a rectangle with it, are the same
abbrev pub OneOn : Store → Side → Type 0
OneOn s side = (d m n : Cell) → Among s.cells m → Among s.cells n
    → beside side d.edges m.edges ≡ true → beside side d.edges n.edges ≡ true → m ≡ n

pub record OneOnEachSide (s : Store) : Type 0 where
  pub on_west : OneOn s west
  pub on_east : OneOn s east
  pub on_south : OneOn s south
  pub on_north : OneOn s north

-- ---- "take the first of west, east, south, north": worked points

-- stripes of ten metres, counted from 0
abbrev stripe_at : ℕ → Span
stripe_at i = record { low = 10 * i; high = 10 * i + 9 }

-- a cell of one stripe by one, with n entries
abbrev cell_on : ℕ → ℕ → ℕ → ℕ → Cell
cell_on number i j n = record {
  number = number;
  edges = record { easts = stripe_at i; norths = stripe_at j };
  chain = [];
  entries = tab n (λ k. record { key = suc k; val = fix_at (10 * i) (10 * j) 0 });
}

abbrev number_of : Option Cell → Option ℕ
number_of None = None
number_of (Some c) = Some c.number

-- with d in the middle, of two entries, and these others in the order of the round, the number of the cell that is joined
abbrev taken : List Cell → Option ℕ
taken rest = number_of (neighbour (record { cell = cell_on 9 1 1 2; rest = rest; store = fresh }))

pub record Choice : Type 0 where
  pub rest : List Cell
  pub takes : Option ℕ

-- the numbers fall from west to north, and the round begins in the north
unfoldable pub choices : List Choice
choices =
    record { rest = cell_on 1 1 2 9 ∷ cell_on 2 1 0 9 ∷ cell_on 3 2 1 9 ∷ cell_on 4 0 1 22 ∷ []; takes = Some 4 }
    -- more than 24 entries together
    ∷ record { rest = cell_on 1 1 2 9 ∷ cell_on 2 1 0 9 ∷ cell_on 3 2 1 9 ∷ cell_on 4 0 1 23 ∷ []; takes = Some 3 }
    ∷ record { rest = cell_on 1 1 2 9 ∷ cell_on 2 1 0 9 ∷ cell_on 3 2 1 9 ∷ []; takes = Some 3 }
    ∷ record { rest = cell_on 1 1 2 9 ∷ cell_on 2 1 0 9 ∷ []; takes = Some 2 }
    ∷ record { rest = cell_on 1 1 2 9 ∷ []; takes = Some 1 }
    -- at a corner, and behind a gap
    ∷ record { rest = cell_on 5 0 0 9 ∷ cell_on 6 3 1 9 ∷ []; takes = None }
    ∷ []

abbrev pub Chosen : Type 0
Chosen = map (λ x. taken x.rest) choices ≡ map (λ x. x.takes) choices

-- The starred worked points (01, "Worked points"), as one table: the records before, the record, and what is seen of its outcome.
use Rattle.std.specs.Prelude.{List, [], ◌∷◌, ◌++◌, map, ◌≡◌, ℕ, suc, ◌+◌, ◌-◌, ◌*◌, ◌/◌, length, replicate}
use Rattle.terms.specs.Terms.{Place, field_bytes, minute_bytes}
use Rattle.lists.specs.Parts.{tab}
use Rattle.lists.specs.Sums.{concat}
use Rattle.lists.specs.Words.{le}
use Rattle.rules.specs.Store.{Store, fresh}
use Rattle.rules.specs.Carry.{Outcome, carry}

-- ---- records as bytes, each at minute 0

abbrev fields_of : List ℕ → List ℕ
fields_of l = concat (map (le field_bytes) l)

abbrev on_bytes : ℕ → Place → List ℕ
on_bytes r p = fields_of (14 ∷ 1 ∷ r ∷ p.east ∷ p.north ∷ []) ++ le minute_bytes 0

abbrev off_bytes : ℕ → List ℕ
off_bytes r = fields_of (10 ∷ 3 ∷ r ∷ []) ++ le minute_bytes 0

abbrev range_bytes : ℕ → ℕ → ℕ → ℕ → List ℕ
range_bytes west east south north = fields_of (16 ∷ 4 ∷ west ∷ east ∷ south ∷ north ∷ []) ++ le minute_bytes 0

-- ---- runs

-- the store after these records
unfoldable pub after : List (List ℕ) → Store → Store
after [] s = s
after (b ∷ bs) s = after bs (carry s b []).store

-- radios from r on sign on, each at its place
abbrev sign_ons : ℕ → ℕ → (ℕ → Place) → List (List ℕ)
sign_ons n r place = tab n (λ i. on_bytes (r + i) (place (r + i)))

-- 32 sign on, and the first 7 of them off; 7 more sign on, and one more would bring the cell to 33 entries
abbrev thirty_two : (ℕ → Place) → List (List ℕ)
thirty_two place = sign_ons 32 1 place ++ (tab 7 (λ i. off_bytes (suc i)) ++ sign_ons 7 33 place)

abbrev apart : ℕ → Place
apart r = record { east = 1000 * r; north = 500 }

abbrev together : ℕ → Place
together r = record { east = 1000; north = 500 }

-- eight after eight at one place, each place further east
abbrev grouped : ℕ → Place
grouped r = record { east = 1000 * ((r - 1) / 8) + 500; north = 500 }

-- ---- the table

-- a point: what is seen of the outcome is the number, the count, the answer buffer, the entries and pages of each cell, and how many cuts there are
pub record Seen : Type 0 where
  pub number : ℕ
  pub count : ℕ
  pub buffer : List ℕ
  pub entries : List ℕ
  pub pages : List ℕ
  pub cuts : ℕ

pub record Point : Type 0 where
  pub before : List (List ℕ)
  pub bytes : List ℕ
  pub room : ℕ
  pub sees : Seen

unfoldable pub seen : Outcome → Seen
seen o = record {
  number = o.number;
  count = o.count;
  buffer = o.buffer;
  entries = map (λ c. length c.entries) o.store.cells;
  pages = map (λ c. length c.chain) o.store.cells;
  cuts = length o.store.cuts.easts + length o.store.cuts.norths;
}

-- with one empty cell and no cut
abbrev numbered : ℕ → Seen
numbered n = record { number = n; count = 0; buffer = []; entries = 0 ∷ []; pages = 1 ∷ []; cuts = 0 }

-- with at most one record before it
unfoldable pub short_points : List Point
short_points =
    -- "No byte at hand: 3", "One byte: 3."
    record { before = []; bytes = []; room = 0; sees = numbered 3 }
    ∷ record { before = []; bytes = 10 ∷ []; room = 0; sees = numbered 3 }
    -- "Length 4, kind 9: 4."; "01's worked point for kind 3 with a wrong length takes 14 in place of 10"
    ∷ record { before = []; bytes = fields_of (4 ∷ 9 ∷ []); room = 0; sees = numbered 4 }
    ∷ record { before = []; bytes = fields_of (14 ∷ 3 ∷ 7 ∷ 0 ∷ 0 ∷ 0 ∷ 0 ∷ []); room = 0; sees = numbered 5 }
    -- "Radio 4,095 passes", "4,096 gives 6"
    ∷ record { before = []; bytes = on_bytes 4095 (apart 1); room = 0; sees = numbered 0 }
    ∷ record { before = []; bytes = on_bytes 4096 (apart 1); room = 0; sees = numbered 6 }
    -- "A range of 5–5 then finds nobody"
    ∷ record {
      before = on_bytes 7 (record { east = 5; north = 5 }) ∷ [];
      bytes = range_bytes 5 5 5 5;
      room = 6;
      sees = record { number = 0; count = 0; buffer = replicate 6 0; entries = 0 ∷ []; pages = 1 ∷ []; cuts = 0 };
    }
    -- "West 6, east 5: 7."
    ∷ record { before = []; bytes = range_bytes 6 5 0 9; room = 0; sees = numbered 7 }
    ∷ []

-- with a long run before it
unfoldable pub long_points : List Point
long_points =
    -- "The 512th sign-on passes"
    record {
      before = sign_ons 511 1 grouped;
      bytes = on_bytes 512 (grouped 512);
      room = 0;
      sees = record { number = 0; count = 0; buffer = []; entries = replicate 14 16 ++ (272 ∷ 16 ∷ []); pages = replicate 14 1 ++ (9 ∷ 1 ∷ []); cuts = 15 };
    }
    -- "33 entries with distinct easts in one uncut square: the cut leaves 16 and 17."
    ∷ record {
      before = thirty_two apart;
      bytes = on_bytes 40 (apart 40);
      room = 0;
      sees = record { number = 0; count = 0; buffer = []; entries = 16 ∷ 17 ∷ []; pages = 1 ∷ 1 ∷ []; cuts = 1 };
    }
    -- "33 at one place: two pages, no cut."
    ∷ record {
      before = thirty_two together;
      bytes = on_bytes 40 (together 40);
      room = 0;
      sees = record { number = 0; count = 0; buffer = []; entries = 33 ∷ []; pages = 2 ∷ []; cuts = 0 };
    }
    ∷ []

-- the table
abbrev pub points : List Point
points = short_points ++ long_points

abbrev outcome : Point → Outcome
outcome x = carry (after x.before fresh) x.bytes (replicate x.room 0)

-- every point sees what it should
abbrev pub Sees : List Point → Type 0
Sees l = map (λ x. seen (outcome x)) l ≡ map (λ x. x.sees) l

abbrev pub Starred : Type 0
Starred = Sees points

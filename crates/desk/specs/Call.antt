-- What one call answers and leaves, from what it finds: the definition that an entry point's contract cites, and a list of calls is made of
-- (01, "Turned down, in checking order", "My note on what I won't accept").
use Rattle.std.specs.Prelude.{List, ◌≡◌, ℕ, length}
use Rattle.page.specs.Buffer.{buffer_bytes}
use Rattle.rules.specs.Calls.{Call, Result, carry_call}
use Rattle.desk.specs.declared.Answer.{Answer}
use Rattle.desk.specs.declared.Desk.{Desk}
use Rattle.desk.specs.Layout.{desk_of, pages_of}
use Rattle.desk.specs.Sound.{Sound}

-- what a call is handed: the desk, the pages, what is called, the answer buffer
pub record Before : Type 0 where
  pub desk : Desk
  pub pages : List ℕ
  pub call : Call
  pub buffer : List ℕ

abbrev pub handed : Desk → List ℕ → Call → List ℕ → Before
handed desk pages call buffer = record { desk = desk; pages = pages; call = call; buffer = buffer }

-- what it answers, and what desk, pages and answer buffer then hold
pub record After : Type 0 where
  pub number : ℕ
  pub count : ℕ
  pub gained : ℕ
  pub lost : ℕ
  pub desk : Desk
  pub pages : List ℕ
  pub buffer : List ℕ

abbrev pub left : Answer → Desk → List ℕ → List ℕ → After
left a desk pages buffer = record { number = a.number; count = a.count; gained = a.gained; lost = a.lost; desk = desk; pages = pages; buffer = buffer }

-- "The answer carries the number and 0 .. Desk, pages, answer buffer and any other lent buffer keep every byte."
unfoldable pub turned_down : ℕ → Before → After
turned_down n x = record { number = n; count = 0; gained = 0; lost = 0; desk = x.desk; pages = x.pages; buffer = x.buffer }

-- a result of the rules, laid out
unfoldable pub laid_out : Result → After
laid_out o = record {
  number = o.number;
  count = o.count;
  gained = o.gained;
  lost = o.lost;
  desk = desk_of o.watched;
  pages = pages_of o.watched.store;
  buffer = o.buffer;
}

-- on a sound store: carried out, or turned down under 3 to 14
abbrev pub CarriedOut : (x : Before) → Sound x.desk x.pages → After → Type 0
CarriedOut x s y = y ≡ laid_out (carry_call x.call s.watched x.buffer)

-- which case a call is, and its result outright: what it is handed settles what it answers and leaves
pub data Answers (x : Before) (y : After) : Type 0 where
  -- 1: "The page buffer isn't 25,600 bytes.", which Job 3 makes 41,984
  wrong_size : (length x.pages ≡ buffer_bytes → ⊥) → y ≡ turned_down 1 x → Answers x y
  -- 2: "The store isn't sound."
  unsound : length x.pages ≡ buffer_bytes → (Sound x.desk x.pages → ⊥) → y ≡ turned_down 2 x → Answers x y
  -- 3 to 14, or 0
  carried : (s : Sound x.desk x.pages) → CarriedOut x s y → Answers x y

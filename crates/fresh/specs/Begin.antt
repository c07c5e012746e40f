-- Making a fresh store (01, "What the desk holds"): what it answers and leaves, from what it finds. "Making one tests number 1 only."
use Rattle.std.specs.Prelude.{◌≡◌, length}
use Rattle.page.specs.Buffer.{buffer_bytes}
use Rattle.rules.specs.Store.{fresh}
use Rattle.rules.specs.Watches.{fresh_watched}
use Rattle.desk.specs.Layout.{desk_of, pages_of}
use Rattle.desk.specs.Making.{Found, Made, made, numbered}

pub record Begins (x : Found) (y : Made) : Type 0 where
  -- 1: "The page buffer isn't 25,600 bytes.", which Job 3 makes 41,984. "The answer carries the number and 0 .. Desk, pages .. keep every byte."
  pub size : (length x.pages ≡ buffer_bytes → ⊥) → y ≡ made (numbered 1) x.desk x.pages
  -- the fresh store, laid out
  pub begun : length x.pages ≡ buffer_bytes → y ≡ made (numbered 0) (desk_of fresh_watched) (pages_of fresh)

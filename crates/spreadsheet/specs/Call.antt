-- Reading a file (02, Job 6): what it answers and leaves, from what it finds. The definition that an entry point's contract cites.
use Rattle.std.specs.Prelude.{List, ◌≡◌, ℕ, length}
use Rattle.page.specs.Buffer.{buffer_bytes}
use Rattle.desk.specs.Layout.{desk_of, pages_of}
use Rattle.desk.specs.Making.{Found, Made, made, counted, numbered}
use Rattle.spreadsheet.specs.Read.{Read, made as store_made, stopped, read_file}

-- the store, laid out; or the number of a check with the line, and "A file with a bad line changes nothing"
abbrev pub laid_out : Read → Found → Made
laid_out (store_made w) x = made (numbered 0) (desk_of w) (pages_of w.store)
laid_out (stopped number line) x = made (counted number line) x.desk x.pages

pub record Reads (file : List ℕ) (x : Found) (y : Made) : Type 0 where
  -- 1: "The page buffer isn't 25,600 bytes.", which Job 3 makes 41,984
  pub size : (length x.pages ≡ buffer_bytes → ⊥) → y ≡ made (numbered 1) x.desk x.pages
  -- "number 2 isn't tested": 15, 12, 8 or 10, or 0
  pub read : length x.pages ≡ buffer_bytes → y ≡ laid_out (read_file file) x

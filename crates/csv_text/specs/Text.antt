-- What is written to a file (02, Job 6): the rows of the radios and of what the latest report of each told, which stand side by side.
use Rattle.std.specs.Prelude.{List, ℕ, get_or}
use Rattle.terms.specs.Terms.{Fix}
use Rattle.terms.specs.Values.{fix_of}
use Rattle.terms.specs.declared.Fix.{Fix as HeldFix}
use Rattle.lists.specs.Parts.{tab}
use Rattle.lists.specs.Rows.{Row, Rows}

abbrev pub no_fix : HeldFix
no_fix = record { place = record { east = 0; north = 0 }; minute = 0 }

-- what stands at i in the two lists
abbrev pub row_at : List ℕ → List HeldFix → ℕ → Row Fix
row_at radios fixes i = record { key = get_or radios i 0; val = fix_of (get_or fixes i no_fix) }

-- the first n
unfoldable pub rows_in : ℕ → List ℕ → List HeldFix → Rows Fix
rows_in n radios fixes = tab n (row_at radios fixes)

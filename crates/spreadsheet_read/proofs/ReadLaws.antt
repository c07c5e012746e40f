-- What a file comes to, by the lines of it that may be taken: of 513 one is stopped, so those behind them are never looked at.
use mathlib.Core.Bool.{false}
use mathlib.Core.List.{List, []}
use Rattle.std.specs.Prelude.{Option, None, Some}
use mathlib.Core.Path.{◌≡◌, refl, sym, ap, ap₂, ◌∙◌}
use Prim.Native.Nat.{ℕ}
use native.Mathlib.Omega.{arith}
use lib.ListN.{length, take}
use lib.Seq.{take_all}
use Rattle.lists.specs.Tests.{Each}
use Rattle.lists.proofs.Cases.{option_cases}
use Rattle.csv_grammar.specs.Csv.{Listed, File, lines, bad, file_read, Fits}
use Rattle.csv_grammar.specs.Order.{in_order, sort_all}
use Rattle.csv_grammar.proofs.OrderLaws.{Each-in_order, minutes_rise}
use Rattle.csv_grammar.proofs.RangeLaws.{read_Fits}
use Rattle.csv_order.specs.Checks.{Stop, first_stop, stop_in}
use Rattle.csv_order.specs.Table.{table_lines}
use Rattle.csv_gather.specs.Gather.{least, wrong, gather, gather_file}
use Rattle.rules.specs.Plain.{plain_fresh}
use Rattle.rules.specs.Watches.{fresh_watched}
use Rattle.page.specs.Buffer.{buffer_bytes}
use Rattle.desk.specs.declared.Desk.{Desk}
use Rattle.desk.specs.Layout.{desk_of, pages_of}
use Rattle.desk.proofs.FreshLaws.{fresh_well, fresh_right}
use Rattle.rules.specs.Store.{fresh}
use Rattle.desk.specs.Making.{Found, Made, counted, made as makes}
use Rattle.spreadsheet.specs.Read.{Read, stopped, sign_ons, signed_all, verdict, read_lines, read_file}
use Rattle.spreadsheet.specs.Call.{laid_out, Reads}
use Rattle.spreadsheet.proofs.RunLaws.{sign_ons-verdict, first_stop-take, first_stop_few, fresh_Beside}
use Rattle.spreadsheet_read.specs.Signing.{Holds}

-- ---- by its lines

module _ (ls : List Listed) (fits : Each (λ l. Fits l.row) ls) where
  abbrev all : List Listed
  all = in_order ls

  abbrev first : List Listed
  first = take table_lines all

  run : sign_ons all fresh_watched ≡ verdict (first_stop (λ _. false) 0 all) (signed_all all fresh_watched)
  run = sign_ons-verdict all fresh_watched plain_fresh (λ _. false) 0 fresh_Beside (Each-in_order (λ l. Fits l.row) ls fits) (unfold plain_fresh in minutes_rise ls)

  same_stop : first_stop (λ _. false) 0 first ≡ first_stop (λ _. false) 0 all
  same_stop = first_stop-take all (λ _. false) 0 table_lines (omega arith) refl

  run_first : sign_ons all fresh_watched ≡ verdict (stop_in first) (signed_all first fresh_watched)
  unfolding stop_in
  run_first = run ∙ option_cases (first_stop (λ _. false) 0 all)
      (λ e. let whole : first ≡ all = take_all table_lines all (let h = first_stop_few all (λ _. false) 0 (omega arith) e in omega arith) in
      ap₂ verdict (sym same_stop) (ap (λ (l : List Listed). signed_all l fresh_watched) (sym whole)))
      (λ s e. ap (λ (o : Option Stop). verdict o (signed_all all fresh_watched)) e ∙ sym (ap (λ (o : Option Stop). verdict o (signed_all first fresh_watched)) (same_stop ∙ e)))

from_file : (file : List ℕ) (f : File) → file_read file ≡ f → (taken : List Listed) → gather f ≡ least taken → read_lines f ≡ verdict (stop_in taken) (signed_all taken fresh_watched)
unfolding gather in_order
from_file file (bad n) e taken g = let z : ◌≡◌ {A = ℕ} 0 1 = cc in absurd (omega arith)
from_file file (lines ls) e taken g =
    let same : take table_lines (sort_all ls []) ≡ taken = cc in
    run_first ls (read_Fits file ls e) ∙ ap (λ (l : List Listed). verdict (stop_in l) (signed_all l fresh_watched)) same

pub read_least : (file : List ℕ) (taken : List Listed) → gather_file file ≡ least taken → read_file file ≡ verdict (stop_in taken) (signed_all taken fresh_watched)
unfolding gather_file read_file
read_least file taken g = from_file file (file_read file) refl taken g

from_bad : (f : File) (n : ℕ) → gather f ≡ wrong n → read_lines f ≡ stopped 15 n
unfolding gather
from_bad (bad m) n g = let e : m ≡ n = cc in ap (stopped 15) e
from_bad (lines ls) n g = let z : ◌≡◌ {A = ℕ} 0 1 = cc in absurd (omega arith)

pub read_wrong : (file : List ℕ) (n : ℕ) → gather_file file ≡ wrong n → read_file file ≡ stopped 15 n
unfolding gather_file read_file
read_wrong file n g = from_bad (file_read file) n g

-- ---- what is answered and left

module _ (ls : List Listed) (x : Found) where
  -- a line is stopped: every byte is kept
  pub stopped_laid : {stop : Stop} → Some stop ≡ stop_in ls → makes (counted stop.number stop.line) x.desk x.pages ≡ laid_out (verdict (stop_in ls) (signed_all ls fresh_watched)) x
  stopped_laid e = rw (← e) refl

  -- none is
  pub signed_laid : None ≡ stop_in ls → {d : Desk} {b : List ℕ} → Holds (signed_all ls fresh_watched) d b
      → makes (counted 0 0) d b ≡ laid_out (verdict (stop_in ls) (signed_all ls fresh_watched)) x
  signed_laid e h = rw (← e) (λ i. makes (counted 0 0) (h.held i) (h.pages i))

-- ---- the contract

-- 1: "The page buffer isn't 25,600 bytes.", which Job 3 makes 41,984
pub Reads_size : (file : List ℕ) (x : Found) → (length x.pages ≡ buffer_bytes → ⊥) → Reads file x (makes (counted 1 0) x.desk x.pages)
Reads_size file x n = record { size = λ _. refl; read = λ e. absurd (n e) }

pub Reads_bad : (file : List ℕ) (x : Found) (n : ℕ) → length x.pages ≡ buffer_bytes → gather_file file ≡ wrong n → Reads file x (makes (counted 15 n) x.desk x.pages)
Reads_bad file x n e g = record { size = λ k. absurd (k e); read = λ _. sym (ap (λ (r : Read). laid_out r x) (read_wrong file n g)) }

pub Reads_lines : (file : List ℕ) (x : Found) (taken : List Listed) {y : Made} → length x.pages ≡ buffer_bytes → gather_file file ≡ least taken
    → y ≡ laid_out (verdict (stop_in taken) (signed_all taken fresh_watched)) x → Reads file x y
Reads_lines file x taken {y} e g q = record { size = λ k. absurd (k e); read = λ _. q ∙ sym (ap (λ (r : Read). laid_out r x) (read_least file taken g)) }

-- a fresh store
pub fresh-Holds : {d : Desk} {b : List ℕ} → d ≡ desk_of fresh_watched → b ≡ pages_of fresh → Holds fresh_watched d b
unfolding fresh_watched
fresh-Holds d b = record { well = fresh_well; right = fresh_right; held = d; pages = b }

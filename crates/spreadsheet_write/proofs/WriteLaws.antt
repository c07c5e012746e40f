-- Writing all radios on: the rows that are laid out beside the radios on are those of the store, and so is the file.
use mathlib.Core.List.{List}
use mathlib.Core.Path.{◌≡◌, sym, ap, subst, ◌∙◌}
use Prim.Native.Nat.{ℕ, ◌≤◌, ◌<◌}
use native.Mathlib.Omega.{arith}
use lib.ListN.{length, get_or, take}
use lib.Seq.{length-take-le, get_or-take}
use borrow.Author.Tests.{lt-ltb, le-ltb}
use Rattle.terms.specs.Terms.{Fix}
use Rattle.lists.specs.Parts.{put, tab}
use Rattle.lists.specs.Rows.{Rows}
use Rattle.csv_grammar.specs.Csv.{file_of}
use Rattle.terms.specs.Values.{fix_of}
use Rattle.terms.specs.declared.Fix.{Fix as HeldFix}
use Rattle.lists.proofs.PartsLaws.{tab_ext}
use Rattle.csv_text.specs.Text.{no_fix, row_at, rows_in}
use Rattle.rules.specs.Calls.{writes, carry_call}
use Rattle.rules.specs.Everyone.{everyone}
use Rattle.rules.specs.Store.{Store}
use Rattle.rules.specs.Told.{told_file}
use Rattle.desk.specs.declared.Answer.{Answer}
use Rattle.desk.specs.declared.Desk.{Desk}
use Rattle.desk.specs.Call.{handed, left, laid_out, CarriedOut}
use Rattle.desk.specs.Held.{desk_ledger}
use Rattle.desk.specs.Making.{counted}
use Rattle.desk.specs.Sound.{SoundLedger, Sound}
use Rattle.desk.proofs.PagesLaws.{pages_Laid}
use Rattle.desk.proofs.UniqueLaws.{Sound_ledger}
use Rattle.latest_fixes.specs.Fixes.{FixesOn}
use Rattle.spreadsheet_write.specs.Write.{Wrote}

-- ---- a file in the buffer

module _ (file buffer : List ℕ) {n : ℕ} {a : Answer} (l : n ≡ length file) where
  pub Wrote_short : length buffer < n → a ≡ counted 11 n → Wrote file buffer a buffer
  unfolding told_file
  Wrote_short h e = let t = lt-ltb (length buffer) (length file) (omega arith) in record { answered = rw (t, sym l) e; buffer = rw t }

  pub Wrote_whole : {after : List ℕ} → n ≤ length buffer → after ≡ put buffer 0 file → a ≡ counted 0 n → Wrote file buffer a after
  unfolding told_file
  Wrote_whole h f e = let t = le-ltb (length buffer) (length file) (omega arith) in record { answered = rw (t, sym l) e; buffer = rw t f }

-- ---- on a sound store

pub everyone-Wrote : (s : Store) (n : ℕ) (on : List ℕ) (fixes : List HeldFix) (before : List ℕ) {after : List ℕ} {a : Answer} → n ≤ length on → FixesOn s n on fixes
    → Wrote (file_of (rows_in (length (take n on)) (take n on) fixes)) before a after → Wrote (file_of (everyone s)) before a after
unfolding rows_in
everyone-Wrote s n on fixes before {after} {a} h f w =
    let l : length (take n on) ≡ n = length-take-le n on h in
    let same : tab n (row_at (take n on) fixes) ≡ tab n (row_at on fixes) =
    tab_ext n (row_at (take n on) fixes) (row_at on fixes) (λ i b. ap (λ (r : ℕ). record { key = r; val = fix_of (get_or fixes i no_fix) }) (get_or-take n on i 0 b)) in
    subst (λ (r : Rows Fix). Wrote (file_of r) before a after) (ap (λ (k : ℕ). tab k (row_at (take n on) fixes)) l ∙ (same ∙ f.rows)) w

-- neither desk nor pages change
pub Wrote_carried : (d : Desk) (b buffer : List ℕ) {a : Answer} {after : List ℕ} → ((s : SoundLedger (desk_ledger d) b) → Wrote (file_of (everyone s.store)) buffer a after)
    → (s : Sound d b) → CarriedOut (handed d b writes buffer) s (left a d b after)
unfolding laid_out carry_call
Wrote_carried d b buffer f s =
    let w = f (Sound_ledger s) in
    let p = pages_Laid s.watched.store s.well.once b s.laid in
    λ i. record {
      number = (w.answered i).number;
      count = (w.answered i).count;
      gained = (w.answered i).gained;
      lost = (w.answered i).lost;
      desk = s.held i;
      pages = p i;
      buffer = w.buffer i;
    }

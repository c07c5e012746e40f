-- A sign-off's choice by the mark of the report that it discards.
use mathlib.Core.Bool.{Bool, true, false, not, cond}
use Rattle.std.specs.Prelude.{Option, None, Some}
use mathlib.Core.Path.{◌≡◌, sym, ◌∙◌}
use Prim.Native.Nat.{ℕ}
use lib.Dec.{eqb}
use Rattle.lists.specs.Rows.{find, alter}
use Rattle.lists.specs.Tests.{one_if}
use Rattle.lists.proofs.TestsLaws.{one_if-false}
use Rattle.rules.specs.Flush.{raised}
use Rattle.rules.specs.Carry.{was_new}
use Rattle.desk.specs.declared.Report.{Report}
use Rattle.desk.specs.Held.{Memo, Waiting}
use Rattle.desk.specs.Layout.{memo_of}
use Rattle.memo.specs.Memo.{lines_of, Whole}
use Rattle.waiting.specs.Waiting.{reports_of, laid_report}
use Rattle.waiting.proofs.WaitingLaws.{mark_found, mark_missing}

-- a mark of 1 or 0, read back
mark_read : (b : Bool) {m : ℕ} → m ≡ one_if b → not (eqb m 0) ≡ b
mark_read true e = rw e
mark_read false e = rw e

module _ (w : Waiting) (r : ℕ) {o : Option Report} (told : o ≡ laid_report r (find (reports_of w) r)) where
  pub new_missing : o ≡ None → false ≡ was_new (find (reports_of w) r)
  new_missing e = sym (one_if-false (was_new (find (reports_of w) r)) (sym (mark_missing w r told e)))

  pub new_found : {x : Report} → o ≡ Some x → not (eqb x.new 0) ≡ was_new (find (reports_of w) r)
  new_found e = mark_read (was_new (find (reports_of w) r)) (mark_found w r told e)

module _ (w : Waiting) (m : Memo) (r : ℕ) {t : Bool} (told : t ≡ was_new (find (reports_of w) r)) where
  pub missed_none : Whole m → t ≡ true → m ≡ memo_of (cond (was_new (find (reports_of w) r)) (lines_of m) (alter (raised None) r (lines_of m)))
  missed_none whole e = rw (sym told ∙ e) whole

  pub missed_one : {x : Memo} → t ≡ false → x ≡ memo_of (alter (raised None) r (lines_of m)) → x ≡ memo_of (cond (was_new (find (reports_of w) r)) (lines_of m) (alter (raised None) r (lines_of m)))
  missed_one e said = rw (sym told ∙ e) said

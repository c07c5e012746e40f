-- What the four cases give is what stands in the record table, and nothing else stands there.
use Rattle.std.specs.Prelude.{Option}
use mathlib.Core.Path.{◌≡◌, refl}
use Prim.Native.Nat.{ℕ}
use lib.Dec.{eqb}
use borrow.Author.Tests.{eqb-true, eqb-false, ne_eqb}
use Rattle.lists.proofs.Cases.{by_cases}
use Rattle.rules.specs.Records.{kind_sign_on, kind_report, kind_sign_off, kind_range, length_of}
use Rattle.rules.specs.Lengths.{InTable, sign_on_row, report_row, sign_off_row, range_row, no_row, EveryKind}

pub every_kind : EveryKind
unfolding length_of
every_kind kind =
    by_cases (eqb kind kind_sign_on)
    (λ t. rw (eqb-true kind kind_sign_on t) sign_on_row)
    (λ t. by_cases (eqb kind kind_report)
    (λ u. rw (eqb-true kind kind_report u) report_row)
    (λ u. by_cases (eqb kind kind_sign_off)
    (λ v. rw (eqb-true kind kind_sign_off v) sign_off_row)
    (λ v. by_cases (eqb kind kind_range)
    (λ w. rw (eqb-true kind kind_range w) range_row)
    (λ w. rw (t, u, v, w)
    (no_row kind (eqb-false kind kind_sign_on t) (eqb-false kind kind_report u) (eqb-false kind kind_sign_off v) (eqb-false kind kind_range w))))))

-- each row of the table is given
pub in_table : {kind : ℕ} {o : Option ℕ} → InTable kind o → length_of kind ≡ o
unfolding length_of
in_table sign_on_row = refl
in_table report_row = refl
in_table sign_off_row = refl
in_table range_row = refl
in_table (no_row kind a b c d) = rw (ne_eqb kind kind_sign_on a, ne_eqb kind kind_report b, ne_eqb kind kind_sign_off c, ne_eqb kind kind_range d)

-- What is handed to a reading settles what it answers and leaves; and a file that is turned down changes nothing.
use mathlib.Core.List.{List}
use mathlib.Core.Path.{◌≡◌, refl, sym, ap, ◌∙◌}
use Prim.Native.Nat.{ℕ}
use lib.Dec.{eqb}
use lib.ListN.{length}
use borrow.Author.Tests.{eqb-true, eqb-false}
use Rattle.lists.proofs.Cases.{by_cases}
use Rattle.page.specs.Buffer.{buffer_bytes}
use Rattle.desk.specs.Making.{Found, Made}
use Rattle.spreadsheet.specs.Read.{Read, made, stopped, read_file}
use Rattle.spreadsheet.specs.Call.{laid_out, Reads}

pub Reads_once : (file : List ℕ) (x : Found) (y z : Made) → Reads file x y → Reads file x z → y ≡ z
Reads_once file x y z a b =
    by_cases (eqb (length x.pages) buffer_bytes)
    (λ t. let e = eqb-true (length x.pages) buffer_bytes t in a.read e ∙ sym (b.read e))
    (λ t. let n = eqb-false (length x.pages) buffer_bytes t in a.size n ∙ sym (b.size n))

kept : (r : Read) (x : Found) → ((laid_out r x).answer.number ≡ 0 → ⊥) → ((laid_out r x).desk ≡ x.desk) × ((laid_out r x).pages ≡ x.pages)
kept (made w) x n = absurd (n refl)
kept (stopped number line) x n = (refl, refl)

-- "A file with a bad line changes nothing": under any number but 0 every byte of desk and pages is kept
pub refused_keeps : (file : List ℕ) (x : Found) (y : Made) → Reads file x y → (y.answer.number ≡ 0 → ⊥) → (y.desk ≡ x.desk) × (y.pages ≡ x.pages)
refused_keeps file x y a n =
    by_cases (eqb (length x.pages) buffer_bytes)
    (λ t. let e = a.read (eqb-true (length x.pages) buffer_bytes t) in
    let k = kept (read_file file) x (λ z. n (ap (λ (m : Made). m.answer.number) e ∙ z)) in
    (ap (λ (m : Made). m.desk) e ∙ k.0, ap (λ (m : Made). m.pages) e ∙ k.1))
    (λ t. let e = a.size (eqb-false (length x.pages) buffer_bytes t) in (ap (λ (m : Made). m.desk) e, ap (λ (m : Made). m.pages) e))

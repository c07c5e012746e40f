-- Loops over radios on, waiting reports and memo lines: each row is added or written at its radio.
use Rattle.std.proofs.Common.{◌≡◌, ℕ, ◌+◌, ◌-◌, ◌*◌, ◌%◌, ◌<◌, ◌≤◌, min, Bool, true, false, not, ◌&&◌, eqb, List, [], ◌∷◌, length, get_or, drop, set, sym, refl, ap, ◌∙◌, subst, ap₂, arith, get_or-set_other}
use Rattle.terms.specs.Terms.{max_radio, max_on}
use Rattle.lists.specs.Rows.{Rows, Rising, UpTo}
use Rattle.lists.specs.Tests.{one_if, both, either, all}
use Rattle.lists.proofs.RowsLaws.{Rising_less}
use Rattle.lists.proofs.TestsLaws.{both-true, all-cons}
use Rattle.rules.specs.Limits.{full_memory}
use Rattle.rules.specs.Store.{Report as StoreReport}
use Rattle.desk.specs.Held.{Memo, On, Waiting}
use Rattle.desk.specs.declared.Report.{Report}
use Rattle.desk.specs.declared.Line.{Line}
use Rattle.desk.specs.Layout.{report_fields, no_report, line_slots, no_line}
use Rattle.desk.specs.Views.{every_report, radio_row, radios_of}
use Rattle.memo.specs.Memo.{lines_of}
use Rattle.memo_index.proofs.IndexLaws.{lines_none, line_next}
use Rattle.lists.proofs.SlotsLaws.{all-nil}
use Rattle.waiting.specs.Waiting.{row_of as report_row, reports_of}
use Rattle.waiting.proofs.WaitingLaws.{every_size}
use Rattle.sound_balance.specs.Tables.{field_end, half, added, written, mark_new, belongs_by, missed_off, one_off}
use Rattle.sound_balance.proofs.TableLaws.{row_next, row_none, Adding, Adding_end, Adding_key, Adding_turn}

-- ---- radios on

-- the radios before i are written: with the rest it is the whole
pub record OnDue (o : On) (t₀ : List ℕ) (i : ℕ) (t : List ℕ) : Type 0 where
  pub radios : UpTo max_radio (drop i (radios_of o))
  pub same : written one_off t (drop i (radios_of o)) ≡ written one_off t₀ (radios_of o)

pub on_start : (o : On) {t : List ℕ} → UpTo max_radio (radios_of o) → OnDue o t 0 t
on_start o u = record { radios = u; same = refl }

module _ (o : On) {t₀ : List ℕ} {i : ℕ} {t : List ℕ} (d : OnDue o t₀ i t) where
  pub on_end : o.n ≤ i → t ≡ written one_off t₀ (radios_of o)
  unfolding radios_of written
  on_end h = ap (written one_off t) (sym (row_none radio_row o.radios o.n i h)) ∙ d.same

  module _ (size : length o.radios ≡ max_on) (few : o.n ≤ max_on) (more : i < o.n) where
    on_next : drop i (radios_of o) ≡ radio_row (get_or o.radios i 0) ∷ drop (i + 1) (radios_of o)
    unfolding radios_of
    on_next = row_next radio_row o.radios o.n i 0 (omega arith) more

    on_here : UpTo max_radio (radio_row (get_or o.radios i 0) ∷ drop (i + 1) (radios_of o))
    on_here = subst (λ (l : Rows (Unit {0})). UpTo max_radio l) on_next d.radios

    pub on_radio : get_or o.radios i 0 ≤ max_radio
    on_radio = on_here.0

    pub on_turn : {k : ℕ} → k ≡ get_or o.radios i 0 → OnDue o t₀ (i + 1) (set t k (field_end - 1))
    unfolding written
    on_turn e = rw e (record { radios = on_here.1; same = ap (written one_off t) (sym on_next) ∙ d.same })

-- ---- waiting reports

-- those before i belong if so: with what is left to test it is the test
pub record Belonging (t₀ : List ℕ) (l : Rows StoreReport) (i : ℕ) (so : Bool) (t : List ℕ) : Type 0 where
  pub rise : Rising 0 (drop i l)
  pub same : both so (all (belongs_by t) (drop i l)) ≡ all (belongs_by t₀) l

and_then : (a b c : Bool) → both (a && b) c ≡ both a (both b c)
unfolding both
and_then true b c = refl
and_then false b c = refl

-- what a radio's number is says nothing of reports of later radios
belongs_above : (t : List ℕ) (k v b : ℕ) (l : Rows StoreReport) → k ≤ b → Rising b l → all (belongs_by (set t k v)) l ≡ all (belongs_by t) l
unfolding all
belongs_above t k v b [] h r = refl
belongs_above t k v b (x ∷ l) h r =
    ap₂ both
    (ap (λ (n : ℕ). either x.val.new (not (eqb (n % half) 0))) (get_or-set_other t k x.key v 0 (λ z. absurd (omega (arith, r.0)))))
    (belongs_above t k v x.key l (omega (arith, r.0)) r.1)

pub Belonging_start : {t : List ℕ} {l : Rows StoreReport} → Rising 0 l → Belonging t l 0 true t
unfolding both
Belonging_start r = record { rise = r; same = refl }

module _ (w : Waiting) {t₀ : List ℕ} {i : ℕ} {t : List ℕ} (a : Adding mark_new t₀ (reports_of w) i t) where
  pub new_end : w.n ≤ i → t ≡ added mark_new t₀ (reports_of w)
  unfolding reports_of
  new_end h = Adding_end a (row_none report_row (every_report w.words) w.n i h)

  pub Belonging_end : {so : Bool} → Belonging t₀ (reports_of w) i so t → w.n ≤ i → so ≡ all (belongs_by t₀) (reports_of w)
  unfolding reports_of
  Belonging_end {so} s h =
      sym (both-true so) ∙ ap (both so) (sym (ap (all (belongs_by t)) (row_none report_row (every_report w.words) w.n i h) ∙ all-nil (belongs_by t))) ∙ s.same

  module _ (size : length w.words ≡ report_fields * full_memory) (few : w.n ≤ full_memory) (more : i < w.n) {x : Report} (read : x ≡ get_or (every_report w.words) i no_report) where
    new_next : drop i (reports_of w) ≡ report_row x ∷ drop (i + 1) (reports_of w)
    unfolding reports_of
    new_next = rw read (row_next report_row (every_report w.words) w.n i no_report (let l = every_size w.words size in omega arith) more)

    pub new_radio : x.radio ≤ max_radio
    new_radio = Adding_key a new_next

    pub new_turn : {k m v : ℕ} → k ≡ x.radio → m ≡ one_if (not (eqb x.new 0)) → v ≡ (get_or t k 0 + m) % field_end
        → Adding mark_new t₀ (reports_of w) (i + 1) (set t k v)
    new_turn {k} e q r = Adding_turn a new_next e (r ∙ ap (λ (n : ℕ). (get_or t k 0 + n) % field_end) q)

    -- a radio waits once, so its number is that of the start
    pub Belonging_turn : {so b : Bool} {k : ℕ} (v : ℕ) → Belonging t₀ (reports_of w) i so t → k ≡ x.radio → b ≡ either (not (eqb x.new 0)) (not (eqb (get_or t k 0 % half) 0))
        → Belonging t₀ (reports_of w) (i + 1) (so && b) (set t k v)
    Belonging_turn {so} {b} {k} v s e q =
        let y = report_row x in
        let l = drop (i + 1) (reports_of w) in
        let r : Rising 0 (y ∷ l) = subst (λ (z : Rows StoreReport). Rising 0 z) new_next s.rise in
        let here : b ≡ belongs_by t y = q ∙ ap (λ (j : ℕ). either y.val.new (not (eqb (get_or t j 0 % half) 0))) e in
        record {
          rise = Rising_less 0 y.key l (omega (arith, r.0)) r.1;
          same =
              ap (both (so && b)) (belongs_above t k v y.key l (omega (arith, e)) r.1)
              ∙ and_then so b (all (belongs_by t) l)
              ∙ ap (both so) (ap (λ (z : Bool). both z (all (belongs_by t) l)) here ∙ sym (all-cons (belongs_by t) y l) ∙ ap (all (belongs_by t)) (sym new_next))
              ∙ s.same;
        }

-- ---- memo lines

module _ (m : Memo) {t₀ : List ℕ} {i : ℕ} {t : List ℕ} (a : Adding missed_off t₀ (lines_of m) i t) where
  pub missed_end : m.n ≤ i → t ≡ added missed_off t₀ (lines_of m)
  missed_end h = Adding_end a (lines_none m h)

  pub missed_turn : length m.lines ≡ line_slots → m.n ≤ line_slots → i < m.n → {line : Line} → line ≡ get_or m.lines i no_line → {k p v : ℕ} → k ≡ line.radio
      → p ≡ (field_end - half * min line.missed (half - 1)) % field_end → v ≡ (get_or t k 0 + p) % field_end → Adding missed_off t₀ (lines_of m) (i + 1) (set t k v)
  missed_turn size few more read {k} at q w = Adding_turn a (line_next m size few more read) at (w ∙ ap (λ (n : ℕ). (get_or t k 0 + n) % field_end) q)

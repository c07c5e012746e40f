-- What reports tell fits into a line of a file: each came in a record's 16 and 32 bits, and a well-formed store holds places in the square and no minute above its highest.
use mathlib.Core.Bool.{not}
use mathlib.Core.List.{List, [], ◌∷◌}
use Rattle.std.specs.Prelude.{Option, None, Some}
use mathlib.Core.Path.{◌≡◌, sym, ◌∙◌, subst}
use Prim.Native.Nat.{ℕ, ◌+◌, ◌≤◌}
use native.Mathlib.Omega.{arith}
use lib.Dec.{eqb}
use Rattle.terms.specs.Terms.{Fix}
use Rattle.lists.specs.Rows.{Rows, find}
use Rattle.lists.specs.Tests.{Each}
use Rattle.lists.specs.Words.{word, Bytes}
use Rattle.lists.proofs.Cases.{by_cases, option_cases, none-some, some_injective}
use Rattle.lists.proofs.RowsLaws.{Each-find, passed-true}
use Rattle.lists.proofs.TestsLaws.{Each_zip}
use Rattle.lists.proofs.WordsLaws.{word_small}
use Rattle.csv_grammar.specs.Csv.{max_metre, max_minute}
use Rattle.rules.specs.Grid.{Cuts}
use Rattle.rules.specs.Store.{Line, Cell, Store}
use Rattle.rules.specs.Sweep.{stale}
use Rattle.rules.specs.Carry.{live_in, stored_in, latest}
use Rattle.rules.specs.Records.{Request, sign_on, report, sign_off, range, request_of, kind_field, kind_sign_on, kind_report, kind_sign_off, place_field, minute_field, fix_field}
use Rattle.rules.specs.Plain.{Plain, put_at, plain_at, plain_place, plain_off, plain_done, plain_refusal, plain_step}
use Rattle.rules.specs.WellFormed.{GoodCell, WellFormed}
use Rattle.rules.proofs.TilingLaws.{inside_square}
use Rattle.spreadsheet.proofs.RunLaws.{after_latest}

pub record Narrow (f : Fix) : Type 0 where
  pub east : f.place.east ≤ max_metre
  pub north : f.place.north ≤ max_metre
  pub minute : f.minute ≤ max_minute

abbrev pub NarrowIf : Option Fix → Type 0
NarrowIf None = Unit {0}
NarrowIf (Some f) = Narrow f

-- ---- a record's

word_Narrow : (b : List ℕ) (at : ℕ) → Bytes b → word 4 b at ≤ max_minute
unfolding word
word_Narrow b at small = omega (arith, small at, small (at + 1), small (at + 1 + 1), small (at + 1 + 1 + 1))

fix_Narrow : (b : List ℕ) → Bytes b → Narrow (fix_field b)
unfolding fix_field place_field minute_field
fix_Narrow b small = record {
  east = let h = word_small b 6 small in omega arith;
  north = let h = word_small b 8 small in omega arith;
  minute = word_Narrow b _ small;
}

abbrev NarrowTold : Request → Type 0
NarrowTold (sign_on r f) = Narrow f
NarrowTold (report r f) = Narrow f
NarrowTold (sign_off r minute) = Unit {0}
NarrowTold (range rect minute) = Unit {0}

request_Narrow : (b : List ℕ) → Bytes b → NarrowTold (request_of b)
unfolding request_of
request_Narrow b small =
    by_cases (eqb (kind_field b) kind_sign_on) (λ t. rw t (fix_Narrow b small)) (λ t.
    rw t (by_cases (eqb (kind_field b) kind_report) (λ u. rw u (fix_Narrow b small)) (λ u.
    rw u (by_cases (eqb (kind_field b) kind_sign_off) (λ v. rw v tt) (λ v. rw v tt)))))

-- ---- the plain rule's

put_Narrow : (r q : ℕ) (o : Option Fix) (f : ℕ → Option Fix) → NarrowIf o → NarrowIf (f q) → NarrowIf (put_at r o f q)
put_Narrow r q o f h k = by_cases (eqb q r) (λ t. rw t h) (λ t. rw t k)

module _ (cuts : Cuts) (x : Plain) (narrow : (q : ℕ) → NarrowIf (x.latest q)) where
  placed : (r : ℕ) (f : Fix) → Narrow f → (q : ℕ) → NarrowIf ((plain_done cuts (sign_on r f) x).latest q)
  unfolding plain_done plain_place
  placed r f h q =
      subst (λ (g : ℕ → Option Fix). NarrowIf (g q)) (sym (after_latest cuts f.place (plain_place r f (plain_at f.minute x)))) (put_Narrow r q (Some f) x.latest h (narrow q))

  done_Narrow : (k : Request) → NarrowTold k → (q : ℕ) → NarrowIf ((plain_done cuts k x).latest q)
  unfolding plain_done plain_off
  done_Narrow (sign_on r f) h q = placed r f h q
  done_Narrow (report r f) h q = placed r f h q
  done_Narrow (sign_off r minute) h q = put_Narrow r q None x.latest tt (narrow q)
  done_Narrow (range rect minute) h q = narrow q

  pub step_Narrow : (bytes : List ℕ) → Bytes bytes → (q : ℕ) → NarrowIf ((plain_step cuts bytes x).latest q)
  unfolding plain_step
  step_Narrow bytes small q = by_cases (eqb (plain_refusal x bytes) 0) (λ t. rw t (done_Narrow (request_of bytes) (request_Narrow bytes small) q)) (λ t. rw t (narrow q))

-- ---- a well-formed store's

module _ (P : Fix → Type 0) (memo : Rows Line) (r : ℕ) (f : Fix) where
  live_Each : (c : Cell) → Each (λ e. P e.val) c.entries → live_in memo r c ≡ Some f → P f
  unfolding live_in
  live_Each c a e = Each-find (λ _. P) r f c.entries a (passed-true (λ v. not (stale memo v)) r (find c.entries r) f e).0

  -- what holds of every entry holds of the one that is stored of a radio
  stored_Each : (cells : List Cell) → Each (λ c. Each (λ e. P e.val) c.entries) cells → stored_in memo r cells ≡ Some f → P f
  unfolding stored_in
  stored_Each [] a = none-some
  stored_Each (c ∷ cs) a =
      option_cases (live_in memo r c)
      (λ n. rw n (λ e. stored_Each cs a.1 e))
      (λ g t. rw t (λ e. live_Each c a.0 (t ∙ e)))

pub well_Narrow : (s : Store) → WellFormed s → s.highest ≤ max_minute → (r : ℕ) (f : Fix) → latest s r ≡ Some f → Narrow f
unfolding latest
well_Narrow s w high r f =
    option_cases (find s.waiting r)
    (λ n. rw n (λ e. stored_Each Narrow s.memo r f s.cells stored e))
    (λ v t. rw t (λ e. subst Narrow (some_injective e) (waits v t)))
  where
    cell : (c : Cell) → GoodCell s.cuts c → Each (λ e. e.val.minute ≤ s.highest) c.entries → Each (λ e. Narrow e.val) c.entries
    cell c g d = Each_zip _ _ _ c.entries
        (λ e t m. let q = inside_square s.cuts c e.val.place w.cuts_end (record { numbered = g.numbered; edged = g.edged }) t in
        record { east = q.0; north = q.1; minute = omega arith })
        g.placed d

    stored : Each (λ c. Each (λ e. Narrow e.val) c.entries) s.cells
    stored = Each_zip _ _ _ s.cells cell w.cells w.entries_dated

    waits : (v : _) → find s.waiting r ≡ Some v → Narrow v.fix
    waits v t =
        let q = w.waiting_placed r v t in
        let m = Each-find (λ _ x. x.fix.minute ≤ s.highest) r v s.waiting w.waiting_dated t in
        record { east = q.0; north = q.1; minute = omega arith }

-- The plain rule (01, the heading of that name). It is fed the bytes of each call and the cuts that the call finds, and nothing else of desk or pages.
use Rattle.std.specs.Prelude.{Bool, true, false, cond, List, ℕ, suc, eqb, Option, None, Some}
use Rattle.terms.specs.Terms.{Place, Fix, max_radio}
use Rattle.lists.specs.Parts.{tab}
use Rattle.lists.specs.Rows.{Rows}
use Rattle.lists.specs.Sums.{sum_to}
use Rattle.lists.specs.Tests.{one_if, both, is_some}
use Rattle.rules.specs.Grid.{Rect, Cuts, Box, same_box, box_of}
use Rattle.rules.specs.Records.{Request, sign_on, report, sign_off, range, request_of, refusal}
use Rattle.rules.specs.Carry.{box_to_flush, list_of}

-- "It holds, for each radio, whether it is on, its latest place if so, whether it waits, and its last place flushed or none."
pub record Plain : Type 0 where
  -- the latest place of a radio that is on
  pub latest : ℕ → Option Fix
  pub waits : ℕ → Bool
  pub flushed : ℕ → Option Place
  -- it "keeps the highest minute beside them"
  pub highest : ℕ

-- "At a fresh store all are off, none waits and nothing is flushed."
unfoldable pub plain_fresh : Plain
plain_fresh = record { latest = λ r. None; waits = λ r. false; flushed = λ r. None; highest = 0 }

unfoldable pub plain_on : Plain → ℕ → Bool
plain_on x r = is_some (x.latest r)

-- radios 1 to 4,095 on, and who waits
unfoldable pub plain_on_count : Plain → ℕ
plain_on_count x = sum_to (suc max_radio) (λ r. one_if (plain_on x r))

-- a function changed at one radio
abbrev pub put_at : {A : Type 0} → ℕ → A → (ℕ → A) → ℕ → A
put_at r v f q = cond (eqb q r) v (f q)

abbrev pub waits_in : Cuts → Box → Option Fix → Bool
waits_in cuts m None = false
waits_in cuts m (Some f) = same_box (box_of cuts f.place) m

-- it "waits with its latest place in" the memory cell
unfoldable pub plain_in : Cuts → Plain → Box → ℕ → Bool
plain_in cuts x m r = both (x.waits r) (waits_in cuts m (x.latest r))

-- "decides which memory cell is flushed, if any, on the radios that wait here and the cuts fed in"
unfoldable pub plain_due : Cuts → Plain → Place → Option Box
plain_due cuts x p =
    box_to_flush cuts (λ m. sum_to (suc max_radio) (λ r. one_if (plain_in cuts x m r))) (sum_to (suc max_radio) (λ r. one_if (x.waits r))) p

abbrev pub place_of : Option Fix → Option Place
place_of None = None
place_of (Some f) = Some f.place

-- "Each that waits with its latest place in a flushed memory cell waits no longer, and that place becomes its last place flushed."
abbrev pub plain_flush : Cuts → Option Box → Plain → Plain
plain_flush cuts None x = x
plain_flush cuts (Some m) x = record {
  latest = x.latest;
  waits = λ r. cond (plain_in cuts x m r) false (x.waits r);
  flushed = λ r. cond (plain_in cuts x m r) (place_of (x.latest r)) (x.flushed r);
  highest = x.highest;
}

-- "the radio is on with that place, and waits"; "the radio takes that place and waits"
unfoldable pub plain_place : ℕ → Fix → Plain → Plain
plain_place r f x = record { latest = put_at r (Some f) x.latest; waits = put_at r true x.waits; flushed = x.flushed; highest = x.highest }

unfoldable pub plain_after : Cuts → Place → Plain → Plain
plain_after cuts p x = plain_flush cuts (plain_due cuts x p) x

-- "the radio is off, waits no longer, and its last place flushed becomes none"
unfoldable pub plain_off : ℕ → Plain → Plain
plain_off r x = record { latest = put_at r None x.latest; waits = put_at r false x.waits; flushed = put_at r None x.flushed; highest = x.highest }

abbrev pub plain_at : ℕ → Plain → Plain
plain_at minute x = record { latest = x.latest; waits = x.waits; flushed = x.flushed; highest = minute }

unfoldable pub plain_done : Cuts → Request → Plain → Plain
plain_done cuts (sign_on r f) x = plain_after cuts f.place (plain_place r f (plain_at f.minute x))
plain_done cuts (report r f) x = plain_after cuts f.place (plain_place r f (plain_at f.minute x))
plain_done cuts (sign_off r minute) x = plain_off r (plain_at minute x)
plain_done cuts (range rect minute) x = x

-- "A record that fails a check other than 1, 2 and 11, tested on its bytes and on who is on here, is turned down and changes nothing."
unfoldable pub plain_refusal : Plain → List ℕ → ℕ
plain_refusal x bytes = refusal x.highest (plain_on x) (plain_on_count x) bytes

unfoldable pub plain_step : Cuts → List ℕ → Plain → Plain
plain_step cuts bytes x = cond (eqb (plain_refusal x bytes) 0) (plain_done cuts (request_of bytes) x) x

-- "A range lists the radios on whose latest place lies in it"; "The plain rule over latest places gains this age test"
unfoldable pub plain_found : Plain → Rect → ℕ → Rows Place
plain_found x rect minute = list_of rect minute x.latest (tab max_radio (λ i. record { key = suc i; val = tt }))

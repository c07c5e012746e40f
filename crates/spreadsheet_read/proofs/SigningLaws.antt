-- Desk and pages of a store, sign-on after sign-on: each is carried out on a sound store, and leaves one.
use mathlib.Core.List.{List, [], ◌∷◌, ◌++◌}
use mathlib.Core.Path.{◌≡◌, refl, sym, ap, ap₂, ◌∙◌, subst}
use Prim.Native.Nat.{ℕ, ◌+◌, ◌≤◌, ◌<◌}
use native.Mathlib.Omega.{arith}
use lib.ListN.{length, get_or, take}
use lib.Seq.{take_all, take-suc}
use Rattle.terms.specs.Terms.{field_bytes, minute_bytes}
use Rattle.lists.specs.Parts.{put}
use Rattle.lists.specs.Words.{le}
use Rattle.lists.proofs.PartsLaws.{put_then, put_whole}
use Rattle.csv_grammar.specs.Csv.{Listed, Fits}
use native.Mathlib.Numerals.{add-one}
use Rattle.csv_order.specs.Table.{no_listed}
use Rattle.rules.specs.Records.{kind_sign_on}
use Rattle.rules.specs.Calls.{hands, carry_record, carry_call}
use Rattle.rules.specs.Watches.{Watched, RightWatches}
use Rattle.rules.specs.WellFormed.{WellFormed}
use Rattle.rules.proofs.StepLaws.{step_well}
use Rattle.desk.specs.declared.Answer.{Answer}
use Rattle.desk.specs.declared.Desk.{Desk}
use Rattle.desk.specs.Call.{After, handed, left, CarriedOut, laid_out}
use Rattle.desk.specs.Layout.{Laid}
use Rattle.desk.specs.Sound.{Sound}
use Rattle.desk.proofs.PagesLaws.{Laid_pages, pages_Laid}
use Rattle.spreadsheet.specs.Read.{sign_on_of, signed_all}
use Rattle.spreadsheet.proofs.SignOnLaws.{sign_on_Bytes}
use Rattle.spreadsheet_read.specs.Signing.{Holds, signed}

-- ---- a sound store

pub Sound_of : {w : Watched} {d : Desk} {b : List ℕ} → Holds w d b → Sound d b
Sound_of {w} h = record {
  watched = w;
  well = h.well;
  right = h.right;
  held = h.held;
  laid = subst (Laid w.store) (sym h.pages) (Laid_pages w.store h.well.once);
}

pub Holds_of : {d : Desk} {b : List ℕ} (s : Sound d b) → Holds s.watched d b
Holds_of {d} {b} s = record { well = s.well; right = s.right; held = s.held; pages = pages_Laid s.watched.store s.well.once b s.laid }

-- ---- one line

module _ {w : Watched} {d : Desk} {b : List ℕ} (h : Holds w d b) (l : Listed) (fits : Fits l.row) where
  signed_well : WellFormed (signed l w).store
  unfolding carry_record
  signed_well = step_well w.store (sign_on_of l.row) [] (sign_on_Bytes l.row fits) h.well

  signed_right : RightWatches (signed l w).watches
  unfolding carry_record
  signed_right = h.right

  pub Holds-signed : (a : Answer) (d' : Desk) (b' : List ℕ) {bytes buffer left_buffer : List ℕ} → bytes ≡ sign_on_of l.row → buffer ≡ []
      → ((s : Sound d b) → CarriedOut (handed d b (hands bytes) buffer) s (left a d' b' left_buffer)) → Holds (signed l w) d' b'
  unfolding laid_out carry_call carry_record Sound_of
  Holds-signed a d' b' {bytes} {buffer} e n carried =
      let same = ap₂ (λ (x y : List ℕ). laid_out (carry_record x w y)) e n in
      let c = carried (Sound_of h) in
      record {
        well = signed_well;
        right = signed_right;
        held = ap (λ (z : After). z.desk) (c ∙ same);
        pages = ap (λ (z : After). z.pages) (c ∙ same);
      }

-- ---- lines one after the other

signed_last : (ls : List Listed) (l : Listed) (w : Watched) → signed_all (ls ++ (l ∷ [])) w ≡ signed l (signed_all ls w)
unfolding signed_all
signed_last [] l w = refl
signed_last (x ∷ xs) l w = signed_last xs l (signed x w)

-- the first i lines are signed on
pub record Signing (ls : List Listed) (d₀ : Desk) (b₀ : List ℕ) (d : Desk) (b : List ℕ) (i : ℕ) : Type 0 where
  pub sound : Sound d b
  pub holds : (w : Watched) → Holds w d₀ b₀ → Holds (signed_all (take i ls) w) d b

pub Signing_start : (ls : List Listed) (d : Desk) (b : List ℕ) → Sound d b → Signing ls d b d b 0
unfolding signed_all
Signing_start ls d b s = record { sound = s; holds = λ w h. h }

module _ {ls : List Listed} {d₀ : Desk} {b₀ : List ℕ} {d : Desk} {b : List ℕ} {i : ℕ} (k : Signing ls d₀ b₀ d b i) where
  -- one line more is signed on
  pub Signing_turn : i < length ls → (d' : Desk) (b' : List ℕ) {x : Listed} → x ≡ get_or ls i no_listed → Fits x.row
      → ((w : Watched) → Fits x.row → Holds w d b → Holds (signed x w) d' b') → Signing ls d₀ b₀ d' b' (i + 1)
  Signing_turn h d' b' {x} e fits f =
      let one_more : take (i + 1) ls ≡ take i ls ++ (x ∷ []) = ap (λ (j : ℕ). take j ls) (add-one i) ∙ take-suc ls i no_listed h ∙ ap (λ (y : Listed). take i ls ++ (y ∷ [])) (sym e) in
      record {
        sound = Sound_of (f k.sound.watched fits (Holds_of k.sound));
        holds = λ w held. subst (λ (v : Watched). Holds v d' b') (sym (ap (λ (l : List Listed). signed_all l w) one_more ∙ signed_last (take i ls) x w)) (f (signed_all (take i ls) w) fits (k.holds w held));
      }

  pub Signing_end : length ls ≤ i → (w : Watched) → Holds w d₀ b₀ → Holds (signed_all ls w) d b
  Signing_end h w held = subst (λ (l : List Listed). Holds (signed_all l w) d b) (take_all i ls h) (k.holds w held)

-- ---- the record of a line

pub record_written : (b₀ : List ℕ) {b₁ b₂ b₃ b₄ b₅ b₆ : List ℕ} (x : Listed) → length b₀ ≡ 14 → b₁ ≡ put b₀ 0 (le field_bytes 14) → b₂ ≡ put b₁ 2 (le field_bytes kind_sign_on) → b₃ ≡ put b₂ 4 (le field_bytes x.row.key)
    → b₄ ≡ put b₃ 6 (le field_bytes x.row.val.place.east) → b₅ ≡ put b₄ 8 (le field_bytes x.row.val.place.north) → b₆ ≡ put b₅ 10 (le minute_bytes x.row.val.minute) → b₆ ≡ sign_on_of x.row
unfolding sign_on_of le
record_written b₀ x size e₁ e₂ e₃ e₄ e₅ e₆ =
    let f₂ = put_then b₀ 0 (le field_bytes 14) (le field_bytes kind_sign_on) e₁ e₂ refl (omega arith) in
    let f₃ = put_then b₀ 0 _ (le field_bytes x.row.key) f₂ e₃ refl (omega arith) in
    let f₄ = put_then b₀ 0 _ (le field_bytes x.row.val.place.east) f₃ e₄ refl (omega arith) in
    let f₅ = put_then b₀ 0 _ (le field_bytes x.row.val.place.north) f₄ e₅ refl (omega arith) in
    let f₆ = put_then b₀ 0 _ (le minute_bytes x.row.val.minute) f₅ e₆ refl (omega arith) in
    f₆ ∙ put_whole b₀ _ (sym size)

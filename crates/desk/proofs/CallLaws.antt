-- What a call is handed settles what it answers and leaves: the three cases shut one another out, and a desk and its pages are those of one store with its watches.
use mathlib.Core.Bool.{Bool, true, false, not}
use mathlib.Core.List.{List}
use mathlib.Core.Path.{◌≡◌, sym, ap, ap₂, ◌∙◌}
use Prim.Native.Nat.{ℕ}
use lib.ListN.{length}
use borrow.Author.Tests.{not-true, not-false}
use Rattle.lists.proofs.Cases.{false-true}
use Rattle.page.specs.Buffer.{buffer_bytes}
use Rattle.rules.specs.Calls.{Call, carry_call}
use Rattle.rules.specs.Watches.{Watched}
use Rattle.desk.specs.declared.Answer.{Answer}
use Rattle.desk.specs.declared.Desk.{Desk}
use Rattle.desk.specs.Call.{Before, After, handed, left, turned_down, laid_out, CarriedOut, Answers, wrong_size, unsound, carried}
use Rattle.desk.specs.Making.{numbered}
use Rattle.desk.specs.Sound.{Sound}
use Rattle.desk.proofs.UniqueLaws.{one_watched}

module _ {x : Before} {y : After} where
  pub answers_size : Answers x y → (length x.pages ≡ buffer_bytes → ⊥) → y ≡ turned_down 1 x
  answers_size (wrong_size _ e) n = e
  answers_size (unsound l _ _) n = absurd (n l)
  answers_size (carried s _) n = absurd (n s.laid.size)

  pub answers_unsound : Answers x y → length x.pages ≡ buffer_bytes → (Sound x.desk x.pages → ⊥) → y ≡ turned_down 2 x
  answers_unsound (wrong_size n _) l never = absurd (n l)
  answers_unsound (unsound _ _ e) l never = e
  answers_unsound (carried s _) l never = absurd (never s)

  pub answers_Sound : Answers x y → (s : Sound x.desk x.pages) → CarriedOut x s y
  answers_Sound (wrong_size n _) s = absurd (n s.laid.size)
  answers_Sound (unsound _ never _) s = absurd (never s)
  answers_Sound (carried t e) s = e ∙ ap (λ (z : Watched). laid_out (carry_call x.call z x.buffer)) (one_watched x.desk x.pages t s)

-- two results that meet the contract for the same call are equal
pub answers_once : {x : Before} {y z : After} → Answers x y → Answers x z → y ≡ z
answers_once (wrong_size n e) a = e ∙ sym (answers_size a n)
answers_once (unsound l never e) a = e ∙ sym (answers_unsound a l never)
answers_once (carried s e) a = e ∙ sym (answers_Sound a s)

-- ---- numbers 1 and 2, where a call tests size and soundness itself

module _ (d : Desk) (b : List ℕ) (call : Call) (buffer : List ℕ) where
  turned : (n : ℕ) {a : Answer} {e : Desk} → e ≡ d → a ≡ numbered n → left a e b buffer ≡ turned_down n (handed d b call buffer)
  unfolding turned_down
  turned n = ap₂ (λ (e : Desk) (a : Answer). left a e b buffer)

  pub size_answers : {a : Answer} {e : Desk} → (length b ≡ buffer_bytes → ⊥) → e ≡ d → a ≡ numbered 1 → Answers (handed d b call buffer) (left a e b buffer)
  size_answers n kept told = wrong_size n (turned 1 kept told)

  pub unsound_answers : {t : Bool} {a : Answer} {e : Desk} → length b ≡ buffer_bytes → (Sound d b → t ≡ true) → not t ≡ true → e ≡ d → a ≡ numbered 2
      → Answers (handed d b call buffer) (left a e b buffer)
  unsound_answers {t = t} l f n kept told = unsound l (λ s. false-true (sym (not-true t n) ∙ f s)) (turned 2 kept told)

  pub Sound_answers : {y : After} → Sound d b → ((s : Sound d b) → CarriedOut (handed d b call buffer) s y) → Answers (handed d b call buffer) y
  Sound_answers s c = carried s (c s)

-- the test passed
pub Sound_by : {d : Desk} {b : List ℕ} (t : Bool) → (t ≡ true → Sound d b) → not t ≡ false → Sound d b
Sound_by t f e = f (not-false t e)

-- What a call that makes a store finds, and what it answers and leaves.
use Rattle.std.specs.Prelude.{List, ℕ}
use Rattle.desk.specs.declared.Answer.{Answer}
use Rattle.desk.specs.declared.Desk.{Desk}

-- the desk and the pages that it is handed, with whatever in them
pub record Found : Type 0 where
  pub desk : Desk
  pub pages : List ℕ

abbrev pub found : Desk → List ℕ → Found
found desk pages = record { desk = desk; pages = pages }

-- what it answers, and what desk and pages then hold
pub record Made : Type 0 where
  pub answer : Answer
  pub desk : Desk
  pub pages : List ℕ

abbrev pub made : Answer → Desk → List ℕ → Made
made answer desk pages = record { answer = answer; desk = desk; pages = pages }

-- "these, and whatever later requests add to the answer, are 0 where nothing else is said"
abbrev pub counted : ℕ → ℕ → Answer
counted number count = record { number = number; count = count; gained = 0; lost = 0 }

abbrev pub numbered : ℕ → Answer
numbered number = counted number 0

-- What writing a file answers and leaves in the buffer (02, Job 6).
use Rattle.std.specs.Prelude.{List, ◌≡◌, ℕ}
use Rattle.rules.specs.Told.{told_file}
use Rattle.desk.specs.declared.Answer.{Answer}
use Rattle.desk.specs.Making.{counted}

-- number and count of this file, and the buffer
pub record Wrote (file before : List ℕ) (answer : Answer) (after : List ℕ) : Type 0 where
  pub answered : answer ≡ counted (told_file file before).number (told_file file before).count
  pub buffer : after ≡ (told_file file before).buffer

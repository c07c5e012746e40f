-- What the plain rule answers a call with (01, "The plain rule", "Turned down, in checking order").
use Rattle.std.specs.Prelude.{cond, List, ℕ, ◌*◌, eqb, ltb, length}
use Rattle.terms.specs.Terms.{Place}
use Rattle.lists.specs.Parts.{put}
use Rattle.lists.specs.Rows.{Rows}
use Rattle.rules.specs.Records.{Request, sign_on, report, sign_off, range, request_of}
use Rattle.rules.specs.Carry.{list_bytes, bytes_of}
use Rattle.rules.specs.Plain.{Plain, plain_refusal, plain_found}

pub record Told : Type 0 where
  pub number : ℕ
  pub count : ℕ
  pub buffer : List ℕ

-- number 11 only where the bytes do not fit
unfoldable pub told_list : Rows Place → List ℕ → Told
told_list l buffer =
    cond (ltb (length buffer) (list_bytes * length l))
    (record { number = 11; count = length l; buffer = buffer })
    (record { number = 0; count = length l; buffer = put buffer 0 (bytes_of l) })

-- 11 "with the bytes needed if the written file doesn't fit"
unfoldable pub told_file : List ℕ → List ℕ → Told
told_file file buffer =
    cond (ltb (length buffer) (length file))
    (record { number = 11; count = length file; buffer = buffer })
    (record { number = 0; count = length file; buffer = put buffer 0 file })

unfoldable pub told_done : Request → Plain → List ℕ → Told
told_done (sign_on r f) x buffer = record { number = 0; count = 0; buffer = buffer }
told_done (report r f) x buffer = record { number = 0; count = 0; buffer = buffer }
told_done (sign_off r minute) x buffer = record { number = 0; count = 0; buffer = buffer }
told_done (range rect minute) x buffer = told_list (plain_found x rect minute) buffer

unfoldable pub told : Plain → List ℕ → List ℕ → Told
told x bytes buffer =
    cond (eqb (plain_refusal x bytes) 0) (told_done (request_of bytes) x buffer) (record { number = plain_refusal x bytes; count = 0; buffer = buffer })

use Rattle.watches.proofs.NumberLaws.{put_same, put_set, set_fits, shift_within, put_cleared}
use Rattle.watches.proofs.put_bit.Goals as goal

pub returns-then-was-set : goal.returns-then-was-set
returns-then-was-set c = search put_same

pub overflow_add-result : goal.overflow_add-result
overflow_add-result c = record { fits = search set_fits }

pub overflow_sub-result : goal.overflow_sub-result
overflow_sub-result c = search shift_within

pub returns-then-set : goal.returns-then-set
returns-then-set c = search put_set

pub returns-else-set : goal.returns-else-set
returns-else-set c = search put_cleared

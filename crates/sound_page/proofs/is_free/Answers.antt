use Rattle.sound_page.proofs.CodeLaws.{free_has_entry, free_other_kind, free_of_cell, free_tested}
use Rattle.sound_page.proofs.is_free.Goals as goal

pub returns-then-h-ne-HEAD_BYTES : goal.returns-then-h-ne-HEAD_BYTES
returns-then-h-ne-HEAD_BYTES c = search free_has_entry

pub returns-then-h-number : goal.returns-then-h-number
returns-then-h-number c = search free_other_kind

pub returns-then-h : goal.returns-then-h
returns-then-h c = search free_of_cell

pub returns : goal.returns
returns c = search free_tested

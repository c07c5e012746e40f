use Rattle.sound_pages.proofs.WalkLaws.{sound_short, sound_many, sound_no_cells, sound_no_chain, sound_all}
use Rattle.sound_pages.proofs.pages_sound.Goals as goal

pub returns-then-pages : goal.returns-then-pages
returns-then-pages c = sound_short _ _ _ _ c.if-pages.true

pub returns-then-n-gt-MAX_CELLS : goal.returns-then-n-gt-MAX_CELLS
returns-then-n-gt-MAX_CELLS c = sound_many _ _ _ _ c.told-cells c.if-n-gt-MAX_CELLS.true

pub returns-then-not-walk_slots : goal.returns-then-not-walk_slots
returns-then-not-walk_slots c = sound_no_cells _ _ _ _ c.told-cells (λ i. (c.type_inv.pages i).fits) c.if-pages.false c.if-n-gt-MAX_CELLS.false c.walk_slots.ensures c.if-not-walk_slots.true

pub returns-then-not-walk_free : goal.returns-then-not-walk_free
returns-then-not-walk_free c = sound_no_chain _ _ _ _ c.told-cells (λ i. (c.type_inv.pages i).fits) c.if-pages.false c.if-n-gt-MAX_CELLS.false c.walk_slots.ensures c.if-not-walk_slots.false c.walk_free.ensures c.if-not-walk_free.true

pub returns : goal.returns
returns c = sound_all _ _ _ _ c.told-cells (λ i. (c.type_inv.pages i).fits) c.if-pages.false c.if-n-gt-MAX_CELLS.false c.walk_slots.ensures c.if-not-walk_slots.false c.walk_free.ensures c.if-not-walk_free.false c.all_marked.ensures

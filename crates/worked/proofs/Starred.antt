-- The starred points hold of the definitions: the checker computes those with a long run here, the others in `rules`.
use mathlib.Core.List.{List, ◌++◌, map-append}
use mathlib.Core.Path.{refl, sym, ap₂, ◌∙◌}
use Rattle.lists.specs.Chains.{walk, settled_chain, settled_free}
use Rattle.lists.specs.Parts.{part, put, tab, insert_at, remove_at}
use Rattle.lists.specs.Rows.{find, rank, alter, merge}
use Rattle.lists.specs.Sort.{sort_in, sort, first_above}
use Rattle.lists.specs.Sums.{sum_by, filter, concat, sum_to}
use Rattle.lists.specs.Tests.{both, either, all, first_at, first_that, best, first_some}
use Rattle.lists.specs.Words.{le, word}
use Rattle.rules.specs.Carry.{is_on, on_count, signed_on, reported, signed_off, box_to_flush, waiting_in, flush_due, after_report, live_in, stored_in, latest, list_of, found, bytes_of, answered, carried_out, carry}
use Rattle.rules.specs.Cut.{low_count, cuts_through, fits, difference, existing_cut, median, median_cut, chosen_cut}
use Rattle.rules.specs.Flush.{enter, enter_each, in_box, flushed_into, grown, add_cut, unused_number, low_cell, high_cell, split_at, below, joinable, neighbour, joined_with, reshaped, cell_of_box, flush}
use Rattle.rules.specs.Grid.{stripe, stripe_low, box_of, corner_of, boxes}
use Rattle.rules.specs.Records.{length_field, kind_field, length_of, radio_field, place_field, minute_field, fix_field, rect_field, request_of, not_at_hand, unknown_kind, wrong_length, no_radio, no_fix, too_early, reversed, on_already, not_on, no_room, refusal}
use Rattle.rules.specs.Store.{fresh, cell_at, others, pages_for, settled, free_after}
use Rattle.rules.specs.Sweep.{lower_each, swept_entries, swept_memo, swept, sweep_front, tick}
use Rattle.rules.specs.Worked.{Seen, after, seen, short_points, long_points, Sees, Starred}
use Rattle.rules.proofs.ShortPoints.{short_points_lem}

long_points_lem : Sees long_points
unfolding walk settled_chain settled_free part put tab insert_at remove_at find rank alter merge sort_in sort first_above sum_by filter concat sum_to both either all first_at first_that best first_some le word is_on on_count signed_on reported signed_off box_to_flush waiting_in flush_due after_report live_in stored_in latest list_of found bytes_of answered carried_out carry low_count cuts_through fits difference existing_cut median median_cut chosen_cut enter enter_each in_box flushed_into grown add_cut unused_number low_cell high_cell split_at below joinable neighbour joined_with reshaped cell_of_box flush stripe stripe_low box_of corner_of boxes length_field kind_field length_of radio_field place_field minute_field fix_field rect_field request_of not_at_hand unknown_kind wrong_length no_radio no_fix too_early reversed on_already not_on no_room refusal fresh cell_at others pages_for settled free_after lower_each swept_entries swept_memo swept sweep_front tick after seen long_points
long_points_lem = refl

pub starred : Starred
starred = map-append _ short_points long_points ∙ ap₂ (λ (a b : List Seen). a ++ b) short_points_lem long_points_lem ∙ sym (map-append _ short_points long_points)

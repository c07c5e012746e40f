use Rattle.desk.specs.Held.{memo_in}
use Rattle.memo_index.proofs.IndexLaws.{index_start, index_radio, index_turn, index_end, used_more, used_end, used_line}
use borrow.Author.Rules.{rules}
use Rattle.memo_index.proofs.index_lines.Goals as goal

pub loop-i-init : goal.loop-i-init
loop-i-init c = search index_start

pub radio_index-k-requires : goal.radio_index-k-requires
radio_index-k-requires c =
    let m = memo_in c.args.n c.args.memo.now in
    let t = c.loop-i-test.true in
    let few = c.requires.0 in
    index_radio m (search rules) few (used_more m (search rules) few t) (used_line m (search rules) few t) c.loop-i.invariant

pub loop-i-preserved : goal.loop-i-preserved
loop-i-preserved c =
    let m = memo_in c.args.n c.args.memo.now in
    let t = c.loop-i-test.true in
    let few = c.requires.0 in
    let k = c.radio_index-k.ensures in
    index_turn m (search rules) few (used_more m (search rules) few t) (used_line m (search rules) few t) c.loop-i.invariant k.0 k.1 c.place_from_one.ensures

pub returns : goal.returns
returns c =
    let m = memo_in c.args.n c.args.memo.now in
    index_end m c.loop-i.invariant (used_end m (search rules) c.requires.0 c.loop-i-test.false)

use borrow.Author.Tests.{lt-ltb}
use Rattle.cell_join.proofs.JoinLaws.{d_asks, m_given_asks, d_joined}
use Rattle.cell_join.proofs.join_onto_d.Goals as goal

pub settle-settled-requires : goal.settle-settled-requires
settle-settled-requires c =
    let q = d_asks c.requires.3 in
    rw c.as_slice.ensures.rows (c.requires.3.laid.size, c.as_slice.ensures.fits, c.requires.0, q.0, q.1, q.2)

pub give_up-front-requires : goal.give_up-front-requires
give_up-front-requires c =
    let settled = rw c.as_slice.ensures.rows at c.settle-settled.ensures in
    let q = m_given_asks c.requires.3 settled.0 settled.1 in
    (q.0, c.requires.1, q.1)

pub returns : goal.returns
returns c = λ x.
    let settled = rw c.as_slice.ensures.rows at c.settle-settled.ensures in
    d_joined x settled.0 settled.1 (lt-ltb c.args.d.number c.args.m.number c.requires.2) c.give_up-front.ensures.0 c.give_up-front.ensures.1

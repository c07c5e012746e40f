use borrow.Author.Tests.{le-ltb}
use Rattle.cell_join.proofs.JoinLaws.{d_given_asks, m_size, m_asks, m_joined}
use Rattle.cell_join.proofs.join_onto_m.Goals as goal

pub give_up-front-requires : goal.give_up-front-requires
give_up-front-requires c = let q = d_given_asks c.requires.3 in (q.0, c.requires.0, q.1)

pub settle-requires : goal.settle-requires
settle-requires c =
    let q = m_asks c.requires.3 c.give_up-front.ensures.0 c.give_up-front.ensures.1 in
    rw c.as_slice.ensures.rows (m_size c.requires.3 c.give_up-front.ensures.0 c.give_up-front.ensures.1, c.as_slice.ensures.fits, c.requires.1, q.0, q.1, q.2)

pub returns : goal.returns
returns c = λ x.
    let settled = rw c.as_slice.ensures.rows at c.settle.ensures in
    m_joined x c.give_up-front.ensures.0 c.give_up-front.ensures.1 (le-ltb c.args.d.number c.args.m.number c.requires.2) settled.0 settled.1

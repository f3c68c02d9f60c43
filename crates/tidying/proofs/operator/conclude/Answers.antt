-- `tidying::operator::conclude` meets its contract, by how many members are left.
use Rattle.std.proofs.Common.{◌≡◌, ap, ◌∙◌, ◌≤◌, ◌<◌, get_or, set, arith}
use Rattle.buckets.specs.Halves.{row_of}
use Rattle.tidying.proofs.Conclude.{lone_within, concludes_none, concludes_one, concludes_many}
use Rattle.tidying.proofs.operator.conclude.Goals as goal
use Rattle.tidying.proofs.operator.conclude.Goals.{After-row_of-child}

-- the lone child's row as computed
row_is : (c : After-row_of-child) → c.row_of-child.result ≡ row_of (get_or c.args.members.now 0 0)
row_is c = c.row_of-child.ensures ∙ ap row_of c.member.ensures.0

within : (c : After-row_of-child) → (c.args.n.row < c.row_of-child.result) × (c.row_of-child.result ≤ c.args.n.end)
within c =
    let g = c.requires.there in
    lone_within g.is_left g.members_fit c.in-1.is (row_is c)

pub overflow_sub-child : goal.overflow_sub-child
overflow_sub-child c = omega (arith, (within (goal.at.overflow_sub-child c).After-row_of-child).0)

pub returns-in-0-clause-concludes_in : goal.returns-in-0-clause-concludes_in
returns-in-0-clause-concludes_in c = concludes_none c.requires.there.members_fit c.in-0.is c.hollow.ensures.hollows

pub returns-in-1-clause-concludes_in : goal.returns-in-1-clause-concludes_in
returns-in-1-clause-concludes_in c =
    concludes_one c.requires.there.members_fit c.in-1.is (row_is (goal.at.returns-in-1-clause-concludes_in c).After-row_of-child) c.set_row.ensures.b_after

pub returns-in_default-clause-concludes_in : goal.returns-in_default-clause-concludes_in
returns-in_default-clause-concludes_in c =
    let a = c.args in
    let g = c.requires.there in
    concludes_many g.members_fit (omega arith) (omega (arith, g.is_left.headed.ends, c.requires.within, c.requires.in_place.known_fit))
    c.set_row-in_default.ensures.b_after c.requires.hashed (ap (set a.known.now a.n.row) c.known_of.ensures.0)

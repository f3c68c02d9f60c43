-- `tidy_rules::rules::find` meets its contract.
use Rattle.std.proofs.Common.{◌≡◌, sym, ap, ◌∙◌, get_or, arith}
use Rattle.rows.specs.Layouts.{total, rows_in}
use Rattle.buckets.specs.Halves.{row_of}
use Rattle.tidy_rules.proofs.Find.{Sought, seek-none, sought, seek_less, seek_more, seek_found, seek_end}
use Rattle.tidy_rules.proofs.rules.find.Goals.{In-Some, After-row_of}
use Rattle.tidy_rules.proofs.rules.find.Goals as goal

pub loop-link-init : goal.loop-link-init
loop-link-init c = seek-none

-- at a member of the chain
here : (c : In-Some) → Sought (total c.args.s) c.args.links.now c.args.members.now c.in-Some.i c.requires.1.count
here c = sought c.loop-link.invariant c.in-Some.is c.requires.1

-- its row as computed
row_is : (c : After-row_of) → c.row_of.result ≡ row_of (get_or c.args.members.now c.in-Some.i 0)
row_is c = c.row_of.ensures ∙ ap row_of c.member.ensures.0

pub member-requires : goal.member-requires
member-requires c = (here (goal.at.member-requires c).In-Some).in_members

pub literal_of-requires : goal.literal_of-requires
literal_of-requires c =
    (c.requires.0, omega (arith, (here (goal.at.literal_of-requires c).In-Some).in_rows, row_is (goal.at.literal_of-requires c).After-row_of))

pub returns-then-literal_of : goal.returns-then-literal_of
returns-then-literal_of c =
    seek_found (rows_in c.args.s c.args.b.now) _ c.loop-link.invariant c.in-Some.is (row_is (goal.at.returns-then-literal_of c).After-row_of)
    (sym c.literal_of.ensures ∙ c.if-literal_of.true)

pub behind-link-requires : goal.behind-link-requires
behind-link-requires c = (here (goal.at.behind-link-requires c).In-Some).in_links

pub loop-link-smaller : goal.loop-link-smaller
loop-link-smaller c = seek_less c.loop-link.invariant c.in-Some.is c.behind-link.result c.requires.1 c.behind-link.ensures

pub loop-link-preserved : goal.loop-link-preserved
loop-link-preserved c =
    seek_more (rows_in c.args.s c.args.b.now) _ c.loop-link.invariant c.behind-link.result c.in-Some.is
    (row_is (goal.at.loop-link-preserved c).After-row_of) (sym c.if-literal_of.false ∙ c.literal_of.ensures) c.behind-link.ensures

pub returns : goal.returns
returns c = seek_end (rows_in c.args.s c.args.b.now) _ c.loop-link.invariant c.in_default.is

-- `tidy_rules::rules::find_duplicate` meets its contract.
use Rattle.std.proofs.Common.{sym, subst}
use Rattle.rows.specs.Layouts.{total, rows_in}
use Rattle.buckets.specs.Halves.{row_of}
use Rattle.tidy_rules.specs.Entered.{LiveAt}
use Rattle.tidy_rules.proofs.Find.{Sought, duplicate-none, duplicate-sought, duplicate-less, duplicate-more, duplicate-found, duplicate_end}
use Rattle.tidy_rules.proofs.rules.find_duplicate.Goals.{In-Some}
use Rattle.tidy_rules.proofs.rules.find_duplicate.Goals as goal

pub loop-link-init : goal.loop-link-init
loop-link-init c = duplicate-none

-- at a member of the chain
here : (c : In-Some) → Sought (total c.args.s) c.args.links.now c.args.members.now c.in-Some.i c.requires.1.chain.count
here c = duplicate-sought c.loop-link.invariant c.in-Some.is c.requires.1 c.requires.2

pub member-requires : goal.member-requires
member-requires c = (here (goal.at.member-requires c).In-Some).in_members

pub are_duplicates-requires : goal.are_duplicates-requires
are_duplicates-requires c =
    let there = here (goal.at.are_duplicates-requires c).In-Some in (
      c.requires.0,
      subst (λ m. LiveAt (rows_in c.args.s c.args.b.now) (row_of m)) (sym c.member.ensures.0) (c.requires.1.lives _ there.in_chain),
      c.requires.2.lives,
    )

pub returns-then-are_duplicates : goal.returns-then-are_duplicates
returns-then-are_duplicates c =
    duplicate-found c.loop-link.invariant c.in-Some.is c.member.ensures.0 (rw c.if-are_duplicates.true at c.are_duplicates.ensures)

pub behind-link-requires : goal.behind-link-requires
behind-link-requires c = (here (goal.at.behind-link-requires c).In-Some).in_links

pub loop-link-smaller : goal.loop-link-smaller
loop-link-smaller c = duplicate-less c.loop-link.invariant c.in-Some.is c.requires.1 c.requires.2 c.behind-link.result c.behind-link.ensures

pub loop-link-preserved : goal.loop-link-preserved
loop-link-preserved c =
    duplicate-more c.loop-link.invariant c.in-Some.is c.behind-link.result c.member.ensures.0
    (rw c.if-are_duplicates.false at c.are_duplicates.ensures) c.behind-link.ensures

pub returns : goal.returns
returns c = duplicate_end c.loop-link.invariant c.in_default.is

-- `duplicates::some_clash` meets its contract.
use Rattle.std.proofs.Common.{sym, ◌∙◌}
use Rattle.duplicates.proofs.Members.{search_start, search_found, search_on}
use Rattle.duplicates.proofs.some_clash.Goals as goal

pub loop-n-init : goal.loop-n-init
loop-n-init c = search_start

pub returns-then-clashes : goal.returns-then-clashes
returns-then-clashes c = sym (search_found c.requires.2 c.loop-n.invariant c.loop-n-test.true (sym c.clashes.ensures ∙ c.if-clashes.true))

pub loop-n-preserved : goal.loop-n-preserved
loop-n-preserved c =
    search_on c.requires.2 c.loop-n.invariant c.loop-n-test.true (sym c.clashes.ensures ∙ c.if-clashes.false) c.add.auto.heads c.add.auto.links
    c.member-m.ensures.0 c.add.ensures.0 c.add.ensures.1

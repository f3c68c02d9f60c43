-- `tidiness::first_fault` meets its contract.
use Rattle.std.proofs.Common.{refl, sym, ◌∙◌, arith}
use Rattle.subtrees.specs.Subtrees.{subtree_in}
use Rattle.tidiness.proofs.Faults.{fault_plain, fault_two, fault_none, search_start, search_on, search_found, search_all}
use Rattle.tidiness.proofs.first_fault.Goals as goal

pub loop-i-init : goal.loop-i-init
loop-i-init c =
    record { searching = search_start c.args.b.now c.requires.readable; all_heads = refl; all_links = refl; all_members = refl }

pub returns-then-at_fault : goal.returns-then-at_fault
returns-then-at_fault c =
    let i = c.loop-i.i in
    search_found c.args.b.now c.requires.readable i c.loop-i-test.true c.loop-i.invariant.searching
    (fault_plain i (subtree_in c.args.s c.args.b.now i) (sym c.at_fault.ensures ∙ c.if-at_fault.true))

pub returns-then-some_clash : goal.returns-then-some_clash
returns-then-some_clash c =
    let i = c.loop-i.i in
    search_found c.args.b.now c.requires.readable i c.loop-i-test.true c.loop-i.invariant.searching
    (fault_two i (subtree_in c.args.s c.args.b.now i)
    (sym c.gather-n.ensures.0.two_clash_there ∙ sym c.some_clash.ensures ∙ c.if-some_clash.true))

pub loop-i-preserved : goal.loop-i-preserved
loop-i-preserved c =
    let i = c.loop-i.i in
    let inv = c.loop-i.invariant in
    let kept = c.some_clash.auto in
    record {
      searching =
          search_on c.args.b.now c.requires.readable i c.loop-i-test.true (omega arith) inv.searching
          (fault_none i (subtree_in c.args.s c.args.b.now i) (sym c.at_fault.ensures ∙ c.if-at_fault.false)
          (sym c.gather-n.ensures.0.two_clash_there ∙ sym c.some_clash.ensures ∙ c.if-some_clash.false));
      all_heads = kept.heads ∙ inv.all_heads;
      all_links = kept.links ∙ inv.all_links;
      all_members = kept.members ∙ c.gather-n.auto.members ∙ inv.all_members;
    }

pub returns : goal.returns
returns c = search_all c.args.b.now c.requires.readable c.loop-i.i c.loop-i-test.false c.loop-i.invariant.searching

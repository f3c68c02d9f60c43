-- `duplicates::clashes` meets its contract.
use Rattle.std.proofs.Common.{sym, ap, ap₂, ◌∙◌, subst, get_or, arith}
use Rattle.std.proofs.lemmas.Bool.{false≢true}
use Rattle.buckets.specs.Chains.{entry_of, last}
use Rattle.buckets.proofs.Chains.{passed_none, passed_more, link_down}
use Rattle.duplicates.specs.Members.{clash, tree_of, Member, some_member, clashes_with}
use Rattle.duplicates.proofs.Members.{member_yes, chain_passed}
use Rattle.duplicates.proofs.clashes.Goals as goal

pub loop-link-init : goal.loop-link-init
loop-link-init c = passed_none (c.first-link.ensures ∙ ap (λ k. last c.args.members.now k c.args.n) c.bucket_of.ensures.0)

pub returns-then-members_clash : goal.returns-then-members_clash
returns-then-members_clash c =
    let a = c.args in
    sym
    (member_yes (clashes_with a.s a.b.now (get_or a.members.now a.n 0)) a.members.now a.n c.in-Some.i
    (omega (arith, c.loop-link.invariant.within, ap entry_of c.in-Some.is))
    (ap₂ (λ m w. clash (tree_of a.s a.b.now m) (tree_of a.s a.b.now w)) (sym c.member.ensures.0) (sym c.member-m.ensures.0) ∙
    sym c.members_clash.ensures ∙ c.if-members_clash.true))

pub loop-link-smaller : goal.loop-link-smaller
loop-link-smaller c = link_down c.requires.3 c.loop-link.invariant.within c.in-Some.is c.behind-link.result c.behind-link.ensures

pub loop-link-preserved : goal.loop-link-preserved
loop-link-preserved c =
    passed_more c.requires.3 c.loop-link.invariant.within c.in-Some.is c.behind-link.result c.behind-link.ensures c.loop-link.invariant
    (λ e.
    false≢true
    (sym c.if-members_clash.false ∙ c.members_clash.ensures ∙
    ap (λ m. clashes_with c.args.s c.args.b.now c.member-m.result m) c.member.ensures.0 ∙ e))

pub returns : goal.returns
returns c =
    let m = c.member-m in
    sym
    (ap (λ w. some_member (clashes_with c.args.s c.args.b.now w) c.args.members.now c.args.n) (sym m.ensures.0) ∙
    chain_passed (λ i l. c.requires.1 i (omega arith))
    (subst (Member c.args.s c.args.b.now) (sym m.ensures.0) (c.requires.1 c.args.n (omega arith))) c.loop-link.invariant c.in_default.is)

-- `duplicates::members_clash` meets its contract: literals by variable, operators by hashes, then in full.
use Rattle.std.proofs.Common.{◌≡◌, sym, ap, ap₂, ◌∙◌, arith}
use borrow.Author.Tests.{ne_eqb}
use Rattle.formula.specs.Tidy.{same_variable, same_tree}
use Rattle.buckets.specs.Halves.{row_of}
use Rattle.subtrees.specs.Subtrees.{top, subtree_in}
use Rattle.duplicates.proofs.Members.{clash-literal, clash_operator, hashes_other}
use Rattle.duplicates.proofs.members_clash.Goals as goal

pub returns-then-kind_at-le-NEGATIVE : goal.returns-then-kind_at-le-NEGATIVE
returns-then-kind_at-le-NEGATIVE c =
    let a = c.args in
    let k : c.kind_at.result ≡ (top (subtree_in a.s a.b.now (row_of a.m))).kind =
    c.kind_at.ensures ∙ ap (λ i. (top (subtree_in a.s a.b.now i)).kind) c.row_of-i.ensures in
    c.same_variable.ensures ∙
    ap₂ (λ i j. same_variable (subtree_in a.s a.b.now i) (subtree_in a.s a.b.now j)) c.row_of-i.ensures c.row_of-j.ensures ∙
    sym (clash-literal _ (omega (arith, k)) _)

pub returns-then-hash_of : goal.returns-then-hash_of
returns-then-hash_of c =
    let a = c.args in
    let k : c.kind_at.result ≡ (top (subtree_in a.s a.b.now (row_of a.m))).kind =
    c.kind_at.ensures ∙ ap (λ i. (top (subtree_in a.s a.b.now i)).kind) c.row_of-i.ensures in
    c.same_at.ensures ∙ ap₂ (λ i j. same_tree (subtree_in a.s a.b.now i) (subtree_in a.s a.b.now j)) c.row_of-i.ensures c.row_of-j.ensures ∙
    sym (clash_operator _ (omega (arith, k)) _)

pub returns-else-hash_of : goal.returns-else-hash_of
returns-else-hash_of c =
    let a = c.args in
    let k : c.kind_at.result ≡ (top (subtree_in a.s a.b.now (row_of a.m))).kind =
    c.kind_at.ensures ∙ ap (λ i. (top (subtree_in a.s a.b.now i)).kind) c.row_of-i.ensures in
    let d = c.if-hash_of.false in
    ne_eqb _ _ d ∙
    sym
    (hashes_other c.requires.1 c.requires.2 (omega (arith, k)) (λ e. d (c.hash_of.ensures.0 ∙ e ∙ sym c.hash_of-2.ensures.0)))

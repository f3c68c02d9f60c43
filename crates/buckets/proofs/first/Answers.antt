-- `buckets::first` meets its contract: an entry of the heads is taken if the member that it names is there, and in that bucket.
use Rattle.std.proofs.Common.{◌≡◌, suc, get_or, arith, sym, ap, ◌∙◌}
use Rattle.buckets.specs.Chains.{entry_of, bucket}
use Rattle.buckets.proofs.Chains.{first_above, first_other, first-right}
use Rattle.buckets.proofs.first.Goals as goal

pub returns-then-n-i : goal.returns-then-n-i
returns-then-n-i c =
    let named : get_or c.args.heads.now c.args.k 0 ≡ suc c.in_ok-i.i = sym (c.link_of.ensures ∙ c.from.ensures) ∙ ap entry_of c.in_ok-i.was in
    first_above _ _ _ c.requires.2 named (omega arith)

pub returns-then-bucket_of-k : goal.returns-then-bucket_of-k
returns-then-bucket_of-k c =
    let named : get_or c.args.heads.now c.args.k 0 ≡ suc c.in_ok-i.i = sym (c.link_of.ensures ∙ c.from.ensures) ∙ ap entry_of c.in_ok-i.was in
    first_other _ _ _ c.requires.2 named (λ e. c.if-bucket_of-k.true (c.bucket_of.ensures.0 ∙ ap bucket c.member.ensures.0 ∙ e))

pub returns : goal.returns
returns c =
    let named : get_or c.args.heads.now c.args.k 0 ≡ suc c.in_ok-i.i = sym (c.link_of.ensures ∙ c.from.ensures) ∙ ap entry_of c.in_ok-i.was in
    let there : bucket (get_or c.args.members.now c.in_ok-i.i 0) ≡ c.args.k =
    sym (c.bucket_of.ensures.0 ∙ ap bucket c.member.ensures.0) ∙ c.if-bucket_of-k.false in
    first-right _ _ _ c.requires.2 named (omega arith) there

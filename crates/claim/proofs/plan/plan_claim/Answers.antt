-- `claim::plan::plan_claim` meets its contract: 26 and 27 in this order.
use Rattle.std.proofs.Common.{sym, ap, ◌∙◌, suc, take, arith, add-one}
use Rattle.std.proofs.Math.Seq.{length-take-le}
use Rattle.checking.proofs.CheckedSheets.{sheet_readable}
use Rattle.claim.proofs.Deciding.{root_pairs, sheet-numbered, plan_other, plan-form, plan-paired, plan-pairs}
use Rattle.claim.proofs.plan.plan_claim.Goals as goal

pub is_same_prefix-requires : goal.is_same_prefix-requires
is_same_prefix-requires c = (sheet_readable c.requires.0, sheet_readable c.requires.1)

pub returns-then-not-is_same_prefix : goal.returns-then-not-is_same_prefix
returns-then-not-is_same_prefix c =
    plan_other c.requires.0 c.requires.1 c.args.exists c.is_same_prefix.ensures c.if-not-is_same_prefix.true

pub read_form-requires : goal.read_form-requires
read_form-requires c = (sheet_readable c.requires.1, c.requires.2)

pub returns-then-not-read_form : goal.returns-then-not-read_form
returns-then-not-read_form c =
    plan-form c.requires.0 c.requires.1 c.args.exists c.is_same_prefix.ensures c.if-not-is_same_prefix.false c.read_form.ensures.value
    c.if-not-read_form.true

pub children_at-n-requires : goal.children_at-n-requires
children_at-n-requires c =
    let ok = sheet_readable c.requires.1 in
    (ok, ok.some_nodes)

pub slice_bounds-plan_pairs-end : goal.slice_bounds-plan_pairs-end
slice_bounds-plan_pairs-end c =
    let pairs = root_pairs c.args.d.now (sheet_readable c.requires.1) c.read_form.ensures.value c.if-not-read_form.false c.children_at-n.ensures.0 in
    omega (arith, pairs.1, c.read_form.auto.cuts, c.requires.2)

pub slice_bounds-plan_pairs-end-2 : goal.slice_bounds-plan_pairs-end-2
slice_bounds-plan_pairs-end-2 c =
    let pairs = root_pairs c.args.d.now (sheet_readable c.requires.1) c.read_form.ensures.value c.if-not-read_form.false c.children_at-n.ensures.0 in
    sym (length-take-le _ _ (omega (arith, pairs.1, c.read_form.auto.cuts, c.requires.2)))

pub plan_pairs-requires : goal.plan_pairs-requires
plan_pairs-requires c =
    let pairs = root_pairs c.args.d.now (sheet_readable c.requires.1) c.read_form.ensures.value c.if-not-read_form.false c.children_at-n.ensures.0 in
    let cuts = ap (λ n. take (suc n) c.read_form.new.cuts) pairs.0 ∙ c.read_form.ensures.cuts_after c.if-not-read_form.false in (
      sheet-numbered c.requires.1,
      plan-paired c.requires.0 c.requires.1 c.args.exists c.is_same_prefix.ensures c.if-not-is_same_prefix.false c.read_form.ensures.value
          c.if-not-read_form.false (ap (λ n. take n c.read_form.new.cuts) (add-one c.children_at-n.result) ∙ cuts),
    )

pub returns : goal.returns
returns c =
    let pairs = root_pairs c.args.d.now (sheet_readable c.requires.1) c.read_form.ensures.value c.if-not-read_form.false c.children_at-n.ensures.0 in
    let cuts = ap (λ n. take (suc n) c.read_form.new.cuts) pairs.0 ∙ c.read_form.ensures.cuts_after c.if-not-read_form.false in
    plan-pairs c.requires.0 c.requires.1 c.args.exists c.is_same_prefix.ensures c.if-not-is_same_prefix.false c.read_form.ensures.value
    c.if-not-read_form.false c.plan_pairs.result c.read_form.new.cuts c.children_at-n.result pairs.0 cuts c.plan_pairs.ensures

-- `claim::claim_checked` meets its contract.
use Rattle.std.proofs.Common.{refl, sym, ap, take, arith, add-one}
use Rattle.std.proofs.Math.Seq.{length-take-le}
use Rattle.std.proofs.lemmas.Result.{err_from_is_err_and}
use Rattle.claim.specs.declared.ClaimRefusal.TheVariants.{Strategy}
use Rattle.claim.proofs.Answering.{kept_told, turned_told, plan_refused, plan_claims, cuts_enough, fitting}
use Rattle.claim.proofs.claim_checked.Goals as goal

pub plan_claim-requires : goal.plan_claim-requires
plan_claim-requires c = (c.requires.0, c.requires.1, refl)

pub returns-in_err-n : goal.returns-in_err-n
returns-in_err-n c =
    let a = c.args in
    let q = turned_told Strategy c.plan_claim.result c.in_err-n.field-0.0 c.in_err-n.ensures.cases in
    let p = err_from_is_err_and c.from_residual.result c.from_residual.ensures.1 in
    rw (p.1, p.2, q.2) (plan_refused a.s.format a.b.now a.exists a.d.now a.t c.plan_claim.new.cuts q.1 c.plan_claim.ensures a.out.now)

pub overflow_add-cuts : goal.overflow_add-cuts
overflow_add-cuts c =
    let planned = plan_claims (kept_told c.plan_claim.result c.in_ok-n.n c.in_ok-n.ensures.cases) c.plan_claim.ensures in
    omega (arith, cuts_enough c.requires.0 c.requires.1 planned, c.plan_claim.auto.cuts)

pub slice_bounds-cuts-end : goal.slice_bounds-cuts-end
slice_bounds-cuts-end c =
    let planned = plan_claims (kept_told c.plan_claim.result c.in_ok-n.n c.in_ok-n.ensures.cases) c.plan_claim.ensures in
    omega (arith, cuts_enough c.requires.0 c.requires.1 planned, c.plan_claim.auto.cuts)

pub slice_bounds-claim_planned-end : goal.slice_bounds-claim_planned-end
slice_bounds-claim_planned-end c =
    let planned = plan_claims (kept_told c.plan_claim.result c.in_ok-n.n c.in_ok-n.ensures.cases) c.plan_claim.ensures in
    sym (length-take-le _ _ (omega (arith, cuts_enough c.requires.0 c.requires.1 planned, c.plan_claim.auto.cuts)))

pub claim_planned-requires : goal.claim_planned-requires
claim_planned-requires c =
    let planned = plan_claims (kept_told c.plan_claim.result c.in_ok-n.n c.in_ok-n.ensures.cases) c.plan_claim.ensures in
    fitting c.requires.0 c.requires.1 planned (ap (λ n. take n c.plan_claim.new.cuts) (add-one c.in_ok-n.n))

-- `response::response` meets its contract.
use Rattle.std.proofs.Common.{◌≡◌, ◌≤◌, ℕ, List, Ok, sym, ap, ◌∙◌, subst, length, arith}
use Rattle.std.proofs.lemmas.Result.{err_from_is_err_and}
use Rattle.sheet.specs.Format.{Bytes, sheet_length}
use Rattle.sheet.specs.Sheet.{sheet}
use Rattle.sheet.specs.Operations.{padded}
use Rattle.sheet.specs.Strategy.{response, response_call}
use Rattle.sheet.proofs.Truthful.{response_truthful}
use Rattle.rows.specs.Formats.{format_of}
use Rattle.rows.specs.Layouts.{format_in}
use Rattle.rows.specs.Formulas.{formula_in, layout_for}
use Rattle.rows.specs.declared.Format.{Format}
use Rattle.rows.specs.declared.Layout.{Layout}
use Rattle.rows.proofs.Limits.{sound}
use Rattle.response.specs.Inner.ResponsePlan.{Passes, ResponsePlans}
use Rattle.response.specs.declared.plan.ResponsePlan.{ResponsePlan}
use Rattle.response.proofs.Functions.{copy_few}
use Rattle.response.proofs.Deciding.{refused_call, responded_call}
use Rattle.response.proofs.response.Goals as goal
use Rattle.response.proofs.response.Goals.{Joined-branch-2, in-Constant, in-Copy}

-- what a plan promises of a constant or of a copy
planned : (f : Format) (b : Bytes) (x room : ℕ) (table : List ℕ) {r p : ResponsePlan} → r ≡ p → ResponsePlans f b x room table (Ok r)
    → ResponsePlans f b x room table (Ok p)
planned f b x room table e h = subst (λ p. ResponsePlans f b x room table (Ok p)) e h

-- by a constant or by a copy: every test passes, and the function's sheet is written, with few rows
done : (c : Joined-branch-2)
    → let a = c.args in
    let out = c.match-branch-2.out in
    let t = c.match-branch-2.t in
    (s : Layout) × (s.format ≡ a.f) × Passes a.sheet.now a.x (length a.out.now) s
    × (t ≡ layout_for s.format (response a.x (formula_in s a.sheet.now)))
    × (out ≡ padded (length a.out.now) (sheet (format_in s) (response a.x (formula_in s a.sheet.now))))
    × (t.variables ≤ 1024) × (t.nodes ≤ 16386)
done c =
    let a = c.args in
    let b = a.sheet.now in
    let room = length a.out.now in
    elim c.match-branch-2.branch [
      | in-Constant w ↦
          let s = w.in-Constant.s in
          let is = planned a.f b a.x room c.plan_response.new.cuts w.in-Constant.is c.in_ok-s.ensures in
          let e = w.constant_into-t.ensures in
          let few = is.3.from.readable in
          let written = subst
          (λ y. (c.match-branch-2.t ≡ layout_for s.format (response y (formula_in s b)))
          × (c.match-branch-2.out ≡ padded room (sheet (format_in s) (response y (formula_in s b))))) is.1
          (w.t-is ∙ e.value, w.out-is ∙ e.out_after) in
          let vs = ap (λ (t : Layout). t.variables) w.t-is in
          let ns = ap (λ (t : Layout). t.nodes) w.t-is in (
            s,
            is.0,
            is.2,
            written.0,
            written.1,
            omega (arith, vs, e.variables_value.0, few.few_variables),
            omega (arith, ns, e.variables_value.1),
          )
      | in-Copy w ↦
          let s = w.in-Copy.s in
          let is = planned a.f b a.x room c.plan_response.new.cuts w.in-Copy.is c.in_ok-s.ensures in
          let e = w.function_into-t.ensures in
          let few = is.2.from.readable in
          let vs = ap (λ (t : Layout). t.variables) w.t-is in
          let ns = ap (λ (t : Layout). t.nodes) w.t-is in (
            s,
            is.0,
            is.1,
            w.t-is ∙ e.value,
            w.out-is ∙ e.out_after,
            omega (arith, vs, e.variables_value.0, few.few_variables),
            omega (arith, ns, e.variables_value.1, copy_few is.2),
          )
    ]

pub sheet_length-requires : goal.sheet_length-requires
sheet_length-requires c = let d = done c in (omega (arith, d.5), omega (arith, d.6))

pub constant_into-t-requires : goal.constant_into-t-requires
constant_into-t-requires c =
    let a = c.args in
    (planned a.f a.sheet.now a.x (length a.out.now) c.plan_response.new.cuts c.in-Constant.is c.in_ok-s.ensures).3

pub function_into-t-requires : goal.function_into-t-requires
function_into-t-requires c =
    let a = c.args in
    (planned a.f a.sheet.now a.x (length a.out.now) c.plan_response.new.cuts c.in-Copy.is c.in_ok-s.ensures).2

pub returns-in_err-s : goal.returns-in_err-s
returns-in_err-s c =
    let a = c.args in
    let F = format_of a.f in
    let p = err_from_is_err_and c.from_residual.result c.from_residual.ensures.1 in
    let e = refused_call F a.sheet.now a.x a.out.now c.in_err-s.ensures in
    rw (p.1, p.2) record { out_after = e; truthful_response = response_truthful F (sound a.f) a.sheet.now a.x a.out.now e }

pub returns : goal.returns
returns c =
    let a = c.args in
    let d = done (goal.at.returns c).Joined-branch-2 in
    let t = c.match-branch-2.t in
    let long = c.sheet_length.ensures ∙ ap (λ f. sheet_length (format_of f) t.variables t.nodes) (sym d.1) in
    let e = responded_call a.out.now d.2 d.3 long d.4 ∙ ap (λ f. response_call (format_of f) a.sheet.now a.x a.out.now) d.1 in
    record { out_after = e; truthful_response = response_truthful (format_of a.f) (sound a.f) a.sheet.now a.x a.out.now e }

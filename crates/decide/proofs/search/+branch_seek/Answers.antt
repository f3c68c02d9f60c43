-- The goals of the cycle of calls {branch, seek}. Assumes nothing.
use mathlib.Core.Path.{◌≡◌, refl, sym, ap, ap₂, ◌∙◌, subst}
use mathlib.Core.Bool.{false}
use mathlib.Core.List.{◌++◌}
use Prim.Native.Nat.{ℕ, ◌-◌, ◌≤◌, min}
use native.Mathlib.Omega.{arith}
use lib.ListN.{length, take, drop}
use borrow.Rule.Slice.PartMut.{same_len_mid}
use Rattle.formula.specs.Tree.{Formula}
use Rattle.formula.specs.Decide.{Decision}
use Rattle.sheet.specs.Format.{Bytes}
use Rattle.sheet.specs.Trace.{room}
use Rattle.rows.specs.Layouts.{size}
use Rattle.rows.specs.Formulas.{prefix_in, formula_in}
use Rattle.rows.specs.declared.Layout.{Layout}
use Rattle.decide.specs.Answers.{decision_of}
use Rattle.decide.specs.Inner.Waiting.{Waiting, Halved}
use Rattle.decide.specs.Inner.Searching.{Branches, found, branched, one_more}
use Rattle.decide.specs.declared.search.Decision.{Decision as Decided}
use Rattle.decide.proofs.Halving.{some_bytes, front_kept, waiting_formula, waiting_kept, waiting_most}
use Rattle.decide.proofs.Searching.{lent_length, branched_most, decided_most, seek_spent, seek_ended, seek-stuck, branches, seek-branches}
use Rattle.decide.proofs.Searching.{half_ready, half-found, zeroth, branch-early, branch-both}
use Rattle.decide.proofs.search.+branch_seek.Goals as goal

-- a split

-- the stack once the first half is decided
module _ {most place : ℕ} {t : Layout} {stack : Bytes} (j : Branches most t stack) (is : place ≡ most) (part : Bytes)
    (kept : length part ≡ length (take (length stack - place) (drop place stack))) where
  abbrev back : Bytes
  back = take place stack ++ (part ++ drop (length stack - place) (drop place stack))

  long : length back ≡ length stack
  long = same_len_mid place (length stack - place) stack part kept

  front : take (size t) back ≡ take (size t) stack
  front = front_kept (size t) place stack _ (omega (arith, is, j.waiting.has_room)) (omega (arith, is, j.has_place))

  inside : size t ≤ length back
  inside = omega (arith, long, is, j.waiting.has_room, j.has_place)

  waits : Waiting most t back
  waits = waiting_kept back j.waiting inside front

  same_formula : formula_in t back ≡ formula_in t stack
  same_formula = waiting_formula back j.waiting inside front

  same_prefix : prefix_in t back ≡ (formula_in t stack).prefix
  unfolding formula_in
  same_prefix = ap (λ (f : Formula). f.prefix) same_formula

  rest_back : length (take (length back - place) (drop place back)) ≡ length stack - most
  rest_back = omega (arith, lent_length place back, long, is)

rest : (place most : ℕ) (stack : Bytes) → place ≡ most → length (take (length stack - place) (drop place stack)) ≡ length stack - most
rest place most stack is = omega (arith, lent_length place stack, is)

-- what the first half comes to
first_decided : (first second : Bytes) (budget : ℕ) (zero : Decided) {stack out : Bytes} {t u : Layout} {place : ℕ} → Branches (room first second) t stack
    → place ≡ room first second → Halved t stack false u out → length out ≡ length first
    → decision_of zero ≡ found u out second (length (take (length stack - place) (drop place stack))) budget
    → decision_of zero ≡ zeroth (room first second) t stack budget
first_decided first second budget zero {stack} {place = place} j is h kept e =
    e ∙ half-found h second (ap (λ (n : ℕ). min n (length second)) kept) j.waiting.has_room refl (rest place (room first second) stack is) budget

pub branch-seek-zero-requires : goal.branch-seek-zero-requires
branch-seek-zero-requires t c =
    let w = c.requires.waiting in (
      omega (arith, c.decreases, lent_length c.shorter-place.result c.args.stack.now, some_bytes c.args.t, w.has_room, c.requires.has_place, c.shorter-place.ensures),
      half_ready c.write_half-u.ensures c.args.second.now (ap (λ (n : ℕ). min n (length c.args.second.now)) c.write_half-u.auto.out) w.has_room,
    )

pub branch-ends_early-requires : goal.branch-ends_early-requires
branch-ends_early-requires t c =
    let w = waits c.requires c.shorter-place.ensures c.seek-zero.new.stack c.seek-zero.auto.stack in
    (w.readable, omega (arith, w.some_row))

pub branch-returns-then-ends_early : goal.branch-returns-then-ends_early
branch-returns-then-ends_early t c =
    branch-early (room c.args.first.now c.args.second.now) c.args.t c.args.stack.now c.args.budget
    (same_prefix c.requires c.shorter-place.ensures c.seek-zero.new.stack c.seek-zero.auto.stack)
    (first_decided c.args.first.now c.args.second.now c.args.budget c.seek-zero.result c.requires c.shorter-place.ensures c.write_half-u.ensures c.write_half-u.auto.out c.seek-zero.ensures)
    c.ends_early.ensures
    c.if-ends_early.true

pub branch-write_half-w-requires : goal.branch-write_half-w-requires
branch-write_half-w-requires t c =
    waiting_most (omega (arith, c.seek-zero.auto.first, c.write_half-u.auto.out))
    (waits c.requires c.shorter-place.ensures c.seek-zero.new.stack c.seek-zero.auto.stack)

pub branch-overflow_sub-budget : goal.branch-overflow_sub-budget
branch-overflow_sub-budget t c = decided_most _ _ _ _ c.seek-zero.ensures

pub branch-seek-one-requires : goal.branch-seek-one-requires
branch-seek-one-requires t c =
    let w = c.requires.waiting in
    let z = c.seek-zero in (
      omega (
        arith,
        c.decreases,
        rest_back c.requires c.shorter-place.ensures z.new.stack z.auto.stack,
        some_bytes c.args.t,
        w.has_room,
        c.requires.has_place,
        c.shorter-place.ensures,
      ),
      half_ready c.write_half-w.ensures z.new.second
          (ap₂ min (c.write_half-w.auto.out ∙ z.auto.first ∙ c.write_half-u.auto.out) z.auto.second) w.has_room,
    )

pub branch-both-requires : goal.branch-both-requires
branch-both-requires t c =
    omega (arith, decided_most _ _ _ _ c.seek-zero.ensures, decided_most _ _ _ _ c.seek-one.ensures, c.ranges.budget)

pub branch-returns : goal.branch-returns
branch-returns t c =
    let z = c.seek-zero in
    branch-both (room c.args.first.now c.args.second.now) c.args.t c.args.stack.now c.args.budget
    (same_prefix c.requires c.shorter-place.ensures z.new.stack z.auto.stack)
    (first_decided c.args.first.now c.args.second.now c.args.budget c.seek-zero.result c.requires c.shorter-place.ensures c.write_half-u.ensures c.write_half-u.auto.out z.ensures) c.ends_early.ensures
    c.if-ends_early.false
    (c.seek-one.ensures ∙
    half-found c.write_half-w.ensures z.new.second
    (ap₂ min (c.write_half-w.auto.out ∙ z.auto.first ∙ c.write_half-u.auto.out) z.auto.second) c.requires.waiting.has_room
    (same_formula c.requires c.shorter-place.ensures z.new.stack z.auto.stack)
    (rest_back c.requires c.shorter-place.ensures z.new.stack z.auto.stack) (c.args.budget - z.result.runs)) c.both.ensures

-- a search

pub seek-returns-then-budget-eq0 : goal.seek-returns-then-budget-eq0
seek-returns-then-budget-eq0 t c =
    seek_spent c.args.s c.args.first.now c.args.second.now (length c.args.stack.now) c.if-budget-eq0.true c.after_runs.ensures

some : (n : ℕ) → (n ≡ 0 → ⊥) → 1 ≤ n
some n h = omega (arith, h)

pub seek-returns-then-not-set_aside : goal.seek-returns-then-not-set_aside
seek-returns-then-not-set_aside t c =
    seek-stuck c.args.s c.args.first.now c.args.second.now (length c.args.stack.now) (some _ c.if-budget-eq0.false) c.in-Stopped.ensures
    (omega (arith, c.if-not-set_aside.ensures, c.shorter-place.ensures, ap₂ min c.run_from-r.auto.first c.run_from-r.auto.second))
    c.after_runs-then-not-set_aside.ensures

pub seek-branch-first-requires : goal.seek-branch-first-requires
seek-branch-first-requires t c =
    let same = ap₂ min c.run_from-r.auto.first c.run_from-r.auto.second in (
      omega (arith, c.decreases, c.set_aside.auto.stack),
      subst (λ (n : ℕ). Branches n c.in-Stopped.t c.set_aside.new.stack) (sym same)
          (branches c.args.s c.args.first.now c.args.second.now (length c.args.stack.now) (some _ c.if-budget-eq0.false) c.in-Stopped.ensures
          (omega (arith, c.if-not-set_aside.ensures.0, c.shorter-place.ensures, same)) c.set_aside.new.stack c.set_aside.auto.stack
          c.if-not-set_aside.ensures.1),
    )

pub seek-one_more-requires : goal.seek-one_more-requires
seek-one_more-requires t c =
    omega (
      arith,
      ap (λ (d : Decision). d.runs) c.branch-first.ensures,
      branched_most (room c.run_from-r.new.first c.run_from-r.new.second) c.in-Stopped.t c.set_aside.new.stack (c.args.budget - 1),
      c.ranges.budget,
      some _ c.if-budget-eq0.false,
    )

pub seek-returns-in-Ended : goal.seek-returns-in-Ended
seek-returns-in-Ended t c =
    seek_ended c.args.s c.args.first.now c.args.second.now (length c.args.stack.now) (some _ c.if-budget-eq0.false) c.in-Ended.ensures
    c.after_runs-in-Ended.ensures

pub seek-returns-else-not-set_aside : goal.seek-returns-else-not-set_aside
seek-returns-else-not-set_aside t c =
    let same = ap₂ min c.run_from-r.auto.first c.run_from-r.auto.second in
    seek-branches c.args.s c.args.first.now c.args.second.now (length c.args.stack.now) (some _ c.if-budget-eq0.false) c.in-Stopped.ensures
    (omega (arith, c.if-not-set_aside.ensures.0, c.shorter-place.ensures, same)) c.set_aside.new.stack c.set_aside.auto.stack
    c.if-not-set_aside.ensures.1
    (c.one_more.ensures ∙
    ap one_more
    (c.branch-first.ensures ∙ ap (λ (n : ℕ). branched n c.in-Stopped.t c.set_aside.new.stack (c.args.budget - 1)) same))

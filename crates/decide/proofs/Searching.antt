-- A search step by step: its budget spent, a run that ends, no place, and both halves of the sheet that waits.
-- Assumes nothing.
use mathlib.Core.Path.{◌≡◌, refl, sym, ap, ap₂, ◌∙◌}
use mathlib.Core.Bool.{Bool, true, false, not, cond}
use Prim.Native.Nat.{ℕ, suc, ◌+◌, ◌-◌, ◌/◌, ◌≤◌, ◌<◌}
use native.Mathlib.Nat.{div-eq_of_lt, div-eq-sub-div}
use native.Mathlib.Numerals.{add-one}
use native.Mathlib.Omega.{arith}
use lib.ListN.{length, take, drop, length-drop}
use lib.Seq.{drop-cons, take_all}
use Rattle.formula.specs.Tree.{Quantifier, and, or, same_op, exists, Prefix, Formula}
use Rattle.formula.specs.Solve.{ended, Fits}
use Rattle.formula.specs.Force.{owner}
use Rattle.formula.specs.Decide.{half, decided, no_place, spent, Decision, ends_split, split, decide}
use Rattle.formula.proofs.Decide.More.{decide_ended}
use Rattle.sheet.specs.Format.{Bytes, row, fits}
use Rattle.sheet.specs.Sheet.{binding}
use Rattle.sheet.specs.Trace.{room}
use Rattle.sheet.specs.Decide.{places}
use Rattle.rows.specs.Formats.{format_of}
use Rattle.rows.specs.Layouts.{format_in, size}
use Rattle.rows.specs.Formulas.{prefix_in, formula_in, Readable}
use Rattle.rows.specs.declared.Format.{Format}
use Rattle.rows.specs.declared.Layout.{Layout}
use Rattle.rows.proofs.Formulas.{length_prefix}
use Rattle.prefixes.specs.Places.{binding_at, binding_in}
use Rattle.solve.specs.declared.Verdict.{Verdict}
use Rattle.solve.specs.declared.Verdict.TheVariants.{True, False}
use Rattle.solve.specs.Answers.{verdict_of}
use Rattle.solve.specs.Inner.Running.{RawReady, solution}
use Rattle.decide.specs.declared.search.Outcome as code
use Rattle.decide.specs.Answers.{outcome_of}
use Rattle.decide.specs.Inner.Waiting.{Halved}
use Rattle.decide.specs.Inner.Running.{Stops}
use Rattle.decide.specs.Inner.Searching.{found, Branches, halves, branched, one_more, both}
use Rattle.formula.proofs.Decide.Budget.{decide_most, decide_spent, decide_stuck, decide_splits}
use Rattle.decide.proofs.Halving.{some_bytes, waiting_formula, waiting_kept}

-- places

no_places : {len most : ℕ} → len < most → places len most ≡ 0
no_places h = div-eq_of_lt h

place_more : {len most : ℕ} → 1 ≤ most → most ≤ len → places len most ≡ suc (places (len - most) most)
place_more {len} {most} some h = div-eq-sub-div some h ∙ add-one ((len - most) / most)

-- the part of the stack that is lent
pub lent_length : (place : ℕ) (stack : Bytes) → length (take (length stack - place) (drop place stack)) ≡ length stack - place
lent_length place stack =
    ap length (take_all (length stack - place) (drop place stack) (omega (arith, length-drop place stack))) ∙ length-drop place stack

-- the first half's outcome

ends_at_true : (q : Quantifier) → same_op exists q ≡ ends_split q (decided true)
unfolding ends_split
ends_at_true or = refl
ends_at_true and = refl

ends_at_false : (q : Quantifier) → not (same_op exists q) ≡ ends_split q (decided false)
unfolding ends_split
ends_at_false or = refl
ends_at_false and = refl

module _ {t : Layout} {b : Bytes} (ok : Readable t b) (some : 0 < t.variables) {existential : Bool}
    (is : existential ≡ same_op exists (binding_in t b 0).quantifier) {o : code.Outcome} {v : Verdict} (e : o ≡ code.TheVariants.Decided v) where
  q : Quantifier
  q = owner (prefix_in t b)

  first_owner : (binding_in t b 0).quantifier ≡ q
  unfolding q owner binding_at
  first_owner = sym (ap owner (drop-cons (prefix_in t b) 0 (binding (row 0 0)) (omega (arith, some, length_prefix b ok))))

  pub ends_true : v ≡ True → existential ≡ ends_split (owner (prefix_in t b)) (outcome_of o)
  unfolding q
  ends_true k =
      is ∙ ap (same_op exists) first_owner ∙ ends_at_true q ∙
      ap (λ (w : Verdict). ends_split q (decided (verdict_of w))) (sym k) ∙ ap (λ (x : code.Outcome). ends_split q (outcome_of x)) (sym e)

  pub ends_false : v ≡ False → not existential ≡ ends_split (owner (prefix_in t b)) (outcome_of o)
  unfolding q
  ends_false k =
      ap not (is ∙ ap (same_op exists) first_owner) ∙ ends_at_false q ∙
      ap (λ (w : Verdict). ends_split q (decided (verdict_of w))) (sym k) ∙ ap (λ (x : code.Outcome). ends_split q (outcome_of x)) (sym e)

-- both halves

halves_most : (fits : Fits) (n : ℕ) (g : Formula) (budget : ℕ) → (halves fits n g budget).runs ≤ budget
unfolding halves split
halves_most fits n g budget = by (ends_split (owner g.prefix) (decide fits n budget (half false g)).outcome)
  where
    zero-half : Decision
    zero-half = decide fits n budget (half false g)

    one_half : Decision
    one_half = decide fits n (budget - zero-half.runs) (half true g)

    few : zero-half.runs + one_half.runs ≤ budget
    few = omega (arith, decide_most fits n budget (half false g), decide_most fits n (budget - zero-half.runs) (half true g))

    by : (m : Bool) → (cond m zero-half (record { outcome = one_half.outcome; runs = zero-half.runs + one_half.runs })).runs ≤ budget
    by true = decide_most fits n budget (half false g)
    by false = few

pub branched_most : (most : ℕ) (t : Layout) (stack : Bytes) (budget : ℕ) → (branched most t stack budget).runs ≤ budget
branched_most most t stack budget = halves_most (fits (format_in t) most) (places (length stack - most) most) (formula_in t stack) budget

-- no more runs than the budget
pub decided_most : (fits : Fits) (n budget : ℕ) (g : Formula) {d : Decision} → d ≡ decide fits n budget g → d.runs ≤ budget
decided_most fits n budget g e = omega (arith, ap (λ (d : Decision). d.runs) e, decide_most fits n budget g)

-- a search

module _ (s : Layout) (first second : Bytes) (len : ℕ) where
  abbrev most : ℕ
  most = room first second

  abbrev all : Fits
  all = fits (format_in s) most

  abbrev f : Formula
  f = formula_in s first

  pub seek_spent : {budget : ℕ} → budget ≡ 0 → {d : Decision} → d ≡ record { outcome = spent; runs = 0 } → d ≡ found s first second len budget
  seek_spent {budget} h e =
      e ∙ sym (decide_spent all (places len most) f) ∙ ap (λ (k : ℕ). decide all (places len most) k f) (sym h)

  module _ {budget : ℕ} (some : 1 ≤ budget) where
    pub seek_ended : {v : Bool} → (solution s first second).end ≡ ended v → {d : Decision} → d ≡ record { outcome = decided v; runs = 1 }
        → d ≡ found s first second len budget
    seek_ended {v} h e = e ∙ sym (decide_ended all (places len most) budget f v some h)

    less : suc (budget - 1) ≡ budget
    less = omega arith

    module _ {first' : Bytes} {t : Layout} (st : Stops s first second first' t) where
      pub seek-stuck : len < most → {d : Decision} → d ≡ record { outcome = no_place; runs = 1 } → d ≡ found s first second len budget
      seek-stuck h e =
          e ∙ sym (decide_stuck all (budget - 1) f st.variable st.stops) ∙
          ap₂ (λ (p k : ℕ). decide all p k f) (sym (no_places h)) less

      some-place : 1 ≤ most
      some-place = omega (arith, some_bytes t, st.waiting.has_room)

      module _ (h : most ≤ len) (stack : Bytes) (long : length stack ≡ len) (front : take (size t) stack ≡ take (size t) first') where
        inside : size t ≤ length stack
        inside = omega (arith, st.waiting.has_room, h, long)

        pub branches : Branches most t stack
        branches = record { waiting = waiting_kept stack st.waiting inside front; has_place = omega (arith, h, long) }

        its_formula : formula_in t stack ≡ (solution s first second).state.formula
        its_formula = waiting_formula stack st.waiting inside front ∙ st.is_reached

        pub seek-branches : {d : Decision} → d ≡ one_more (branched most t stack (budget - 1)) → d ≡ found s first second len budget
        unfolding halves
        seek-branches e =
            e ∙
            ap₂ (λ (G : Format) (g : Formula).
            one_more (halves (fits (format_of G) most) (places (length stack - most) most) g (budget - 1))) st.same_format its_formula ∙
            ap (λ (n : ℕ). one_more (halves all (places (n - most) most) (solution s first second).state.formula (budget - 1))) long ∙
            sym (decide_splits all (places (len - most) most) (budget - 1) f st.variable st.stops) ∙
            ap₂ (λ (p k : ℕ). decide all p k f) (sym (place_more some-place h)) less

-- a half

module _ {t u : Layout} {b out : Bytes} {v : Bool} (h : Halved t b v u out) (second : Bytes) {most : ℕ} (same : room out second ≡ most)
    (fit : size t ≤ most) where
  pub half_ready : RawReady u out second
  half_ready = record { raw = h.raw; within = h.within; has_room = omega (arith, same, h.shorter, fit) }

  pub half-found : {g : Formula} → formula_in t b ≡ g → {len n : ℕ} → len ≡ n → (budget : ℕ)
      → found u out second len budget ≡ decide (fits (format_in t) most) (places n most) budget (half v g)
  half-found {g} e {len} {n} l budget =
      ap₂ (λ (k m : ℕ). decide (fits (format_in u) k) (places m k) budget (formula_in u out)) same l ∙
      ap₂ (λ (G : Format) (x : Formula). decide (fits (format_of G) most) (places n most) budget x) h.same_format
      (h.is_half ∙ ap (half v) e)

module _ (most : ℕ) (t : Layout) (stack : Bytes) (budget : ℕ) where
  abbrev pub zeroth : Decision
  zeroth = decide (fits (format_in t) most) (places (length stack - most) most) budget (half false (formula_in t stack))

  abbrev oneth : ℕ → Decision
  oneth runs = decide (fits (format_in t) most) (places (length stack - most) most) (budget - runs) (half true (formula_in t stack))

  split_by : Bool → Decision → Decision
  split_by m z = cond m z (both z (oneth z.runs))

  -- as code has it: the owner of the first row, read again
  module _ {later : Prefix} (same : later ≡ (formula_in t stack).prefix) {z : Decision} (e : z ≡ zeroth) {ends : Bool}
      (is : ends ≡ ends_split (owner later) z.outcome) where
    told : ends_split (owner (formula_in t stack).prefix) zeroth.outcome ≡ ends
    told = sym (is ∙ ap₂ (λ (p : Prefix) (d : Decision). ends_split (owner p) d.outcome) same e)

    pub branch-early : ends ≡ true → z ≡ branched most t stack budget
    unfolding halves split split_by
    branch-early h = e ∙ ap (λ (m : Bool). split_by m zeroth) (sym (told ∙ h))

    pub branch-both : ends ≡ false → {o d : Decision} → o ≡ oneth z.runs → d ≡ both z o → d ≡ branched most t stack budget
    unfolding halves split split_by
    branch-both h {o} k j =
        j ∙ ap (both z) k ∙ ap (λ (x : Decision). both x (oneth x.runs)) e ∙ ap (λ (m : Bool). split_by m zeroth) (sym (told ∙ h))

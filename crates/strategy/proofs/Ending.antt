-- From Solve's verdict to the second run, and from its draft to the answer.
-- Assumes nothing.
use mathlib.Core.Path.{◌≡◌, refl, sym, ap, ap₂, ◌∙◌, subst, subst₂}
use mathlib.Core.Bool.{Bool, true, false, cond}
use mathlib.Core.List.{[], ◌∷◌, ◌++◌, map}
use Prim.Native.Nat.{ℕ, suc, ◌+◌, ◌*◌, ◌-◌, ◌≤◌, ◌<◌, min}
use native.Mathlib.Omega.{arith}
use lib.Dec.{leb}
use lib.ListN.{length, take, replicate}
use borrow.Author.Tests.{ltb-false, lt-leb, le-leb, leb-true}
use Rattle.formula.specs.Tree.{Quantifier, Formula, rows}
use Rattle.formula.specs.Tidy.{tidied}
use Rattle.formula.specs.Solve.{Run, ended, run, solve}
use Rattle.formula.specs.Strategy.{winner, left, strategy, run_moves, solve_moves, solve_strategy}
use Rattle.formula.proofs.Booleans.{and_parts}
use Rattle.formula.proofs.Tidy.Growth.{rows-tidy}
use Rattle.formula.proofs.Steps.{proper_tidied}
use Rattle.formula.proofs.Strategy.Function.{rows_some}
use Rattle.sheet.specs.Format as sheet
use Rattle.sheet.specs.Format.{Bytes, row, sheet_length, fits}
use Rattle.sheet.specs.Sheet.{formula, binding_row, formula_rows, sheet}
use Rattle.sheet.specs.Check.{Answer, refused, accepted, answer, check_tests}
use Rattle.sheet.specs.Operations.{padded, tidy_tests, is_refused, is_stopped, is_ended, Solving, solving, solve_call}
use Rattle.sheet.specs.Limits.{Within}
use Rattle.sheet.specs.Trace.{room}
use Rattle.sheet.specs.Strategy.{fits_output, strategy_refused, strategy_stopped, strategy_written, strategy_too_long, strategy_formula}
use Rattle.sheet.specs.Strategy.{winning, strategy_answer, strategy_output, Winning, strategy_call}
use Rattle.sheet.proofs.Tests.{passed-∷, passed-++, accepted_passes}
use Rattle.sheet.proofs.Accepted.{accepted_length, accepted_variables, accepted_nodes, accepted_within}
use Rattle.sheet.proofs.Placed.{sheet_length-least}
use Rattle.sheet.proofs.RoundTrip.{length-sheet, length-formula_rows}
use Rattle.sheet.proofs.Verdicts.{run_ended}
use Rattle.rows.specs.Formats.{format_of}
use Rattle.rows.specs.Layouts.{format_in, width, total, rows_in, Room, sealed}
use Rattle.rows.specs.Formulas.{prefix_in, formula_in, layout_for}
use Rattle.rows.specs.declared.Format.{Format}
use Rattle.rows.specs.declared.Layout.{Layout}
use Rattle.rows.proofs.Sealed.{front_length, front-sealed}
use Rattle.checking.specs.Sheets.{Sheet}
use Rattle.checking.proofs.CheckedSheets.{sheet_readable, sheet-formula_in}
use Rattle.substitution.specs.declared.Target.{Target}
use Rattle.pairs.specs.Pairs.{pair_rows}
use Rattle.pairs.proofs.Rows.{strategy-rows}
use Rattle.solve.specs.declared.State.{State}
use Rattle.solve.specs.Inner.Running.{Held, reached, run_from}
use Rattle.solve.proofs.Holding.{hold}
use Rattle.solve.proofs.Answering.{within-tidied}
use Rattle.strategy.specs.Inner.Drafts.{MostNodes, Draftable}
use Rattle.strategy.specs.Inner.Walking.{pairs_from}
use Rattle.strategy.specs.Inner.Ending.{run_in, left_in, winning_in, StrategyReady, StrategyDrafted, outcome_told, StrategyEnded}
use Rattle.strategy.specs.declared.Outcome.{Outcome}
use Rattle.strategy.specs.declared.Outcome.TheVariants.{Written, TooLong}
use Rattle.strategy.proofs.Counting.{solve_strategy_counts}

-- what a verdict of Solve shows: the sheet is no longer than the room, and the buffers hold what the run leaves
pub record EndedCall (F : sheet.Format) (b first second : Bytes) (v : Bool) : Type 0 where
  pub short : length b ≤ room first second
  pub ends : (solve (fits F (room first second)) (formula F b)).end ≡ ended v
  pub in_first : (solve_call F b first second).first ≡ padded (length first) (sheet F (solve (fits F (room first second)) (formula F b)).state.formula)
  pub in_second : (solve_call F b first second).second ≡ replicate (length second) 0

pub ended_call : (F : sheet.Format) (b first second : Bytes) (v : Bool) (settled expanded : ℕ)
    → (solve_call F b first second).answer ≡ is_ended v settled expanded → EndedCall F b first second v
unfolding solve_call solving tidy_tests
ended_call F b first second v settled expanded h = by (answer (tidy_tests F b (room first second)) whole) refl h
  where
    whole : Run
    whole = solve (fits F (room first second)) (formula F b)

    by : (a : Answer Run) → answer (tidy_tests F b (room first second)) whole ≡ a
        → (solving F first second a).answer ≡ is_ended v settled expanded → EndedCall F b first second v
    by (refused n i) e k = let z : ◌≡◌ {A = ℕ} 0 1 = cc in absurd (omega arith)
    by (accepted r) e k =
        let p = accepted_passes (tidy_tests F b (room first second)) whole r e in
        let fails = (passed-∷ _ _ (passed-++ (check_tests F b) _ p.0).1).0 in
        record {
          short = ltb-false (room first second) (length b) fails;
          ends = (run_ended F b first second v settled expanded h).1;
          in_first =
              ap (λ (a : Answer Run). (solving F first second a).first) e ∙
              ap (λ (u : Run). padded (length first) (sheet F u.state.formula)) (sym p.1);
          in_second = ap (λ (a : Answer Run). (solving F first second a).second) e;
        }

-- the second run, from the tidied sheet

module _ {s : Layout} {b : Bytes} {most : ℕ} {v : Bool} (ready : StrategyReady s b most v) where
  abbrev F : sheet.Format
  F = format_in s

  abbrev g : Formula
  g = formula F b

  within : Within F g
  within = accepted_within F b ready.is_sheet.tests_pass

  same_prefix : prefix_in s b ≡ g.prefix
  unfolding formula_in
  same_prefix = ap (λ (f : Formula). f.prefix) (sheet-formula_in ready.is_sheet)

  pub few_variables : s.variables ≤ 1024
  few_variables = (sheet_readable ready.is_sheet).few_variables

  variables_are : length g.prefix ≡ s.variables
  variables_are = accepted_variables F b ready.is_sheet.tests_pass ∙ sym (ap (λ (l : Layout). l.variables) ready.is_sheet.layout_is)

  tidied_short : length (sheet F (tidied g)) ≤ most
  unfolding tidied
  tidied_short =
      let ok = ready.is_sheet.tests_pass in
      omega (
        arith,
        length-sheet F (tidied g),
        sheet_length-least F {v = length g.prefix} {v' = length g.prefix} (omega arith) (rows-tidy g.matrix),
        ap₂ (sheet_length F) (accepted_variables F b ok) (accepted_nodes F b ok),
        accepted_length F b ok,
        ready.short,
      )

  module _ (first : Bytes) (l : most ≤ length first) {new : Bytes} (New-is : new ≡ padded (length first) (sheet F (tidied g))) {t : Layout}
      (at : t ≡ layout_for s.format (tidied g)) where
    abbrev start : State
    start = record { sheet = t; settled = 0; expanded = 0 }

    started : (formula_in t new ≡ tidied g) × Held most t new
    started =
        hold s.format (tidied g) (within-tidied F g within) (length first) (proper_tidied g within.is_distinct within.is_closed).is_neat
        tidied_short l at New-is

    pub start-held : Held most t new
    start-held = started.1

    same_variables : t.variables ≡ length g.prefix
    unfolding tidied
    same_variables = ap (λ (u : Layout). u.variables) at

    pub start-few : t.variables ≤ 1024
    start-few = omega (arith, same_variables, variables_are, few_variables)

    pub start-format : t.format ≡ s.format
    start-format = ap (λ (u : Layout). u.format) at

    start-run : run_from most start new ≡ run_in s b most
    unfolding solve
    start-run =
        ap (λ (h : Format). run (fits (format_of h) most) (suc t.variables) (reached start new)) start-format ∙
        ap₂ (λ (k : ℕ) (f : Formula). run (fits F most) (suc k) (record { formula = f; settles = 0; expands = 0 })) same_variables started.0

    pub start-ends : (run_from most start new).end ≡ ended v
    start-ends = ap (λ (r : Run). r.end) start-run ∙ ready.ends

    pub start_left : {after : Bytes} (len : ℕ) → after ≡ padded len (sheet (format_in t) (run_from most start new).state.formula) → len ≡ length first
        → after ≡ left_in s b most (length first)
    start_left len e same =
        e ∙ ap₂ (λ (h : Format) (r : Run). padded len (sheet (format_of h) r.state.formula)) start-format start-run ∙
        ap (λ k. left_in s b most k) same

    start-pairs : (q : Quantifier) → pairs_from q most start new ≡ solve_strategy (fits F most) q g
    unfolding solve_strategy solve_moves
    start-pairs q =
        ap (λ (h : Format). strategy q (run_moves (fits (format_of h) most) (suc t.variables) (reached start new)) (formula_in t new)) start-format ∙
        ap₂ (λ (k : ℕ) (f : Formula). strategy q (run_moves (fits F most) (suc k) (record { formula = f; settles = 0; expands = 0 })) f) same_variables started.0

    -- the front and the pairs are the rows of the strategy's formula
    pub start-rows : {n : ℕ} → n ≡ length (left (winner v) (prefix_in s b))
        → (map binding_row (prefix_in s b) ++ (row 6 n ∷ [])) ++ pair_rows (pairs_from (winner v) most start new) ≡ formula_rows (winning_in s b most v)
    start-rows {n} e =
        ap₂ (λ p h. (map binding_row p ++ (row 6 n ∷ [])) ++ pair_rows h) same_prefix (start-pairs (winner v)) ∙
        strategy-rows g.prefix (solve_strategy (fits F most) (winner v) g)
        (e ∙ ap (λ p. length (left (winner v) p)) same_prefix ∙
        sym (solve_strategy_counts (winner v) (fits F most) g within.is_distinct within.is_closed))

-- a layout with as many nodes as fit

pub most_draftable : (f : Format) {v most len : ℕ} → MostNodes (format_of f) len v most → v ≤ 1024 → most ≤ 8192
    → Draftable (record { format = f; variables = v; nodes = most }) len
unfolding fits sheet_length
most_draftable f {v} {most} {len} m few fewer =
    record {
      room =
          λ some.
          let F = format_of f in
          let fit = m most some ∙ le-leb most most (omega arith) in
          let parts = and_parts (leb most F.most_nodes) (leb (sheet_length F v most) len) fit in
          record { holds = leb-true (sheet_length F v most) len parts.1 };
      few_rows = omega arith;
    }

-- the draft, written or not

module _ {s : Layout} {b : Bytes} {most : ℕ} {v : Bool} {old new : Bytes} {to : Target} (ready : StrategyReady s b most v)
    (d : StrategyDrafted s b most v old new to) where
  abbrev W : Formula
  W = winning_in s b most v

  prefix_counted : length W.prefix ≡ s.variables
  unfolding strategy_formula
  prefix_counted = variables_are ready

  rows_counted : to.at ≡ s.variables + rows W.matrix
  rows_counted = omega (arith, d.drafted.next_row, length-formula_rows W, prefix_counted)

  pub behind : to.layout.variables < to.at
  behind = omega (arith, rows_counted, d.same_variables, rows_some W.matrix)

  nodes_are : rows W.matrix ≡ to.at - to.layout.variables
  nodes_are = omega (arith, rows_counted, d.same_variables)

  fitting : (c : Bool) → leb (to.at - to.layout.variables) to.layout.nodes ≡ c → fits_output (format_in s) (length old) W ≡ c
  fitting c e =
      ap₂ (λ k n. fits (format_in s) (length old) k n) prefix_counted nodes_are ∙
      d.most_nodes (to.at - to.layout.variables) (omega (arith, behind)) ∙ e

  module _ (over : to.layout.nodes < to.at - to.layout.variables) {last : Bytes} (cleared : last ≡ replicate (length old) 0) where
    not-fitting : fits_output (format_in s) (length old) W ≡ false
    not-fitting = fitting false (lt-leb (to.at - to.layout.variables) to.layout.nodes over)

    pub too_long : StrategyEnded s b most v old last (TooLong (to.at - to.layout.variables))
    unfolding strategy_answer strategy_output
    too_long =
        record {
          answers =
              λ n m.
              ap (λ k. strategy_too_long v n m k) (sym nodes_are) ∙
              sym
              (ap (λ (c : Bool). cond c (strategy_written v n m (length (sheet (format_in s) W))) (strategy_too_long v n m (rows W.matrix))) not-fitting);
          leaves =
              λ n m.
              cleared ∙
              sym (ap (λ (c : Bool). cond c (padded (length old) (sheet (format_in s) W)) (replicate (length old) 0)) not-fitting);
        }

  module _ (enough : to.at - to.layout.variables ≤ to.layout.nodes) where
    pub inside : to.at ≤ total to.layout
    inside = omega (arith, behind)

    pub has_room : Room to.layout (length old)
    has_room = d.draftable.room (omega (arith, behind))

    is-fitting : fits_output (format_in s) (length old) W ≡ true
    is-fitting = fitting true (le-leb (to.at - to.layout.variables) to.layout.nodes enough)

    are_rows : take to.at (rows_in to.layout new) ≡ formula_rows W
    are_rows = (d.drafted.laid inside).so_far

    same_count : length W.prefix ≡ to.layout.variables
    same_count = prefix_counted ∙ sym d.same_variables

    all_rows : to.at ≡ to.layout.variables + rows W.matrix
    all_rows = omega (arith, rows_counted, d.same_variables)

    pub written : length new ≡ length old → {last : Bytes} {n : ℕ} → last ≡ sealed to.layout to.at new
        → n ≡ 2 * width to.layout + to.at + width to.layout * to.at → StrategyEnded s b most v old last (Written n)
    unfolding strategy_answer strategy_output
    written same {last} {n} is long =
        record {
          answers =
              λ k m.
              ap (λ l. strategy_written v k m l)
              (long ∙ front_length to.layout new W are_rows same_count all_rows ∙
              ap (λ (f : Format). length (sheet (format_of f) W)) d.same_format) ∙
              sym
              (ap (λ (c : Bool). cond c (strategy_written v k m (length (sheet (format_in s) W))) (strategy_too_long v k m (rows W.matrix))) is-fitting);
          leaves =
              λ k m.
              is ∙ front-sealed to.layout new W are_rows same_count all_rows ∙
              ap₂ (λ (f : Format) (l : ℕ). padded l (sheet (format_of f) W)) d.same_format same ∙
              sym (ap (λ (c : Bool). cond c (padded (length old) (sheet (format_in s) W)) (replicate (length old) 0)) is-fitting);
        }

-- what is answered and left after a call, from Solve's

module _ (F : sheet.Format) (b first second out : Bytes) where
  abbrev strategies : Bool → Formula
  strategies = winning (fits F (room first second)) (formula F b)

  abbrev from_solving : Solving → Winning
  from_solving s =
      record {
        answer = strategy_answer F (length out) strategies s.answer;
        first = s.first;
        second = s.second;
        output = strategy_output F out strategies s.answer;
      }

  call_from : {w : Solving} → w ≡ solve_call F b first second → from_solving w ≡ strategy_call F b first second out
  unfolding strategy_call
  call_from e = ap (λ (s : Solving). from_solving s) e

  pub refused_strategy : {n i : ℕ} {p q : Bytes} → record { answer = is_refused n i; first = p; second = q } ≡ solve_call F b first second
      → record { answer = strategy_refused n i; first = p; second = q; output = out } ≡ strategy_call F b first second out
  unfolding strategy_answer strategy_output
  refused_strategy e = call_from e

  pub stopped_strategy : {x n m : ℕ} {p q last : Bytes} → record { answer = is_stopped x n m; first = p; second = q } ≡ solve_call F b first second
      → last ≡ replicate (length out) 0
      → record { answer = strategy_stopped x n m; first = p; second = q; output = last } ≡ strategy_call F b first second out
  unfolding strategy_answer strategy_output
  stopped_strategy {x} {n} {m} {p} {q} e zeros =
      ap (λ (o : Bytes). record { answer = strategy_stopped x n m; first = p; second = q; output = o }) zeros ∙ call_from e

-- a verdict v, with its counts, and what the second run makes of the buffers p and q that Solve left
module _ (s : Layout) (b first second : Bytes) {p q : Bytes} {v : Bool} {n m : ℕ}
    (e : record { answer = is_ended v n m; first = p; second = q } ≡ solve_call (format_in s) b first second)
    (same_first : length p ≡ length first) (same_second : length q ≡ length second) where
  same_room : room p q ≡ room first second
  same_room = ap₂ min same_first same_second

  shown : EndedCall (format_in s) b first second v
  shown = ended_call (format_in s) b first second v n m (ap (λ (w : Solving). w.answer) (sym e))

  pub ended_ready : Sheet s.format b s → {x : Bool} → x ≡ v → StrategyReady s b (room p q) x
  ended_ready h {x} same =
      subst (λ k. StrategyReady s b k x) (sym same_room)
      (record { is_sheet = h; short = shown.short; ends = shown.ends ∙ ap ended (sym same) })

  pub ended_strategy : (out : Bytes) {x : Bool} → x ≡ v → {o : Outcome} {first' second' last : Bytes} → StrategyEnded s b (room p q) x out last o
      → first' ≡ left_in s b (room p q) (length p) → second' ≡ replicate (length q) 0
      → record { answer = outcome_told o v n m; first = first'; second = second'; output = last } ≡
      strategy_call (format_in s) b first second out
  ended_strategy out same {o} {first'} {second'} {last} given in_first in_second =
      let Ended-so = subst₂ (λ k x. StrategyEnded s b k x out last o) same_room same given in
      let first_is : first' ≡ p
      = in_first ∙ ap₂ (λ k l. left_in s b k l) same_room same_first ∙ sym shown.in_first ∙ ap (λ (w : Solving). w.first) (sym e) in
      let second_is : second' ≡ q
      = in_second ∙ ap (λ k. replicate k 0) same_second ∙ sym shown.in_second ∙ ap (λ (w : Solving). w.second) (sym e) in
      ap₂ (λ a l. record { answer = a; first = first'; second = second'; output = l }) (Ended-so.answers n m) (Ended-so.leaves n m) ∙
      ap₂
      (λ f g. record {
        answer = strategy_answer (format_in s) (length out) (winning_in s b (room first second)) (is_ended v n m);
        first = f;
        second = g;
        output = strategy_output (format_in s) out (winning_in s b (room first second)) (is_ended v n m);
      })
      first_is second_is ∙
      call_from (format_in s) b first second out e

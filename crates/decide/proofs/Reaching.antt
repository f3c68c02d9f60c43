-- What a run leaves in the first buffer: the sheet that it reached, of the layout that its first bytes say.
-- Assumes nothing.
use mathlib.Core.Path.{◌≡◌, sym, ap, ap₂, ◌∙◌}
use mathlib.Core.Bool.{Bool}
use mathlib.Core.List.{◌++◌}
use Prim.Native.Nat.{ℕ, ◌+◌, ◌-◌, ◌≤◌}
use native.Mathlib.Nat.{mul-le-mul_left}
use native.Mathlib.Omega.{arith}
use lib.ListN.{length, take, drop, replicate, length-drop}
use lib.Seq.{take-append-le, drop-append-le}
use Rattle.formula.specs.Tree.{Formula, rows}
use Rattle.formula.specs.Solve.{State, End, ended, stopped, Run}
use Rattle.sheet.specs.Format as sheet
use Rattle.sheet.specs.Format.{Bytes, number, header, sheet_length, fits, variables, nodes}
use Rattle.sheet.specs.Sheet.{sheet}
use Rattle.sheet.specs.Operations.{padded, Solved, is_stopped, is_ended, solved, Solving, solving}
use Rattle.sheet.specs.Limits.{Within}
use Rattle.sheet.specs.Trace.{room}
use Rattle.sheet.proofs.RoundTrip.{variables-sheet, nodes-sheet, length-sheet, length-formula_rows}
use Rattle.sheet.proofs.Placed.{Placed, solve_placed}
use Rattle.rows.specs.Formats.{format_of}
use Rattle.rows.specs.Layouts.{format_in, total}
use Rattle.rows.specs.Formulas.{formula_in, layout_of, layout_for}
use Rattle.rows.specs.declared.Format.{Format}
use Rattle.rows.specs.declared.Layout.{Layout}
use Rattle.rows.proofs.Layouts.{length-rows_in}
use Rattle.rows.proofs.Limits.{sound}
use Rattle.solve.specs.Inner.Running.{RawReady, solution, raw_call}
use Rattle.solve.proofs.Holding.{padded_readable, padded-formula}
use Rattle.formula.proofs.Decide.Right.{reached}
use Rattle.decide.specs.Inner.Waiting.{Waiting}
use Rattle.decide.specs.Inner.Running.{Stops}

-- sizes in the first bytes, whatever is behind them

variables-front : (F : sheet.Format) (b c : Bytes) → header F ≤ length b → variables F (b ++ c) ≡ variables F b
unfolding variables
variables-front F b c h = ap number (take-append-le F.width b c (omega arith))

nodes-front : (F : sheet.Format) (b c : Bytes) → header F ≤ length b → nodes F (b ++ c) ≡ nodes F b
unfolding nodes
nodes-front F b c h =
    ap (λ (d : Bytes). number (take F.width d)) (drop-append-le F.width b c (omega arith)) ∙
    ap number (take-append-le F.width (drop F.width b) c (omega (arith, length-drop F.width b)))

module _ (f : Format) (g : Formula) (h : Within (format_of f) g) (len : ℕ) where
  abbrev G : sheet.Format
  G = format_of f

  long_enough : header G ≤ length (sheet G g)
  unfolding sheet_length
  long_enough = omega (arith, length-sheet G g)

  -- the layout of a formula's sheet with zeros behind it
  pub layout_padded : layout_of f (padded len (sheet G g)) ≡ layout_for f g
  unfolding padded
  layout_padded =
      ap₂ (λ (v n : ℕ). record { format = f; variables = v; nodes = n })
      (variables-front G (sheet G g) (replicate (len - length (sheet G g)) 0) long_enough ∙ variables-sheet G (sound f) g h)
      (nodes-front G (sheet G g) (replicate (len - length (sheet G g)) 0) long_enough ∙ nodes-sheet G (sound f) g h)

-- the end of a run, from its answer

ended_end : (e : End) (s : State) {v : Bool} {n m : ℕ} → is_ended v n m ≡ solved e s → e ≡ ended v
unfolding solved
ended_end (ended w) s {v} h = let k : w ≡ v = cc in ap ended k
ended_end (stopped x) s h = let z : ◌≡◌ {A = ℕ} 0 1 = cc in absurd (omega arith)

stopped_end : (e : End) (s : State) {x n m : ℕ} → is_stopped x n m ≡ solved e s → e ≡ stopped x
unfolding solved
stopped_end (ended w) s h = let z : ◌≡◌ {A = ℕ} 0 1 = cc in absurd (omega arith)
stopped_end (stopped y) s {x} h = let k : y ≡ x = cc in ap stopped k

module _ {s : Layout} {first second : Bytes} (r : RawReady s first second) {a : Solved} {first' second' : Bytes}
    (ran : record { answer = a; first = first'; second = second' } ≡ raw_call s first second) where
  abbrev F : sheet.Format
  F = format_in s

  abbrev f : Formula
  f = formula_in s first

  abbrev run : Run
  run = solution s first second

  abbrev g : Formula
  g = run.state.formula

  answers : a ≡ solved run.end run.state
  unfolding raw_call solving
  answers = ap (λ (x : Solving). x.answer) ran

  shows : first' ≡ padded (length first) (sheet F g)
  unfolding raw_call solving
  shows = ap (λ (x : Solving). x.first) ran

  pub run_ended : {v : Bool} {n m : ℕ} → a ≡ is_ended v n m → run.end ≡ ended v
  run_ended e = ended_end run.end run.state (sym e ∙ answers)

  -- the formula reached has its place
  placed : Placed F (room first second) g
  unfolding sheet_length
  placed =
      let counted = sym (length-formula_rows f) ∙ ap length r.raw.is_formula ∙ length-rows_in first r.raw.room in
      solve_placed F (room first second) f
      (record {
        within = r.within;
        has_place =
            omega (
              arith,
              mul-le-mul_left {m = length f.prefix + rows f.matrix} {n = total s} (1 + F.width) (omega (arith, counted)),
              r.has_room,
            );
      })

  module _ {t : Layout} (at : t ≡ layout_of s.format first') where
    its-layout : t ≡ layout_for s.format g
    its-layout = at ∙ ap (layout_of s.format) shows ∙ layout_padded s.format g placed.within (length first)

    is_reached : formula_in t first' ≡ g
    is_reached = ap₂ formula_in its-layout shows ∙ padded-formula s.format g placed.within (length first)

    same_format : t.format ≡ s.format
    same_format = ap (λ (l : Layout). l.format) its-layout

    waits : (x : ℕ) → run.end ≡ stopped x → Waiting (room first second) t first'
    unfolding sheet_length
    waits x e =
        let two = reached (fits F (room first second)) f x r.within.is_distinct r.within.is_closed e in
        record {
          readable = rw (its-layout, shows) (padded_readable s.format g placed.within (length first));
          within = rw (is_reached, same_format) placed.within;
          has_room = rw its-layout (omega (arith, placed.has_place));
          some_row = rw its-layout (omega (arith, two.two));
        }

    pub run-stopped : {x n m : ℕ} → a ≡ is_stopped x n m → Stops s first second first' t
    run-stopped {x} e =
        let end = stopped_end run.end run.state (sym e ∙ answers) in
        record { variable = x; stops = end; waiting = waits x end; is_reached = is_reached; same_format = same_format }

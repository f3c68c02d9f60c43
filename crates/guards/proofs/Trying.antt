-- A run entered with a part of the children, and its word.
-- Assumes nothing.
use mathlib.Core.Path.{◌≡◌, refl, sym, ap, ap₂, ◌∙◌, subst, subst₂}
use mathlib.Core.Bool.{true, false}
use mathlib.Core.List.{List}
use Prim.Native.Nat.{ℕ, ◌+◌, ◌≤◌}
use native.Mathlib.Omega.{arith}
use lib.ListN.{length}
use Rattle.formula.specs.Tree.{Formula}
use Rattle.formula.specs.Solve.{State, End, ended, stopped, solve}
use Rattle.formula.specs.Guards.{conjoined, says}
use Rattle.sheet.specs.Format.{Bytes, Format, fits}
use Rattle.sheet.specs.Sheet.{formula_rows}
use Rattle.sheet.specs.Operations.{solved, Solving, solving}
use Rattle.sheet.specs.Limits.{Within}
use Rattle.sheet.specs.Trace.{room}
use Rattle.rows.specs.Tables.{ROWS, HIGHEST}
use Rattle.rows.specs.Layouts.{format_in, total, size, rows_in}
use Rattle.rows.specs.Formulas.{prefix_in, formula_in}
use Rattle.rows.specs.declared.Layout.{Layout}
use Rattle.rows.proofs.Formulas.{length_prefix, formula_written}
use Rattle.tidying.proofs.Raw.{raw_rows}
use Rattle.solve.specs.Answers.{solved_answer}
use Rattle.solve.specs.Inner.Running.{RawReady, answered, solution, raw_call}
use Rattle.solve.specs.declared.Verdict as verdict
use Rattle.solve.specs.declared.Solved.{Solved}
use Rattle.solve.specs.declared.Solved as answers
use Rattle.guards.specs.declared.selection.Selection.{Selection}
use Rattle.guards.specs.declared.sift.Word.{Word}
use Rattle.guards.specs.Inner.Selections.{guards_in, selection_layout, Tried}
use Rattle.guards.specs.Inner.Sieves.{word_for, Says}
use Rattle.guards.proofs.Writing.{part_size}

-- an answer of a run, in a word
pub word_says : (a : Solved) (e : End) (s : State) → solved_answer a ≡ solved e s → Says (word_for a) e
unfolding solved
word_says (answers.TheVariants.Stopped y n m) (ended v) s h = let z : ◌≡◌ {A = ℕ} 0 1 = cc in absurd (omega arith)
word_says (answers.TheVariants.Stopped y n m) (stopped x) s h = (x, refl)
word_says (answers.TheVariants.Ended verdict.TheVariants.True n m) (ended v) s h = let e : v ≡ true = cc in ap ended e
word_says (answers.TheVariants.Ended verdict.TheVariants.True n m) (stopped x) s h = let z : ◌≡◌ {A = ℕ} 0 1 = cc in absurd (omega arith)
word_says (answers.TheVariants.Ended verdict.TheVariants.False n m) (ended v) s h = let e : v ≡ false = cc in ap ended e
word_says (answers.TheVariants.Ended verdict.TheVariants.False n m) (stopped x) s h = let z : ◌≡◌ {A = ℕ} 0 1 = cc in absurd (omega arith)

module _ {s : Layout} {b : Bytes} {ends ks : List ℕ} {p : Selection} {most : ℕ} (h : Tried s b ends ks p most) (t : Layout) (new second : Bytes)
    (at : t ≡ selection_layout s p) (is : rows_in t new ≡ formula_rows (conjoined (prefix_in s b) (guards_in s b ends ks p.rest)))
    (same : room new second ≡ most) where
  abbrev F : Format
  F = format_in s

  abbrev g : Formula
  g = conjoined (prefix_in s b) (guards_in s b ends ks p.rest)

  variables_are : length g.prefix ≡ t.variables
  variables_are = length_prefix b h.chosen.readable ∙ ap (λ (l : Layout). l.variables) (sym at)

  no_longer : size t ≤ room new second
  no_longer = omega (arith, part_size h.chosen, ap size at, h.has_room, same)

  read : formula_in t new ≡ g
  read = formula_written t new g is variables_are

  few : total t ≤ ROWS + HIGHEST
  few =
      let c = h.chosen in
      omega (arith, ap total at, c.no_more, c.readable.few_variables, c.readable.few_nodes)

  pub part_raw : RawReady t new second
  part_raw =
      record {
        raw = raw_rows t new g is variables_are (record { holds = omega (arith, no_longer) }) few;
        within = subst₂ (λ (l : Layout) (f : Formula). Within (format_in l) f) (sym at) (sym read) h.within;
        has_room = no_longer;
      }

  same_run : solution t new second ≡ solve (fits F most) g
  same_run =
      ap (λ (l : Layout). solve (fits (format_in l) (room new second)) (formula_in t new)) at ∙
      ap₂ (λ (m : ℕ) (f : Formula). solve (fits F m) f) same read

  pub part_said : (a : Solved) {w : Word} {first' second' : Bytes} → w ≡ word_for a
      → record { answer = solved_answer a; first = first'; second = second' } ≡ raw_call t new second
      → Says w (says (fits F most) (prefix_in s b) (guards_in s b ends ks p.rest))
  unfolding says raw_call solving
  part_said a e k =
      let r = solve (fits F most) g in
      subst (λ (w : Word). Says w r.end) (sym e)
      (word_says a r.end r.state (ap (λ (x : Solving). x.answer) k ∙ ap answered same_run))

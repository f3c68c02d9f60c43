-- The sheet reached, widened into the first work buffer, and Solve's run from there.
-- Assumes nothing.
use mathlib.Core.Path.{◌≡◌, sym, ap, ap₂, ◌∙◌, subst}
use Prim.Native.Nat.{ℕ, min}
use native.Mathlib.Omega.{arith}
use lib.ListN.{length, replicate}
use Rattle.formula.specs.Tree.{Formula}
use Rattle.formula.specs.Solve.{Run, solve}
use Rattle.sheet.specs.Format.{Bytes, wide, sheet_length, fits}
use Rattle.sheet.specs.Sheet.{sheet}
use Rattle.sheet.specs.Operations.{padded, Solving, solving}
use Rattle.sheet.specs.Trace.{room}
use Rattle.rows.specs.Formulas.{formula_in, Readable, layout_for}
use Rattle.rows.specs.declared.Format.TheVariants.{Wide}
use Rattle.rows.specs.declared.Layout.{Layout}
use Rattle.rows.proofs.Formulas.{length_prefix, rows-nodes}
use Rattle.conversion.specs.Inner.Rows.{Convertible}
use Rattle.tidying.proofs.Raw.{few_rows}
use Rattle.solve.specs.Inner.Running.{RawReady, answered, shown, solution, raw_call}
use Rattle.solve.proofs.Holding.{padded_readable, padded-formula}
use Rattle.resume.specs.Inner.Going.{Widenable, wide_run, wide_call}

module _ {s : Layout} {b first second : Bytes} (ok : Widenable s b first second) where
  abbrev f : Formula
  f = formula_in s b

  pub convertible : Convertible s b Wide (length first)
  convertible =
      record {
        readable = ok.placed.readable;
        within = ok.placed.within;
        has_room = omega (arith, ok.has_room);
      }

  -- the first buffer, once it holds the wide sheet, of layout t
  module _ {held : Bytes} (e : held ≡ padded (length first) (sheet wide f)) (same : length held ≡ length first) {t : Layout}
      (at : t ≡ layout_for Wide f) where
    abbrev wide-layout : Layout
    wide-layout = layout_for Wide f

    held-formula : formula_in wide-layout held ≡ f
    held-formula = ap (formula_in wide-layout) e ∙ padded-formula Wide f ok.placed.within (length first)

    same_room : room held second ≡ room first second
    same_room = ap (λ n. min n (length second)) same

    pub raw-ready : RawReady t held second
    unfolding sheet_length formula_in
    raw-ready =
        let within = ok.placed.within in
        let read : Readable wide-layout held = rw e (padded_readable Wide f within (length first)) in
        subst (λ (l : Layout). RawReady l held second) (sym at)
        (record {
          raw =
              record {
                room = read.room;
                few_rows = few_rows wide-layout within.few_variables within.few_nodes;
                is_formula = read.is_formula;
              };
          within = rw held-formula within;
          has_room =
              omega (arith, ok.has_room, same, length_prefix b ok.placed.readable, rows-nodes b ok.placed.readable);
        })

    same_run : solution wide-layout held second ≡ wide_run s b first second
    same_run = ap₂ (λ n (g : Formula). solve (fits wide n) g) same_room held-formula

    pub ran-wide : {w : Solving} → w ≡ raw_call t held second → w ≡ wide_call s b first second
    unfolding raw_call solving
    ran-wide h =
        h ∙ ap (λ (l : Layout). raw_call l held second) at ∙
        ap₂ (λ (n : ℕ) (u : Run). record { answer = answered u; first = shown wide n u; second = replicate (length second) 0 }) same same_run

-- From the sheet that a step wrote to the second buffer to the state that the next one starts from.
-- Assumes nothing.
use mathlib.Core.Path.{◌≡◌, sym, ap, ap₂, ◌∙◌, subst}
use mathlib.Core.Bool.{Bool, true, false, ◌&&◌, cond}
use mathlib.Core.List.{List, ◌++◌}
use mathlib.Core.Option.{none, some}
use Prim.Native.Nat.{ℕ, suc, ◌+◌, ◌-◌, ◌≤◌, ◌<◌, ◌^◌}
use native.Mathlib.Nat.{mul-le-mul_left}
use native.Mathlib.Numerals.{add-one}
use native.Mathlib.Omega.{arith}
use lib.ListN.{length, take, drop, replicate, length-append}
use lib.Seq.{drop-append_seam}
use lib.Dec.{leb}
use borrow.Author.Tests.{leb-true, le-leb}
use Rattle.std.specs.Prelude.{Option, Some, None}
use Rattle.formula.specs.Tree.{Formula, of, rows}
use Rattle.formula.specs.Tidy.{is_tidy, verdict}
use Rattle.formula.specs.Settle.{settled}
use Rattle.formula.specs.Expand.{raw_rows, expanded, raw}
use Rattle.formula.specs.Solve.{halt, next, ended, stopped, fits_raw, step}
use Rattle.formula.proofs.Booleans.{and_parts}
use Rattle.formula.proofs.Closed.{length_without}
use Rattle.formula.proofs.Choice.{lowest-chosen, cheapest-chosen}
use Rattle.formula.proofs.Steps.{proper_settled, rows_settled, proper_expanded, rows-expanded}
use Rattle.sheet.specs.Format as sheet
use Rattle.sheet.specs.Format.{Bytes, sheet_length, fits}
use Rattle.sheet.specs.Sheet.{sheet}
use Rattle.sheet.specs.Operations.{padded}
use Rattle.sheet.specs.Limits.{Within}
use Rattle.sheet.proofs.RoundTrip.{length-sheet}
use Rattle.sheet.proofs.Limits.{binds-numbered}
use Rattle.rows.specs.Formats.{format_of}
use Rattle.rows.specs.Layouts.{format_in}
use Rattle.rows.specs.Formulas.{matrix_in, formula_in, layout_for}
use Rattle.rows.specs.declared.Format.{Format}
use Rattle.rows.specs.declared.Layout.{Layout}
use Rattle.rows.proofs.Limits.{limits}
use Rattle.relevance.specs.Raw.{grown_by, copied}
use Rattle.subtrees.specs.declared.relevant.Relevant.{Relevant}
use Rattle.relevance.proofs.Growth.{raw_rows_by}
use Rattle.choice.specs.Settling.{Unsettled}
use Rattle.choice.specs.Expanding.{ToExpand}
use Rattle.relevance.specs.declared.variable.Candidate.{Candidate}
use Rattle.elimination.specs.Steps.{Named, Puts}
use Rattle.elimination.specs.Expanding.{Prepared, Expands}
use Rattle.elimination.specs.declared.settling.Put.{Put}
use Rattle.elimination.specs.declared.survey.Survey.{Survey}
use Rattle.solve.specs.declared.State.{State}
use Rattle.solve.specs.declared.step.Step.TheVariants as taking
use Rattle.solve.specs.Inner.Running.{Held, RunReady, begun, Open, Settles, Fetchable, ZerosBehind, long_in, Stepped, reached}
use Rattle.solve.proofs.Holding.{hold, readable, proper, steppable, variables_are, nodes_are}
use Rattle.solve.proofs.Fetching.{front_part}
use Rattle.solve.proofs.Stepping.{step-ends, step-settles, step-expands, step-stops, variables_left, within-settled, within-expanded, fits_tested}

-- fewer variables and nodes make a shorter sheet
shorter_sheet : (F : sheet.Format) {v n v' n' : ℕ} → v ≤ v' → n ≤ n' → sheet_length F v n ≤ sheet_length F v' n'
unfolding sheet_length
shorter_sheet F {v} {n} {v'} {n'} h l = omega (arith, mul-le-mul_left {m = v + n} {n = v' + n'} (1 + F.width) (omega arith))

-- a formula that a step leads to, whose sheet has its place
pub record Arrives (F : sheet.Format) (most : ℕ) (v : ℕ) (g : Formula) : Type 0 where
  pub variables_left : v ≡ length g.prefix
  pub within : Within F g
  pub is_neat : is_tidy g.matrix ≡ true
  pub short : length (sheet F g) ≤ most

module _ (f : Format) {most v : ℕ} {g : Formula} (a : Arrives (format_of f) most v g) (rest : Bytes) {u : Layout} {c : Bytes}
    (in_second : c ≡ sheet (format_of f) g ++ rest) (at : u ≡ layout_for f g) where
  abbrev bytes : ℕ
  bytes = sheet_length (format_of f) u.variables u.nodes

  long : bytes ≡ length (sheet (format_of f) g)
  long = ap (λ (t : Layout). sheet_length (format_of f) t.variables t.nodes) at ∙ sym (length-sheet (format_of f) g)

  pub fetchable : {d : Bytes} → most ≤ length d → Fetchable bytes d c
  fetchable l =
      record {
        in_first = omega (arith, long, a.short);
        in_second = omega (arith, long, ap length in_second, length-append (sheet (format_of f) g) rest);
      }

  pub arrived : (old : ℕ) {b : Bytes} → most ≤ old → b ≡ padded old (take bytes c) → (formula_in u b ≡ g) × Held most u b
  arrived old room in_first =
      hold f g a.within old a.is_neat a.short room at (in_first ∙ ap (padded old) (front_part (format_of f) g rest in_second long))

-- the step to the next state, once the sheet that a step wrote stands in the first buffer
abbrev GoesTo : ℕ → State → Bytes → Formula → State → Bytes → Type 0
GoesTo most s first g t new = formula_in t.sheet new ≡ g → step (fits (format_in s.sheet) most) (reached s first) ≡ next (reached t new)

pub taken : {most : ℕ} (s t : State) (first : Bytes) {v : ℕ} {g : Formula} (a : Arrives (format_in s.sheet) most v g) (rest : Bytes)
    {c new : Bytes} → c ≡ sheet (format_in s.sheet) g ++ rest → t.sheet ≡ layout_for s.sheet.format g
    → (old : ℕ) → most ≤ old → new ≡ padded old (take (long_in s.sheet t.sheet) c) → GoesTo most s first g t new
    → s.sheet.variables ≡ suc t.sheet.variables → begun t ≡ begun s
    → (second : Bytes) → Stepped most s first second new c (taking.Next t)
taken s t first a rest in_second at old room in_first goes less same second =
    let arrival = arrived s.sheet.format a rest in_second at old room in_first in
    (goes arrival.0, arrival.1, less, same, ap (λ (u : Layout). u.format) at)

-- a raw sheet has at most twice the rows and two
grown_small : (n : ℕ) (p : Option Relevant) → copied p ≤ n → grown_by n p ≤ n + n + 2
grown_small n None h = omega arith
grown_small n (Some p) h = by p.all
  where
    by : (c : Bool) → n + (p.rows + cond c 1 2) ≤ n + n + 2
    by true = omega arith
    by false = omega arith

module _ {most : ℕ} {s : State} {first second : Bytes} (r : RunReady most s first second) where
  abbrev t : Layout
  t = s.sheet

  abbrev F : sheet.Format
  F = format_in t

  abbrev f : Formula
  f = formula_in t first

  pub sheet-room : sheet_length F t.variables t.nodes ≤ most
  sheet-room = omega (arith, r.held.has_room, length-sheet F f ∙ ap₂ (sheet_length F) (sym (variables_are r.held)) (sym (nodes_are r.held)))

  -- its sizes are small enough to compute with
  pub few_rows : (t.variables < 2 ^ 32) × (t.nodes < 2 ^ 32)
  few_rows = (omega (arith, r.few), omega (arith, (readable r.held).few_nodes))

  -- the sheet held, and behind it only zeros
  pub zeros_behind : ZerosBehind (long_in t t) first
  unfolding padded
  zeros_behind =
      let long : long_in t t ≡ length (sheet F f) = sym (length-sheet F f ∙ ap₂ (sheet_length F) (sym (variables_are r.held)) (sym (nodes_are r.held))) in
      record {
        inside = omega (arith, long, r.held.has_room, r.first_room);
        zeros =
            ap₂ drop long r.held.bytes_are ∙ drop-append_seam (sheet F f) (replicate (length first - length (sheet F f)) 0) ∙
            ap (λ n. replicate (length first - n) 0) (sym long);
      }

  pub decided_end : {c : Bool} → verdict (matrix_in t first) ≡ some c → step (fits F most) (reached s first) ≡ halt (ended c)
  unfolding formula_in
  decided_end {c} e = step-ends (fits F most) f s.settled s.expanded c e

  module _ (undecided : Open s first) where
    still-undecided : verdict f.matrix ≡ none
    unfolding formula_in
    still-undecided = undecided

    pub some_left : 0 < t.variables
    some_left = omega (arith, variables_left f (proper r.held) still-undecided, variables_are r.held)

    one_less : (g : Formula) → length f.prefix ≡ suc (length g.prefix) → t.variables - 1 ≡ length g.prefix
    one_less g e = omega (arith, variables_are r.held, e)

    -- Settle

    module _ {p : Put} (here : Settles s first p) where
      abbrev x : ℕ
      x = p.variable

      less : length f.prefix ≡ suc (length (settled x p.value f).prefix)
      unfolding settled
      less = length_without x f.prefix (lowest-chosen f x here.is_lowest).1

      pub settle-room : sheet_length F (t.variables - 1) t.nodes ≤ most
      settle-room = omega (arith, sheet-room, shorter_sheet F {v = t.variables - 1} {n = t.nodes} {v' = t.variables} {n' = t.nodes} (omega arith) (omega arith))

      pub settle-puts : {len : ℕ} → sheet_length F (t.variables - 1) t.nodes ≤ len → Puts t first p len
      unfolding formula_in
      settle-puts l =
          record {
            from = steppable r.held;
            named =
                record {
                  inside = here.inside;
                  row_is = here.at_row;
                  few =
                      omega (
                        arith,
                        (limits t.format).few_variables,
                        binds-numbered F f.prefix x r.held.within.is_numbered (lowest-chosen f x here.is_lowest).1,
                      );
                };
            room = l;
          }

      pub settle-arrives : Arrives F most (t.variables - 1) (settled x p.value f)
      settle-arrives =
          let g = settled x p.value f in
          record {
            variables_left = one_less g less;
            within = within-settled F f x p.value (proper r.held) r.held.within here.is_lowest;
            is_neat = (proper_settled x p.value f (proper r.held)).is_neat;
            short =
                omega (
                  arith,
                  length-sheet F g,
                  sheet-room,
                  shorter_sheet F {v = length g.prefix} {n = rows g.matrix} {v' = t.variables} {n' = t.nodes}
                      (omega (arith, less, variables_are r.held)) (omega (arith, rows_settled x p.value f, nodes_are r.held)),
                );
          }

      pub settle-next : (u : Layout) (new : Bytes) → formula_in u new ≡ settled x p.value f
          → step (fits F most) (reached s first) ≡ next (reached (record { sheet = u; settled = s.settled + 1; expanded = s.expanded }) new)
      settle-next u new e =
          step-settles (fits F most) f s.settled s.expanded still-undecided x p.value here.is_lowest here.value_is ∙
          ap₂ (λ (g : Formula) (a : ℕ). next (record { formula = g; settles = a; expands = s.expanded })) (sym e) (sym (add-one s.settled))

    -- Expand

    module _ (nothing : Unsettled t first) {c : Candidate} (here : ToExpand t first c) where
      abbrev y : ℕ
      y = c.variable

      raw_is : c.raw ≡ raw_rows (of y) f.matrix
      unfolding formula_in
      raw_is = here.raw_is

      pub raw-small : c.raw ≤ 16386
      raw-small =
          let ok = readable r.held in
          let raw = raw_rows_by (of y) first ok {p = c.relevant} here.part_is in
          omega (arith, grown_small t.nodes c.relevant raw.1, raw.0, here.raw_is, ok.few_nodes)

      tested : fits_raw (fits F most) y f ≡ fits F most (t.variables - 1) c.raw
      tested = fits_tested F most f y (variables_are r.held) raw_is

      pub expand-stops : fits F most (t.variables - 1) c.raw ≡ false → step (fits F most) (reached s first) ≡ halt (stopped y)
      expand-stops m =
          step-stops (fits F most) f s.settled s.expanded still-undecided nothing y here.is_cheapest (tested ∙ m)

      pub expand-named : Named t first y c.row
      unfolding formula_in
      expand-named =
          record {
            inside = here.inside;
            row_is = here.at_row;
            few =
                omega (
                  arith,
                  (limits t.format).few_variables,
                  binds-numbered F f.prefix y r.held.within.is_numbered (cheapest-chosen f y here.is_cheapest).1,
                );
          }

      module _ (m : fits F most (t.variables - 1) c.raw ≡ true) where
        pub few-and-short : (c.raw ≤ F.most_nodes) × (sheet_length F (t.variables - 1) c.raw ≤ most)
        unfolding fits
        few-and-short =
            let parts = and_parts (leb c.raw F.most_nodes) (leb (sheet_length F (t.variables - 1) c.raw) most) m in
            (leb-true c.raw F.most_nodes parts.0, leb-true (sheet_length F (t.variables - 1) c.raw) most parts.1)

        fewer : length f.prefix ≡ suc (length (expanded y f).prefix)
        unfolding expanded raw
        fewer = length_without y f.prefix (cheapest-chosen f y here.is_cheapest).1

        pub expand-arrives : Arrives F most (t.variables - 1) (expanded y f)
        expand-arrives =
            let g = expanded y f in
            record {
              variables_left = one_less g fewer;
              within = within-expanded F f y (proper r.held) r.held.within here.is_cheapest (omega (arith, raw_is, few-and-short.0));
              is_neat = (proper_expanded y f (proper r.held)).is_neat;
              short =
                  omega (
                    arith,
                    length-sheet F g,
                    few-and-short.1,
                    shorter_sheet F {v = length g.prefix} {n = rows g.matrix} {v' = t.variables - 1} {n' = c.raw}
                        (omega (arith, fewer, variables_are r.held)) (omega (arith, rows-expanded y f, raw_is)),
                  );
            }

        pub expand-next : (u : Layout) (new : Bytes) → formula_in u new ≡ expanded y f
            → step (fits F most) (reached s first) ≡
            next (reached (record { sheet = u; settled = s.settled; expanded = s.expanded + 1 }) new)
        expand-next u new e =
            step-expands (fits F most) f s.settled s.expanded still-undecided nothing y here.is_cheapest (tested ∙ m) ∙
            ap₂ (λ (g : Formula) (a : ℕ). next (record { formula = g; settles = s.settled; expands = a })) (sym e) (sym (add-one s.expanded))

        -- with what is found for it beforehand
        pub expand-expands : {table : List ℕ} {w : Survey} → Prepared t first y c.row table w
            → {len : ℕ} → sheet_length F (t.variables - 1) c.raw ≤ len → Expands t first y table w len
        unfolding fits
        expand-expands {table} {w} pr {len} l =
            let raw : w.to.layout.nodes ≡ c.raw = ap (λ (l : Layout). l.nodes) pr.layout_is ∙ sym here.raw_is in
            record {
              from = steppable r.held;
              named = rw pr.row_is expand-named;
              prepared = subst (λ (i : ℕ). Prepared t first y i table w) (sym pr.row_is) pr;
              has_room =
                  rw raw
                  (ap₂ ◌&&◌ (le-leb c.raw F.most_nodes few-and-short.0)
                  (le-leb (sheet_length F (t.variables - 1) c.raw) len l));
            }

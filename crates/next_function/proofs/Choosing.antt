-- The variable that is chosen, and the room for its function.
-- Assumes nothing.
use mathlib.Core.Path.{◌≡◌, refl, sym, ap, ap₂, ◌∙◌, subst}
use mathlib.Core.Bool.{Bool, true, false, ◌&&◌, ◌||◌, cond, true≢false, false≢true}
use mathlib.Core.List.{List, [], ◌∷◌}
use mathlib.Core.Option.{Option, none, some}
use Prim.Native.Nat.{ℕ, ◌-◌, ◌≤◌, ◌<◌}
use native.Mathlib.Nat.{le_trans}
use native.Mathlib.Omega.{arith}
use lib.Dec.{eqb, ltb}
use lib.ListN.{length}
use borrow.Author.Tests.{eqb-true, lt-ltb, le-leb}
use Rattle.std.specs.Prelude.{Some, None}
use Rattle.formula.specs.Tree.{Prefix, Formula, of, binds}
use Rattle.formula.specs.Settle.{may_settle}
use Rattle.formula.specs.Solve.{those, earlier, least, is_some, lowest, cheapest}
use Rattle.formula.specs.Strategy.{moved, move_by}
use Rattle.sheet.specs.Format.{Bytes, Format, sheet_length, fits}
use Rattle.sheet.proofs.Placed.{sheet_length-least}
use Rattle.rows.specs.Layouts.{format_in}
use Rattle.rows.specs.Formulas.{prefix_in, matrix_in, formula_in}
use Rattle.rows.specs.declared.Layout.{Layout}
use Rattle.rows.proofs.Formulas.{length_prefix}
use Rattle.prefixes.specs.Places.{place, binding_at}
use Rattle.prefixes.proofs.Places.{binds-place, variable-place}
use Rattle.subtrees.specs.Ends.{Indexed}
use Rattle.occurrences.specs.Occurrences.{Occurrences}
use Rattle.subtrees.specs.Parts.{relevant_subtree}
use Rattle.subtrees.specs.declared.relevant.Relevant.{Relevant}
use Rattle.relevance.specs.Raw.{presence}
use Rattle.relevance.specs.declared.variable.Candidate.{Candidate}
use Rattle.relevance.proofs.Growth.{raw_rows_by}
use Rattle.choice.specs.Settling.{SettleHere, Unsettled}
use Rattle.choice.specs.declared.settle.SettleChoice.{SettleChoice}
use Rattle.choice.specs.Expanding.{ToExpand}
use Rattle.elimination.specs.Steps.{Named}
use Rattle.elimination.specs.Expanding.{Priced, Prepared}
use Rattle.elimination.specs.declared.survey.Survey.{Survey}
use Rattle.response.specs.Inner.Function.{ByConstant, ByCopy}
use Rattle.response.proofs.Functions.{unsettled_occurs}
use Rattle.next_function.specs.Next.{next_move, Choosable}

-- no variable of a prefix passes a test if none is chosen among those that do
none_passes : (before : ℕ → ℕ → Bool) (P : ℕ → Bool) (p : Prefix) → least before (those P p) ≡ none → (x : ℕ) → binds p x ≡ true → P x ≡ false
unfolding those least binds earlier
none_passes before P [] h x k = absurd (false≢true k)
none_passes before P (z ∷ p) h x k = by (P z.variable) refl h (eqb z.variable x) refl k (λ e b. none_passes before P p e x b)
  where
    chosen : (y : ℕ) (o : Option ℕ) → earlier before y o ≡ none → ⊥
    chosen y none e = let w : ◌≡◌ {A = Bool} true false = cc in true≢false w
    chosen y (some v) e = let w : ◌≡◌ {A = Bool} true false = cc in true≢false w

    by : (m : Bool) → P z.variable ≡ m → least before (cond m (z.variable ∷ those P p) (those P p)) ≡ none
        → (n : Bool) → eqb z.variable x ≡ n → (n || binds p x) ≡ true
        → (least before (those P p) ≡ none → binds p x ≡ true → P x ≡ false) → P x ≡ false
    by true e l n s b more = absurd (chosen z.variable (least before (those P p)) l)
    by false e l true s b more = ap P (sym (eqb-true z.variable x s)) ∙ e
    by false e l false s b more = more l b

none-settles : (f : Formula) → lowest f ≡ none → (x : ℕ) → binds f.prefix x ≡ true → may_settle x f ≡ none
unfolding lowest is_some
none-settles f h x k = by (may_settle x f) (none_passes ltb (λ y. is_some (may_settle y f)) f.prefix h x k)
  where
    by : (o : Option Bool) → is_some o ≡ false → o ≡ none
    by none e = refl
    by (some c) e = absurd (true≢false e)

module _ {s : Layout} {b : Bytes} {len : ℕ} (k : Choosable s b len) where
  abbrev F : Format
  F = format_in s

  abbrev p : Prefix
  p = prefix_in s b

  named : {x i : ℕ} → i < s.variables → i ≡ place x p → Named s b x i
  unfolding binding_at
  named {x} {i} inside at =
      record {
        inside = inside;
        row_is = at;
        few =
            omega (
              arith,
              k.bound.numbered.few_numbers i inside,
              ap (λ j. (binding_at p j).variable) at,
              variable-place x p (omega (arith, length_prefix b k.from.readable)),
            );
      }

  -- fewer rows and one variable less fit
  fitting : {n : ℕ} → n ≤ s.nodes → fits F len (s.variables - 1) n ≡ true
  unfolding fits
  fitting {n} few =
      ap₂ ◌&&◌ (le-leb n F.most_nodes (omega (arith, k.from.few_nodes)))
      (le-leb (sheet_length F (s.variables - 1) n) len
      (le_trans (sheet_length-least F {v = s.variables - 1} {v' = s.variables} {n = n} {n' = s.nodes} (omega arith) few) k.short))

  -- Settle

  module _ {r : SettleChoice} (here : SettleHere s b (lowest (formula_in s b)) r) where
    pub settle-named : Named s b r.variable r.row
    settle-named = named here.inside here.at_row

    pub settle-constant : ByConstant s b (record { row = r.row; variable = r.variable; value = r.value }) len
    settle-constant =
        record {
          from = k.from;
          named = settle-named;
          value_is = here.value_is;
          has_room = fitting k.from.readable.some_nodes;
        }

    pub settle-move : moved (next_move (formula_in s b)) ≡ r.variable
    unfolding move_by
    settle-move = ap (λ (o : Option ℕ). moved (move_by o (cheapest (formula_in s b)))) here.is_lowest

  -- Expand

  module _ (nothing : Unsettled s b) {c : Candidate} (here : ToExpand s b c) where
    pub expand-named : Named s b c.variable c.row
    expand-named = named here.inside here.at_row

    pub expand-priced : {ends ranges next : List ℕ} → Indexed s b ends → Occurrences s b ranges next → Priced s b ends ranges next c
    expand-priced indexed found =
        record { indexed = indexed; occurrences = found; named = expand-named; part_is = here.part_is; raw_is = here.raw_is }

    bound-here : binds p c.variable ≡ true
    bound-here =
        binds-place c.variable p ∙
        lt-ltb (place c.variable p) (length p) (omega (arith, here.inside, here.at_row, length_prefix b k.from.readable))

    unsettled : may_settle c.variable (formula_in s b) ≡ none
    unfolding formula_in
    unsettled = none-settles (formula_in s b) nothing c.variable bound-here

    -- what is copied has no more rows than the sheet
    pub few-copied : {table : List ℕ} {w : Survey} → Prepared s b c.variable c.row table w → w.to.relevant.rows ≤ s.nodes
    unfolding formula_in presence
    few-copied {table} {w} pr =
        let x = c.variable in
        let there = unsettled_occurs x (formula_in s b) unsettled in
        let part = (pr.found (pr.occurs_is ∙ there)).part_is in
        let is : presence (of x) (matrix_in s b) ≡ Some (relevant_subtree (of x) 0 (matrix_in s b))
        = ap (λ (m : Bool). cond m (Some (relevant_subtree (of x) 0 (matrix_in s b))) None) there in
        omega (arith, (raw_rows_by (of x) b k.from.readable (sym is)).1, ap (λ (q : Relevant). q.rows) part)

    pub expand-copy : {table : List ℕ} {w : Survey} → Prepared s b c.variable c.row table w → ByCopy s b c.variable table w len
    expand-copy {table} {w} pr =
        record {
          from = k.from;
          named = subst (Named s b c.variable) (sym pr.row_is) expand-named;
          prepared = subst (λ i. Prepared s b c.variable i table w) (sym pr.row_is) pr;
          unsettled = unsettled;
          has_room = fitting (few-copied pr);
        }

    pub expand-move : moved (next_move (formula_in s b)) ≡ c.variable
    unfolding move_by
    expand-move = ap₂ (λ (o q : Option ℕ). moved (move_by o q)) nothing here.is_cheapest

-- The turns of the walk for the next variable to expand, through the innermost block from the last row on.
-- Assumes nothing.
use mathlib.Core.Path.{◌≡◌, refl, sym, ap, ◌∙◌, subst}
use mathlib.Core.Bool.{Bool, true, false, ◌&&◌, ◌||◌, cond}
use mathlib.Core.Option.{Option, some}
use Prim.Native.Nat.{ℕ, suc, ◌≤◌, ◌<◌}
use native.Mathlib.Omega.{arith}
use lib.Dec.{eqb, ltb}
use borrow.Author.Tests.{le-leb, lt-leb}
use Rattle.formula.specs.Tree.{of}
use Rattle.formula.specs.Expand.{innermost, raw_rows}
use Rattle.formula.specs.Solve.{those, earlier, least, cheaper, cheapest}
use Rattle.sheet.specs.Format.{Bytes}
use Rattle.rows.specs.Formulas.{prefix_in, matrix_in, formula_in, Readable}
use Rattle.rows.specs.declared.Layout.{Layout}
use Rattle.rows.proofs.Formulas.{length_prefix}
use Rattle.prefixes.specs.Places.{binding_in, block_start}
use Rattle.prefixes.proofs.Places.{prefix_row, no_rows}
use Rattle.relevance.specs.Raw.{presence, grown_by}
use Rattle.std.specs.Prelude.{Option as OptionOf}
use Rattle.subtrees.specs.declared.relevant.Relevant.{Relevant}
use Rattle.relevance.proofs.Growth.{raw_rows_by}
use Rattle.polarity.specs.Value.{Bound}
use Rattle.choice.specs.Settling.{Unsettled}
use Rattle.choice.specs.Expanding.{ExpandHere, ToExpand, cheapest_from, priced_in, beats, cheaper_of}
use Rattle.relevance.specs.declared.variable.Candidate.{Candidate}
use Rattle.choice.proofs.Rows.{block_within, place_in, innermost-row, least-row, those-behind}

-- `best` is the choice among the rows from row i on, which are in the innermost block
pub record Pricing (s : Layout) (b : Bytes) (i : ℕ) (best : Candidate) : Type 0 where
  pub inside : i < s.variables
  pub in_block : block_start (prefix_in s b) ≤ i
  pub chosen : ExpandHere s b (cheapest_from i (formula_in s b)) best

module _ {s : Layout} (b : Bytes) (ok : Readable s b) where
  -- the part and the raw rows of a row's variable
  pub priced_as : (i : ℕ) {x : ℕ} {part : OptionOf Relevant} {raw : ℕ} → x ≡ (binding_in s b i).variable
      → part ≡ presence (of x) (matrix_in s b) → raw ≡ grown_by s.nodes part
      → ◌≡◌ {A = Candidate} (record { row = i; variable = x; relevant = part; raw = raw }) (priced_in s b i)
  priced_as i {x} here is e =
      let parted = is ∙ ap (λ v. presence (of v) (matrix_in s b)) here in
      rw (e ∙ (raw_rows_by (of (binding_in s b i).variable) b ok parted).0, parted, here)

  module _ (bound : Bound s b) (nothing : Unsettled s b) where
    priced : (i : ℕ) {o : Option ℕ} → i < s.variables → o ≡ some (binding_in s b i).variable → ExpandHere s b o (priced_in s b i)
    priced i h e = record { is_cheapest = e; inside = h; at_row = sym (place_in b ok bound i h); part_is = refl; raw_is = refl }

    cheapest-row : (i : ℕ) → i < s.variables → block_start (prefix_in s b) ≤ i
        → cheapest_from i (formula_in s b) ≡
        earlier (cheaper (formula_in s b)) (binding_in s b i).variable (cheapest_from (suc i) (formula_in s b))
    unfolding cheapest_from formula_in
    cheapest-row i h k =
        least-row (cheaper (formula_in s b)) (λ x. innermost x (formula_in s b)) (prefix_row b ok i h)
        (innermost-row b ok bound nothing i h ∙ le-leb (block_start (prefix_in s b)) i k)

    pub price-start : (i : ℕ) {best : Candidate} → suc i ≡ s.variables → best ≡ priced_in s b i → Pricing s b i best
    unfolding cheapest_from formula_in those least earlier
    price-start i last e =
        let h : i < s.variables = omega (arith, last) in
        let long = length_prefix b ok in
        let k : block_start (prefix_in s b) ≤ i = omega (arith, last, long, block_within (prefix_in s b) (omega (arith, last, long))) in
        rw e
        (record {
          inside = h;
          in_block = k;
          chosen =
              priced i h
              (cheapest-row i h k ∙
              ap (λ p. earlier (cheaper (formula_in s b)) (binding_in s b i).variable
              (least (cheaper (formula_in s b)) (those (λ x. innermost x (formula_in s b)) p))) (no_rows b ok (suc i) last));
        })

    pub price-on : (i : ℕ) {j : ℕ} {best own next : Candidate} → suc j ≡ i → block_start (prefix_in s b) < i
        → own ≡ priced_in s b j → next ≡ cheaper_of best own → Pricing s b i best → Pricing s b j next
    unfolding earlier cheaper formula_in
    price-on i {j} {best} {own} {next} before in_front is-own is-next p =
        let h : j < s.variables = omega (arith, before, p.inside) in
        let k : block_start (prefix_in s b) ≤ j = omega (arith, before, in_front) in
        let f = formula_in s b in
        let z = (binding_in s b j).variable in
        let raw = raw_rows (of z) (matrix_in s b) in
        let held : cheapest_from (suc j) f ≡ some best.variable = ap (λ m. cheapest_from m f) before ∙ p.chosen.is_cheapest in
        let both : cheapest_from j f ≡ some (cond (beats best (priced_in s b j)) best.variable z)
        = cheapest-row j h k ∙ ap (earlier (cheaper f) z) held ∙
        ap (λ m. some (cond (ltb m raw || (eqb m raw && ltb best.variable z)) best.variable z)) (sym p.chosen.raw_is) in
        rw (is-next, is-own) (record { inside = h; in_block = k; chosen = two (beats best (priced_in s b j)) both h })
      where
        two : (m : Bool) → cheapest_from j (formula_in s b) ≡ some (cond m best.variable (binding_in s b j).variable)
            → j < s.variables → ExpandHere s b (cheapest_from j (formula_in s b)) (cond m best (priced_in s b j))
        two true e h =
            record {
              is_cheapest = e;
              inside = p.chosen.inside;
              at_row = p.chosen.at_row;
              part_is = p.chosen.part_is;
              raw_is = p.chosen.raw_is;
            }
        two false e h = priced j h e

    -- no row before the block is innermost
    pub price-all : {i : ℕ} {best : Candidate} → i ≤ block_start (prefix_in s b) → Pricing s b i best → ToExpand s b best
    unfolding cheapest cheapest_from formula_in
    price-all {i} {best} h p =
        subst (λ o. ExpandHere s b o best)
        (sym
        (ap (least (cheaper (formula_in s b)))
        (those-behind (λ x. innermost x (formula_in s b)) (prefix_in s b) i (omega (arith, p.inside, length_prefix b ok)) none)))
        p.chosen
      where
        none : (j : ℕ) → j < i → innermost (binding_in s b j).variable (formula_in s b) ≡ false
        none j k =
            innermost-row b ok bound nothing j (omega (arith, p.inside)) ∙ lt-leb (block_start (prefix_in s b)) j (omega arith)

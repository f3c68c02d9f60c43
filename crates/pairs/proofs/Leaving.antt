-- The walk over the rows that are left: the pairs of those passed are written.
-- Assumes nothing.
use mathlib.Core.Path.{◌≡◌, refl, sym, ap, ◌∙◌, subst}
use mathlib.Core.List.{List, [], ◌∷◌, ◌++◌, append-nil, append_assoc}
use Prim.Native.Nat.{ℕ, suc, ◌+◌, ◌≤◌, ◌<◌}
use native.Mathlib.Numerals.{add-one}
use native.Mathlib.Omega.{arith}
use lib.ListN.{length, drop, length-append}
use Rattle.formula.specs.Tree.{Quantifier}
use Rattle.formula.specs.Strategy.{left}
use Rattle.sheet.specs.Format.{Bytes, Row}
use Rattle.rows.specs.Layouts.{total}
use Rattle.rows.specs.Formulas.{prefix_in, Readable}
use Rattle.rows.specs.declared.Layout.{Layout}
use Rattle.substitution.specs.Output.{Laid}
use Rattle.substitution.proofs.Splice.{laid_on}
use Rattle.prefixes.specs.Places.{binding_in}
use Rattle.prefixes.proofs.Places.{prefix_row, no_rows}
use Rattle.pairs.specs.Pairs.{row_left, pair_rows}
use Rattle.pairs.proofs.Rows.{left-none, left-next, length-left}

-- the pairs of the rows before row i are written
pub record Leaving (q : Quantifier) (s : Layout) (b : Bytes) (t : Layout) (old : Bytes) (start : ℕ) (out : Bytes) (at i : ℕ) : Type 0 where
  pub within : i ≤ s.variables
  pub done : List Row
  pub so_far : Laid t old out start at done
  pub owed : done ++ pair_rows (left q (drop i (prefix_in s b))) ≡ pair_rows (left q (prefix_in s b))
  pub same_length : length out ≡ length old

module _ (q : Quantifier) (s : Layout) (b : Bytes) (ok : Readable s b) (t : Layout) (old : Bytes) (start : ℕ) where
  pub leaving_all : {out : Bytes} {at i : ℕ} → s.variables ≤ i → Leaving q s b t old start out at i
      → Laid t old out start at (pair_rows (left q (prefix_in s b)))
  leaving_all {out} {at} {i} h r =
      subst (Laid t old out start at)
      (sym (append-nil r.done) ∙ ap (λ l. r.done ++ l) (sym (left-none q)) ∙ ap (λ l. r.done ++ pair_rows (left q l)) (sym (no_rows b ok i (omega (arith, r.within)))) ∙ r.owed)
      r.so_far

  module _ {out : Bytes} {at i : ℕ} (more : i < s.variables) (r : Leaving q s b t old start out at i) where
    split : pair_rows (left q (drop i (prefix_in s b))) ≡ row_left q (binding_in s b i) ++ pair_rows (left q (drop (suc i) (prefix_in s b)))
    split =
        ap (λ l. pair_rows (left q l)) (prefix_row b ok i more) ∙ left-next q (binding_in s b i) (drop (suc i) (prefix_in s b))

    pub row_room : start + length (pair_rows (left q (prefix_in s b))) ≤ total t → at + length (row_left q (binding_in s b i)) ≤ total t
    row_room room =
        omega (
          arith,
          room,
          r.so_far.next_row,
          ap length r.owed,
          length-append r.done (pair_rows (left q (drop i (prefix_in s b)))),
          ap length split,
          length-append (row_left q (binding_in s b i)) (pair_rows (left q (drop (suc i) (prefix_in s b)))),
        )

    pub leaving-next : {new : Bytes} {next : ℕ} → Laid t out new at next (row_left q (binding_in s b i)) → length new ≡ length out
        → Leaving q s b t old start new next (i + 1)
    leaving-next l e =
        record {
          within = omega arith;
          done = r.done ++ row_left q (binding_in s b i);
          so_far = laid_on r.so_far l;
          owed =
              append_assoc r.done (row_left q (binding_in s b i)) (pair_rows (left q (drop (i + 1) (prefix_in s b)))) ∙
              ap (λ n. r.done ++ (row_left q (binding_in s b i) ++ pair_rows (left q (drop n (prefix_in s b))))) (add-one i) ∙
              ap (λ l. r.done ++ l) (sym split) ∙ r.owed;
          same_length = e ∙ r.same_length;
        }

-- how many rows from row i on are left
module _ (q : Quantifier) (s : Layout) (b : Bytes) (ok : Readable s b) where
  pub none_counted : 0 ≡ length (left q (drop s.variables (prefix_in s b)))
  unfolding left
  none_counted = ap (λ l. length (left q l)) (sym (no_rows b ok s.variables refl))

  pub counted_next : {i n k : ℕ} → i < s.variables → n ≡ length (left q (drop (suc i) (prefix_in s b)))
      → k ≡ length (left q (binding_in s b i ∷ [])) → n + k ≡ length (left q (drop i (prefix_in s b)))
  counted_next {i} more e one =
      omega (
        arith,
        e,
        one,
        length-left q (binding_in s b i) (drop (suc i) (prefix_in s b)),
        ap (λ l. length (left q l)) (prefix_row b ok i more),
      )

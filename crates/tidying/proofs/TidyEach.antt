-- From the last row to the first: the rows before are as they were, and the others are segments that hold the tidied trees.
-- Assumes nothing.
use mathlib.Core.Path.{◌≡◌, refl, sym, ap, ◌∙◌, subst}
use mathlib.Core.List.{List, [], ◌∷◌, ◌++◌, append-nil}
use Prim.Native.Nat.{ℕ, zero, suc, ◌+◌, ◌-◌, ◌≤◌, ◌<◌}
use native.Mathlib.Omega.{arith}
use lib.ListN.{length, take, drop, drop_of_length-le}
use lib.Seq.{take_all, take-suc, drop-cons, drop-drop, append_snoc, length-take-le}
use Rattle.formula.specs.Tidy.{tidy_all}
use Rattle.sheet.specs.Format.{Row, row}
use Rattle.sheet.specs.Sheet.{trees}
use Rattle.tidy_rules.specs.Segments.{none, segment_rows, live}
use Rattle.tidy_rules.specs.Known.{AllTold}
use Rattle.tidy_rules.specs.Walks.{at_row}
use Rattle.tidy_rules.proofs.Told.{told_at}
use Rattle.tidying.specs.Inner.Operators.{OperatorReady, Preorder, Combines, Tidies}
use Rattle.tidying.proofs.Conclude.{replaced_as}

pub back_none : (R₀ : List Row) (K : List ℕ) (n : ℕ) → length R₀ ≡ n → Tidies R₀ R₀ K n n
unfolding segment_rows live trees tidy_all AllTold
back_none R₀ K n e =
    record {
      segments = none;
      laid =
          record {
            whole = sym (append-nil (take n R₀) ∙ take_all n R₀ (omega (arith, e)));
            starts = length-take-le n R₀ (omega (arith, e));
            ends = omega arith;
          };
      told = tt;
      reads = ap (λ rs. tidy_all (trees rs)) (sym (drop_of_length-le R₀ {i = n} (omega (arith, e))));
    }

preorder_drop : (m : ℕ) (rs : List Row) → Preorder rs → Preorder (drop m rs)
unfolding Preorder
preorder_drop zero rs h = h
preorder_drop (suc m) [] h = h
preorder_drop (suc m) (r ∷ rs) h = preorder_drop m rs h.2

module _ (R₀ : List Row) {v r n : ℕ} (counted : length R₀ ≡ n) (p : Preorder (drop v R₀)) (l : v < r) (u : r ≤ n) where
  abbrev there : Row
  there = at_row R₀ (r - 1)

  last : suc (r - 1) ≡ r
  last = omega arith

  rows_from : drop (r - 1) R₀ ≡ there ∷ drop r R₀
  rows_from = drop-cons R₀ (r - 1) (row 0 0) (omega (arith, counted)) ∙ ap (λ m. there ∷ drop m R₀) last

  rows_to : take r R₀ ≡ take (r - 1) R₀ ++ (there ∷ [])
  rows_to = ap (λ m. take m R₀) (sym last) ∙ take-suc R₀ (r - 1) (row 0 0) (omega (arith, counted))

  nodes : Preorder (there ∷ drop r R₀)
  nodes =
      subst Preorder (drop-drop (r - 1 - v) v R₀ ∙ ap (λ m. drop m R₀) down ∙ rows_from) (preorder_drop (r - 1 - v) (drop v R₀) p)
    where
      down : v + (r - 1 - v) ≡ r - 1
      down = omega arith

  pub back_ready : {R : List Row} {K : List ℕ} (b : Tidies R₀ R K r n) → OperatorReady R K (r - 1) n (take (r - 1) R₀) there b.segments (trees (drop r R₀))
  unfolding Preorder
  back_ready {K = K} b =
      record {
        headed =
            record {
              whole = b.laid.whole ∙ ap (λ rs. rs ++ (segment_rows b.segments ++ [])) rows_to ∙ append_snoc (take (r - 1) R₀) there _;
              starts = length-take-le (r - 1) R₀ (omega (arith, counted));
              ends = omega (arith, b.laid.ends);
            };
        told = told_at K b.segments (omega arith) b.told;
        reads = b.reads;
        node = nodes.0;
        enough = nodes.1;
      }

  pub back_more : {R R' : List Row} {K K' : List ℕ} → Tidies R₀ R K r n → Combines R R' K K' (r - 1) n → Tidies R₀ R' K' (r - 1) n
  unfolding trees
  back_more b f = replaced_as refl (ap (λ rs. tidy_all (trees rs)) (sym rows_from)) (f _ _ _ _ (back_ready b))

pub back_end : (R₀ : List Row) {R : List Row} {K : List ℕ} {v r n : ℕ} → v ≤ r → r ≤ v → Tidies R₀ R K r n → Tidies R₀ R K v n
back_end R₀ {R} {K} {v} {r} {n} l u b = subst (λ m. Tidies R₀ R K m n) (omega arith) b

-- The merge from its first turn to its last, and what is put back.
-- Assumes nothing.
use mathlib.Core.Path.{◌≡◌, refl, sym, ap, ap₂, ◌∙◌}
use mathlib.Core.List.{List, ◌++◌, append_assoc}
use Prim.Native.Nat.{ℕ, zero, suc, ◌+◌, ◌≤◌}
use native.Mathlib.Nat.{zero-add}
use native.Mathlib.Omega.{arith}
use lib.ListN.{length, take, drop}
use lib.Seq.{length-take-le}
use Rattle.formula.specs.Tree.{Forest, ∅, rows_all}
use Rattle.sheet.specs.Format.{Bytes}
use Rattle.sheet.specs.Sheet.{front, behind}
use Rattle.sheet.proofs.Forests.{front-behind}
use Rattle.rows.specs.declared.Layout.{Layout}
use Rattle.tree_order.specs.declared.merging.Runs.{Runs}
use Rattle.tree_order.specs.Tables.{forest_entries, picked, standing}
use Rattle.tree_order.specs.Arranging.{into}
use Rattle.tree_order.specs.Merging.{left_trees, right_trees, Merger, merged, Turned, all_merged}
use Rattle.tree_order.proofs.Entries.{forest_entries-⧺, picked-++, picked-take}

front-none : (k : ℕ) (ts : Forest) → k ≤ 0 → front k ts ≡ ∅
unfolding front
front-none zero ts h = refl
front-none (suc k) ts h = absurd (omega arith)

into-none : (us : Forest) → into ∅ us ≡ us
unfolding into
into-none us = refl

rows_none : rows_all ∅ ≡ 0
unfolding rows_all
rows_none = refl

module _ (s : Layout) (b : Bytes) (ends at : List ℕ) (start : Runs) where
  pub record Merging (spare₀ spare : List ℕ) (m : Runs) : Type 0 where
    pub merger : Merger s b ends at m
    pub same_merged : merged s b ends at spare m ≡ forest_entries (into (left_trees s b at start) (right_trees s b at start))
    pub same_rest : behind m.rights (standing s b (drop m.right at)) ≡ behind start.rights (standing s b (drop start.right at))
    pub same_length : length spare ≡ length spare₀

  pub merging_none : (spare₀ : List ℕ) → start.to ≡ 0 → Merger s b ends at start → Merging spare₀ spare₀ start
  merging_none spare₀ e g =
      record {
        merger = g;
        same_merged =
            ap (λ n. take n (picked s b ends spare₀) ++ forest_entries (into (left_trees s b at start) (right_trees s b at start))) e;
        same_rest = refl;
        same_length = refl;
      }

  pub merging_turn : {spare₀ spare spare' : List ℕ} {m m' : Runs} → Merging spare₀ spare m → Turned s b ends at spare spare' m m'
      → Merging spare₀ spare' m'
  merging_turn g t =
      record {
        merger = t.merger;
        same_merged = t.same_merged ∙ g.same_merged;
        same_rest = t.same_rest ∙ g.same_rest;
        same_length = t.same_length ∙ g.same_length;
      }

  module _ {spare₀ spare : List ℕ} {m : Runs} (done : m.lefts ≤ 0) (l : length at ≤ length spare₀) (g : Merging spare₀ spare m) where
    no_left : left_trees s b at m ≡ ∅
    no_left = front-none m.lefts (standing s b (drop m.left at)) done

    meets_right : m.to ≡ m.right
    meets_right = omega (arith, g.merger.meets, ap rows_all no_left, rows_none)

    merged_counted : m.to ≡ length (take m.to spare)
    merged_counted = sym (length-take-le m.to spare (omega (arith, meets_right, g.merger.within, l, g.same_length)))

    right_rest : picked s b ends (drop m.to at) ≡
        forest_entries (right_trees s b at m) ++ forest_entries (behind m.rights (standing s b (drop m.right at)))
    right_rest =
        ap (λ n. picked s b ends (drop n at)) meets_right ∙ g.merger.right_stands.whole ∙
        ap forest_entries (sym (front-behind m.rights (standing s b (drop m.right at)))) ∙
        forest_entries-⧺ (right_trees s b at m) (behind m.rights (standing s b (drop m.right at)))

    pub merging_end : {at' : List ℕ} → at' ≡ take 0 at ++ take m.to spare ++ drop (0 + length (take m.to spare)) at
        → picked s b ends at' ≡ forest_entries (all_merged s b at start)
    merging_end e =
        let both = into (left_trees s b at start) (right_trees s b at start) in
        let last = behind start.rights (standing s b (drop start.right at)) in
        ap (picked s b ends) (e ∙ ap (λ n. take m.to spare ++ drop n at) (zero-add (length (take m.to spare)) ∙ sym merged_counted)) ∙
        picked-++ s b ends (take m.to spare) (drop m.to at) ∙
        ap₂ ◌++◌ (picked-take s b ends m.to spare) right_rest ∙
        sym (append_assoc (take m.to (picked s b ends spare)) (forest_entries (right_trees s b at m)) _) ∙
        ap₂ ◌++◌
        (ap (λ ts. take m.to (picked s b ends spare) ++ forest_entries ts)
        (sym (into-none (right_trees s b at m)) ∙ ap (λ ts. into ts (right_trees s b at m)) (sym no_left)) ∙ g.same_merged)
        (ap forest_entries g.same_rest) ∙
        sym (forest_entries-⧺ both last)

-- Check is its four parts, each over the rows that the sizes read say.
-- Assumes nothing.
use mathlib.Core.Path.{◌≡◌, ap, ◌∙◌}
use mathlib.Core.List.{[], ◌∷◌}
use Prim.Native.Nat.{ℕ}
use Rattle.sheet.specs.Format as sheet
use Rattle.sheet.specs.Format.{Bytes, variables, kind_bytes, argument_bytes, all_rows, prefix_rows, node_rows}
use Rattle.sheet.specs.Check.{refused, accepted, Sizes, answer, size_tests, quantifier_tests, node_tests, tree_test, arguments, check_tests, check}
use Rattle.rows.specs.Formats.{format_of}
use Rattle.rows.specs.Layouts.{rows_in}
use Rattle.rows.specs.Formulas.{node_rows_in, layout_of}
use Rattle.rows.specs.declared.Format.{Format}
use Rattle.rows.specs.declared.Layout.{Layout}
use Rattle.checking.specs.Inner.Stages.{sizes, size_answer, prefix_answer, node_answer, tree_answer}
use Rattle.checking.proofs.Tests.{first_refuses, second-refuses, third-refuses, last-decides}

pub sizes_refuse : {k p : ℕ} (f : Format) (b : Bytes) → refused k p ≡ size_answer f b → refused k p ≡ check (format_of f) b
unfolding check check_tests
sizes_refuse f b h = first_refuses (size_tests (format_of f) b) _ _ _ (sizes (layout_of f b)) h

module _ (f : Format) (b : Bytes) (s : Layout) (own : s ≡ layout_of f b) {a₁ : Sizes} (sized : accepted a₁ ≡ size_answer f b) where
  abbrev F : sheet.Format
  F = format_of f

  -- the same over the sheet's own rows and sizes
  prefix_own : prefix_answer s b ≡ answer (quantifier_tests F 0 [] (prefix_rows F b)) (sizes (layout_of f b))
  unfolding prefix_rows all_rows kind_bytes argument_bytes rows_in
  prefix_own = ap (λ s. prefix_answer s b) own

  node_own : node_answer s b ≡ answer (node_tests (variables F b) (arguments (prefix_rows F b)) (node_rows F b)) (sizes (layout_of f b))
  unfolding prefix_rows node_rows node_rows_in all_rows kind_bytes argument_bytes rows_in
  node_own = ap (λ s. node_answer s b) own

  tree_own : tree_answer s b ≡ answer (tree_test 1 (variables F b) (node_rows F b) ∷ []) (sizes (layout_of f b))
  unfolding node_rows node_rows_in all_rows kind_bytes argument_bytes rows_in
  tree_own = ap (λ s. tree_answer s b) own

  pub prefix_refuses : {k p : ℕ} → refused k p ≡ prefix_answer s b → refused k p ≡ check F b
  unfolding check check_tests
  prefix_refuses h = second-refuses (size_tests F b) _ _ _ (sizes (layout_of f b)) sized (h ∙ prefix_own)

  module _ {a₂ : Sizes} (bound : accepted a₂ ≡ prefix_answer s b) where
    pub nodes-refuse : {k p : ℕ} → refused k p ≡ node_answer s b → refused k p ≡ check F b
    unfolding check check_tests
    nodes-refuse h = third-refuses (size_tests F b) _ _ _ (sizes (layout_of f b)) sized (bound ∙ prefix_own) (h ∙ node_own)

    pub tree-decides : {a₃ : Sizes} → accepted a₃ ≡ node_answer s b → tree_answer s b ≡ check F b
    unfolding check check_tests
    tree-decides h =
        tree_own ∙ last-decides (size_tests F b) _ _ _ (sizes (layout_of f b)) sized (bound ∙ prefix_own) (h ∙ node_own)

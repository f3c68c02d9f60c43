-- What the sizes of a sheet make of its answer.
-- Assumes nothing.
use mathlib.Core.Path.{◌≡◌, sym, ap, ap₂, ◌∙◌}
use mathlib.Core.Bool.{true, false, not}
use Prim.Native.Nat.{ℕ, ◌≤◌, ◌<◌}
use lib.Dec.{eqb, ltb}
use lib.ListN.{length}
use borrow.Author.Tests.{lt-ltb, le-ltb}
use Rattle.sheet.specs.Format as sheet
use Rattle.sheet.specs.Format.{Bytes, header, sheet_length, variables, nodes}
use Rattle.sheet.specs.Check.{refused, accepted, size_tests}
use Rattle.rows.specs.Formats.{format_of}
use Rattle.rows.specs.declared.Format.{Format}
use Rattle.checking.specs.Inner.Stages.{size_answer, outside}
use Rattle.checking.proofs.Tests.{stops, goes_on, last-passes}

-- the sizes read are the sheet's own
pub record SizesRead (F : sheet.Format) (b : Bytes) (v n : ℕ) : Type 0 where
  pub long_enough : header F ≤ length b
  pub variables_read : v ≡ variables F b
  pub nodes_read : n ≡ nodes F b

pub sizes_read : (f : Format) (b : Bytes) {v n : ℕ} → header (format_of f) ≤ length b → v ≡ variables (format_of f) b → n ≡ nodes (format_of f) b
    → SizesRead (format_of f) b v n
sizes_read f b long vs ns = record { long_enough = long; variables_read = vs; nodes_read = ns }

module _ (f : Format) (b : Bytes) where
  abbrev F : sheet.Format
  F = format_of f

  pub too_short : length b < header F → refused 1 0 ≡ size_answer f b
  unfolding size_tests
  too_short h = sym (stops 1 0 _ _ (lt-ltb (length b) (header F) h))

  module _ (v n : ℕ) (r : SizesRead F b v n) where
    enough : ltb (length b) (header F) ≡ false
    enough = le-ltb (length b) (header F) r.long_enough

    pub size_outside : outside F v n ≡ true → refused 2 0 ≡ size_answer f b
    unfolding size_tests
    size_outside h = sym (goes_on 1 0 _ _ enough ∙ stops 2 0 _ _ (rw (← r.variables_read, ← r.nodes_read) h))

    module _ (within : outside F v n ≡ false) {len : ℕ} (exact : len ≡ sheet_length F v n) where
      inside : outside F (variables F b) (nodes F b) ≡ false
      inside = rw (← r.variables_read, ← r.nodes_read) within

      pub wrong_length : eqb (length b) len ≡ false → refused 3 0 ≡ size_answer f b
      unfolding size_tests
      wrong_length h =
          sym
          (goes_on 1 0 _ _ enough ∙ goes_on 2 0 _ _ inside ∙ stops 3 0 _ _ (rw (← r.variables_read, ← r.nodes_read, ← exact) (ap not h)))

      pub right_length : eqb (length b) len ≡ true → accepted (record { variables = v; nodes = n }) ≡ size_answer f b
      unfolding size_tests
      right_length h =
          sym
          (goes_on 1 0 _ _ enough ∙ goes_on 2 0 _ _ inside ∙
          last-passes 3 0 _ (rw (← r.variables_read, ← r.nodes_read, ← exact) (ap not h)) ∙
          ap₂ (λ x y. accepted (record { variables = x; nodes = y })) (sym r.variables_read) (sym r.nodes_read))

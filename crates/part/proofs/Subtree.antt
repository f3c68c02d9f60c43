-- The kind bytes of a subtree: the rows from its own to where the debt walk ends.
-- Assumes nothing.
use mathlib.Core.Path.{◌≡◌, refl, sym, ap, ap₂, ◌∙◌}
use mathlib.Core.Bool.{false}
use mathlib.Core.List.{List, [], ◌∷◌}
use Prim.Native.Nat.{ℕ, zero, suc, ◌+◌, ◌*◌, ◌-◌, ◌≤◌, ◌<◌}
use native.Mathlib.Omega.{arith}
use lib.ListN.{length, take, drop, length-drop}
use lib.Seq.{take-take, drop-drop}
use borrow.Author.Tests.{lt-ltb, le-ltb}
use Rattle.sheet.specs.Format as sheet
use Rattle.sheet.specs.Format.{Bytes, Row, nodes, kind_bytes}
use Rattle.sheet.specs.Check.{passes, check_tests}
use Rattle.sheet.specs.Operations.{span, part_call}
use Rattle.rows.specs.Formats.{format_of}
use Rattle.rows.specs.Layouts.{width, total, kind_place, rows_in, Room}
use Rattle.rows.specs.declared.Format.{Format}
use Rattle.rows.specs.declared.Layout.{Layout}
use Rattle.rows.proofs.Layouts.{all_rows_in, length-rows_in}
use Rattle.checking.specs.declared.Reached.{Reached}
use Rattle.checking.specs.Sheets.{Sheet}
use Rattle.checking.specs.Inner.Stages.{pay}
use Rattle.checking.proofs.Debt.{pay-span, span-length}
use Rattle.part.specs.Places.{part_place, moved_on}

-- a part of the front, taken from the whole
take-drop-take : {A : Type 0} (k s m : ℕ) (l : List A) → k + s ≤ m → take s (drop k (take m l)) ≡ take s (drop k l)
take-drop-take zero s m l h = take-take s m l (omega arith)
take-drop-take (suc k) s zero l h = absurd (omega arith)
take-drop-take (suc k) s (suc m) [] h = refl
take-drop-take (suc k) s (suc m) (x ∷ l) h = take-drop-take k s m l (omega arith)

-- what is taken of a list stands at its front
take_taken : {A : Type 0} (k : ℕ) (l : List A) → take k l ≡ take (length (take k l)) l
take_taken zero [] = refl
take_taken zero (x ∷ l) = refl
take_taken (suc k) [] = refl
take_taken (suc k) (x ∷ l) = ap (λ r. x ∷ r) (take_taken k l)

-- a part with what the contract says of it: its contents, and where it stands
pub record Standing (F : sheet.Format) (b : Bytes) (i from : ℕ) (new : Bytes) : Type 0 where
  pub contents : new ≡ part_call F b i
  pub place : from ≡ part_place F b i

abbrev pub Told : sheet.Format → Bytes → ℕ → ℕ × ℕ → ℕ → Bytes → Type 0
Told F b i p from new =
    (new ≡ part_call F b i) × ((new ≡ take (length new) (drop (part_place F b i) b)) × (moved_on from p ≡ moved_on (part_place F b i) p))

-- a part of so many bytes from a place on
pub told : (F : sheet.Format) (b : Bytes) (i : ℕ) (p : ℕ × ℕ) (from count : ℕ) → Standing F b i from (take count (drop from b))
    → Told F b i p from (take count (drop from b))
told F b i p from count s =
    (s.contents, (take_taken count (drop from b) ∙ ap (λ n. take (length (take count (drop from b))) (drop n b)) s.place, ap (λ n. moved_on n p) s.place))

pub bad_sheet : (F : sheet.Format) (b : Bytes) (i : ℕ) → passes (check_tests F b) ≡ false → [] ≡ part_call F b i
unfolding part_call
bad_sheet F b i h = rw h

pub bad_sheet-place : (F : sheet.Format) (b : Bytes) (i : ℕ) → passes (check_tests F b) ≡ false → 0 ≡ part_place F b i
unfolding part_place
bad_sheet-place F b i h = rw h

module _ {f : Format} {b : Bytes} {s : Layout} (i : ℕ) (h : Sheet f b s) where
  abbrev F : sheet.Format
  F = format_of f

  nodes_are : s.nodes ≡ nodes F b
  nodes_are = ap (λ (s : Layout). s.nodes) h.layout_is

  pub bad_node : s.nodes ≤ i → [] ≡ part_call F b i
  unfolding part_call
  bad_node none = rw (h.tests_pass, le-ltb i (nodes F b) (omega (arith, nodes_are)))

  pub bad_node-place : s.nodes ≤ i → 0 ≡ part_place F b i
  unfolding part_place
  bad_node-place none = rw (h.tests_pass, le-ltb i (nodes F b) (omega (arith, nodes_are)))

  pub place_here : i < s.nodes → kind_place s (s.variables + i) ≡ part_place F b i
  unfolding part_place
  place_here some = rw (h.layout_is, h.tests_pass, lt-ltb i (nodes F b) (omega (arith, nodes_are)))

  -- the rows from the node's own on
  abbrev subtree : List Row
  subtree = drop (s.variables + i) (rows_in s b)

  module _ (room : Room s (length b)) (some : i < s.nodes) (w : Reached) (walked : w ≡ pay 1 (s.variables + i) subtree) where
    ends : w.row ≡ s.variables + i + span 1 subtree
    ends = ap (λ (w : Reached). w.row) walked ∙ pay-span 1 (s.variables + i) subtree

    pub ends-behind : s.variables + i ≤ w.row
    ends-behind = omega (arith, ends)

    pub ends-within : w.row ≤ total s
    ends-within =
        omega (arith, ends, span-length subtree 1, length-drop (s.variables + i) (rows_in s b), length-rows_in b room)

    own : take (span 1 subtree) (drop (s.variables + i) (take (total s) (drop (2 * width s) b))) ≡ part_call F b i
    unfolding part_call kind_bytes
    own = rw (h.layout_is, h.tests_pass, lt-ltb i (nodes F b) (omega (arith, nodes_are)), all_rows_in f b)

    pub part-here : {from to : ℕ} → from ≡ kind_place s (s.variables + i) → to ≡ kind_place s w.row
        → take (to - from) (drop from b) ≡ part_call F b i
    part-here start end =
        ap₂ (λ k m. take (k - m) (drop m b)) end start ∙ ap (λ k. take k (drop (2 * width s + (s.variables + i)) b)) covered ∙
        rw (← drop-drop (s.variables + i) (2 * width s) b)
        (sym (take-drop-take (s.variables + i) (span 1 subtree) (total s) (drop (2 * width s) b) within)) ∙
        own
      where
        covered : 2 * width s + w.row - (2 * width s + (s.variables + i)) ≡ span 1 subtree
        covered = omega (arith, ends)

        within : s.variables + i + span 1 subtree ≤ total s
        within = omega (arith, ends, ends-within)

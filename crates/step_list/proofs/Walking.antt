-- The records of a slice between two turns, over lists.
-- Assumes nothing.
use mathlib.Core.Path.{◌≡◌, refl, sym, ap, ap₂, ◌∙◌}
use mathlib.Core.List.{List, [], ◌∷◌, ◌++◌, map, append-nil}
use Prim.Native.Nat.{ℕ, zero, suc, ◌+◌, ◌≤◌, ◌<◌}
use native.Mathlib.Nat.{zero-add, add-zero}
use native.Mathlib.Omega.{arith}
use lib.ListN.{length, get_or, take, drop, set, length-set, length-map, drop_of_length-le, get_or-map}
use lib.Seq.{take_all, get_or-drop, paste, paste-zero, paste-suc, drop-paste}
use Rattle.sheet.specs.Format.{Bytes, Format}
use Rattle.sheet.specs.Steps.{Step as Record, filled, given, reached}
use Rattle.sheet.proofs.Steps.{length-filled}
use Rattle.step_list.specs.declared.Step.{Step}
use Rattle.step_list.specs.declared.Turn.{Turn}
use Rattle.step_list.specs.Inner.Records.{step_of}
use Rattle.step_list.specs.Inner.Turns.{room, Took, Follows}
use Rattle.step_list.proofs.Turning.{Going, going_first, filled-here, going_next}

-- i turns are taken: the first i records are filled, and the buffers go with them
pub record Walked (F : Format) (steps : List Step) (first second : Bytes) (held i : ℕ) (steps' : List Step) (first' second' : Bytes) (held' : ℕ) : Type 0 where
  pub going : Going F (room first second) (map step_of steps) (take held first) i held' first' second'
  pub records_are : map step_of steps' ≡ paste (map step_of steps) 0 (filled F (room first second) (map step_of steps) (given (take held first))) i
  pub same_steps : length steps' ≡ length steps
  pub same_first : length first' ≡ length first
  pub same_second : length second' ≡ length second

map-set : (l : List Step) (i : ℕ) (y : Step) → map step_of (set l i y) ≡ set (map step_of l) i (step_of y)
map-set [] i y = refl
map-set (x ∷ l) zero y = refl
map-set (x ∷ l) (suc i) y = ap (λ (r : List Record). step_of x ∷ r) (map-set l i y)

-- past the records written, the list is as it was
getD_paste : (old new : List Record) (i : ℕ) (d : Record) → i ≤ length new → get_or (paste old 0 new i) i d ≡ get_or old i d
getD_paste old new i d l =
    let rest : drop i (paste old 0 new i) ≡ drop i old
    = ap (λ (k : ℕ). drop k (paste old 0 new i)) (sym (zero-add i)) ∙ drop-paste old 0 new i (omega arith) l ∙ ap (λ (k : ℕ). drop k old) (zero-add i) in
    ap (λ (k : ℕ). get_or (paste old 0 new i) k d) (sym (add-zero i)) ∙ sym (get_or-drop i (paste old 0 new i) 0 d) ∙
    ap (λ (r : List Record). get_or r 0 d) rest ∙ get_or-drop i old 0 d ∙ ap (λ (k : ℕ). get_or old k d) (add-zero i)

module _ (F : Format) (steps : List Step) (first second : Bytes) (held : ℕ) where
  abbrev all : List Record
  all = map step_of steps

  abbrev done : List Record
  done = filled F (room first second) all (given (take held first))

  length_done : length done ≡ length steps
  length_done = length-filled F (room first second) all (given (take held first)) ∙ length-map steps step_of

  pub walked_none : held ≤ room first second → Walked F steps first second held 0 steps first second held
  walked_none l =
      record {
        going = going_first F (room first second) all (take held first) refl l refl;
        records_are = paste-zero all 0 done;
        same_steps = refl;
        same_first = refl;
        same_second = refl;
      }

  module _ {i h : ℕ} {steps₁ : List Step} {first₁ second₁ : Bytes} (w : Walked F steps first second held i steps₁ first₁ second₁ h) (l : i < length steps) (d : Step) where
    here : step_of (get_or steps₁ i d) ≡ get_or all i (step_of d)
    here =
        sym (get_or-map step_of steps₁ i d) ∙ ap (λ (r : List Record). get_or r i (step_of d)) w.records_are ∙
        getD_paste all done i (step_of d) (omega (arith, length_done))

    pub walked_next : {j : ℕ} {first₂ second₂ : Bytes} (t : Turn) → j ≡ suc i → Took F (get_or steps₁ i d) h first₁ second₁ first₂ t
        → length first₂ ≡ length first₁ → length second₂ ≡ length second₁
        → Walked F steps first second held j (set steps₁ i t.step) first₂ second₂ t.held
    walked_next t next turn l₁ l₂ =
        let inside : i < length all = omega (arith, length-map steps step_of) in
        let o = ap (λ (r : Record). r.operation) here in
        let x = ap (λ (r : Record). r.variable) here in
        let is = filled-here F (room first second) all (take held first) w.going inside (step_of d) (get_or steps₁ i d) o x turn in
        record {
          going = going_next F (room first second) all (take held first) w.going inside (step_of d) (get_or steps₁ i d) o x turn next l₁ l₂;
          records_are =
              map-set steps₁ i t.step ∙ ap₂ (λ (q : List Record) (k : ℕ). set q k (step_of t.step)) w.records_are (sym (zero-add i)) ∙
              ap (set (paste all 0 done i) (0 + i)) is ∙
              paste-suc all 0 done i (step_of d) (omega (arith, length-map steps step_of)) (omega (arith, length_done)) ∙
              ap (paste all 0 done) (sym next);
          same_steps = length-set steps₁ i t.step ∙ w.same_steps;
          same_first = l₁ ∙ w.same_first;
          same_second = l₂ ∙ w.same_second;
        }

  -- with all turns taken, the list is followed
  pub followed : {i h : ℕ} {steps₁ : List Step} {first₁ second₁ : Bytes} → Walked F steps first second held i steps₁ first₁ second₁ h → i ≡ length steps
      → Follows F steps held first second steps₁ first₁ h
  followed {i} w e =
      record {
        fills =
            w.records_are ∙ ap₂ (λ (p q : List Record). p ++ q) (take_all i done (omega (arith, length_done, e)))
            (drop_of_length-le all {i = 0 + i} (omega (arith, length-map steps step_of, e))) ∙ append-nil done;
        sheet_held = w.going.sheet_held ∙ ap (reached F (room first second) all (take held first)) e;
        is_short = w.going.is_short;
      }

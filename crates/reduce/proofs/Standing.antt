-- Rows changed one after the other in a copy: what stands before a row, and what is still to come from there on, make the rows aimed at.
-- Assumes nothing.
use mathlib.Core.Path.{◌≡◌, sym, ap, ◌∙◌}
use mathlib.Core.List.{List, [], ◌∷◌, ◌++◌, append_assoc, append-nil}
use Prim.Native.Nat.{ℕ, suc, ◌+◌, ◌-◌, ◌≤◌, ◌<◌}
use native.Mathlib.Omega.{arith}
use lib.ListN.{length, get_or, take, drop, set, length-append, take-append-drop, get_or-append}
use lib.Seq.{length-take-le, take_all, drop-set-lt, take-suc-set, append_snoc, take_at, drop_at, drop-drop, take-add, slice, get_or-append-add}
use Rattle.sheet.specs.Format.{Row, row}

pub drop-later : (l m : List Row) (i j : ℕ) → i ≤ j → drop i l ≡ drop i m → drop j l ≡ drop j m
drop-later l m i j h e =
    ap (λ k. drop k l) (split i j h) ∙ sym (drop-drop (j - i) i l) ∙ ap (drop (j - i)) e ∙ drop-drop (j - i) i m ∙
    ap (λ k. drop k m) (sym (split i j h))
  where
    split : (i j : ℕ) → i ≤ j → j ≡ i + (j - i)
    split i j h = omega arith

-- the rows of a part in the middle
module _ (A M B : List Row) {i j : ℕ} (start : i ≡ length A) (end : j ≡ i + length M) where
  pub middle : slice i j (A ++ (M ++ B)) ≡ M
  middle =
      ap (λ (l : List Row). drop i (take j l)) (sym (append_assoc A M B)) ∙
      ap (drop i) (take_at (A ++ M) B j (length-append A M ∙ omega (arith, start, end))) ∙ drop_at A M i (sym start)

  pub middle_row : (r : ℕ) → i ≤ r → r < j → get_or (A ++ (M ++ B)) r (row 0 0) ≡ get_or M (r - i) (row 0 0)
  middle_row r l h =
      ap (λ (k : ℕ). get_or (A ++ (M ++ B)) k (row 0 0)) (split r l) ∙ get_or-append-add A (M ++ B) (r - i) (row 0 0) ∙
      get_or-append M B (row 0 0) (r - i) (omega (arith, end))
    where
      split : (r : ℕ) → i ≤ r → r ≡ length A + (r - i)
      split r l = omega (arith, start)

-- R are the rows copied, T those aimed at; of D the rows before r are T's, those behind are R's, and rest is to come
pub record Standing (R T D : List Row) (r : ℕ) (rest : List Row) : Type 0 where
  pub so_far : take r D ++ rest ≡ T
  pub left : drop r D ≡ drop r R

module _ {R T D : List Row} {r : ℕ} where
  pub stand_as : {rest rest' : List Row} → rest ≡ rest' → Standing R T D r rest → Standing R T D r rest'
  stand_as e st = record { so_far = ap (λ (l : List Row). take r D ++ l) (sym e) ∙ st.so_far; left = st.left }

  pub stand_put : {D' rest : List Row} (x : Row) {next : ℕ} → next ≡ suc r → r < length D → D' ≡ set D r x → Standing R T D r (x ∷ rest)
      → Standing R T D' next rest
  stand_put {D'} {rest} x next h e st =
      rw next
      (record {
        so_far =
            ap (λ (l : List Row). take (suc r) l ++ rest) e ∙ ap (λ (l : List Row). l ++ rest) (take-suc-set D r x h) ∙
            append_snoc (take r D) x rest ∙ st.so_far;
        left = ap (drop (suc r)) e ∙ drop-set-lt (suc r) D r x (omega arith) ∙ drop-later D R r (suc r) (omega arith) st.left;
      })

  -- nothing but R's own rows is to come
  pub stand_rest : Standing R T D r (drop r R) → D ≡ T
  stand_rest st = sym (take-append-drop r D) ∙ ap (λ (l : List Row). take r D ++ l) st.left ∙ st.so_far

  pub stand_all : length D ≤ r → Standing R T D r [] → D ≡ T
  stand_all h st = sym (take_all r D h) ∙ sym (append-nil (take r D)) ∙ st.so_far

  -- rows that stay, and rows put in behind them
  pub stand_many : {D' : List Row} (H M rest : List Row) {first next : ℕ} → first ≡ r + length H → next ≡ first + length M
      → next ≤ length D → take (length H) (drop r R) ≡ H → D' ≡ take first D ++ (M ++ drop next D)
      → Standing R T D r (H ++ (M ++ rest)) → Standing R T D' next rest
  stand_many {D'} H M rest {first} {next} at end inside stay e st =
      record {
        so_far =
            ap (λ (l : List Row). take next l ++ rest) e' ∙
            ap (λ (l : List Row). l ++ rest) (take_at (take first D ++ M) (drop next D) next counted) ∙
            append_assoc (take first D) M rest ∙ ap (λ (l : List Row). l ++ (M ++ rest)) kept ∙
            append_assoc (take r D) H (M ++ rest) ∙ st.so_far;
        left =
            ap (drop next) e' ∙ drop_at (take first D ++ M) (drop next D) next counted ∙
            drop-later D R r next (omega (arith, at, end)) st.left;
      }
    where
      e' : D' ≡ (take first D ++ M) ++ drop next D
      e' = e ∙ sym (append_assoc (take first D) M (drop next D))

      counted : length (take first D ++ M) ≡ next
      counted = length-append (take first D) M ∙ omega (arith, length-take-le first D (omega (arith, end)), end)

      kept : take first D ≡ take r D ++ H
      kept =
          ap (λ (k : ℕ). take k D) at ∙ take-add r (length H) D ∙
          ap (λ (l : List Row). take r D ++ l) (ap (take (length H)) st.left ∙ stay)

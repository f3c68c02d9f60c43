-- What a table tells of the operators in segments: of segments side by side, of an operator's own, and after a change of other entries.
-- Assumes nothing.
use mathlib.Core.Path.{◌≡◌, sym, subst}
use mathlib.Core.List.{List}
use Prim.Native.Nat.{ℕ, suc, ◌+◌, ◌≤◌}
use native.Mathlib.Omega.{arith}
use lib.ListN.{length, get_or}
use Rattle.sheet.specs.Format.{Row}
use Rattle.tidy_rules.specs.Segments.{Segment, gone, literal, operator, Segments, none, ◌◂◌, ◌⊕◌, segment_rows, size}
use Rattle.tidy_rules.specs.Known.{Says, Told, AllTold}
use Rattle.tidy_rules.proofs.Segments.{length-◂}

-- a row by another number for it
pub told_at : (K : List ℕ) {r r' : ℕ} (bs : Segments) → r ≡ r' → AllTold K r bs → AllTold K r' bs
told_at K bs e t = subst (λ q. AllTold K q bs) e t

-- segments side by side

pub told_join : (K : List ℕ) (r : ℕ) (bs cs : Segments) → AllTold K r bs → AllTold K (r + length (segment_rows bs)) cs → AllTold K r (bs ⊕ cs)
unfolding AllTold ◌⊕◌ segment_rows
told_join K r none cs t u = told_at K cs (omega arith) u
told_join K r (x ◂ bs) cs t u =
    (t.0, told_join K (r + size x) bs cs t.1 (told_at K cs (omega (arith, length-◂ x bs)) u))

pub told_first : (K : List ℕ) (r : ℕ) (bs cs : Segments) → AllTold K r (bs ⊕ cs) → AllTold K r bs
unfolding AllTold ◌⊕◌
told_first K r none cs t = record {}
told_first K r (x ◂ bs) cs t = (t.0, told_first K (r + size x) bs cs t.1)

pub told_last : (K : List ℕ) (r : ℕ) (bs cs : Segments) → AllTold K r (bs ⊕ cs) → AllTold K (r + length (segment_rows bs)) cs
unfolding AllTold ◌⊕◌ segment_rows
told_last K r none cs t = told_at K cs (omega arith) t
told_last K r (x ◂ bs) cs t = told_at K cs (omega (arith, length-◂ x bs)) (told_last K (r + size x) bs cs t.1)

pub told_one : (K : List ℕ) (r : ℕ) (x : Segment) → Told K r x → AllTold K r (x ◂ none)
unfolding AllTold
told_one K r x t = (t, record {})

pub told_gone : (K : List ℕ) (r : ℕ) (rs : List Row) → Told K r (gone rs)
unfolding Told
told_gone K r rs = record {}

-- an operator's own

pub told_says : (K : List ℕ) (r : ℕ) (x : Segment) → Told K r x → Says (get_or K r 0) x
unfolding Told Says
told_says K r (gone rs) t = record {}
told_says K r (literal s v) t = record {}
told_says K r (operator o ks) t = t.0

-- entries before the segments' first row don't matter
mutual
  unfolding Told AllTold

  told_segment : (K K' : List ℕ) (r : ℕ) (x : Segment) → ((j : ℕ) → r ≤ j → get_or K' j 0 ≡ get_or K j 0) → Told K r x → Told K' r x
  told_segment K K' r (gone rs) e t = record {}
  told_segment K K' r (literal s v) e t = record {}
  told_segment K K' r (operator o ks) e t =
      (subst (λ w. Says w (operator o ks)) (sym (e r (omega arith))) t.0, told_keeps K K' (suc r) ks (λ j l. e j (omega (arith, l))) t.1)

  pub told_keeps : (K K' : List ℕ) (r : ℕ) (bs : Segments) → ((j : ℕ) → r ≤ j → get_or K' j 0 ≡ get_or K j 0) → AllTold K r bs → AllTold K' r bs
  told_keeps K K' r none e t = record {}
  told_keeps K K' r (x ◂ bs) e t = (told_segment K K' r x e t.0, told_keeps K K' (r + size x) bs (λ j l. e j (omega (arith, l))) t.1)

-- Segments and the rows that they cover: joining, walking on by one segment, storing a row.
-- Assumes nothing.
use mathlib.Core.Path.{◌≡◌, refl, sym, ap, ◌∙◌, subst}
use mathlib.Core.Bool.{true, false}
use mathlib.Core.List.{List, ◌∷◌, ◌++◌, append_assoc, append-nil}
use Prim.Native.Nat.{ℕ, suc, ◌+◌, ◌≤◌, ◌<◌}
use native.Mathlib.Nat.{suc-add}
use native.Mathlib.Omega.{arith}
use lib.ListN.{length, set, length-append}
use lib.Seq.{get_or_at, set_at}
use Rattle.formula.specs.Tree.{and, or, Forest, ∅, ◌⧺◌}
use Rattle.formula.proofs.Forests.{⧺-assoc}
use Rattle.sheet.specs.Format.{Row, row}
use Rattle.rows.specs.Layouts.{Room}
use Rattle.rows.specs.declared.Layout.{Layout}
use Rattle.tidy_rules.specs.Segments.{Segment, gone, literal, operator, Segments, none, ◌◂◌, ◌⊕◌, head, inner, segment_rows, size, grown, live, Laid, Here, Stands}
use Rattle.tidy_rules.specs.Walks.{extent, at_row}

-- joining

pub rows-⊕ : (bs cs : Segments) → segment_rows (bs ⊕ cs) ≡ segment_rows bs ++ segment_rows cs
unfolding ◌⊕◌ segment_rows
rows-⊕ none cs = refl
rows-⊕ (x ◂ bs) cs = ap (λ l. head x ∷ l) (ap (λ l. inner x ++ l) (rows-⊕ bs cs) ∙ sym (append_assoc (inner x) (segment_rows bs) (segment_rows cs)))

pub ⊕-assoc : (bs cs ds : Segments) → (bs ⊕ cs) ⊕ ds ≡ bs ⊕ (cs ⊕ ds)
unfolding ◌⊕◌
⊕-assoc none cs ds = refl
⊕-assoc (x ◂ bs) cs ds = ap (λ l. x ◂ l) (⊕-assoc bs cs ds)

pub ⊕-◂ : (bs : Segments) (x : Segment) (cs : Segments) → bs ⊕ (x ◂ cs) ≡ (bs ⊕ (x ◂ none)) ⊕ cs
unfolding ◌⊕◌
⊕-◂ none x cs = refl
⊕-◂ (y ◂ bs) x cs = ap (λ l. y ◂ l) (⊕-◂ bs x cs)

grown-⧺ : (x : Segment) (ts us : Forest) → grown x (ts ⧺ us) ≡ grown x ts ⧺ us
unfolding grown ◌⧺◌
grown-⧺ (gone rs) ts us = refl
grown-⧺ (literal s v) ts us = refl
grown-⧺ (operator o ks) ts us = refl

pub live-⊕ : (bs cs : Segments) → live (bs ⊕ cs) ≡ live bs ⧺ live cs
unfolding ◌⊕◌ live ◌⧺◌
live-⊕ none cs = refl
live-⊕ (x ◂ bs) cs = ap (grown x) (live-⊕ bs cs) ∙ grown-⧺ x (live bs) (live cs)

-- what a segment holds, and what the others do
pub live-◂ : (x : Segment) (bs : Segments) → live (x ◂ bs) ≡ live (x ◂ none) ⧺ live bs
unfolding live ◌⧺◌
live-◂ x bs = grown-⧺ x ∅ (live bs)

pub ⧺-◂ : (ts : Forest) (x : Segment) (bs : Segments) → ts ⧺ live (x ◂ bs) ≡ (ts ⧺ live (x ◂ none)) ⧺ live bs
⧺-◂ ts x bs = ap (λ l. ts ⧺ l) (live-◂ x bs) ∙ sym (⧺-assoc ts (live (x ◂ none)) (live bs))

pub live_snoc : (bs : Segments) (x : Segment) → live (bs ⊕ (x ◂ none)) ≡ live bs ⧺ live (x ◂ none)
live_snoc bs x = live-⊕ bs (x ◂ none)

-- a segment's rows

pub length-◂ : (x : Segment) (bs : Segments) → length (segment_rows (x ◂ bs)) ≡ size x + length (segment_rows bs)
unfolding segment_rows
length-◂ x bs = ap suc (length-append (inner x) (segment_rows bs)) ∙ sym (suc-add (length (inner x)) (length (segment_rows bs)))

pub length-⊕ : (bs cs : Segments) → length (segment_rows (bs ⊕ cs)) ≡ length (segment_rows bs) + length (segment_rows cs)
length-⊕ bs cs = ap length (rows-⊕ bs cs) ∙ length-append (segment_rows bs) (segment_rows cs)

pub length_one : (x : Segment) → length (segment_rows (x ◂ none)) ≡ size x
unfolding segment_rows
length_one x = ap (λ l. suc (length l)) (append-nil (inner x))

pub no_rows : (bs : Segments) → length (segment_rows bs) ≡ 0 → bs ≡ none
unfolding segment_rows
no_rows none e = refl
no_rows (x ◂ bs) e = absurd (omega arith)

pub extent-head : (x : Segment) → extent (head x) ≡ size x
unfolding extent head
extent-head (gone rs) = refl
extent-head (literal true v) = refl
extent-head (literal false v) = refl
extent-head (operator and ks) = refl
extent-head (operator or ks) = refl

-- The rows of a part of the segments, and a walk over them.
module _ {R : List Row} {from at to : ℕ} {before after : List Row} {done rest : Segments} (h : Here R from at to before done rest after) where
  length_done : length (before ++ segment_rows done) ≡ at
  length_done = length-append before (segment_rows done) ∙ omega (arith, h.starts, h.place)

  split_there : R ≡ (before ++ segment_rows done) ++ (segment_rows rest ++ after)
  split_there = h.whole ∙ sym (append_assoc before (segment_rows done) (segment_rows rest ++ after))

  pub done_laid : Laid R from at before done (segment_rows rest ++ after)
  done_laid = record { whole = h.whole; starts = h.starts; ends = h.place }

  pub rest_laid : Laid R at to (before ++ segment_rows done) rest after
  rest_laid = record { whole = split_there; starts = length_done; ends = h.ends }

  walk_end : length R ≡ to + length after
  walk_end =
      ap length split_there ∙ length-append (before ++ segment_rows done) (segment_rows rest ++ after) ∙
      omega (arith, length_done, h.ends, length-append (segment_rows rest) after)

  pub within : (at ≤ to) × (to ≤ length R)
  within = (omega (arith, h.ends), omega (arith, walk_end))

pub start : {R : List Row} {from to : ℕ} {before after : List Row} {bs : Segments} → Laid R from to before bs after
    → Here R from from to before none bs after
unfolding segment_rows
start l = record { whole = l.whole; starts = l.starts; place = omega arith; ends = l.ends }

pub laid-within : {R : List Row} {from to : ℕ} {before after : List Row} {bs : Segments} → Laid R from to before bs after
    → (from ≤ to) × (to ≤ length R)
laid-within l = within (start l)

-- the segment at a row that is not the end
pub record Next (R : List Row) (at : ℕ) (rest : Segments) : Type 0 where
  pub segment : Segment
  pub others : Segments
  pub is : rest ≡ segment ◂ others
  pub row_is : at_row R at ≡ head segment

pub next : {R : List Row} {from at to : ℕ} {before after : List Row} {done rest : Segments}
    → Here R from at to before done rest after → at < to → Next R at rest
unfolding segment_rows
next {rest = none} h l = absurd (omega (arith, h.ends))
next {at = at} {before = before} {after = after} {done = done} {rest = x ◂ others} h l =
    record {
      segment = x;
      others = others;
      is = refl;
      row_is =
          ap (λ (l : List Row). at_row l at) (split_there h) ∙
          get_or_at (before ++ segment_rows done) (head x) ((inner x ++ segment_rows others) ++ after) (row 0 0) at (length_done h);
    }

-- on by one segment
pub onward : {R : List Row} {from at to : ℕ} {before after : List Row} {done others : Segments} {x : Segment}
    → Here R from at to before done (x ◂ others) after → Here R from (at + size x) to before (done ⊕ (x ◂ none)) others after
unfolding segment_rows
onward {before = before} {after = after} {done = done} {others = others} {x = x} h =
    record {
      whole = h.whole ∙ ap (λ l. before ++ l) regroup;
      starts = h.starts;
      place = omega (arith, length-⊕ done (x ◂ none), length_one x, h.place);
      ends = omega (arith, length-◂ x others, h.ends);
    }
  where
    one : segment_rows (x ◂ none) ≡ head x ∷ inner x
    one = ap (λ l. head x ∷ l) (append-nil (inner x))

    regroup : segment_rows done ++ (segment_rows (x ◂ others) ++ after) ≡ segment_rows (done ⊕ (x ◂ none)) ++ (segment_rows others ++ after)
    regroup =
        ap (λ l. segment_rows done ++ (head x ∷ l)) (append_assoc (inner x) (segment_rows others) after) ∙
        sym (append_assoc (segment_rows done) (head x ∷ inner x) (segment_rows others ++ after)) ∙
        ap (λ l. l ++ (segment_rows others ++ after)) (ap (λ l. segment_rows done ++ l) (sym one) ∙ sym (rows-⊕ done (x ◂ none)))

-- a row stored at a segment's first row: the segments that stand there from then on
pub store : {R : List Row} {from at to : ℕ} {before after : List Row} {done others : Segments} {x : Segment} (bs : Segments) (r : Row)
    → Here R from at to before done (x ◂ others) after → segment_rows bs ≡ r ∷ inner x
    → Here (set R at r) from at to before done (bs ⊕ others) after
unfolding segment_rows
store {at = at} {before = before} {after = after} {done = done} {others = others} {x = x} bs r h e =
    record {
      whole =
          ap (λ (l : List Row). set l at r) (split_there h) ∙
          set_at (before ++ segment_rows done) (head x) ((inner x ++ segment_rows others) ++ after) r at (length_done h) ∙
          append_assoc before (segment_rows done) (r ∷ ((inner x ++ segment_rows others) ++ after)) ∙
          ap (λ (l : List Row). before ++ (segment_rows done ++ (l ++ after))) (sym stored);
      starts = h.starts;
      place = h.place;
      ends = omega (arith, ap length stored, h.ends);
    }
  where
    stored : segment_rows (bs ⊕ others) ≡ r ∷ (inner x ++ segment_rows others)
    stored = rows-⊕ bs others ∙ ap (λ l. l ++ segment_rows others) e

-- the segment at a row
pub stands : {R : List Row} {from at to : ℕ} {before after : List Row} {done others : Segments} {x : Segment}
    → Here R from at to before done (x ◂ others) after → Stands R at (before ++ segment_rows done) x (segment_rows others ++ after)
unfolding segment_rows
stands {before = before} {after = after} {done = done} {others = others} {x = x} h =
    record {
      whole = split_there h ∙ ap (λ l. (before ++ segment_rows done) ++ (head x ∷ l)) (append_assoc (inner x) (segment_rows others) after);
      starts = length_done h;
    }

pub stands_row : {R : List Row} {at : ℕ} {before after : List Row} {x : Segment} → Stands R at before x after → at_row R at ≡ head x
stands_row {at = at} {before = before} {after = after} {x = x} h =
    ap (λ (l : List Row). at_row l at) h.whole ∙ get_or_at before (head x) (inner x ++ after) (row 0 0) at h.starts

pub stands_within : {R : List Row} {at : ℕ} {before after : List Row} {x : Segment} → Stands R at before x after → at + size x ≤ length R
stands_within {before = before} {after = after} {x = x} h =
    omega (arith, ap length h.whole, length-append before (head x ∷ (inner x ++ after)), length-append (inner x) after, h.starts)

-- a walk over segments and past them, and one seen from an earlier row
pub part_done : {R : List Row} {from at end : ℕ} {before after : List Row} {done bs : Segments} (others : Segments)
    → Here R from at end before done bs (segment_rows others ++ after)
    → Here R from end (end + length (segment_rows others)) before (done ⊕ bs) others after
part_done {before = before} {after = after} {done = done} {bs = bs} others h =
    record {
      whole =
          h.whole ∙
          ap (λ l. before ++ l)
          (sym (append_assoc (segment_rows done) (segment_rows bs) (segment_rows others ++ after)) ∙
          ap (λ l. l ++ (segment_rows others ++ after)) (sym (rows-⊕ done bs)));
      starts = h.starts;
      place = omega (arith, length-⊕ done bs, h.place, h.ends);
      ends = refl;
    }

pub past_here : {R : List Row} {from at p to : ℕ} {before after : List Row} (earlier : Segments) {done rest : Segments}
    → Here R at p to (before ++ segment_rows earlier) done rest after → length before ≡ from → from + length (segment_rows earlier) ≡ at
    → Here R from p to before (earlier ⊕ done) rest after
past_here {before = before} {after = after} earlier {done} {rest} h starts place =
    record {
      whole =
          h.whole ∙ append_assoc before (segment_rows earlier) _ ∙
          ap (λ rs. before ++ rs)
          (sym (append_assoc (segment_rows earlier) (segment_rows done) (segment_rows rest ++ after)) ∙
          ap (λ rs. rs ++ (segment_rows rest ++ after)) (sym (rows-⊕ earlier done)));
      starts = starts;
      place = omega (arith, h.place, place, length-⊕ earlier done);
      ends = h.ends;
    }

-- room is a matter of the length
pub room_as : {s : Layout} {now then : ℕ} → now ≡ then → Room s then → Room s now
room_as {s} e room = subst (Room s) (sym e) room

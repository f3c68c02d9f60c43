-- A walk past as many trees as are owed.
-- Assumes nothing.
use mathlib.Core.Path.{◌≡◌, refl, sym, ap, ◌∙◌, subst}
use mathlib.Core.List.{List}
use mathlib.Core.Logic.{⊎_elim}
use Prim.Native.Nat.{ℕ, zero, suc, ◌+◌, ◌-◌, ◌≤◌, ◌<◌}
use native.Mathlib.Omega.{arith}
use lib.ListN.{length}
use Rattle.formula.specs.Tree.{Tree, Forest, ∅, ◌▸◌, ◌⧺◌, count}
use Rattle.formula.proofs.Forests.{⧺-none, ⧺-assoc}
use Rattle.sheet.specs.Format.{Bytes, Row}
use Rattle.sheet.specs.Sheet.{front, behind}
use Rattle.rows.specs.Layouts.{rows_in, Room, total}
use Rattle.rows.specs.declared.Layout.{Layout}
use Rattle.tidy_rules.specs.Segments.{Segment, gone, literal, operator, Segments, none, ◌◂◌, ◌⊕◌, head, segment_rows, grown, live, Laid, Here, Owed}
use Rattle.tidy_rules.specs.Walks.{extent, Alive, Hops, at_row}
use Rattle.tidy_rules.proofs.Segments.{⊕-◂, live_snoc, live-◂, start, next}
use Rattle.tidy_rules.proofs.Walks.{Turn, here_next, dead_holds, turn_at}

pub record Hopping (R : List Row) (from at to : ℕ) (before : List Row) (bs : Segments) (after : List Row) (owed left : ℕ) : Type 0 where
  pub done : Segments
  pub rest : Segments
  pub parts : bs ≡ done ⊕ rest
  pub here : Here R from at to before done rest after
  pub ahead : front owed (live bs) ≡ live done ⧺ front left (live rest)
  pub past : behind owed (live bs) ≡ behind left (live rest)
  pub enough : left ≤ count (live rest)

abbrev pub Hop : List Row → ℕ → ℕ → ℕ → ℕ → ℕ → Type 0
Hop R from at to owed left =
    (before : List Row) (bs : Segments) (after : List Row) → Laid R from to before bs after → owed ≤ count (live bs)
    → Hopping R from at to before bs after owed left

pub hop_none : {R : List Row} {from to owed : ℕ} → Hop R from from to owed owed
unfolding live ◌⧺◌ ◌⊕◌
hop_none before bs after l e = record { done = none; rest = bs; parts = refl; here = start l; ahead = refl; past = refl; enough = e }

-- trees that are owed have rows
pub not_end : {R : List Row} {from at to : ℕ} {before after : List Row} {done rest : Segments}
    → Here R from at to before done rest after → 0 < count (live rest) → at < to
unfolding live count segment_rows
not_end {rest = none} h e = absurd (omega arith)
not_end {rest = x ◂ others} h e = omega (arith, h.ends)

pub hop_turn : {s : Layout} {from at owed left : ℕ} (b : Bytes) → Room s (length b) → Hop (rows_in s b) from at (total s) owed left
    → Owed (rows_in s b) from (total s) owed → 0 < left → Turn s b at (total s)
hop_turn b room w o l =
    let g = o.region in
    let st = w g.before g.segments g.after g.laid o.enough in
    turn_at b room st.here (not_end st.here (omega (arith, st.enough)))

-- one tree: the first that is owed
pub record One (ts : Forest) : Type 0 where
  pub tree : Tree
  pub is : ts ≡ tree ▸ ∅

pub live_one : (x : Segment) → ((head x).kind ≡ 0 → ⊥) → One (live (x ◂ none))
unfolding head live grown
live_one (gone rs) e = absurd (e refl)
live_one (literal s v) e = record { tree = _; is = refl }
live_one (operator o ks) e = record { tree = _; is = refl }

record Paid (us others : Forest) (left after : ℕ) : Type 0 where
  pub paid_front : front left (us ⧺ others) ≡ us ⧺ front after others
  pub paid_behind : behind left (us ⧺ others) ≡ behind after others
  pub paid_enough : left ≤ count (us ⧺ others) → after ≤ count others

paid_nothing : (others : Forest) (left : ℕ) → Paid ∅ others left left
unfolding ◌⧺◌
paid_nothing others left = record { paid_front = refl; paid_behind = refl; paid_enough = λ h. h }

paid_tree : (t : Tree) (others : Forest) (left : ℕ) → Paid (t ▸ ∅) others (suc left) left
unfolding ◌⧺◌ front behind count
paid_tree t others left = record { paid_front = refl; paid_behind = refl; paid_enough = λ h. omega arith }

paid : (x : Segment) (others : Forest) (left one : ℕ) → 0 < left → Alive (head x) one
    → Paid (live (x ◂ none)) others left (left - one)
paid x others zero one l k = absurd (omega arith)
paid x others (suc left) one l k =
    ⊎_elim (λ d. subst (λ us. Paid us others (suc left) (suc left - one)) (sym (dead_holds x d.0)) (nothing d.1))
    (λ d.
    let t = live_one x d.0 in
    subst (λ us. Paid us others (suc left) (suc left - one)) (sym t.is) (something t.tree d.1))
    k
  where
    nothing : one ≡ 0 → Paid ∅ others (suc left) (suc left - one)
    nothing e = subst (Paid ∅ others (suc left)) (omega (arith, e)) (paid_nothing others (suc left))

    something : (t : Tree) → one ≡ 1 → Paid (t ▸ ∅) others (suc left) (suc left - one)
    something t e = subst (Paid (t ▸ ∅) others (suc left)) (omega (arith, e)) (paid_tree t others left)

pub hop_more : {R : List Row} {from at to owed left one s : ℕ} → Hop R from at to owed left → 0 < left
    → Alive (at_row R at) one → s ≡ extent (at_row R at) → Hop R from (at + s) to owed (left - one)
hop_more {R} {from} {at} {to} {owed} {left} {one} w l k e before bs after laid enough =
    let h = w before bs after laid enough in
    let m = next h.here (not_end h.here (omega (arith, h.enough))) in
    let k' = subst (λ (r : Row). Alive r one) m.row_is k in
    let p = paid m.segment (live m.others) left one l k' in
    let opened : live h.rest ≡ live (m.segment ◂ none) ⧺ live m.others = ap live m.is ∙ live-◂ m.segment m.others in
    record {
      done = h.done ⊕ (m.segment ◂ none);
      rest = m.others;
      parts = h.parts ∙ ap (λ cs. h.done ⊕ cs) m.is ∙ ⊕-◂ h.done m.segment m.others;
      here = here_next h.here m.is m.row_is e;
      ahead =
          h.ahead ∙ ap (λ ts. live h.done ⧺ front left ts) opened ∙ ap (λ ts. live h.done ⧺ ts) p.paid_front ∙
          sym (⧺-assoc (live h.done) (live (m.segment ◂ none)) _) ∙
          ap (λ ts. ts ⧺ front (left - one) (live m.others)) (sym (live_snoc h.done m.segment));
      past = h.past ∙ ap (behind left) opened ∙ p.paid_behind;
      enough = p.paid_enough (subst (λ ts. left ≤ count ts) opened h.enough);
    }

pub hop_end : {R : List Row} {from at to owed left : ℕ} → Hop R from at to owed left → left ≤ 0 → Hops R from to owed at
unfolding front behind
hop_end {left = left} w l before bs after laid enough =
    let h = w before bs after laid enough in
    let zeroth : left ≡ 0 = omega arith in
    record {
      first = h.done;
      others = h.rest;
      parts = h.parts;
      here = h.here;
      owned = sym (h.ahead ∙ ap (λ m. live h.done ⧺ front m (live h.rest)) zeroth ∙ nothing-more (live h.done) (live h.rest));
      left = sym (h.past ∙ ap (λ m. behind m (live h.rest)) zeroth ∙ all_left (live h.rest));
    }
  where
    nothing-more : (ts us : Forest) → ts ⧺ front 0 us ≡ ts
    nothing-more ts us = ⧺-none ts

    all_left : (us : Forest) → behind 0 us ≡ us
    all_left us = refl

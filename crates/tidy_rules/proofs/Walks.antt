-- A walk over segments that only reads: a claim about the trees passed.
-- Assumes nothing.
use mathlib.Core.Path.{◌≡◌, refl, sym, ap, ◌∙◌, subst}
use mathlib.Core.Bool.{Bool, true, false, or-true}
use mathlib.Core.List.{List}
use mathlib.Core.Logic.{⊎_elim}
use Prim.Native.Nat.{ℕ, ◌+◌, ◌≤◌, ◌<◌}
use native.Mathlib.Omega.{arith}
use lib.ListN.{length}
use borrow.Author.Tests.{eq-eqb, ne_eqb}
use Rattle.formula.specs.Tree.{and, or, Tree, lit, Forest, ∅, ◌⧺◌, count}
use Rattle.formula.specs.Tidy.{same_tree}
use Rattle.formula.proofs.Forests.{⧺-none, count-⧺}
use Rattle.sheet.specs.Format.{Bytes, Row}
use Rattle.rows.specs.Layouts.{rows_in, Room, total}
use Rattle.rows.specs.declared.Layout.{Layout}
use Rattle.rows.proofs.Layouts.{length-rows_in}
use Rattle.tidy_rules.specs.Segments.{Segment, gone, literal, operator, Segments, none, ◌◂◌, ◌⊕◌, head, segment_rows, grown, live, Laid, Here, Region}
use Rattle.tidy_rules.specs.Walks.{extent, Alive, Finds, at_row}
use Rattle.tidy_rules.proofs.Segments.{live_snoc, ⧺-◂, length-◂, extent-head, within, start, next, onward, no_rows}

pub record Walked (R : List Row) (from at to : ℕ) (before : List Row) (bs : Segments) (after : List Row) (Q : Forest → Type 0) : Type 0 where
  pub done : Segments
  pub rest : Segments
  pub here : Here R from at to before done rest after
  pub joined : live bs ≡ live done ⧺ live rest
  pub claim : Q (live done)

abbrev pub Scan : List Row → ℕ → ℕ → ℕ → (Forest → Type 0) → Type 0
Scan R from at to Q = (before : List Row) (bs : Segments) (after : List Row) → Laid R from to before bs after → Walked R from at to before bs after Q

pub scan_none : {R : List Row} {from to : ℕ} (Q : Forest → Type 0) → Q ∅ → Scan R from from to Q
unfolding live ◌⧺◌
scan_none Q q before bs after l = record { done = none; rest = bs; here = start l; joined = refl; claim = q }

-- the next segment of the rows that bytes hold: where it stands, and how far it goes
pub record Turn (s : Layout) (b : Bytes) (at to : ℕ) : Type 0 where
  pub row_within : at < total s
  pub some_rows : 0 < extent (at_row (rows_in s b) at)
  pub inside : at + extent (at_row (rows_in s b) at) ≤ to
  pub end_within : to ≤ total s

pub turn_at : {s : Layout} {from at to : ℕ} {before after : List Row} {done rest : Segments} (b : Bytes) → Room s (length b)
    → Here (rows_in s b) from at to before done rest after → at < to → Turn s b at to
turn_at b room h l =
    let m = next h l in
    let e = ap extent m.row_is ∙ extent-head m.segment in
    let counted = length-rows_in b room in
    record {
      row_within = omega (arith, counted, (within h).1);
      some_rows = omega (arith, e);
      inside = omega (arith, e, h.ends, ap (λ bs. length (segment_rows bs)) m.is, length-◂ m.segment m.others);
      end_within = omega (arith, counted, (within h).1);
    }

pub scan_turn : {s : Layout} {from at to : ℕ} {Q : Forest → Type 0} (b : Bytes) → Room s (length b) → Scan (rows_in s b) from at to Q
    → Region (rows_in s b) from to → at < to → Turn s b at to
scan_turn b room w g l = turn_at b room (w g.before g.segments g.after g.laid).here l

pub here_next : {R : List Row} {from at to : ℕ} {before after : List Row} {done rest others : Segments} {x : Segment} {s : ℕ}
    → Here R from at to before done rest after → rest ≡ x ◂ others → at_row R at ≡ head x → s ≡ extent (at_row R at)
    → Here R from (at + s) to before (done ⊕ (x ◂ none)) others after
here_next {R} {from} {at} {to} {before} {after} {done} {rest} {others} {x} {s} h is e b =
    subst (λ m. Here R from m to before (done ⊕ (x ◂ none)) others after) (ap (λ m. at + m) (sym (b ∙ ap extent e ∙ extent-head x)))
    (onward (subst (λ bs. Here R from at to before done bs after) is h))

pub scan_more : {R : List Row} {from at to s : ℕ} {Q : Forest → Type 0} (Q' : Forest → Type 0) → Scan R from at to Q → at < to
    → s ≡ extent (at_row R at)
    → ((ts : Forest) (x : Segment) → at_row R at ≡ head x → Q ts → Q' (ts ⧺ live (x ◂ none))) → Scan R from (at + s) to Q'
scan_more Q' w l b f before bs after laid =
    let here = w before bs after laid in
    let m = next here.here l in
    record {
      done = here.done ⊕ (m.segment ◂ none);
      rest = m.others;
      here = here_next here.here m.is m.row_is b;
      joined =
          here.joined ∙ ap (λ cs. live here.done ⧺ live cs) m.is ∙ ⧺-◂ (live here.done) m.segment m.others ∙
          ap (λ ts. ts ⧺ live m.others) (sym (live_snoc here.done m.segment));
      claim = subst Q' (sym (live_snoc here.done m.segment)) (f (live here.done) m.segment m.row_is here.claim);
    }

pub rest_none : {R : List Row} {from at to : ℕ} {before after : List Row} {done rest : Segments}
    → Here R from at to before done rest after → to ≤ at → live rest ≡ ∅
unfolding live
rest_none {rest = rest} h l = ap live (no_rows rest (omega (arith, h.ends)))

pub scan_end : {R : List Row} {from at to : ℕ} {Q : Forest → Type 0} → Scan R from at to Q → to ≤ at
    → {before after : List Row} {bs : Segments} → Laid R from to before bs after → Q (live bs)
scan_end {Q = Q} w l {before} {after} {bs} laid =
    let here = w before bs after laid in
    subst Q (sym (here.joined ∙ ap (λ ts. live here.done ⧺ ts) (rest_none here.here l) ∙ ⧺-none (live here.done))) here.claim

-- extent

pub extent_three : (r : Row) → r.kind ≡ 3 → extent r ≡ 1
unfolding extent
extent_three r e = rw (eq-eqb r.kind 3 e)

pub extent_four : (r : Row) → r.kind ≡ 4 → extent r ≡ 1
unfolding extent
extent_four r e = rw (eq-eqb r.kind 4 e, or-true)

pub extent_other : (r : Row) → (r.kind ≡ 3 → ⊥) → (r.kind ≡ 4 → ⊥) → extent r ≡ r.argument
unfolding extent
extent_other r e f = rw (ne_eqb r.kind 3 e, ne_eqb r.kind 4 f)

pub extent_dead : (r : Row) → r.kind ≡ 0 → extent r ≡ r.argument
extent_dead r e = extent_other r (λ f. omega arith) (λ f. omega arith)

-- dead segments hold nothing

pub dead_holds : (x : Segment) → (head x).kind ≡ 0 → live (x ◂ none) ≡ ∅
unfolding head live grown
dead_holds (gone rs) e = refl
dead_holds (literal true v) e = absurd (omega arith)
dead_holds (literal false v) e = absurd (omega arith)
dead_holds (operator and ks) e = absurd (omega arith)
dead_holds (operator or ks) e = absurd (omega arith)

live-holds : (x : Segment) → ((head x).kind ≡ 0 → ⊥) → count (live (x ◂ none)) ≡ 1
unfolding head live grown count
live-holds (gone rs) e = absurd (e refl)
live-holds (literal s v) e = refl
live-holds (operator o ks) e = refl

-- first_live

abbrev pub Hidden : Forest → Type 0
Hidden ts = ts ≡ ∅

pub hidden_more : {r : Row} → r.kind ≡ 0 → (ts : Forest) (x : Segment) → r ≡ head x → Hidden ts → Hidden (ts ⧺ live (x ◂ none))
unfolding ◌⧺◌
hidden_more k ts x e q = rw (q, dead_holds x (ap (λ (r : Row). r.kind) (sym e) ∙ k))

pub first_found : {R : List Row} {from at to : ℕ} → Scan R from at to Hidden
    → (at < to → (at_row R at).kind ≡ 0 → ⊥)
    → Finds R from to at
unfolding ◌⧺◌
first_found w f before bs after laid =
    let here = w before bs after laid in
    record {
      done = here.done;
      rest = here.rest;
      here = here.here;
      hidden = here.claim;
      others = here.joined ∙ ap (λ ts. ts ⧺ live here.rest) here.claim;
      found = f;
    }

-- count_live

abbrev pub Counted : ℕ → Forest → Type 0
Counted seen ts = seen ≡ count ts

pub counted_none : Counted 0 ∅
unfolding count
counted_none = refl

pub counted_more : {r : Row} {seen one : ℕ} → Alive r one
    → (ts : Forest) (x : Segment) → r ≡ head x → Counted seen ts → Counted (seen + one) (ts ⧺ live (x ◂ none))
unfolding count
counted_more {r} {seen} {one} k ts x e q =
    ⊎_elim (λ d. omega (arith, count-⧺ ts (live (x ◂ none)), d.1, q, ap count (dead_holds x (ap (λ (r : Row). r.kind) (sym e) ∙ d.0))))
    (λ d. omega (arith, count-⧺ ts (live (x ◂ none)), d.1, q, live-holds x (λ f. d.0 (ap (λ (r : Row). r.kind) e ∙ f)))) k

pub count-rows : (bs : Segments) → count (live bs) ≤ length (segment_rows bs)
unfolding count live segment_rows grown
count-rows none = omega arith
count-rows (x ◂ bs) = go x (count-rows bs)
  where
    go : (x : Segment) → count (live bs) ≤ length (segment_rows bs) → count (grown x (live bs)) ≤ length (segment_rows (x ◂ bs))
    go (gone rs) h = omega (arith, length-◂ (gone rs) bs)
    go (literal s v) h = omega (arith, length-◂ (literal s v) bs)
    go (operator o ks) h = omega (arith, length-◂ (operator o ks) bs)

pub counted_few : {s : Layout} {from at to seen : ℕ} (b : Bytes) → Room s (length b) → Scan (rows_in s b) from at to (Counted seen)
    → Region (rows_in s b) from to → seen ≤ total s
counted_few b room w g =
    let here = w g.before g.segments g.after g.laid in
    omega (arith, here.claim, count-rows here.done, here.here.place, (within here.here).0, (within here.here).1, length-rows_in b room)

-- a literal's test
abbrev pub like : Bool → ℕ → Tree → Bool
like s v t = same_tree t (lit s v)

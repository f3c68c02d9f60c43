-- Packing: the rows of the trees that segments hold, one behind the other.
-- Assumes nothing.
use mathlib.Core.Path.{◌≡◌, refl, sym, ap, ap₂, ◌∙◌, subst}
use mathlib.Core.Bool.{true, false}
use mathlib.Core.List.{List, ◌∷◌, ◌++◌, append_assoc, append-nil}
use Prim.Native.Nat.{ℕ, suc, ◌+◌, ◌*◌, ◌-◌, ◌^◌, ◌≤◌, ◌<◌}
use native.Mathlib.Numerals.{add-one}
use native.Mathlib.Omega.{arith}
use lib.ListN.{length, get_or, take, drop, set, length-drop, take-append-drop}
use lib.Seq.{take-suc-set, drop-set-lt, drop-drop, drop-append-le, drop_at, take_at, length-take-le}
use borrow.Author.Tests.{eq-eqb, ne_eqb}
use Rattle.formula.specs.Tree.{and, or, node}
use Rattle.sheet.specs.Format.{Bytes, Row, row, number, IsByte, AllBytes}
use Rattle.sheet.specs.Sheet.{forest_rows}
use Rattle.sheet.proofs.Every.{every_take, every_drop}
use Rattle.sheet.proofs.Numbers.{number_bound}
use Rattle.rows.specs.Layouts.{width, rows_in, Room, total}
use Rattle.rows.specs.declared.Layout.{Layout}
use Rattle.rows.proofs.Layouts.{row_in, argument_within}
use Rattle.buckets.specs.Halves.{children_of}
use Rattle.buckets.proofs.Hashes.{hash_few}
use Rattle.tidy_rules.specs.Segments.{Segment, gone, literal, operator, Segments, none, ◌◂◌, ◌⊕◌, head, inner, segment_rows, size, live, Laid, Stands}
use Rattle.tidy_rules.specs.Known.{Says, Told, AllTold}
use Rattle.tidy_rules.specs.Walks.{at_row}
use Rattle.tidy_rules.proofs.Segments.{rows-⊕, length-◂, stands_row, stands_within, laid-within, no_rows}
use Rattle.tidy_rules.proofs.Walks.{count-rows}
use Rattle.tidy_rules.proofs.Told.{told_at, told_join, told_says}
use Rattle.tidy_rules.specs.Entered.{packed, entered, ArgumentOf}
use Rattle.tidy_rules.proofs.Entered.{entered_forest, packed-row, argument_literal}
use Rattle.tidying.specs.Inner.Packed.{stride, ToldRegion, ToldAt, ArgumentTold, Put, Puts, Packs}

entered-rows : (x : Segment) (bs : Segments) → drop (stride (head x)) (segment_rows (x ◂ bs)) ≡ segment_rows (entered x bs)
unfolding stride head inner segment_rows entered
entered-rows (gone rs) bs = drop_at rs (segment_rows bs) (length rs) refl
entered-rows (literal true v) bs = refl
entered-rows (literal false v) bs = refl
entered-rows (operator and ks) bs = sym (rows-⊕ ks bs)
entered-rows (operator or ks) bs = sym (rows-⊕ ks bs)

-- the table tells of the segments that come next
entered_operator : (K : List ℕ) (at : ℕ) (ks bs : Segments) → AllTold K (suc at) ks → AllTold K (at + suc (length (segment_rows ks))) bs
    → AllTold K (at + 1) (ks ⊕ bs)
entered_operator K at ks bs t u = told_at K (ks ⊕ bs) (omega arith) (told_join K (suc at) ks bs t (told_at K bs (omega arith) u))

entered_told : (K : List ℕ) (at : ℕ) (x : Segment) (bs : Segments) → AllTold K at (x ◂ bs) → AllTold K (at + stride (head x)) (entered x bs)
unfolding AllTold Told stride head inner entered
entered_told K at (gone rs) bs t = t.1
entered_told K at (literal true v) bs t = told_at K bs (omega arith) t.1
entered_told K at (literal false v) bs t = told_at K bs (omega arith) t.1
entered_told K at (operator and ks) bs t = entered_operator K at ks bs t.0.1 t.1
entered_told K at (operator or ks) bs t = entered_operator K at ks bs t.0.1 t.1

-- the stride is within the segment, and a row is put for no fewer
stride-within : (x : Segment) → (length (packed x) ≤ stride (head x)) × (0 < stride (head x)) × (stride (head x) ≤ size x)
unfolding stride head inner packed
stride-within (gone rs) = (omega arith, omega arith, omega arith)
stride-within (literal true v) = (omega arith, omega arith, omega arith)
stride-within (literal false v) = (omega arith, omega arith, omega arith)
stride-within (operator and ks) = (omega arith, omega arith, omega arith)
stride-within (operator or ks) = (omega arith, omega arith, omega arith)

pub stride_dead : (r : Row) → r.kind ≡ 0 → stride r ≡ r.argument
unfolding stride
stride_dead r e = rw (eq-eqb r.kind 0 e)

pub stride-live : (r : Row) → (r.kind ≡ 0 → ⊥) → stride r ≡ 1
unfolding stride
stride-live r e = rw (ne_eqb r.kind 0 e)

-- a number of w bytes is below 256 ^ w
pub argument_fits : {s : Layout} (b : Bytes) → Room s (length b) → AllBytes b → (r : ℕ) → r < total s
    → (at_row (rows_in s b) r).argument < 256 ^ width s
argument_fits {s} b room h r l =
    rw (row_in b room r l)
    (subst (λ m. number (take w (drop at b)) < 256 ^ m)
    (length-take-le w (drop at b) (omega (arith, argument_within b room r l, length-drop at b)))
    (number_bound (take w (drop at b)) (every_take IsByte w (drop at b) (every_drop IsByte at b h))))
  where
    w : ℕ
    w = width s

    at : ℕ
    at = 2 * w + total s + w * r

pub put-fits : {R : List Row} {at m : ℕ} {before after : List Row} (x : Segment) (a : ℕ) → ((head x).kind ≡ 0 → ⊥) → Stands R at before x after
    → (head x).argument < m → length R < m → ArgumentOf x a → a < m
unfolding head inner ArgumentOf
put-fits (gone rs) a e h l u f = absurd (e refl)
put-fits (literal s v) a e h l u f = omega arith
put-fits (operator o ks) a e h l u f = omega (arith, f, count-rows ks, stands_within h)

-- argument_told

says-count : (x : Segment) (w : ℕ) → 4 < (head x).kind → Says w x → ArgumentOf x (children_of w)
unfolding head Says ArgumentOf
says-count (gone rs) w l e = tt
says-count (literal true v) w l e = absurd (omega arith)
says-count (literal false v) w l e = absurd (omega arith)
says-count (operator o ks) w l e = omega (arith, e, hash_few (node o (live ks)))

module _ (R : List Row) {at k : ℕ} (k-is : k ≡ (at_row R at).kind) (K : List ℕ) where
  segment_kind : {before after : List Row} {x : Segment} → Stands R at before x after → k ≡ (head x).kind
  segment_kind h = k-is ∙ ap (λ (r : Row). r.kind) (stands_row h)

  pub told_literal : {a : ℕ} → k ≤ 4 → a ≡ (at_row R at).argument → ArgumentTold R K at a
  told_literal {a} l e before x after h t =
      argument_literal x a (omega (arith, segment_kind h)) (e ∙ ap (λ (r : Row). r.argument) (stands_row h))

  pub told_operator : {a : ℕ} → 4 < k → a ≡ children_of (get_or K at 0) → ArgumentTold R K at a
  told_operator l e before x after h t =
      subst (ArgumentOf x) (sym e) (says-count x (get_or K at 0) (omega (arith, segment_kind h)) (told_says K at x t))

-- put_live

pub put_dead : {R : List Row} {at to : ℕ} (x : Segment) → (head x).kind ≡ 0 → Put R R at to x to
unfolding head packed
put_dead {R} {at} {to} (gone rs) e = record { added = sym (append-nil (take to R)); ahead = refl; moved = omega arith }
put_dead (literal true v) e = absurd (omega arith)
put_dead (literal false v) e = absurd (omega arith)
put_dead (operator and ks) e = absurd (omega arith)
put_dead (operator or ks) e = absurd (omega arith)

pub put-row : {R R' : List Row} {at to : ℕ} (x : Segment) (k a : ℕ) → R' ≡ set R to (row k a) → to ≤ at → at < length R → (k ≡ 0 → ⊥) → k ≡ (head x).kind
    → ArgumentOf x a → Put R R' at to x (to + 1)
put-row {R} {R'} {at} {to} x k a e l u nz k-is a-is =
    let p = packed-row x k a nz k-is a-is in
    record {
      added =
          ap₂ take (add-one to) e ∙ take-suc-set R to (row k a) (omega arith) ∙ ap (λ rs. take to R ++ rs) (sym p);
      ahead = ap (drop (at + 1)) e ∙ drop-set-lt (at + 1) R to (row k a) (omega arith);
      moved = omega (arith, ap length p);
    }

-- pack

pub record Packing (R : List Row) (K : List ℕ) (at to n : ℕ) (before : List Row) (bs : Segments) (after : List Row) : Type 0 where
  pub rest : Segments
  pub ahead : drop at R ≡ segment_rows rest ++ after
  pub ends : at + length (segment_rows rest) ≡ n
  pub told : AllTold K at rest
  pub so_far : take to R ++ forest_rows (live rest) ≡ before ++ forest_rows (live bs)

pub record Pack (R₀ R : List Row) (K : List ℕ) (v n at to : ℕ) : Type 0 where
  pub behind : to ≤ at
  pub within : at ≤ n
  pub packing : (before : List Row) (bs : Segments) (after : List Row) → Laid R₀ v n before bs after → AllTold K v bs
      → Packing R K at to n before bs after

pub pack_none : {R : List Row} {K : List ℕ} {v n : ℕ} → ToldRegion R K v n → Pack R R K v n v v
pack_none {R} {K} {v} {n} g =
    record {
      behind = omega arith;
      within = (laid-within g.laid).0;
      packing =
          λ before bs after l told.
          record {
            rest = bs;
            ahead = ap (drop v) l.whole ∙ drop_at before (segment_rows bs ++ after) v l.starts;
            ends = l.ends;
            told = told;
            so_far = ap (λ rs. rs ++ forest_rows (live bs)) (ap (take v) l.whole ∙ take_at before (segment_rows bs ++ after) v l.starts);
          };
    }

record SegmentThere (R : List Row) (K : List ℕ) (at n : ℕ) (rest : Segments) (after : List Row) : Type 0 where
  pub segment : Segment
  pub others : Segments
  pub is : rest ≡ segment ◂ others
  pub stands : Stands R at (take at R) segment (segment_rows others ++ after)
  pub told : Told K at segment
  pub onward : AllTold K (at + stride (head segment)) (entered segment others)

there : {R : List Row} {K : List ℕ} {at n : ℕ} {after : List Row} (rest : Segments) → at < n → n ≤ length R → drop at R ≡ segment_rows rest ++ after
    → at + length (segment_rows rest) ≡ n → AllTold K at rest → SegmentThere R K at n rest after
unfolding segment_rows AllTold
there none l u d e t = absurd (omega arith)
there {R} {K} {at} {n} {after} (x ◂ others) l u d e t =
    record {
      segment = x;
      others = others;
      is = refl;
      stands =
          record {
            whole = sym (take-append-drop at R) ∙ ap (λ rs. take at R ++ rs) (d ∙ ap (λ rs. head x ∷ rs) (append_assoc (inner x) (segment_rows others) after));
            starts = length-take-le at R (omega arith);
          };
      told = t.0;
      onward = entered_told K at x others t;
    }

module _ {R₀ R : List Row} {K : List ℕ} {v n at to : ℕ} (p : Pack R₀ R K v n at to) (l : at < n) (u : n ≤ length R) where
  segment_there : {before : List Row} {bs : Segments} {after : List Row} (laid : Laid R₀ v n before bs after) (told : AllTold K v bs)
      → SegmentThere R K at n (p.packing before bs after laid told).rest after
  segment_there laid told =
      let q = p.packing _ _ _ laid told in
      there q.rest l u q.ahead q.ends q.told

  module _ (g : ToldRegion R₀ K v n) where
    pub pack-told : ToldAt R K at
    pack-told =
        let t = segment_there g.laid g.told in
        record { before = _; segment = t.segment; after = _; stands = t.stands; told = t.told }

    pub pack-safe : (0 < stride (at_row R at)) × (at + stride (at_row R at) ≤ n)
    pack-safe =
        let q = p.packing _ _ _ g.laid g.told in
        let t = segment_there g.laid g.told in
        let w = stride-within t.segment in
        let e = ap stride (stands_row t.stands) in (
          omega (arith, e, w.1),
          omega (arith, e, w.2, q.ends, ap (λ cs. length (segment_rows cs)) t.is, length-◂ t.segment t.others),
        )

    pub pack-more : {R' : List Row} {s next : ℕ} → s ≡ stride (at_row R at) → Puts R R' K at to next → Pack R₀ R' K v n (at + s) next
    pack-more {R'} {s} {next} e f =
        let t₀ = segment_there g.laid g.told in
        record {
          behind =
              omega
              (arith, p.behind, (f _ _ _ t₀.stands t₀.told).moved, (stride-within t₀.segment).0, e, ap stride (stands_row t₀.stands));
          within = omega (arith, e, pack-safe.1);
          packing =
              λ before bs after laid told.
              let q = p.packing before bs after laid told in
              let t = segment_there laid told in
              let x = t.segment in
              let put = f _ x _ t.stands t.told in
              let is : s ≡ stride (head x) = e ∙ ap stride (stands_row t.stands) in
              let w = stride-within x in
              let counted : length (segment_rows q.rest) ≡ size x + length (segment_rows t.others) = ap (λ cs. length (segment_rows cs)) t.is ∙ length-◂ x t.others in
              let few : s ≤ length (segment_rows (x ◂ t.others)) = omega (arith, is, w.2, length-◂ x t.others) in
              let left = entered-after x t.others is in
              record {
                rest = entered x t.others;
                ahead =
                    later s (omega (arith, is, w.1)) put.ahead ∙
                    ap (drop s) (q.ahead ∙ ap (λ cs. segment_rows cs ++ after) t.is) ∙
                    drop-append-le s (segment_rows (x ◂ t.others)) after few ∙ ap (λ rs. rs ++ after) left;
                ends =
                    omega
                    (arith, q.ends, counted, ap length left, length-drop s (segment_rows (x ◂ t.others)), length-◂ x t.others, few);
                told = subst (λ m. AllTold K (at + m) (entered x t.others)) (sym is) t.onward;
                so_far =
                    ap (λ rs. rs ++ forest_rows (live (entered x t.others))) put.added ∙
                    append_assoc (take to R) (packed x) (forest_rows (live (entered x t.others))) ∙
                    ap (λ rs. take to R ++ rs) (entered_forest x t.others ∙ ap (λ cs. forest_rows (live cs)) (sym t.is)) ∙ q.so_far;
              };
        }
      where
        -- what is ahead of the next row is as it was
        later : (s : ℕ) → 0 < s → drop (at + 1) R' ≡ drop (at + 1) R → drop (at + s) R' ≡ drop s (drop at R)
        later s l a =
            ap (λ m. drop m R') far ∙ sym (drop-drop (s - 1) (at + 1) R') ∙ ap (drop (s - 1)) a ∙ drop-drop (s - 1) (at + 1) R ∙
            ap (λ m. drop m R) (sym far) ∙ sym (drop-drop s at R)
          where
            far : at + s ≡ at + 1 + (s - 1)
            far = omega arith

        entered-after : {s : ℕ} (x : Segment) (others : Segments) → s ≡ stride (head x) → drop s (segment_rows (x ◂ others)) ≡ segment_rows (entered x others)
        entered-after x others e = ap (λ m. drop m (segment_rows (x ◂ others))) e ∙ entered-rows x others

pub pack_end : {R₀ R : List Row} {K : List ℕ} {v n at to : ℕ} → Pack R₀ R K v n at to → n ≤ at → Packs R₀ R K v n to
unfolding forest_rows live
pack_end {R = R} {to = to} p l before bs after h told =
    let q = p.packing before bs after h told in
    sym (append-nil (take to R)) ∙ ap (λ cs. take to R ++ forest_rows (live cs)) (sym (no_rows q.rest (omega (arith, q.ends)))) ∙ q.so_far

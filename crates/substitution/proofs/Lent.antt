-- Rows copied into a lent part, as their kinds or as their arguments: all as they are, then those that change, one by one.
-- Assumes nothing.
use mathlib.Core.Path.{◌≡◌, refl, sym, ap, ap₂, ◌∙◌}
use mathlib.Core.List.{List, [], ◌∷◌, ◌++◌, append_assoc, append-nil, map}
use Prim.Native.Nat.{ℕ, suc, ◌+◌, ◌*◌, ◌-◌, ◌≤◌, ◌<◌}
use native.Mathlib.Nat.{zero-add, add-zero, mul-add, mul-le-mul_left}
use native.Mathlib.Numerals.{add-one}
use native.Mathlib.Omega.{arith}
use lib.ListN.{length, take, drop, get_or, set, length-append, length-set, take-append-drop}
use lib.Seq.{slice, length-take-le, length-slice, take-take, drop_at, drop-drop, drop-append-le, slice_empty, set_split}
use Rattle.sheet.specs.Format.{Bytes, Row, row, digits}
use Rattle.sheet.specs.Sheet.{row_kinds, row_arguments}
use Rattle.sheet.proofs.Numbers.{length_digits}
use Rattle.sheet.proofs.Parts.{length-row_kinds, length-row_arguments}
use Rattle.rows.specs.Layouts.{rows_in}
use Rattle.rows.specs.declared.Layout.{Layout}
use Rattle.rows.proofs.Layouts.{length-rows_in}
use Rattle.substitution.specs.Changes.{changed_row, copied}
use Rattle.substitution.specs.Output.{extent, Between, Copying, spliced}
use Rattle.substitution.specs.declared.Span.{Span}
use Rattle.substitution.proofs.Changed.{map-append}
use Rattle.substitution.proofs.Splice.{splice-behind}
use Rattle.substitution.proofs.Copied.{copied_next, length-copied}

-- spliced

splice-none : (start : ℕ) (old : Bytes) → old ≡ spliced start [] old
unfolding spliced
splice-none start old = sym (ap (λ n. take start old ++ drop n old) (add-zero start) ∙ take-append-drop start old)

splice_front : (new old : Bytes) → spliced 0 new old ≡ new ++ drop (length new) old
unfolding spliced
splice_front new old = ap (λ n. new ++ drop n old) (zero-add (length new))

splice_on : (start : ℕ) (new more old : Bytes) → start ≤ length old → spliced (start + length new) more (spliced start new old) ≡ spliced start (new ++ more) old
unfolding spliced
splice_on start new more old h =
    ap₂ (λ n l. spliced n more l) (sym (add-zero (start + length new))) (sym (append_assoc (take start old) new rest)) ∙
    splice-behind (take start old ++ new) rest more (start + length new) 0 front ∙
    ap (λ l. (take start old ++ new) ++ l) (splice_front more rest) ∙
    append_assoc (take start old) new (more ++ drop (length more) rest) ∙
    ap (λ l. take start old ++ l) (sym (append_assoc new more (drop (length more) rest))) ∙
    ap (λ l. take start old ++ ((new ++ more) ++ l)) (drop-drop (length more) (start + length new) old ∙ ap (λ n. drop n old) behind)
  where
    rest : Bytes
    rest = drop (start + length new) old

    front : length (take start old ++ new) ≡ start + length new
    front = length-append (take start old) new ∙ ap (λ n. n + length new) (length-take-le start old h)

    behind : start + length new + length more ≡ start + length (new ++ more)
    behind = omega (arith, length-append new more)

-- a byte, and a number of w bytes
one_byte : (i k : ℕ) (out : Bytes) → take i out ++ k ∷ drop (suc i) out ≡ spliced i (k ∷ []) out
unfolding spliced
one_byte i k out = ap (λ n. take i out ++ k ∷ drop n out) (sym (add-one i))

one_number : (w i : ℕ) (ds out : Bytes) → length ds ≡ w → take i out ++ ds ++ drop (i + w) out ≡ spliced i ds out
unfolding spliced
one_number w i ds out e = append_assoc (take i out) ds (drop (i + w) out) ∙ ap (λ n. take i out ++ (ds ++ drop (i + n) out)) (sym e)

splice_middle : (a b c m rest : Bytes) → length b ≡ length m → spliced (length a) m ((a ++ (b ++ c)) ++ rest) ≡ (a ++ (m ++ c)) ++ rest
unfolding spliced
splice_middle a b c m rest e =
    ap₂ (λ n l. spliced n m l) (sym (add-zero (length a))) (append_assoc a (b ++ c) rest) ∙
    splice-behind a ((b ++ c) ++ rest) m (length a) 0 refl ∙
    ap (λ l. a ++ l) (splice_front m ((b ++ c) ++ rest)) ∙
    ap (λ l. a ++ (m ++ l)) (ap₂ drop (sym e) (append_assoc b c rest) ∙ drop_at b (c ++ rest) (length b) refl) ∙
    ap (λ l. a ++ l) (sym (append_assoc m c rest)) ∙ sym (append_assoc a (m ++ c) rest)

-- rows as bytes, by a function F: the rows from row first on are changed, up to row r, in bytes that begin at start
pub record Changed (F : List Row → Bytes) (start : ℕ) (t : List ℕ) (R : List Row) (first to : ℕ) (d out : Bytes) (r : ℕ) : Type 0 where
  pub begun : first ≤ r
  pub within : r ≤ to
  pub so_far : out ≡ spliced start (F (copied t first r R)) d
  pub same_length : length out ≡ length d

module _ (F : List Row → Bytes) (onto : (rs ss : List Row) → F (rs ++ ss) ≡ F rs ++ F ss)
    (size : (rs ss : List Row) → length rs ≡ length ss → length (F rs) ≡ length (F ss)) (nothing : F [] ≡ []) where
  changed-none : (start : ℕ) (t : List ℕ) (R : List Row) (first to : ℕ) (d : Bytes) → first ≤ to → Changed F start t R first to d d first
  unfolding copied
  changed-none start t R first to d h =
      record {
        begun = omega arith;
        within = h;
        so_far = splice-none start d ∙ ap (λ l. spliced start l d) (sym (ap (λ rs. F (map (changed_row t) rs)) (slice_empty first R) ∙ nothing));
        same_length = refl;
      }

  -- one row more is changed
  changed-next : {start : ℕ} {t : List ℕ} {R : List Row} {first to : ℕ} {d out new : Bytes} {r : ℕ} → Changed F start t R first to d out r
      → r < to → to ≤ length R → start ≤ length d → length new ≡ length out
      → new ≡ spliced (start + length (F (copied t first r R))) (F (changed_row t (get_or R r (row 0 0)) ∷ [])) out
      → Changed F start t R first to d new (r + 1)
  changed-next {start} {t} {R} {first} {to} {d} {out} {new} {r} c h l room same f =
      record {
        begun = omega (arith, c.begun);
        within = omega arith;
        so_far =
            f ∙ ap (spliced (start + length (F done)) (F one)) c.so_far ∙ splice_on start (F done) (F one) d room ∙
            ap (λ m. spliced start m d) (sym (onto done one) ∙ ap F (copied_next t first r R c.begun (omega arith)));
        same_length = same ∙ c.same_length;
      }
    where
      done : List Row
      done = copied t first r R

      one : List Row
      one = changed_row t (get_or R r (row 0 0)) ∷ []

  -- all that change are changed
  module _ {s : Layout} {b : Bytes} {t : List ℕ} {span changed : Span} (c : Copying s b t span changed) where
    abbrev R : List Row
    R = rows_in s b

    long : span.to ≤ length R
    long = omega (arith, length-rows_in b c.source, c.within.inside)

    apart : {A : Type 0} (l : List A) (i j k : ℕ) → i ≤ j → j ≤ k → k ≤ length l → slice i k l ≡ slice i j l ++ slice j k l
    apart l i j k p q h =
        ap (drop i) (sym (ap (λ m. m ++ slice j k l) (sym (take-take j k l q)) ∙ take-append-drop j (take k l))) ∙
        drop-append-le i (take j l) (slice j k l) (omega (arith, length-take-le j l (omega arith)))

    copied-apart : (i j k : ℕ) → i ≤ j → j ≤ k → k ≤ length R → copied t i k R ≡ copied t i j R ++ copied t j k R
    unfolding copied
    copied-apart i j k p q h = ap (map (changed_row t)) (apart R i j k p q h) ∙ map-append (changed_row t) (slice i j R) (slice j k R)

    changed-all : (start : ℕ) → length (F (slice span.from changed.from R)) ≡ start → (rest : Bytes) {d out : Bytes} {r : ℕ}
        → d ≡ F (slice span.from span.to R) ++ rest → changed.to ≤ r → Changed F start t R changed.from changed.to d out r
        → out ≡ F (copied t span.from span.to R) ++ rest
    changed-all start begins rest {d} {out} {r} e l h =
        h.so_far ∙ ap₂ (λ n k. spliced n (F (copied t changed.from k R)) d) (sym begins) last ∙
        ap (spliced (length (F A)) (F M)) (e ∙ ap (λ l. l ++ rest) (ap F rows ∙ onto A (B ++ C) ∙ ap (λ l. F A ++ l) (onto B C))) ∙
        splice_middle (F A) (F B) (F C) (F M) rest (size B M (sym (length-copied t changed.from changed.to R))) ∙
        ap (λ l. l ++ rest) (ap (λ l. F A ++ l) (sym (onto M C)) ∙ sym (onto A (M ++ C)) ∙ ap F (sym news))
      where
        A : List Row
        A = slice span.from changed.from R

        B : List Row
        B = slice changed.from changed.to R

        C : List Row
        C = slice changed.to span.to R

        M : List Row
        M = copied t changed.from changed.to R

        last : r ≡ changed.to
        last = omega (arith, h.within)

        w : Between s b t span changed
        w = c.between

        rows : slice span.from span.to R ≡ A ++ (B ++ C)
        rows =
            apart R span.from changed.from span.to w.start (omega (arith, w.ordered, w.end)) long ∙
            ap (λ l. A ++ l) (apart R changed.from changed.to span.to w.ordered w.end long)

        news : copied t span.from span.to R ≡ A ++ (M ++ C)
        news =
            copied-apart span.from changed.from span.to w.start (omega (arith, w.ordered, w.end)) long ∙
            ap₂ ◌++◌ w.before (copied-apart changed.from changed.to span.to w.ordered w.end long ∙ ap (λ l. M ++ l) w.behind)

-- kinds

row_kinds-append : (rs ss : List Row) → row_kinds (rs ++ ss) ≡ row_kinds rs ++ row_kinds ss
unfolding row_kinds
row_kinds-append [] ss = refl
row_kinds-append (r ∷ rs) ss = ap (λ l. r.kind ∷ l) (row_kinds-append rs ss)

kinds_size : (rs ss : List Row) → length rs ≡ length ss → length (row_kinds rs) ≡ length (row_kinds ss)
kinds_size rs ss e = length-row_kinds rs ∙ e ∙ sym (length-row_kinds ss)

no_kinds : row_kinds [] ≡ []
unfolding row_kinds
no_kinds = refl

one_kind : (r : Row) → row_kinds (r ∷ []) ≡ r.kind ∷ []
unfolding row_kinds
one_kind r = refl

-- arguments

row_arguments-append : (w : ℕ) (rs ss : List Row) → row_arguments w (rs ++ ss) ≡ row_arguments w rs ++ row_arguments w ss
unfolding row_arguments
row_arguments-append w [] ss = refl
row_arguments-append w (r ∷ rs) ss =
    ap (λ l. digits w r.argument ++ l) (row_arguments-append w rs ss) ∙ sym (append_assoc (digits w r.argument) (row_arguments w rs) (row_arguments w ss))

arguments-size : (w : ℕ) (rs ss : List Row) → length rs ≡ length ss → length (row_arguments w rs) ≡ length (row_arguments w ss)
arguments-size w rs ss e = length-row_arguments w rs ∙ ap (λ n. w * n) e ∙ sym (length-row_arguments w ss)

no_arguments : (w : ℕ) → row_arguments w [] ≡ []
unfolding row_arguments
no_arguments w = refl

one_argument : (w : ℕ) (r : Row) → row_arguments w (r ∷ []) ≡ digits w r.argument
unfolding row_arguments
one_argument w r = append-nil (digits w r.argument)

-- copy_kinds: a byte a row

module _ {s : Layout} {b : Bytes} {t : List ℕ} {span changed : Span} (c : Copying s b t span changed) where
  abbrev rs : List Row
  rs = rows_in s b

  abbrev before : ℕ
  before = changed.from - span.from

  enough : changed.to ≤ length rs
  enough = omega (arith, length-rows_in b c.source, c.within.inside, c.between.end)

  length_front : length (slice span.from changed.from rs) ≡ before
  length_front = length-slice span.from changed.from rs (omega (arith, enough, c.between.ordered))

  -- rows changed so far
  length_done : (r : ℕ) → r ≤ changed.to → length (copied t changed.from r rs) ≡ r - changed.from
  length_done r h = length-copied t changed.from r rs ∙ length-slice changed.from r rs (omega (arith, enough))

  pub kinds_none : (d : Bytes) → Changed row_kinds before t rs changed.from changed.to d d changed.from
  kinds_none d = changed-none row_kinds row_kinds-append kinds_size no_kinds before t rs changed.from changed.to d c.between.ordered

  pub kinds_next : {d out : Bytes} {r : ℕ} → extent span ≤ length d → Changed row_kinds before t rs changed.from changed.to d out r → r < changed.to
      → {k : ℕ} → k ≡ (changed_row t (get_or rs r (row 0 0))).kind
      → Changed row_kinds before t rs changed.from changed.to d (set out (r - span.from) k) (r + 1)
  kinds_next {d} {out} {r} room h l {k} e =
      changed-next row_kinds row_kinds-append kinds_size no_kinds h l enough (omega (arith, room, w.start, w.ordered, w.end)) (length-set out at k)
      (set_split out at k inside ∙ one_byte at k out ∙
      ap₂ (λ n m. spliced n m out) place (ap (λ j. j ∷ []) e ∙ sym (one_kind (changed_row t (get_or rs r (row 0 0))))))
    where
      w : Between s b t span changed
      w = c.between

      at : ℕ
      at = r - span.from

      inside : at < length out
      inside = omega (arith, h.same_length, room, w.end)

      place : at ≡ before + length (row_kinds (copied t changed.from r rs))
      place = omega (arith, w.start, h.begun, length-row_kinds (copied t changed.from r rs), length_done r h.within)

  pub kinds_all : (rest : Bytes) {d out : Bytes} {r : ℕ} → d ≡ row_kinds (slice span.from span.to rs) ++ rest → changed.to ≤ r
      → Changed row_kinds before t rs changed.from changed.to d out r → out ≡ row_kinds (copied t span.from span.to rs) ++ rest
  kinds_all = changed-all row_kinds row_kinds-append kinds_size no_kinds c before (length-row_kinds (slice span.from changed.from rs) ∙ length_front)

  -- copy_arguments: a number a row

  module _ (w : ℕ) where
    pub arguments-none : (d : Bytes) → Changed (row_arguments w) (w * before) t rs changed.from changed.to d d changed.from
    arguments-none d =
        changed-none (row_arguments w) (row_arguments-append w) (arguments-size w) (no_arguments w) (w * before) t rs changed.from changed.to d
        c.between.ordered

    pub arguments-next : {d out new : Bytes} {r : ℕ} → w * extent span ≤ length d
        → Changed (row_arguments w) (w * before) t rs changed.from changed.to d out r → r < changed.to
        → {a : ℕ} → a ≡ (changed_row t (get_or rs r (row 0 0))).argument → length new ≡ length out
        → new ≡ take (w * (r - span.from)) out ++ digits w a ++ drop (w * (r - span.from) + w) out
        → Changed (row_arguments w) (w * before) t rs changed.from changed.to d new (r + 1)
    arguments-next {d} {out} {new} {r} room h l {a} e same f =
        changed-next (row_arguments w) (row_arguments-append w) (arguments-size w) (no_arguments w) h l enough
        (omega (arith, room, mul-le-mul_left w few)) same
        (f ∙ one_number w (w * (r - span.from)) (digits w a) out (length_digits w a) ∙
        ap₂ (λ n m. spliced n m out) place (ap (digits w) e ∙ sym (one_argument w (changed_row t (get_or rs r (row 0 0))))))
      where
        few : before ≤ extent span
        few = omega (arith, c.between.start, c.between.ordered, c.between.end)

        split : r - span.from ≡ before + (r - changed.from)
        split = omega (arith, c.between.start, h.begun)

        place : w * (r - span.from) ≡ w * before + length (row_arguments w (copied t changed.from r rs))
        place =
            ap (λ n. w * n) split ∙ mul-add w before (r - changed.from) ∙
            ap (λ n. w * before + n) (sym (length-row_arguments w (copied t changed.from r rs) ∙ ap (λ n. w * n) (length_done r h.within)))

    pub arguments-all : (rest : Bytes) {d out : Bytes} {r : ℕ} → d ≡ row_arguments w (slice span.from span.to rs) ++ rest → changed.to ≤ r
        → Changed (row_arguments w) (w * before) t rs changed.from changed.to d out r
        → out ≡ row_arguments w (copied t span.from span.to rs) ++ rest
    arguments-all =
        changed-all (row_arguments w) (row_arguments-append w) (arguments-size w) (no_arguments w) c (w * before)
        (length-row_arguments w (slice span.from changed.from rs) ∙ ap (λ n. w * n) length_front)

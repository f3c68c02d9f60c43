-- The turns of the loops that write rows.
-- Assumes nothing.
use mathlib.Core.Path.{◌≡◌, refl, sym, ap, ap₂, ◌∙◌, subst}
use mathlib.Core.List.{List, [], ◌∷◌, ◌++◌, map, append-nil, append_assoc}
use Prim.Native.Nat.{ℕ, suc, ◌+◌, ◌*◌, ◌-◌, ◌≤◌, ◌<◌}
use native.Mathlib.Omega.{arith}
use lib.ListN.{length, get_or, take, drop, length-append, length-map, drop_of_length-le}
use lib.Seq.{take_all, take-suc, drop-append-le, length-take-le, length-slice, slice, slice_empty}
use Rattle.sheet.specs.Format.{Bytes, Row, row}
use Rattle.sheet.specs.Sheet.{binding, tree_rows}
use Rattle.rows.specs.Layouts.{Fits, total, rows_in, Room}
use Rattle.rows.specs.Formulas.{prefix_in, Readable}
use Rattle.rows.specs.declared.Layout.{Layout}
use Rattle.rows.proofs.Layouts.{length-rows_in}
use Rattle.rows.proofs.Formulas.{length_prefix}
use Rattle.prefixes.specs.Places.{binding_at, binding_in}
use Rattle.prefixes.proofs.Places.{variable-row}
use Rattle.substitution.specs.Output.{Laid}
use Rattle.substitution.proofs.Changed.{map-append}
use Rattle.substitution.proofs.Splice.{none-laid, laid_on}
use Rattle.substitution.specs.declared.Span.{Span}
use Rattle.reduce.specs.Inner.Places.{row_of}
use Rattle.pair_tests.specs.Pairs.{pairs_in, Paired}
use Rattle.pair_tests.proofs.Stands.{no_pair, counted, few, opened, literal-variable, function-rows, function-stands}
use Rattle.claim.specs.Inner.Writing.{Source, of_kind, negated_kind, negated_row, differs, differs_in, differ_rows}

-- the row behind, by another name
laid_to : {t : Layout} {old new : Bytes} {at next : ℕ} {rs ss : List Row} → rs ≡ ss → Laid t old new at next rs → Laid t old new at next ss
laid_to {t} {old} {new} {at} {next} e l = subst (Laid t old new at next) e l

-- an argument of the source fits the output
pub fits-row : {s : Layout} (t : Layout) (b : Bytes) → Source s b → t.format ≡ s.format → (r : ℕ) {a : ℕ} → r < total s → a ≡ (row_of s b r).argument → Fits t a
fits-row t b c same r h e = rw (same, e) (c.arguments_fit r h)

pub fits_bound : {s : Layout} (t : Layout) (b : Bytes) → Source s b → t.format ≡ s.format → (i : ℕ) {x : ℕ} → i < s.variables → x ≡ (binding_in s b i).variable
    → Fits t x
fits_bound t b c same i h e = fits-row t b c same i (omega arith) (e ∙ sym (variable-row b c.readable i h refl))

-- after a write there is as much room
pub room_on : {t : Layout} {m n : ℕ} → Room t m → n ≡ m → Room t n
room_on r e = record { holds = omega (arith, e, r.holds) }

-- the rows of the prefix before row i are written
pub record Quantified (s : Layout) (b : Bytes) (kind : ℕ) (t : Layout) (old out : Bytes) (i : ℕ) : Type 0 where
  pub within : i ≤ s.variables
  pub so_far : Laid t old out 0 i (map (of_kind kind) (take i (prefix_in s b)))
  pub same_length : length out ≡ length old

module _ {s : Layout} (b : Bytes) (ok : Readable s b) (kind : ℕ) (t : Layout) (old : Bytes) where
  pub quantified-none : Quantified s b kind t old old 0
  quantified-none = record { within = omega arith; so_far = none-laid t old 0; same_length = refl }

  module _ {out : Bytes} {i : ℕ} (w : Quantified s b kind t old out i) where
    pub quantified-on : {new : Bytes} {next x : ℕ} → i < s.variables → x ≡ (binding_in s b i).variable → Laid t out new i next (row kind x ∷ [])
        → length new ≡ length out → Quantified s b kind t old new next
    unfolding binding_at
    quantified-on {new} {next} {x} h is l e =
        let step : next ≡ suc i = omega (arith, l.next_row) in
        record {
          within = omega arith;
          so_far =
              laid_to
              (sym
              (ap (λ n. map (of_kind kind) (take n (prefix_in s b))) step ∙
              ap (map (of_kind kind)) (take-suc (prefix_in s b) i (binding (row 0 0)) (omega (arith, length_prefix b ok))) ∙
              map-append (of_kind kind) (take i (prefix_in s b)) (binding_in s b i ∷ []) ∙
              ap (λ y. map (of_kind kind) (take i (prefix_in s b)) ++ (row kind y ∷ [])) (sym is)))
              (laid_on w.so_far l);
          same_length = e ∙ w.same_length;
        }

    pub quantified-all : s.variables ≤ i → Laid t old out 0 s.variables (map (of_kind kind) (prefix_in s b))
    quantified-all h =
        let end : i ≡ s.variables = omega (arith, w.within) in
        subst (λ n. Laid t old out 0 n (map (of_kind kind) (prefix_in s b))) end
        (laid_to (ap (map (of_kind kind)) (take_all i (prefix_in s b) (omega (arith, length_prefix b ok)))) w.so_far)

-- the rows of a span before row r are written

slice_snoc : (f r : ℕ) (l : List Row) → f ≤ r → r < length l → slice f (suc r) l ≡ slice f r l ++ (get_or l r (row 0 0) ∷ [])
slice_snoc f r l h k =
    ap (drop f) (take-suc l r (row 0 0) k) ∙ drop-append-le f (take r l) (get_or l r (row 0 0) ∷ []) (omega (arith, length-take-le r l (omega arith)))

pub record Negating (s : Layout) (b : Bytes) (t : Layout) (old : Bytes) (start from to : ℕ) (out : Bytes) (at r : ℕ) : Type 0 where
  pub begun : from ≤ r
  pub within : r ≤ to
  pub so_far : Laid t old out start at (map negated_row (slice from r (rows_in s b)))
  pub same_length : length out ≡ length old

module _ {s : Layout} (b : Bytes) (room : Room s (length b)) (t : Layout) (old : Bytes) (start from to : ℕ) (inside : to ≤ total s) where
  pub negating_none : from ≤ to → Negating s b t old start from to old start from
  negating_none h =
      record {
        begun = omega arith;
        within = h;
        so_far = laid_to (ap (map negated_row) (sym (slice_empty from (rows_in s b)))) (none-laid t old start);
        same_length = refl;
      }

  module _ {out : Bytes} {at r : ℕ} (w : Negating s b t old start from to out at r) where
    pub row-place : at ≡ start + (r - from)
    row-place =
        omega (
          arith,
          w.so_far.next_row,
          length-map (slice from r (rows_in s b)) negated_row,
          length-slice from r (rows_in s b) (omega (arith, w.within, length-rows_in b room)),
        )

    pub negating-on : {new : Bytes} {next i k a : ℕ} → r < to → i ≡ suc r → row k a ≡ negated_row (get_or (rows_in s b) r (row 0 0))
        → Laid t out new at next (row k a ∷ []) → length new ≡ length out → Negating s b t old start from to new next i
    negating-on {new} {next} {i} {k} {a} h n is l e =
        rw n
        (record {
          begun = omega (arith, w.begun);
          within = h;
          so_far =
              laid_to
              (sym
              (ap (map negated_row) (slice_snoc from r (rows_in s b) w.begun (omega (arith, length-rows_in b room))) ∙
              map-append negated_row (slice from r (rows_in s b)) (get_or (rows_in s b) r (row 0 0) ∷ []) ∙
              ap (λ x. map negated_row (slice from r (rows_in s b)) ++ (x ∷ [])) (sym is)))
              (laid_on w.so_far l);
          same_length = e ∙ w.same_length;
        })

    pub negating-all : to ≤ r → Laid t old out start at (map negated_row (slice from to (rows_in s b)))
    negating-all h =
        let end : r ≡ to = omega (arith, w.within) in
        laid_to (ap (λ j. map negated_row (slice from j (rows_in s b))) end) w.so_far

pub negated_as : (r : Row) {k a : ℕ} → k ≡ negated_kind r.kind → a ≡ r.argument → row k a ≡ negated_row r
unfolding negated_row
negated_as r e f = ap₂ row e f

-- the two children of the pairs before pair j are written

pub record Differing (s : Layout) (b : Bytes) (k : ℕ) (t : Layout) (old : Bytes) (start : ℕ) (out : Bytes) (at j : ℕ) : Type 0 where
  pub within : j ≤ length (pairs_in s b)
  pub done : List Row
  pub so_far : Laid t old out start at done
  pub owed : done ++ differ_rows k (drop j (pairs_in s b)) ≡ differ_rows k (pairs_in s b)
  pub same_length : length out ≡ length old

length-differs : (k x : ℕ) (F : List Row) → length (differs k x F) ≡ 4 + 2 * length F
unfolding differs
length-differs k x F =
    omega (arith, length-append (map negated_row F) (row k 2 ∷ row 4 x ∷ F), length-map F negated_row)

module _ {s : Layout} (b : Bytes) {cuts : List ℕ} (p : Paired s b cuts) (k : ℕ) (t : Layout) (old : Bytes) (start : ℕ) where
  pub differing_none : Differing s b k t old start old start 0
  differing_none = record { within = omega arith; done = []; so_far = none-laid t old start; owed = refl; same_length = refl }

  module _ {out : Bytes} {at j : ℕ} (w : Differing s b k t old start out at j) where
    pub differing-all : length cuts ≤ j + 1 → Laid t old out start at (differ_rows k (pairs_in s b))
    unfolding differ_rows
    differing-all h =
        laid_to
        (sym (append-nil w.done) ∙ ap (λ g. w.done ++ differ_rows k g) (sym none) ∙ w.owed) w.so_far
      where
        none : drop j (pairs_in s b) ≡ []
        none = drop_of_length-le (pairs_in s b) {i = j} (omega (arith, counted b p))

    module _ (h : suc j < length cuts) {span : Span} (from : span.from ≡ s.variables + (get_or cuts j 0 + 2))
        (to : span.to ≡ s.variables + get_or cuts (suc j) 0) where
      new_rows : differs_in k s b span ≡ differs k (get_or (pairs_in s b) j no_pair).variable (tree_rows (get_or (pairs_in s b) j no_pair).function)
      new_rows =
          ap₂ (differs k) (literal-variable b p j h {r = span.from - 1} (omega (arith, from)) refl)
          (function-rows b p j h {span = span} from to)

      opened_rows : differ_rows k (drop j (pairs_in s b)) ≡ differs_in k s b span ++ differ_rows k (drop (suc j) (pairs_in s b))
      unfolding differ_rows
      opened_rows = ap (differ_rows k) (opened b p j h) ∙ ap (λ l. l ++ differ_rows k (drop (suc j) (pairs_in s b))) (sym new_rows)

      pub pair-room : start + length (differ_rows k (pairs_in s b)) ≤ total t → at + 4 + 2 * (span.to - span.from) ≤ total t
      pair-room room =
          omega (
            arith,
            w.so_far.next_row,
            ap length w.owed,
            length-append w.done (differ_rows k (drop j (pairs_in s b))),
            ap length opened_rows,
            length-append (differs_in k s b span) (differ_rows k (drop (suc j) (pairs_in s b))),
            length-differs k (row_of s b (span.from - 1)).argument (slice span.from span.to (rows_in s b)),
            length-slice span.from span.to (rows_in s b) (omega (arith, (function-stands b p j h {span = span} from to).inside, length-rows_in b p.readable.room)),
          )

      pub differing-on : {new : Bytes} {next i : ℕ} → i ≡ suc j → Laid t out new at next (differs_in k s b span) → length new ≡ length out
          → Differing s b k t old start new next i
      differing-on {new} {next} {i} n l e =
          rw n
          (record {
            within = few b p j h;
            done = w.done ++ differs_in k s b span;
            so_far = laid_on w.so_far l;
            owed =
                append_assoc w.done (differs_in k s b span) (differ_rows k (drop (suc j) (pairs_in s b))) ∙
                ap (λ m. w.done ++ m) (sym opened_rows) ∙ w.owed;
            same_length = e ∙ w.same_length;
          })

-- a pair's rows, from what its four parts wrote

pub length-negated : {s : Layout} (b : Bytes) → Room s (length b) → (from to : ℕ) → to ≤ total s
    → length (map negated_row (slice from to (rows_in s b))) ≡ to - from
length-negated {s} b room from to h =
    length-map (slice from to (rows_in s b)) negated_row ∙ length-slice from to (rows_in s b) (omega (arith, length-rows_in b room))

pub pair_laid : {t : Layout} {o₀ o₁ o₂ o₃ o₄ : Bytes} {n₀ n₁ n₂ n₃ n₄ : ℕ} {k x y : ℕ} {F : List Row} → x ≡ y → Laid t o₀ o₁ n₀ n₁ (row k 2 ∷ row 3 x ∷ [])
    → Laid t o₁ o₂ n₁ n₂ (map negated_row F) → Laid t o₂ o₃ n₂ n₃ (row k 2 ∷ row 4 x ∷ []) → Laid t o₃ o₄ n₃ n₄ F → Laid t o₀ o₄ n₀ n₄ (differs k y F)
unfolding differs
pair_laid {k = k} {F = F} e a b c d = laid_to (ap (λ z. differs k z F) e) (laid_on a (laid_on b (laid_on c d)))

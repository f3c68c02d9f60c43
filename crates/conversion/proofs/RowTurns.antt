-- A row a turn: all rows written, and the quantifier rows looked at.
-- Assumes nothing.
use mathlib.Core.Path.{◌≡◌, refl, sym, ap, ap₂, ◌∙◌, subst}
use mathlib.Core.Bool.{true, false, ◌&&◌, ◌||◌}
use mathlib.Core.List.{List, [], ◌∷◌, ◌++◌, map}
use Prim.Native.Nat.{ℕ, zero, suc, ◌+◌, ◌≤◌, ◌<◌}
use native.Mathlib.Numerals.{add-one}
use native.Mathlib.Omega.{arith}
use lib.Dec.{ltb, leb}
use lib.ListN.{length, get_or, set, take, drop, drop_of_length-le}
use lib.Seq.{take_all, take-suc, take-suc-set, get_or-take, length-take-le}
use borrow.Author.Tests.{lt-ltb, le-ltb}
use Rattle.formula.specs.Tree.{and, or, Quantifier, Prefix}
use Rattle.sheet.specs.Format.{Bytes, Row, row, Every}
use Rattle.sheet.specs.Sheet.{quantifier_kind, binding_row}
use Rattle.sheet.specs.Conversion.{above}
use Rattle.rows.specs.Layouts.{total, rows_in, Room}
use Rattle.rows.specs.Formulas.{prefix_in, Readable}
use Rattle.rows.specs.declared.Layout.{Layout}
use Rattle.rows.proofs.Layouts.{length-rows_in}
use Rattle.rows.proofs.Formulas.{quantifiers}
use Rattle.conversion.specs.Inner.Rows.{RowsFit}

-- convert_rows: the rows before row r are written

pub record Copied (s : Layout) (b : Bytes) (t : Layout) (d out : Bytes) (r : ℕ) : Type 0 where
  pub within : r ≤ total s
  pub so_far : take r (rows_in t out) ≡ take r (rows_in s b)
  pub same_length : length out ≡ length d

module _ {s : Layout} {b : Bytes} {t : Layout} (d : Bytes) (fit : RowsFit s b t (length d)) where
  pub copied_none : Copied s b t d d 0
  copied_none = record { within = omega arith; so_far = refl; same_length = refl }

  module _ {out : Bytes} {r : ℕ} (c : Copied s b t d out r) where
    pub room_left : Room t (length out)
    room_left = record { holds = omega (arith, fit.room.holds, c.same_length) }

    length-output : length (rows_in t out) ≡ total s
    length-output = length-rows_in out room_left ∙ fit.as_many

    pub copied-row : {new : Bytes} {k a : ℕ} → r < total s → k ≡ (get_or (rows_in s b) r (row 0 0)).kind
        → a ≡ (get_or (rows_in s b) r (row 0 0)).argument → rows_in t new ≡ set (rows_in t out) r (row k a) → length new ≡ length out
        → Copied s b t d new (r + 1)
    copied-row {new} {k} {a} l ek ea e same =
        record {
          within = omega arith;
          so_far =
              ap₂ take (add-one r) e ∙ take-suc-set (rows_in t out) r (row k a) (omega (arith, length-output)) ∙
              ap₂ (λ rs (x : Row). rs ++ (x ∷ [])) c.so_far (ap₂ row ek ea) ∙
              sym (take-suc (rows_in s b) r (row 0 0) (omega (arith, length-rows_in b fit.source))) ∙
              ap (λ n. take n (rows_in s b)) (sym (add-one r));
          same_length = same ∙ c.same_length;
        }

    pub copied_all : total s ≤ r → rows_in t out ≡ rows_in s b
    copied_all l =
        sym (take_all r (rows_in t out) (omega (arith, length-output))) ∙ c.so_far ∙
        take_all r (rows_in s b) (omega (arith, length-rows_in b fit.source))

-- has_above: no number before row r is above

pub record Looked (most : ℕ) (s : Layout) (b : Bytes) (r : ℕ) : Type 0 where
  pub within : r ≤ s.variables
  pub so_far : above most (take s.variables (rows_in s b)) ≡ above most (drop r (take s.variables (rows_in s b)))

abbrev Low : Row → Type 0
Low r = leb r.kind 4 ≡ true

low_prefix : (p : Prefix) → Every Low (map binding_row p)
unfolding binding_row
low_prefix [] = tt
low_prefix (z ∷ p) = (kind z.quantifier, low_prefix p)
  where
    kind : (q : Quantifier) → leb (quantifier_kind q) 4 ≡ true
    kind and = refl
    kind or = refl

above_at : (most : ℕ) (rs : List Row) (r : ℕ) → Every Low rs → r < length rs
    → above most (drop r rs) ≡ (ltb most (get_or rs r (row 0 0)).argument || above most (drop (suc r) rs))
unfolding above
above_at most [] r h l = absurd (omega arith)
above_at most (x ∷ rs) zero h l = ap (λ t. t && ltb most x.argument || above most rs) h.0
above_at most (x ∷ rs) (suc r) h l = above_at most rs r h.1 (omega arith)

module _ (most : ℕ) {s : Layout} (b : Bytes) (ok : Readable s b) where
  abbrev prefix : List Row
  prefix = take s.variables (rows_in s b)

  low : Every Low prefix
  low = subst (Every Low) (quantifiers b ok) (low_prefix (prefix_in s b))

  counted : length prefix ≡ s.variables
  counted = length-take-le s.variables (rows_in s b) (omega (arith, length-rows_in b ok.room))

  pub looked_none : Looked most s b 0
  looked_none = record { within = omega arith; so_far = refl }

  module _ {r a : ℕ} (k : Looked most s b r) (l : r < s.variables) (e : a ≡ (get_or (rows_in s b) r (row 0 0)).argument) where
    here : above most prefix ≡ (ltb most a || above most (drop (suc r) prefix))
    here =
        k.so_far ∙ above_at most prefix r low (omega (arith, counted)) ∙
        ap (λ (x : Row). ltb most x.argument || above most (drop (suc r) prefix)) (get_or-take s.variables (rows_in s b) r (row 0 0) l) ∙
        ap (λ n. ltb most n || above most (drop (suc r) prefix)) (sym e)

    pub looked-found : most < a → true ≡ above most prefix
    looked-found h = sym (here ∙ ap (λ t. t || above most (drop (suc r) prefix)) (lt-ltb most a h))

    pub looked-row : a ≤ most → Looked most s b (r + 1)
    looked-row h =
        record {
          within = omega arith;
          so_far =
              here ∙ ap (λ t. t || above most (drop (suc r) prefix)) (le-ltb most a h) ∙ ap (λ n. above most (drop n prefix)) (sym (add-one r));
        }

  pub looked_all : {r : ℕ} → s.variables ≤ r → Looked most s b r → false ≡ above most prefix
  unfolding above
  looked_all {r} l k = sym (k.so_far ∙ ap (above most) (drop_of_length-le prefix {i = r} (omega (arith, counted))))

-- Rows put one behind the other, each with a number that fits.
-- Assumes nothing.
use mathlib.Core.Path.{◌≡◌, sym, ap, ◌∙◌}
use mathlib.Core.List.{List, [], ◌∷◌, ◌++◌, append_assoc}
use Prim.Native.Nat.{ℕ, suc, ◌+◌, ◌≤◌, ◌<◌}
use native.Mathlib.Numerals.{add-one}
use native.Mathlib.Omega.{arith}
use lib.ListN.{length, get_or, take, drop, set, length-append, take-append-drop}
use lib.Seq.{drop-cons, set_at, length-take-le}
use Rattle.sheet.specs.Format.{Row, row}
use Rattle.rows.specs.Layouts.{Fits}
use Rattle.rows.specs.Tables.{HIGHEST}
use Rattle.rows.specs.declared.Layout.{Layout}
use Rattle.rows.proofs.Limits.{number_fits as format-fits}
use Rattle.qdimacs.specs.Inner.Rows.{spliced}

pub record Put (rs₀ : List Row) (r₀ : ℕ) (done rs : List Row) (r : ℕ) : Type 0 where
  pub here : r ≡ r₀ + length done
  pub inside : r ≤ length rs₀
  pub so_far : rs ≡ take r₀ rs₀ ++ (done ++ drop r rs₀)

pub put-none : (rs₀ : List Row) (r₀ : ℕ) → r₀ ≤ length rs₀ → Put rs₀ r₀ [] rs₀ r₀
put-none rs₀ r₀ l = record { here = omega arith; inside = l; so_far = sym (take-append-drop r₀ rs₀) }

pub put-row : {rs₀ : List Row} {r₀ : ℕ} {done rs new : List Row} {r : ℕ} (x : Row) → Put rs₀ r₀ done rs r → r < length rs₀ → new ≡ set rs r x
    → Put rs₀ r₀ (done ++ (x ∷ [])) new (r + 1)
put-row {rs₀} {r₀} {done} {rs} {new} {r} x p l e =
    record {
      here = omega (arith, length-append done (x ∷ []), p.here);
      inside = omega arith;
      so_far =
          e ∙
          ap (λ l. set l r x)
          (p.so_far ∙ ap (λ l. take r₀ rs₀ ++ (done ++ l)) (drop-cons rs₀ r (row 0 0) l) ∙
          sym (append_assoc (take r₀ rs₀) done (get_or rs₀ r (row 0 0) ∷ drop (suc r) rs₀))) ∙
          set_at (take r₀ rs₀ ++ done) (get_or rs₀ r (row 0 0)) (drop (suc r) rs₀) x r front ∙ append_assoc (take r₀ rs₀) done (x ∷ drop (suc r) rs₀) ∙
          ap (λ l. take r₀ rs₀ ++ l) (sym (append_assoc done (x ∷ []) (drop (suc r) rs₀))) ∙
          ap (λ n. take r₀ rs₀ ++ ((done ++ (x ∷ [])) ++ drop n rs₀)) (sym (add-one r));
    }
  where
    front : length (take r₀ rs₀ ++ done) ≡ r
    front = omega (arith, length-append (take r₀ rs₀) done, length-take-le r₀ rs₀ (omega (arith, p.here, p.inside)), p.here)

pub put_all : {rs₀ : List Row} {r₀ : ℕ} {done rs : List Row} {r : ℕ} → Put rs₀ r₀ done rs r → rs ≡ spliced rs₀ r₀ done
put_all {rs₀} {r₀} {done} p = p.so_far ∙ ap (λ n. take r₀ rs₀ ++ (done ++ drop n rs₀)) p.here

-- variable numbers go up to 1,024, for which a row of either format has bytes
pub number_fits : (s : Layout) (x : ℕ) → x ≤ HIGHEST → Fits s x
number_fits s x l = format-fits s.format (omega arith)

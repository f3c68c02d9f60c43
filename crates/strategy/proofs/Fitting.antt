-- How many nodes fit, by how many rows have their place.
-- Assumes nothing.
use mathlib.Core.Path.{◌≡◌, refl, sym, ap, ◌∙◌}
use mathlib.Core.Bool.{Bool, true, false, ◌&&◌}
use mathlib.Core.Logic.{◌↔◌}
use Prim.Native.Nat.{ℕ, ◌+◌, ◌*◌, ◌-◌, ◌/◌, ◌≤◌, ◌<◌, min}
use native.Mathlib.Nat.{le-div_iff_mul-le, mul_comm}
use native.Mathlib.Omega.{arith}
use lib.Dec.{leb}
use borrow.Author.Tests.{leb-true, leb-false, le-leb, lt-leb}
use Rattle.sheet.specs.Format.{Format, sheet_length, fits}
use Rattle.strategy.specs.Inner.Drafts.{MostNodes}

-- k rows of w bytes and one have their place behind the sizes
abbrev Places : ℕ → ℕ → ℕ → Type 0
Places w bytes r = (k : ℕ) → 0 < k → (k ≤ r) ↔ (2 * w + (1 + w) * k ≤ bytes)

pub no_places : (w bytes : ℕ) → bytes < 2 * w → Places w bytes 0
no_places w bytes l k some = ((λ h. absurd (omega arith)), (λ h. absurd (omega arith)))

pub places : (w bytes : ℕ) → 2 * w ≤ bytes → Places w bytes ((bytes - 2 * w) / (1 + w))
places w bytes l k some =
    let d = le-div_iff_mul-le {k = 1 + w} {x = k} {y = bytes - 2 * w} (omega arith) in (
      (λ h. omega (arith, d.0 h, mul_comm k (1 + w))),
      (λ h. d.1 (omega (arith, mul_comm k (1 + w), h))),
    )

module _ (F : Format) {bytes rows : ℕ} (p : Places F.width bytes rows) (v : ℕ) where
  -- a sheet fits if it has few nodes, and its rows have their place
  fits_by : (n : ℕ) → 0 < n → fits F bytes v n ≡ (leb n F.most_nodes && leb (v + n) rows)
  unfolding fits sheet_length
  fits_by n some = ap (λ (m : Bool). leb n F.most_nodes && m) (same (leb (v + n) rows) refl)
    where
      same : (m : Bool) → leb (v + n) rows ≡ m → leb (2 * F.width + (1 + F.width) * (v + n)) bytes ≡ m
      same true e = le-leb _ bytes ((p (v + n) (omega arith)).0 (leb-true (v + n) rows e))
      same false e = short (leb (2 * F.width + (1 + F.width) * (v + n)) bytes) refl
        where
          short : (m : Bool) → leb (2 * F.width + (1 + F.width) * (v + n)) bytes ≡ m → m ≡ false
          short false k = refl
          short true k = absurd (omega (arith, (p (v + n) (omega arith)).1 (leb-true _ bytes k), leb-false (v + n) rows e))

  pub none-fits : rows < v → MostNodes F bytes v 0
  none-fits l n some = fits_by n some ∙ ap (λ (m : Bool). leb n F.most_nodes && m) (lt-leb (v + n) rows (omega arith)) ∙ never (leb n F.most_nodes) ∙ sym (lt-leb n 0 some)
    where
      never : (m : Bool) → (m && false) ≡ false
      never true = refl
      never false = refl

  pub most_fit : {r : ℕ} → v ≤ rows → r ≡ min F.most_nodes (rows - v) → MostNodes F bytes v r
  most_fit {r} l e n some = fits_by n some ∙ by (leb n F.most_nodes) refl (leb (v + n) rows) refl
    where
      by : (a : Bool) → leb n F.most_nodes ≡ a → (b : Bool) → leb (v + n) rows ≡ b → (a && b) ≡ leb n r
      by true h true k = sym (le-leb n r (omega (arith, leb-true n F.most_nodes h, leb-true (v + n) rows k)))
      by true h false k = sym (lt-leb n r (omega (arith, leb-false (v + n) rows k)))
      by false h b k = sym (lt-leb n r (omega (arith, leb-false n F.most_nodes h)))

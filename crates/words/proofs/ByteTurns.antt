-- A byte a turn.
-- Assumes nothing.
use mathlib.Core.Path.{◌≡◌, refl, ap, ◌∙◌}
use mathlib.Core.Bool.{Bool, true, false, cond}
use Prim.Native.Nat.{ℕ, suc, ◌+◌, ◌≤◌, ◌<◌}
use native.Mathlib.Numerals.{add-one}
use native.Mathlib.Omega.{arith}
use lib.ListN.{length, drop, get_or, drop_of_length-le}
use lib.Seq.{drop-cons}
use Rattle.sheet.specs.Format.{Bytes}
use Rattle.sheet.specs.Texts.{separator}
use Rattle.words.specs.Words.{lead, gap}

-- end_of: what leads from `at` on ends where what leads from `to` on does

pub record Led (s : ℕ → Bool) (b : Bytes) (at to : ℕ) : Type 0 where
  pub within : to ≤ length b
  pub same_end : to + lead s (drop to b) ≡ at + lead s (drop at b)

pub led_none : (s : ℕ → Bool) (b : Bytes) (at : ℕ) → at ≤ length b → Led s b at at
led_none s b at h = record { within = h; same_end = refl }

module _ {s : ℕ → Bool} {b : Bytes} {at to : ℕ} (h : Led s b at to) where
  here : to < length b → lead s (drop to b) ≡ cond (s (get_or b to 0)) 0 (suc (lead s (drop (suc to) b)))
  unfolding lead
  here l = ap (lead s) (drop-cons b to 0 l)

  pub led_ends : to < length b → s (get_or b to 0) ≡ true → to ≡ at + lead s (drop at b)
  led_ends l e = let z = here l ∙ ap (λ t. cond t 0 (suc (lead s (drop (suc to) b)))) e in omega (arith, h.same_end)

  pub led_more : to < length b → s (get_or b to 0) ≡ false → Led s b at (to + 1)
  led_more l e =
      let z = here l ∙ ap (λ t. cond t 0 (suc (lead s (drop (suc to) b)))) e in
      record { within = omega arith; same_end = rw add-one (omega (arith, h.same_end)) }

  pub led_all : length b ≤ to → length b ≡ at + lead s (drop at b)
  unfolding lead
  led_all l = let z = ap (lead s) (drop_of_length-le b {i = to} l) in omega (arith, h.same_end, h.within)

-- skip_white

pub record Skipped (b : Bytes) (at from : ℕ) : Type 0 where
  pub within : from ≤ length b
  pub same_end : from + gap (drop from b) ≡ at + gap (drop at b)

pub skipped_none : (b : Bytes) (at : ℕ) → at ≤ length b → Skipped b at at
skipped_none b at h = record { within = h; same_end = refl }

module _ {b : Bytes} {at from : ℕ} (h : Skipped b at from) where
  first : from < length b → gap (drop from b) ≡ cond (separator (get_or b from 0)) (suc (gap (drop (suc from) b))) 0
  unfolding gap
  first l = ap gap (drop-cons b from 0 l)

  pub skipped_ends : from < length b → separator (get_or b from 0) ≡ false → from ≡ at + gap (drop at b)
  skipped_ends l e = let z = first l ∙ ap (λ t. cond t (suc (gap (drop (suc from) b))) 0) e in omega (arith, h.same_end)

  pub skipped_more : from < length b → separator (get_or b from 0) ≡ true → Skipped b at (from + 1)
  skipped_more l e =
      let z = first l ∙ ap (λ t. cond t (suc (gap (drop (suc from) b))) 0) e in
      record { within = omega arith; same_end = rw add-one (omega (arith, h.same_end)) }

  pub skipped_all : length b ≤ from → length b ≡ at + gap (drop at b)
  unfolding gap
  skipped_all l = let z = ap gap (drop_of_length-le b {i = from} l) in omega (arith, h.same_end, h.within)

-- A step by its words: the steps that it names are earlier ones, and the walk over their parts is that over their constraints.
-- Assumes nothing.
use mathlib.Core.Path.{◌≡◌, refl, sym, ap, ◌∙◌}
use mathlib.Core.Bool.{Bool, true, false, not, ◌&&◌}
use mathlib.Core.List.{List, map}
use Prim.Native.Nat.{ℕ, zero, suc, ◌+◌, ◌-◌, ◌/◌, ◌≤◌, ◌<◌}
use native.Mathlib.Decide.{dec_lt}
use native.Mathlib.Omega.{arith}
use lib.Dec.{ltb}
use lib.ListN.{length}
use borrow.Author.Tests.{lt-ltb, le-ltb}
use Rattle.formula.specs.Tree.{Op, Prefix}
use Rattle.formula.specs.Certificates.{follows, resolvent}
use Rattle.sheet.specs.Certificates.{coded, code_of, literal_of, head_word, step_constraint}
use Rattle.resolution.specs.declared.words.Part.{Part}
use Rattle.resolution.specs.Codes.{complement, PartOf}
use Rattle.resolution.specs.Ranks.{Ranks}
use Rattle.resolution.specs.Steps.{constraint_in, Triple, follows_in, follows_at, derived_by, derived_at, FirstUnderived}

module _ (heads codes : List ℕ) (k c m n : ℕ) where
  pub first_later : (o : Op) (p : Prefix) → k ≤ m → false ≡ follows_at o p heads codes k c m n
  unfolding follows_at
  first_later o p h = rw (le-ltb m k h)

  pub second_later : (o : Op) (p : Prefix) → k ≤ n → false ≡ follows_at o p heads codes k c m n
  unfolding follows_at
  second_later o p h = rw (le-ltb n k h) (none (ltb m k))
    where
      none : (b : Bool) → false ≡ ((b && false) && follows o p (resolvent (coded c) (step_constraint heads codes m) (step_constraint heads codes n)) (step_constraint heads codes k))
      none true = refl
      none false = refl

  module _ (a b d : Part) (e : ℕ) (is_code : c < 4096) (is-complement : e ≡ complement c) (first : PartOf heads codes m c a)
      (second : PartOf heads codes n e b) (step : PartOf heads codes k 4096 d) where
    pub step-triple : Triple a b d (length codes)
    step-triple =
        record {
          is_code = omega (arith, first.skips);
          opposite = second.skips ∙ is-complement ∙ ap complement (sym first.skips);
          whole = step.skips;
          first_within = first.within;
          second_within = second.within;
          step_within = step.within;
        }

    same-constraint : {x j : ℕ} {p : Part} → PartOf heads codes j x p → constraint_in p codes ≡ step_constraint heads codes j
    unfolding step_constraint
    same-constraint p = ap (map literal_of) p.words_are

    pub step_follows : (o : Op) (p : Prefix) (r : Bool) → m < k → n < k → r ≡ follows_in a b d codes o p → r ≡ follows_at o p heads codes k c m n
    unfolding follows_in follows_at
    step_follows o p r h g t =
        t ∙
        rw (lt-ltb m k h, lt-ltb n k g, first.skips, same-constraint first, same-constraint second, same-constraint step)

-- the first word

pub first_word_zero : (o : Op) (p : Prefix) (heads codes : List ℕ) (k w : ℕ) → w ≡ 0 → true ≡ derived_by o p heads codes k w
unfolding derived_by
first_word_zero o p heads codes k zero e = refl
first_word_zero o p heads codes k (suc w) e = absurd (omega arith)

pub first_word_pivot : (o : Op) (p : Prefix) (heads codes : List ℕ) (k w : ℕ) → (w ≡ 0 → ⊥)
    → follows_at o p heads codes k (code_of (w - 1)) (head_word heads k 1) (head_word heads k 2) ≡ derived_by o p heads codes k w
unfolding derived_by
first_word_pivot o p heads codes k zero f = absurd (f refl)
first_word_pivot o p heads codes k (suc w) f =
    ap (λ v. follows_at o p heads codes k (code_of v) (head_word heads k 1) (head_word heads k 2)) (less w)
  where
    less : (w : ℕ) → suc w - 1 ≡ w
    less w = omega arith

-- the steps before k are derived, whatever side and prefix the ranks are of
module _ (heads codes own other : List ℕ) where
  abbrev pub Deriving : ℕ → Type 0
  Deriving k = (o : Op) (p : Prefix) → Ranks o p own other → (j : ℕ) → j < k → derived_at o p heads codes j ≡ true

  pub deriving_none : Deriving 0
  deriving_none o p r j h = absurd (omega arith)

  pub deriving_on : (k : ℕ) (b : Bool) → ((o : Op) (p : Prefix) → Ranks o p own other → b ≡ derived_at o p heads codes k) → b ≡ true → Deriving k
      → Deriving (k + 1)
  deriving_on k b told h before o p r j g = by (dec_lt j k)
    where
      by : Dec (j < k) → derived_at o p heads codes j ≡ true
      by (yes l) = before o p r j l
      by (no f) =
          let e : j ≡ k = omega arith in
          ap (derived_at o p heads codes) e ∙ sym (told o p r) ∙ h

  pub deriving_found : (k : ℕ) (b : Bool) → ((o : Op) (p : Prefix) → Ranks o p own other → b ≡ derived_at o p heads codes k) → b ≡ false → Deriving k
      → k < length heads / 4 → (o : Op) (p : Prefix) → Ranks o p own other → FirstUnderived o p heads codes k
  deriving_found k b told h before l o p r =
      record {
        within = omega arith;
        is_in = λ g. ap not (sym (told o p r) ∙ h);
        none_below = λ j g. ap not (before o p r j g);
      }

  pub deriving_all : (k : ℕ) → length heads / 4 ≡ k → Deriving k → (o : Op) (p : Prefix) → Ranks o p own other → FirstUnderived o p heads codes k
  deriving_all k e before o p r =
      record { within = omega arith; is_in = λ g. absurd (omega arith); none_below = λ j g. ap not (before o p r j g) }

-- When a step that words say is derived.
-- Assumes nothing.
use Rattle.std.specs.Prelude.{◌≡◌, Bool, true, not, ◌&&◌, List, map, ℕ, zero, suc, ◌/◌, ◌≤◌, ◌<◌, ltb, length}
use Rattle.formula.specs.Tree.{Op, Prefix}
use Rattle.formula.specs.Certificates.{Constraint, follows, resolvent}
use Rattle.sets.specs.Sets.{IsFirst}
use Rattle.sheet.specs.Certificates.{coded, code_of, literal_of, head_word, step_constraint}
use Rattle.resolution.specs.declared.words.Part.{Part}
use Rattle.resolution.specs.Codes.{complement, words_in}
use Rattle.resolution.specs.Ranks.{Ranks}

-- the constraint of a part
abbrev pub constraint_in : Part → List ℕ → Constraint
constraint_in p codes = map literal_of (words_in p codes)

-- the parts of two antecedents without the pivot and its complement, and that of the step itself, whole
pub record Triple (a b d : Part) (n : ℕ) : Type 0 where
  pub is_code : a.skip < 4096
  pub opposite : b.skip ≡ complement a.skip
  pub whole : d.skip ≡ 4096
  pub first_within : a.to ≤ n
  pub second_within : b.to ≤ n
  pub step_within : d.to ≤ n

unfoldable pub follows_in : Part → Part → Part → List ℕ → Op → Prefix → Bool
follows_in a b d codes o p = follows o p (resolvent (coded a.skip) (constraint_in a codes) (constraint_in b codes)) (constraint_in d codes)

-- step k with the pivot c follows from the steps m and n
unfoldable pub follows_at : Op → Prefix → List ℕ → List ℕ → ℕ → ℕ → ℕ → ℕ → Bool
follows_at o p heads codes k c m n =
    (ltb m k && ltb n k) &&
    follows o p (resolvent (coded c) (step_constraint heads codes m) (step_constraint heads codes n)) (step_constraint heads codes k)

-- step k with the pivot c follows from the two steps that it names
abbrev pub follows_named : Op → Prefix → List ℕ → List ℕ → ℕ → ℕ → Bool
follows_named o p heads codes k c = follows_at o p heads codes k c (head_word heads k 1) (head_word heads k 2)

-- step k with the first word w: an initial one is left to another test
unfoldable pub derived_by : Op → Prefix → List ℕ → List ℕ → ℕ → ℕ → Bool
derived_by o p heads codes k zero = true
derived_by o p heads codes k (suc w) = follows_named o p heads codes k (code_of w)

abbrev pub derived_at : Op → Prefix → List ℕ → List ℕ → ℕ → Bool
derived_at o p heads codes k = derived_by o p heads codes k (head_word heads k 0)

-- what a number is that code finds with tables of ranks, whatever side and prefix they are of
abbrev pub Told : (Op → Prefix → Bool) → List ℕ → List ℕ → Bool → Type 0
Told P own other r = (o : Op) (p : Prefix) → Ranks o p own other → r ≡ P o p

-- the first derived step that doesn't follow, or the number of steps
abbrev pub FirstUnderived : Op → Prefix → List ℕ → List ℕ → ℕ → Type 0
FirstUnderived o p heads codes r = IsFirst (λ k. not (derived_at o p heads codes k)) (length heads / 4) r

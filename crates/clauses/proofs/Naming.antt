-- The turns of giving out the names.
-- Assumes nothing.
use mathlib.Core.Path.{◌≡◌, refl, sym, ap, ap₂, ◌∙◌}
use mathlib.Core.List.{List, ◌∷◌, ◌++◌, map}
use Prim.Native.Nat.{ℕ, suc, ◌-◌, ◌≤◌, ◌<◌}
use native.Mathlib.Omega.{arith}
use lib.ListN.{length, get_or, take, drop, set, length-append, length-set, take-append-drop, drop_of_length-le}
use lib.Seq.{take-suc-set, append_snoc, drop-set-lt, drop-cons, take_at, length-take-le}
use Rattle.renaming.specs.Numbers.{free, NextFree}
use Rattle.renaming.proofs.Renumbering.{found_within, given}

-- the numbers that are not in the set

pub record Giving (used : List ℕ) (highest count : ℕ) (before table : List ℕ) (from i : ℕ) : Type 0 where
  pub within : from ≤ suc highest
  pub counted : i ≤ count
  pub same_length : length table ≡ length before
  pub so_far : take i table ++ free used (suc highest - from) from ≡ free used highest 1
  pub behind : drop i table ≡ drop i before

module _ (used : List ℕ) (highest count : ℕ) (before : List ℕ) (room : count ≤ length before) where
  pub giving_none : Giving used highest count before before 1 0
  giving_none =
      let all : suc highest - 1 ≡ highest = omega arith in
      record { within = omega arith; counted = omega arith; same_length = refl; so_far = ap (λ n. free used n 1) all; behind = refl }

  module _ (enough : count ≤ length (free used highest 1)) {table : List ℕ} {from i : ℕ} (g : Giving used highest count before table from i) where
    module _ (more : i < count) {n : ℕ} (f : NextFree used highest from n) where
      left : length (take i table) ≡ i
      left = length-take-le i table (omega (arith, room, g.same_length))

      pub given-within : n ≤ highest
      given-within =
          found_within used highest f
          (omega (arith, enough, ap length g.so_far, length-append (take i table) (free used (suc highest - from) from), left))

      pub giving-on : {next k : ℕ} → next ≡ suc n → k ≡ suc i → Giving used highest count before (set table i n) next k
      giving-on {next} {k} e at =
          rw at
          (record {
            within = omega (arith, e, given-within);
            counted = more;
            same_length = length-set table i n ∙ g.same_length;
            so_far =
                ap (λ l. l ++ free used (suc highest - next) next) (take-suc-set table i n inside) ∙
                append_snoc (take i table) n (free used (suc highest - next) next) ∙
                ap (λ l. take i table ++ l) (sym (f.same ∙ given used highest n (f.is_free given-within) given-within e)) ∙ g.so_far;
            behind =
                drop-set-lt (suc i) table i n (omega arith) ∙ ap (drop 1) (sym (drop-cons' table inside)) ∙ ap (drop 1) g.behind ∙
                ap (drop 1) (drop-cons' before (omega (arith, inside, g.same_length)));
          })
        where
          inside : i < length table
          inside = omega (arith, room, g.same_length)

          drop-cons' : (l : List ℕ) → i < length l → drop i l ≡ get_or l i 0 ∷ drop (suc i) l
          drop-cons' l h = drop-cons l i 0 h

    pub giving-all : count ≤ i → table ≡ take count (free used highest 1) ++ drop count before
    giving-all h =
        let all : i ≡ count = omega (arith, g.counted) in
        sym (take-append-drop i table) ∙
        ap₂ ◌++◌
        (sym (take_at (take i table) (free used (suc highest - from) from) i (length-take-le i table (omega (arith, room, g.same_length, all)))) ∙
        ap (take i) g.so_far ∙ ap (λ n. take n (free used highest 1)) all)
        (g.behind ∙ ap (λ n. drop n before) all)

-- every entry exchanged

pub record Exchanging (g : ℕ → ℕ) (before table : List ℕ) (j : ℕ) : Type 0 where
  pub same_length : length table ≡ length before
  pub whole : take j table ++ map g (drop j table) ≡ map g before

module _ (g : ℕ → ℕ) where
  pub exchanging_none : (table : List ℕ) → Exchanging g table table 0
  exchanging_none table = record { same_length = refl; whole = refl }

  pub exchanging_on : {before table : List ℕ} {j v k : ℕ} → j < length table → v ≡ g (get_or table j 0) → k ≡ suc j → Exchanging g before table j
      → Exchanging g before (set table j v) k
  exchanging_on {table = table} {j = j} {v = v} inside e at x =
      rw at
      (record {
        same_length = length-set table j v ∙ x.same_length;
        whole =
            ap₂ (λ l m. l ++ map g m) (take-suc-set table j v inside) (drop-set-lt (suc j) table j v (omega arith)) ∙
            append_snoc (take j table) v (map g (drop (suc j) table)) ∙
            ap (λ n. take j table ++ n ∷ map g (drop (suc j) table)) e ∙
            ap (λ l. take j table ++ map g l) (sym (drop-cons table j 0 inside)) ∙ x.whole;
      })

  pub exchanging_all : {before table : List ℕ} {j : ℕ} → length table ≤ j → Exchanging g before table j → table ≡ map g before
  exchanging_all {table = table} {j = j} h x =
      sym (take-append-drop j table) ∙ ap (λ l. take j table ++ l) (drop_of_length-le table h ∙ ap (map g) (sym (drop_of_length-le table h))) ∙ x.whole

-- The turns of giving out numbers.
-- Assumes nothing.
use mathlib.Core.Path.{◌≡◌, refl, sym, ◌∙◌, ap, ap₂, subst}
use mathlib.Core.Bool.{Bool, true, false, ◌||◌, cond, or-false}
use mathlib.Core.List.{List, [], ◌∷◌, ◌++◌}
use Prim.Native.Nat.{ℕ, zero, suc, ◌+◌, ◌-◌, ◌≤◌, ◌<◌}
use native.Mathlib.Omega.{arith}
use lib.Dec.{eqb, leb}
use borrow.Author.Tests.{leb-true, leb-false}
use lib.ListN.{length, take, drop, set, replicate, length-append, length-set, length-replicate}
use lib.Seq.{take_all, drop_at}
use Rattle.formula.specs.Tree.{Prefix, binds}
use Rattle.formula.specs.Solve.{those}
use Rattle.formula.specs.Outer.{unused}
use Rattle.formula.proofs.Booleans.{eqb_comm, by_cases}
use Rattle.sheet.specs.Format.{Bytes}
use Rattle.rows.specs.Formulas.{prefix_in, Readable}
use Rattle.rows.specs.declared.Layout.{Layout}
use Rattle.prefixes.specs.Places.{binding_in}
use Rattle.prefixes.proofs.Places.{prefix_row, no_rows}
use Rattle.sets.specs.Sets.{holds}
use Rattle.sets.proofs.Members.{holds-none}
use Rattle.substitution.proofs.Tables.{both_parts}
use Rattle.renaming.specs.Numbers.{Uses, free, NextFree, renumbered, Renamed}

-- numbers in use

-- the rows before row j are in it
pub record Using (p : Prefix) (ws : List ℕ) (j : ℕ) : Type 0 where
  pub words : length ws ≡ 17
  pub is : (v : ℕ) → (holds ws v || binds (drop j p) v) ≡ binds p v

module _ {s : Layout} (b : Bytes) (ok : Readable s b) where
  pub using_none : {ws : List ℕ} → ws ≡ replicate 17 0 → Using (prefix_in s b) ws 0
  using_none e =
      record {
        words = ap length e ∙ length-replicate {A = ℕ} 17 0;
        is = λ v. ap (λ ws. holds ws v || binds (prefix_in s b) v) e ∙ ap (λ (c : Bool). c || binds (prefix_in s b) v) (holds-none 17 v);
      }

  pub using_next : {ws new : List ℕ} {j k x : ℕ} → j < s.variables → k ≡ suc j → x ≡ (binding_in s b j).variable → Using (prefix_in s b) ws j
      → length new ≡ length ws → ((v : ℕ) → holds new v ≡ (eqb v x || holds ws v)) → Using (prefix_in s b) new k
  unfolding binds
  using_next {ws} {new} {j} {k} {x} inside next at u same is =
      record {
        words = same ∙ u.words;
        is = λ v.
            ap₂ (λ (c : Bool) (m : ℕ). c || binds (drop m (prefix_in s b)) v) (is v) next ∙
            swap (eqb v x) (holds ws v) (binds (drop (suc j) (prefix_in s b)) v) ∙
            ap (λ (c : Bool). holds ws v || (c || binds (drop (suc j) (prefix_in s b)) v)) (eqb_comm v x ∙ ap (λ m. eqb m v) at) ∙
            ap (λ q. holds ws v || binds q v) (sym (prefix_row b ok j inside)) ∙ u.is v;
      }
    where
      swap : (m n r : Bool) → ((m || n) || r) ≡ (n || (m || r))
      swap true true r = refl
      swap true false r = refl
      swap false n r = refl

  pub using_all : {ws : List ℕ} {j : ℕ} → j ≡ s.variables → Using (prefix_in s b) ws j → Uses (prefix_in s b) ws
  unfolding binds
  using_all {ws} {j} e u =
      record {
        words = u.words;
        is = λ v. sym (ap (λ q. holds ws v || binds q v) (no_rows b ok j e) ∙ or-false (holds ws v)) ∙ u.is v;
      }

-- unused numbers

pub free-unused : {p : Prefix} {ws : List ℕ} → Uses p ws → (n i : ℕ) → free ws n i ≡ unused p n i
unfolding free unused
free-unused u zero i = refl
free-unused u (suc n) i = ap₂ (λ (c : Bool) (ns : List ℕ). cond c ns (i ∷ ns)) (u.is i) (free-unused u n (suc i))

module _ (ws : List ℕ) (highest : ℕ) where
  taken : (n : ℕ) → holds ws n ≡ true → n ≤ highest → {k : ℕ} → k ≡ suc n → free ws (suc highest - n) n ≡ free ws (suc highest - k) k
  unfolding free
  taken n h l {k} e =
      ap (λ m. free ws m n) left ∙ ap (λ c. cond c (free ws (highest - n) (suc n)) (n ∷ free ws (highest - n) (suc n))) h ∙
      ap₂ (free ws) rest (sym e)
    where
      left : suc highest - n ≡ suc (highest - n)
      left = omega arith

      rest : highest - n ≡ suc highest - k
      rest = omega arith

  pub given : (n : ℕ) → holds ws n ≡ false → n ≤ highest → {k : ℕ} → k ≡ suc n → free ws (suc highest - n) n ≡ n ∷ free ws (suc highest - k) k
  unfolding free
  given n h l {k} e =
      ap (λ m. free ws m n) left ∙ ap (λ c. cond c (free ws (highest - n) (suc n)) (n ∷ free ws (highest - n) (suc n))) h ∙
      ap₂ (λ m i. n ∷ free ws m i) rest (sym e)
    where
      left : suc highest - n ≡ suc (highest - n)
      left = omega arith

      rest : highest - n ≡ suc highest - k
      rest = omega arith

  none_behind : (n : ℕ) → suc highest ≤ n → free ws (suc highest - n) n ≡ []
  unfolding free
  none_behind n h = ap (λ m. free ws m n) left
    where
      left : suc highest - n ≡ 0
      left = omega arith

  -- the search passes what is in the set
  pub record Passing (from n : ℕ) : Type 0 where
    pub within : n ≤ suc highest
    pub same : free ws (suc highest - from) from ≡ free ws (suc highest - n) n

  pub passing_next : {from n k : ℕ} → holds ws n ≡ true → n ≤ highest → k ≡ suc n → Passing from n → Passing from k
  passing_next {n = n} h l e p = record { within = omega arith; same = p.same ∙ taken n h l e }

  pub passing_end : {from n : ℕ} → highest < n → Passing from n → NextFree ws highest from n
  passing_end h p = record { within = p.within; same = p.same; is_free = λ l. absurd (omega arith) }

  -- a number is left
  pub found_within : {from n : ℕ} → NextFree ws highest from n → 0 < length (free ws (suc highest - from) from) → n ≤ highest
  found_within {from} {n} f some =
      by_cases (leb (suc highest) n)
      (λ e. absurd (omega (arith, some, ap length f.same, ap length (none_behind n (leb-true (suc highest) n e)))))
      (λ e. let l = leb-false (suc highest) n e in omega arith)

-- one variable

module _ (ws used : List ℕ) (highest from v : ℕ) where
  pub renamed-member : (table : List ℕ) {n next : ℕ} → holds ws v ≡ true → NextFree used highest from n → n ≤ highest → next ≡ suc n
      → Renamed ws used highest from v table (set table v n) next
  unfolding renumbered
  renamed-member table {n} {next} h f l e =
      record {
        within = omega arith;
        same_length = length-set table v n;
        left = ap length split ∙ sym (ap (λ (c : Bool). cond c 1 0 + length (free used (suc highest - next) next)) h ∙ one (length (free used (suc highest - next) next)));
        work = λ ys.
            ap₂ (λ (c : Bool) (ns : List ℕ). renumbered (cond c (v ∷ ys) ys) ns table) h split;
      }
    where
      split : free used (suc highest - from) from ≡ n ∷ free used (suc highest - next) next
      split = f.same ∙ given used highest n (f.is_free l) l e

      one : (n : ℕ) → 1 + n ≡ suc n
      one n = omega arith

-- all of them

pub record Renaming (p : Prefix) (ws used : List ℕ) (highest : ℕ) (before table : List ℕ) (from j : ℕ) : Type 0 where
  pub within : from ≤ suc highest
  pub same_length : length table ≡ length before
  pub enough : length (those (holds ws) (drop j p)) ≤ length (free used (suc highest - from) from)
  pub work : renumbered (those (holds ws) p) (free used highest 1) before ≡
      renumbered (those (holds ws) (drop j p)) (free used (suc highest - from) from) table

module _ {s : Layout} (b : Bytes) (ok : Readable s b) (ws used : List ℕ) (highest : ℕ) where
  abbrev p : Prefix
  p = prefix_in s b

  module _ {before table : List ℕ} {from j : ℕ} (inside : j < s.variables) (r : Renaming p ws used highest before table from j)
      {v : ℕ} (at : v ≡ (binding_in s b j).variable) where
    those-here : those (holds ws) (drop j p) ≡ cond (holds ws v) (v ∷ those (holds ws) (drop (suc j) p)) (those (holds ws) (drop (suc j) p))
    unfolding those
    those-here =
        ap (those (holds ws)) (prefix_row b ok j inside) ∙
        ap (λ m. cond (holds ws m) (m ∷ those (holds ws) (drop (suc j) p)) (those (holds ws) (drop (suc j) p))) (sym at)

    pub some_left : holds ws v ≡ true → 0 < length (free used (suc highest - from) from)
    some_left h =
        omega (
          arith,
          r.enough,
          ap length (those-here ∙ ap (λ (c : Bool). cond c (v ∷ those (holds ws) (drop (suc j) p)) (those (holds ws) (drop (suc j) p))) h),
        )

    pub renaming-next : {new : List ℕ} {next k : ℕ} → k ≡ suc j → Renamed ws used highest from v table new next
        → Renaming p ws used highest before new next k
    renaming-next {new} {next} {k} e d =
        record {
          within = d.within;
          same_length = d.same_length ∙ r.same_length;
          enough = subst (λ m. length (those (holds ws) (drop m p)) ≤ length (free used (suc highest - next) next)) (sym e) (fewer (holds ws v) (ap length those-here) d.left);
          work =
              r.work ∙ ap (λ ys. renumbered ys (free used (suc highest - from) from) table) those-here ∙
              d.work (those (holds ws) (drop (suc j) p)) ∙
              ap (λ m. renumbered (those (holds ws) (drop m p)) (free used (suc highest - next) next) new) (sym e);
        }
      where
        fewer : (c : Bool)
            → length (those (holds ws) (drop j p)) ≡
            length (cond c (v ∷ those (holds ws) (drop (suc j) p)) (those (holds ws) (drop (suc j) p)))
            → length (free used (suc highest - from) from) ≡ cond c 1 0 + length (free used (suc highest - next) next)
            → length (those (holds ws) (drop (suc j) p)) ≤ length (free used (suc highest - next) next)
        fewer true a c = omega (arith, r.enough)
        fewer false a c = omega (arith, r.enough)

  pub renaming-all : {before table : List ℕ} {from j : ℕ} → j ≡ s.variables → Renaming p ws used highest before table from j
      → table ≡ renumbered (those (holds ws) p) (free used highest 1) before
  unfolding those renumbered
  renaming-all {before} {table} {from} {j} e r =
      sym (r.work ∙ ap (λ q. renumbered (those (holds ws) q) (free used (suc highest - from) from) table) (no_rows b ok j e))

-- two tables in one list, of which the second is lent

module _ (p q : List ℕ) {ts : List ℕ} (is : ts ≡ p ++ q) (size : length p ≡ 1025) where
  pub second_lent : take (length ts - 1025) (drop 1025 ts) ≡ q
  second_lent =
      ap (λ (l : List ℕ). take (length l - 1025) (drop 1025 l)) is ∙
      ap (take (length (p ++ q) - 1025)) (drop_at p q 1025 size) ∙
      take_all (length (p ++ q) - 1025) q (omega (arith, size, length-append p q))

  pub second_back : (new : List ℕ) → take 1025 ts ++ (new ++ drop (length ts - 1025) (drop 1025 ts)) ≡ p ++ new
  second_back new =
      ap (λ (l : List ℕ). take 1025 l ++ (new ++ drop (length l - 1025) (drop 1025 l))) is ∙ both_parts p new q 1025 size

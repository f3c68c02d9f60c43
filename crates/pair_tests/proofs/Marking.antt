-- Pairs marked from the last to the first, and the rows of a side looked up in the marks.
-- Assumes nothing.
use mathlib.Core.Path.{◌≡◌, refl, sym, ap, ap₂, ◌∙◌}
use mathlib.Core.Bool.{Bool, true, false, not, ◌&&◌, ◌||◌, beq, and-false, or-true, true≢false}
use mathlib.Core.List.{List, [], ◌∷◌}
use Prim.Native.Nat.{ℕ, zero, suc, ◌≤◌, ◌<◌}
use native.Mathlib.Omega.{arith}
use lib.Dec.{eqb}
use lib.ListN.{length, get_or, set, drop, replicate, length-set}
use lib.Seq.{drop-length, get_or-set_same, get_or-set_other}
use borrow.Author.Tests.{eqb-true, eqb-false, eq-eqb, ltb-true}
use Rattle.formula.specs.Tree.{and, or, Quantifier, same_op, exists, Prefix, binds, quantifier_of}
use Rattle.formula.specs.Strategy.{Pair, Pairs, owns, sets, once, owned_all, set_all, is_covering}
use Rattle.sheet.specs.Format.{Bytes}
use Rattle.rows.specs.Formulas.{prefix_in}
use Rattle.rows.specs.declared.Layout.{Layout}
use Rattle.rows.proofs.Formulas.{length_prefix}
use Rattle.prefixes.specs.Places.{place, binding_at, binding_in}
use Rattle.prefixes.proofs.Places.{binds-place, quantifier_of-place, prefix_row, no_rows}
use Rattle.reduce.specs.Inner.Places.{Numbered, Placed, variable_of, Bound}
use Rattle.pair_tests.specs.Pairs.{side, Marked}

-- sides

side_is : (e : Bool) (q : Quantifier) → beq (same_op exists q) e ≡ same_op (side e) q
side_is true and = refl
side_is true or = refl
side_is false and = refl
side_is false or = refl

-- the owner of a bound variable, by its row
module _ {s : Layout} (b : Bytes) {places : List ℕ} (t : Placed s b places) {r i : ℕ} (h : Bound s b r) (at : i ≡ place (variable_of s b r) (prefix_in s b)) where
  pub quantifier_here : quantifier_of (prefix_in s b) (variable_of s b r) ≡ (binding_in s b i).quantifier
  quantifier_here =
      quantifier_of-place (variable_of s b r) (prefix_in s b)
      (ltb-true (place (variable_of s b r) (prefix_in s b)) (length (prefix_in s b))
      (sym (binds-place (variable_of s b r) (prefix_in s b)) ∙ h.is_bound)) ∙
      ap (λ m. (binding_in s b m).quantifier) (sym at)

  pub owner_here : (q : Quantifier) → owns q (prefix_in s b) (variable_of s b r) ≡ same_op q (binding_in s b i).quantifier
  unfolding owns
  owner_here q = ap₂ (λ (m : Bool) (k : Quantifier). m && same_op q k) h.is_bound quantifier_here

  pub own_here : (e : Bool) {f : Bool} → f ≡ same_op exists (binding_in s b i).quantifier → beq f e ≡ owns (side e) (prefix_in s b) (variable_of s b r)
  own_here e is =
      ap (λ m. beq m e) is ∙ side_is e (binding_in s b i).quantifier ∙ sym (owner_here (side e))

-- a test of each pair and those behind it, that fails from pair j on
false_later : (P : Pairs → Bool) (h : Pair → Pairs → Bool) → ((c : Pair) (g : Pairs) → P (c ∷ g) ≡ (h c g && P g)) → (g : Pairs) (j : ℕ)
    → P (drop j g) ≡ false → P g ≡ false
false_later P h step g zero e = e
false_later P h step [] (suc j) e = e
false_later P h step (c ∷ g) (suc j) e = step c g ∙ ap (λ m. h c g && m) (false_later P h step g j e) ∙ and-false (h c g)

owned_later : (q : Quantifier) (p : Prefix) (g : Pairs) (j : ℕ) → owned_all q p (drop j g) ≡ false → owned_all q p g ≡ false
unfolding owned_all
owned_later q p g j e = false_later (owned_all q p) (λ c g. owns q p c.variable) (λ c g. refl) g j e

once-later : (g : Pairs) (j : ℕ) → once (drop j g) ≡ false → once g ≡ false
unfolding once
once-later g j e = false_later once (λ c g. not (sets g c.variable)) (λ c g. refl) g j e

-- the pairs from pair j on are of the side, are met once, and are marked
pub record Marking (q : Quantifier) (p : Prefix) (g : Pairs) (seen : List Bool) (j : ℕ) : Type 0 where
  pub within : j ≤ length g
  pub owned : owned_all q p (drop j g) ≡ true
  pub met_once : once (drop j g) ≡ true
  pub marked : Marked seen (drop j g)
  pub size : length seen ≡ 1025

module _ (q : Quantifier) (p : Prefix) (g : Pairs) where
  pub marking_none : {seen : List Bool} {j : ℕ} → suc j ≡ suc (length g) → Marked seen [] → length seen ≡ 1025 → Marking q p g seen j
  unfolding owned_all once
  marking_none {seen} {j} e m n =
      let all : j ≡ length g = omega arith in
      let none : drop j g ≡ [] = ap (λ k. drop k g) all ∙ drop-length g in
      record {
        within = omega arith;
        owned = ap (owned_all q p) none;
        met_once = ap once none;
        marked = λ x. m x ∙ ap (λ h. sets h x) (sym none);
        size = n;
      }

  module _ {seen : List Bool} {i j x : ℕ} {c : Pair} (m : Marking q p g seen j) (next : j ≡ suc i) (split : drop i g ≡ c ∷ drop (suc i) g)
      (is : x ≡ c.variable) where
    behind : drop (suc i) g ≡ drop j g
    behind = ap (λ k. drop k g) (sym next)

    pub not-owned : owns q p x ≡ false → false ≡ (owned_all q p g && once g)
    unfolding owned_all
    not-owned e =
        sym
        (ap (λ k. k && once g)
        (owned_later q p g i (ap (owned_all q p) split ∙ ap (λ k. k && owned_all q p (drop (suc i) g)) (ap (owns q p) (sym is) ∙ e))))

    pub met-twice : get_or seen x false ≡ true → false ≡ (owned_all q p g && once g)
    unfolding once
    met-twice e =
        sym
        (ap (λ k. owned_all q p g && k)
        (once-later g i
        (ap once split ∙
        ap (λ k. not k && once (drop (suc i) g)) (ap₂ sets behind (sym is) ∙ sym (m.marked x) ∙ e))) ∙
        and-false (owned_all q p g))

    pub marking_on : owns q p x ≡ true → get_or seen x false ≡ false → x < 1025 → Marking q p g (set seen x true) i
    unfolding owned_all once sets
    marking_on own new few =
        record {
          within = omega (arith, m.within);
          owned = ap (owned_all q p) split ∙ ap₂ ◌&&◌ (ap (owns q p) (sym is) ∙ own) (ap (owned_all q p) behind ∙ m.owned);
          met_once =
              ap once split ∙
              ap₂ (λ (k l : Bool). not k && l) (ap₂ sets behind (sym is) ∙ sym (m.marked x) ∙ new) (ap once behind ∙ m.met_once);
          marked = λ y. by y (eqb c.variable y) refl ∙ ap (λ h. sets h y) (sym split);
          size = length-set seen x true ∙ m.size;
        }
      where
        by : (y : ℕ) (k : Bool) → eqb c.variable y ≡ k → get_or (set seen x true) y false ≡ (eqb c.variable y || sets (drop (suc i) g) y)
        by y true e =
            ap (λ z. get_or (set seen x true) z false) (sym (eqb-true c.variable y e) ∙ sym is) ∙
            get_or-set_same seen x true false (omega (arith, m.size)) ∙ ap (λ k. k || sets (drop (suc i) g) y) (sym e)
        by y false e =
            get_or-set_other seen x y true false (λ k. eqb-false c.variable y e (sym is ∙ sym k)) ∙ m.marked y ∙
            ap (λ h. sets h y) (sym behind) ∙ ap (λ k. k || sets (drop (suc i) g) y) (sym e)

-- the rows of the side

-- the rows before row i have their pairs
pub record Covered (q : Quantifier) (g : Pairs) (p : Prefix) (i : ℕ) : Type 0 where
  pub within : i ≤ length p
  pub so_far : set_all q g p ≡ set_all q g (drop i p)

module _ {s : Layout} (b : Bytes) (n : Numbered s b) (q : Quantifier) (g : Pairs) (seen : List Bool) (marked : Marked seen g) where
  abbrev p : Prefix
  p = prefix_in s b

  module _ {i : ℕ} (c : Covered q g p i) where
    pub covered-all : s.variables ≤ i → true ≡ set_all q g p
    unfolding set_all
    covered-all h =
        sym
        (c.so_far ∙
        ap (set_all q g) (no_rows b n.readable i (omega (arith, h, c.within, length_prefix b n.readable))))

    module _ (h : i < s.variables) (m : Bool) (is : not m ≡ (not (same_op q (binding_in s b i).quantifier) || get_or seen (binding_in s b i).variable false)) where
      here : set_all q g p ≡ (not m && set_all q g (drop (suc i) p))
      unfolding set_all
      here =
          c.so_far ∙ ap (set_all q g) (prefix_row b n.readable i h) ∙
          ap (λ k. (not (same_op q (binding_in s b i).quantifier) || k) && set_all q g (drop (suc i) p)) (sym (marked (binding_in s b i).variable)) ∙
          ap (λ k. k && set_all q g (drop (suc i) p)) (sym is)

      pub uncovered : m ≡ true → false ≡ set_all q g p
      uncovered e = sym (here ∙ ap (λ k. not k && set_all q g (drop (suc i) p)) e)

      pub covered-on : {j : ℕ} → j ≡ suc i → m ≡ false → Covered q g p j
      covered-on {j} next e =
          record {
            within = omega (arith, length_prefix b n.readable);
            so_far = here ∙ ap (λ k. not k && set_all q g (drop (suc i) p)) e ∙ ap (λ k. set_all q g (drop k p)) (sym next);
          }

-- both

pub covering_fails : (q : Quantifier) (p : Prefix) (g : Pairs) {m : Bool} → m ≡ (owned_all q p g && once g) → m ≡ false
    → false ≡ is_covering q p g
unfolding is_covering
covering_fails q p g is e = by (owned_all q p g) (set_all q g p) (once g) (sym is ∙ e)
  where
    by : (a b c : Bool) → (a && c) ≡ false → false ≡ (a && (b && c))
    by true b c h = sym (ap (λ k. b && k) h ∙ and-false b)
    by false b c h = refl

pub covering_by : (q : Quantifier) (p : Prefix) (g : Pairs) {m n : Bool} → m ≡ (owned_all q p g && once g) → m ≡ true
    → n ≡ set_all q g p → n ≡ is_covering q p g
unfolding is_covering
covering_by q p g is e k = by (owned_all q p g) (set_all q g p) (once g) (sym is ∙ e) k
  where
    by : (a b c : Bool) → (a && c) ≡ true → {n : Bool} → n ≡ b → n ≡ (a && (b && c))
    by true true true h k = k
    by true false true h k = k
    by true b false h k = absurd (true≢false (sym h))
    by false b c h k = absurd (true≢false (sym h))

-- a row's number is one of the table's
binds_at : (p : Prefix) (i : ℕ) → i < length p → binds p (binding_at p i).variable ≡ true
unfolding binds binding_at
binds_at [] i h = absurd (omega arith)
binds_at (z ∷ p) zero h = ap (λ (m : Bool). m || binds p z.variable) (eq-eqb z.variable z.variable refl)
binds_at (z ∷ p) (suc i) h =
    let v = (binding_at p i).variable in
    ap (λ (m : Bool). eqb z.variable v || m) (binds_at p i (omega arith)) ∙ or-true (eqb z.variable v)

pub few_here : {s : Layout} (b : Bytes) → Numbered s b → (i : ℕ) {x : ℕ} → i < s.variables → x ≡ (binding_in s b i).variable → x ≤ 1024
few_here {s} b n i h e =
    omega (arith, e, n.few_numbers _ (binds_at (prefix_in s b) i (omega (arith, length_prefix b n.readable))))

-- tables of one value
pub all_same : {A : Type 0} (a : A) (n x : ℕ) → get_or (replicate n a) x a ≡ a
all_same a zero x = refl
all_same a (suc n) zero = refl
all_same a (suc n) (suc x) = all_same a n x

pub none-marked : (n : ℕ) → Marked (replicate n false) []
unfolding sets
none-marked n x = all_same false n x

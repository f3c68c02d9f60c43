-- The turns of the walks over the rows after that of a variable.
-- Assumes nothing.
use mathlib.Core.Path.{◌≡◌, refl, sym, ◌∙◌, ap, ap₂}
use mathlib.Core.Bool.{Bool, true, false, not, ◌&&◌, ◌||◌, cond, beq, or-false, or_assoc, false≢true}
use mathlib.Core.List.{List, [], ◌∷◌}
use mathlib.Core.Logic.{⊎_elim}
use Prim.Native.Nat.{ℕ, suc, ◌+◌, ◌≤◌, ◌<◌}
use native.Mathlib.Omega.{arith}
use lib.Dec.{eqb, leb}
use lib.ListN.{length, drop, replicate, length-drop, length-replicate}
use lib.Seq.{drop-drop}
use borrow.Author.Tests.{eqb-true, lt-ltb, le-leb, lt-leb, leb-true, leb-false}
use Rattle.formula.specs.Tree.{and, or, Quantifier, same_op, exists, for_all, Tree, Binding, Prefix, binds, quantifier_of}
use Rattle.formula.specs.Expand.{all_of, among, occurs, occurring, later}
use Rattle.formula.specs.Outer.{universal_then_existential, one_block_out, existentials, block}
use Rattle.formula.proofs.Booleans.{eqb_comm, and_parts, or_cases}
use Rattle.sheet.specs.Format.{Bytes}
use Rattle.rows.specs.Formulas.{prefix_in, matrix_in, formula_in, Readable}
use Rattle.rows.specs.declared.Layout.{Layout}
use Rattle.rows.proofs.Formulas.{length_prefix}
use Rattle.prefixes.specs.Places.{place, binding_at, binding_in}
use Rattle.prefixes.proofs.Places.{binds-place, quantifier_of-place, prefix_row, no_rows, after-place}
use Rattle.sets.specs.Sets.{holds}
use Rattle.sets.proofs.Members.{holds-none}
use Rattle.std.specs.Prelude.{Option, Some, None}
use Rattle.std.specs.Option.{is_some}
use Rattle.dependence.specs.Blocks.{Numbered, Located, row_test, first_row, FirstFrom, WithRow, IsBlock}
use Rattle.dependence.specs.declared.Target.{Target}

-- first-row

pub first_within : (exist : Bool) (t : Tree) (p : Prefix) → first_row exist t p ≤ length p
unfolding first_row
first_within exist t [] = omega arith
first_within exist t (z ∷ p) = by (row_test exist t z) (first_within exist t p)
  where
    by : (c : Bool) → first_row exist t p ≤ length p → cond c 0 (suc (first_row exist t p)) ≤ suc (length p)
    by true h = omega arith
    by false h = omega arith

-- looking for it from row j on
pub record Finding (s : Layout) (b : Bytes) (exist : Bool) (from j : ℕ) : Type 0 where
  pub after : from ≤ j
  pub within : j ≤ s.variables
  pub same : from + first_row exist (matrix_in s b) (drop from (prefix_in s b)) ≡ j + first_row exist (matrix_in s b) (drop j (prefix_in s b))

pub find_start : (s : Layout) (b : Bytes) (exist : Bool) (from : ℕ) → from ≤ s.variables → Finding s b exist from from
find_start s b exist from h = record { after = omega arith; within = h; same = refl }

module _ {s : Layout} (b : Bytes) (ok : Readable s b) {exist : Bool} {from j : ℕ} (f : Finding s b exist from j) where
  module _ (h : j < s.variables) {w : Bool} (is : w ≡ row_test exist (matrix_in s b) (binding_in s b j)) where
    looked : {c : Bool} → w ≡ c
        → from + first_row exist (matrix_in s b) (drop from (prefix_in s b)) ≡ j + cond c 0 (suc (first_row exist (matrix_in s b) (drop (suc j) (prefix_in s b))))
    unfolding first_row
    looked e =
        f.same ∙ ap (λ (p : Prefix). j + first_row exist (matrix_in s b) p) (prefix_row b ok j h) ∙
        ap (λ (c : Bool). j + cond c 0 (suc (first_row exist (matrix_in s b) (drop (suc j) (prefix_in s b))))) (sym is ∙ e)

    pub find_found : w ≡ true → j ≡ from + first_row exist (matrix_in s b) (drop from (prefix_in s b))
    find_found e = omega (arith, looked e)

    pub find_on : {k : ℕ} → w ≡ false → k ≡ suc j → Finding s b exist from k
    find_on e next = rw next (record { after = omega (arith, f.after); within = h; same = omega (arith, looked e) })

  pub find_none : s.variables ≤ j → s.variables ≡ from + first_row exist (matrix_in s b) (drop from (prefix_in s b))
  unfolding first_row
  find_none h =
      omega (arith, f.same, f.within, ap (first_row exist (matrix_in s b)) (no_rows b ok j (omega (arith, f.within))))

-- whether there is one
none_found : (s : Layout) (b : Bytes) (exist : Bool) (from : ℕ) (o : Option ℕ) (r : Bool) → FirstFrom s b exist from o → is_some o ≡ not r
    → r ≡ leb s.variables (from + first_row exist (matrix_in s b) (drop from (prefix_in s b)))
none_found s b exist from None true h e = sym (le-leb _ _ (omega arith))
none_found s b exist from (Some j) false h e = sym (lt-leb _ _ (omega arith))
none_found s b exist from None false h e = cc
none_found s b exist from (Some j) true h e = cc

-- one-block-out

leb_later : (m n : ℕ) → leb m n ≡ leb (suc m) (suc n)
leb_later m n = go (leb m n) refl
  where
    go : (c : Bool) → leb m n ≡ c → c ≡ leb (suc m) (suc n)
    go true e = sym (le-leb (suc m) (suc n) (let h = leb-true m n e in omega arith))
    go false e = sym (lt-leb (suc m) (suc n) (let h = leb-false m n e in omega arith))

-- no universal row with a literal
all_exist : (t : Tree) (p : Prefix) → all_of exists (among (occurs t) p) ≡ leb (length p) (first_row false t p)
unfolding all_of among first_row
all_exist t [] = refl
all_exist t (z ∷ p) =
    first (occurs t z.variable) ∙ by (same_op exists z.quantifier) (occurs t z.variable) (all_exist t p)
  where
    first : (o : Bool)
        → all_of exists (cond o (z ∷ among (occurs t) p) (among (occurs t) p)) ≡
        cond o (same_op exists z.quantifier && all_of exists (among (occurs t) p)) (all_of exists (among (occurs t) p))
    first true = refl
    first false = refl

    by : (m o : Bool) → all_of exists (among (occurs t) p) ≡ leb (length p) (first_row false t p)
        → cond o (m && all_of exists (among (occurs t) p)) (all_of exists (among (occurs t) p)) ≡
        leb (suc (length p)) (cond (beq m false && o) 0 (suc (first_row false t p)))
    by true true rest = rest ∙ leb_later (length p) (first_row false t p)
    by true false rest = rest ∙ leb_later (length p) (first_row false t p)
    by false true rest = sym (lt-leb (suc (length p)) 0 (omega arith))
    by false false rest = rest ∙ leb_later (length p) (first_row false t p)

-- the rows behind the first existential row with a literal, if there is one, are existential
abbrev behind_first : Tree → Prefix → ℕ → Bool
behind_first t p k = cond (leb (length p) k) false (all_of exists (among (occurs t) (drop (suc k) p)))

by_first : (t : Tree) (p : Prefix) → universal_then_existential (among (occurs t) p) ≡ behind_first t p (first_row true t p)
unfolding universal_then_existential among first_row
by_first t [] = refl
by_first t (z ∷ p) =
    first (occurs t z.variable) ∙ by (same_op exists z.quantifier) (occurs t z.variable) (by_first t p)
  where
    first : (o : Bool)
        → universal_then_existential (cond o (z ∷ among (occurs t) p) (among (occurs t) p)) ≡
        cond o (cond (same_op exists z.quantifier) (all_of exists (among (occurs t) p)) (universal_then_existential (among (occurs t) p)))
        (universal_then_existential (among (occurs t) p))
    first true = refl
    first false = refl

    on : universal_then_existential (among (occurs t) p) ≡ behind_first t p (first_row true t p)
        → universal_then_existential (among (occurs t) p) ≡ behind_first t (z ∷ p) (suc (first_row true t p))
    on rest =
        rest ∙
        ap (λ (c : Bool). cond c false (all_of exists (among (occurs t) (drop (suc (first_row true t p)) p))))
        (leb_later (length p) (first_row true t p))

    by : (m o : Bool) → universal_then_existential (among (occurs t) p) ≡ behind_first t p (first_row true t p)
        → cond o (cond m (all_of exists (among (occurs t) p)) (universal_then_existential (among (occurs t) p)))
        (universal_then_existential (among (occurs t) p)) ≡
        behind_first t (z ∷ p) (cond (beq m true && o) 0 (suc (first_row true t p)))
    by true true rest =
        sym (ap (λ (c : Bool). cond c false (all_of exists (among (occurs t) p))) (lt-leb (suc (length p)) 0 (omega arith)))
    by true false rest = on rest
    by false true rest = on rest
    by false false rest = on rest

universal : (q : Quantifier) → same_op for_all q ≡ not (same_op exists q)
universal and = refl
universal or = refl

module _ {s : Layout} (b : Bytes) (ok : Readable s b) {t : Target} (l : Located s b t) where
  abbrev p : Prefix
  p = prefix_in s b

  abbrev behind : Prefix
  behind = drop (suc t.row) p

  later-row : later t.variable (formula_in s b) ≡ among (occurs (matrix_in s b)) behind
  unfolding later occurring formula_in
  later-row =
      ap (among (occurs (matrix_in s b))) (after-place t.variable p ∙ ap (λ (j : ℕ). drop (suc j) p) (sym l.row_is))

  length-behind : suc t.row + length behind ≡ s.variables
  length-behind = omega (arith, l.inside, length_prefix b ok, length-drop (suc t.row) p)

  module _ {e : Bool} (kind : e ≡ same_op exists (binding_in s b t.row).quantifier) where
    tests : one_block_out t.variable (formula_in s b) ≡ (not e && behind_first (matrix_in s b) behind (first_row true (matrix_in s b) behind))
    unfolding one_block_out formula_in
    tests =
        let inside : place t.variable p < length p = omega (arith, l.inside, l.row_is, length_prefix b ok) in
        ap₂ ◌&&◌ (binds-place t.variable p ∙ lt-ltb _ _ inside)
        (ap₂ ◌&&◌
        (universal (quantifier_of p t.variable) ∙
        ap (λ (q : Quantifier). not (same_op exists q))
        (quantifier_of-place t.variable p inside ∙ ap (λ (j : ℕ). (binding_at p j).quantifier) (sym l.row_is)) ∙
        ap not (sym kind))
        (ap universal_then_existential later-row ∙ by_first (matrix_in s b) behind))

    pub out-existential : e ≡ true → false ≡ one_block_out t.variable (formula_in s b)
    out-existential h =
        sym (tests ∙ ap (λ (m : Bool). not m && behind_first (matrix_in s b) behind (first_row true (matrix_in s b) behind)) h)

    module _ (h : e ≡ false) {from i : ℕ} (start : from ≡ suc t.row) (is : i ≡ from + first_row true (matrix_in s b) (drop from p)) where
      first_is : i ≡ suc t.row + first_row true (matrix_in s b) behind
      first_is = rw start at is

      left : one_block_out t.variable (formula_in s b) ≡ behind_first (matrix_in s b) behind (first_row true (matrix_in s b) behind)
      left = tests ∙ ap (λ (m : Bool). not m && behind_first (matrix_in s b) behind (first_row true (matrix_in s b) behind)) h

      pub out_none : s.variables ≤ i → false ≡ one_block_out t.variable (formula_in s b)
      out_none far =
          sym
          (left ∙
          ap (λ (c : Bool). cond c false (all_of exists (among (occurs (matrix_in s b)) (drop (suc (first_row true (matrix_in s b) behind)) behind))))
          (le-leb (length behind) (first_row true (matrix_in s b) behind) (omega (arith, far, first_is, length-behind))))

      pub out_some : i < s.variables → {next : ℕ} (o : Option ℕ) {r : Bool} → next ≡ suc i → FirstFrom s b false next o → is_some o ≡ not r
          → r ≡ one_block_out t.variable (formula_in s b)
      out_some near {next} o {r} on found none =
          none_found s b false next o r found none ∙
          ap₂ leb whole (ap (λ (j : ℕ). j + first_row false (matrix_in s b) (drop j p)) on) ∙
          shifted (suc i) (length (drop (suc i) p)) (first_row false (matrix_in s b) (drop (suc i) p)) ∙
          sym (all_exist (matrix_in s b) (drop (suc i) p)) ∙ ap (λ (q : Prefix). all_of exists (among (occurs (matrix_in s b)) q)) (sym rows_on) ∙
          sym
          (left ∙
          ap (λ (c : Bool). cond c false (all_of exists (among (occurs (matrix_in s b)) (drop (suc (first_row true (matrix_in s b) behind)) behind))))
          (lt-leb (length behind) (first_row true (matrix_in s b) behind) (omega (arith, near, first_is, length-behind))))
        where
          whole : s.variables ≡ suc i + length (drop (suc i) p)
          whole = omega (arith, near, length_prefix b ok, length-drop (suc i) p)

          shifted : (n a c : ℕ) → leb (n + a) (n + c) ≡ leb a c
          shifted n a c = go (leb a c) refl
            where
              go : (m : Bool) → leb a c ≡ m → leb (n + a) (n + c) ≡ m
              go true e = le-leb (n + a) (n + c) (let h = leb-true a c e in omega arith)
              go false e = lt-leb (n + a) (n + c) (let h = leb-false a c e in omega arith)

          spot : suc t.row + suc (first_row true (matrix_in s b) behind) ≡ suc i
          spot = omega (arith, first_is)

          rows_on : drop (suc (first_row true (matrix_in s b) behind)) behind ≡ drop (suc i) p
          rows_on =
              drop-drop (suc (first_row true (matrix_in s b) behind)) (suc t.row) p ∙
              ap (λ (j : ℕ). drop j p) spot

  -- the block

  block_is : (v : ℕ) → binds (block t.variable (formula_in s b)) v ≡ binds (existentials (among (occurs (matrix_in s b)) behind)) v
  unfolding block
  block_is v = ap (λ (q : Prefix). binds (existentials q) v) later-row

-- one row more
block_row : (t : Tree) (z : Binding) (p : Prefix) (v : ℕ)
    → binds (existentials (among (occurs t) (z ∷ p))) v ≡ ((row_test true t z && eqb z.variable v) || binds (existentials (among (occurs t) p)) v)
unfolding existentials among binds
block_row t z p v = first (occurs t z.variable) ∙ by (same_op exists z.quantifier) (occurs t z.variable)
  where
    E : Prefix
    E = existentials (among (occurs t) p)

    first : (o : Bool)
        → binds (existentials (cond o (z ∷ among (occurs t) p) (among (occurs t) p))) v ≡
        cond o (binds (cond (same_op exists z.quantifier) (z ∷ existentials (among (occurs t) p)) (existentials (among (occurs t) p))) v)
        (binds (existentials (among (occurs t) p)) v)
    first true = refl
    first false = refl

    by : (m o : Bool)
        → cond o (binds (cond m (z ∷ existentials (among (occurs t) p)) (existentials (among (occurs t) p))) v)
        (binds (existentials (among (occurs t) p)) v) ≡
        ((beq m true && o && eqb z.variable v) || binds (existentials (among (occurs t) p)) v)
    by true true = refl
    by true false = refl
    by false true = refl
    by false false = refl

-- what the rows from row j on add is the block
pub record Adding (s : Layout) (b : Bytes) (from j : ℕ) (set : List ℕ) : Type 0 where
  pub within : j ≤ s.variables
  pub words : length set ≡ 17
  pub few : (v : ℕ) → holds set v ≡ true → v ≤ 1024
  pub same : (v : ℕ)
      → (holds set v || binds (existentials (among (occurs (matrix_in s b)) (drop j (prefix_in s b)))) v) ≡
      binds (existentials (among (occurs (matrix_in s b)) (drop from (prefix_in s b)))) v

pub adding_start : (s : Layout) (b : Bytes) (from : ℕ) {set : List ℕ} → from ≤ s.variables → set ≡ replicate 17 0 → Adding s b from from set
adding_start s b from {set} h none =
    record {
      within = h;
      words = ap length none ∙ length-replicate {A = ℕ} 17 0;
      few = λ v k. absurd (false≢true (sym (ap (λ (ws : List ℕ). holds ws v) none ∙ holds-none 17 v) ∙ k));
      same = λ v. ap (λ (c : Bool). c || binds (existentials (among (occurs (matrix_in s b)) (drop from (prefix_in s b)))) v)
          (ap (λ (ws : List ℕ). holds ws v) none ∙ holds-none 17 v);
    }

module _ {s : Layout} (b : Bytes) (ok : Readable s b) (numbered : Numbered s b) {from j : ℕ} {old : List ℕ} (a : Adding s b from j old) where
  pub adding_on : j < s.variables → {k : ℕ} {new : List ℕ} → k ≡ suc j → WithRow s b j old new → Adding s b from k new
  adding_on h {k} {new} next w =
      record {
        within = omega arith;
        words = w.same_length ∙ a.words;
        few = λ v e. ⊎_elim (λ q. a.few v q)
            (λ q. let own = eqb-true (binding_in s b j).variable v (and_parts (row_test true (matrix_in s b) (binding_in s b j)) _ q).1 in
            omega (arith, own, numbered j h))
            (or_cases (holds old v) _ (sym (w.is v) ∙ e));
        same = λ v. ap₂ (λ (c : Bool) (n : ℕ). c || binds (existentials (among (occurs (matrix_in s b)) (drop n (prefix_in s b)))) v) (w.is v) next ∙
            or_assoc (holds old v) _ _ ∙
            ap (λ (c : Bool). holds old v || c)
            (sym
            (ap (λ (q : Prefix). binds (existentials (among (occurs (matrix_in s b)) q)) v) (prefix_row b ok j h) ∙
            block_row (matrix_in s b) (binding_in s b j) (drop (suc j) (prefix_in s b)) v)) ∙
            a.same v;
      }

  pub adding_done : {t : Target} → Located s b t → from ≡ suc t.row → s.variables ≤ j → IsBlock t.variable (formula_in s b) old
  unfolding existentials among binds
  adding_done {t} l row h =
      record {
        words = a.words;
        few = a.few;
        is = λ v. sym
            (ap (λ (q : Prefix). holds old v || binds (existentials (among (occurs (matrix_in s b)) q)) v) (no_rows b ok j (omega (arith, a.within, h))) ∙
            or-false (holds old v)) ∙
            a.same v ∙ ap (λ (n : ℕ). binds (existentials (among (occurs (matrix_in s b)) (drop n (prefix_in s b)))) v) row ∙
            sym (block_is b ok l v);
      }

-- add-row

pub with_row : (s : Layout) (b : Bytes) (j : ℕ) {w : Bool} {x : ℕ} {old new : List ℕ} → w ≡ row_test true (matrix_in s b) (binding_in s b j) → w ≡ true
    → x ≡ (binding_in s b j).variable → length new ≡ length old → ((v : ℕ) → holds new v ≡ (eqb v x || holds old v)) → WithRow s b j old new
with_row s b j {w} {x} {old} {new} is e own l added =
    record {
      same_length = l;
      is = λ v. added v ∙ turned (eqb v x) (holds old v) ∙
          ap (λ (c : Bool). holds old v || c)
          (eqb_comm v x ∙ ap (λ (y : ℕ). eqb y v) own ∙
          ap (λ (c : Bool). c && eqb (binding_in s b j).variable v) (sym e ∙ is));
    }
  where
    turned : (c d : Bool) → (c || d) ≡ (d || c)
    turned true true = refl
    turned true false = refl
    turned false true = refl
    turned false false = refl

pub without_row : (s : Layout) (b : Bytes) (j : ℕ) {w : Bool} {old : List ℕ} → w ≡ row_test true (matrix_in s b) (binding_in s b j) → w ≡ false
    → WithRow s b j old old
without_row s b j {w} {old} is e =
    record {
      same_length = refl;
      is = λ v. sym
          (ap (λ (c : Bool). holds old v || (c && eqb (binding_in s b j).variable v)) (sym is ∙ e) ∙ or-false (holds old v));
    }

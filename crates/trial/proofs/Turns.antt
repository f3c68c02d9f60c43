-- A turn on a prefix row: what it makes of the turns on the rows behind, the assignment it leaves, and how often it may hand over.
-- Assumes nothing.
use mathlib.Core.Path.{◌≡◌, refl, sym, ap, ap₂, subst, ◌∙◌, fun_ext}
use mathlib.Core.Bool.{Bool, true, false, cond, beq}
use mathlib.Core.List.{List, ◌∷◌}
use Prim.Native.Nat.{ℕ, zero, suc, ◌+◌, ◌-◌, ◌*◌, ◌^◌, ◌≤◌, ◌<◌}
use native.Mathlib.Numerals.{add-one}
use native.Mathlib.Omega.{arith}
use lib.Dec.{eqb}
use lib.ListN.{length, get_or, replicate, set, length-set, length-drop, drop_of_length-le}
use lib.Pow.{pow_mono}
use lib.Seq.{get_or-set_same, get_or-set_other, set-set, set-get_or}
use borrow.Author.Tests.{eqb-true, eqb-false}
use Rattle.formula.specs.Tree.{Quantifier, exists, for_all, and, or, dual, same_op}
use Rattle.formula.specs.Truth.{put, eval}
use Rattle.formula.specs.Trial as formula
use Rattle.formula.specs.Trial.{stops_at, turn, try}
use Rattle.formula.proofs.Trial.{try-leaves}
use Rattle.sheet.specs.Format.{Bytes}
use Rattle.rows.specs.Formulas.{prefix_in, matrix_in, Readable}
use Rattle.rows.specs.declared.Layout.{Layout}
use Rattle.rows.proofs.Formulas.{length_prefix}
use Rattle.prefixes.specs.Places.{binding_in}
use Rattle.prefixes.proofs.Places.{prefix_row}
use Rattle.trial.specs.declared.Tried.{Tried}
use Rattle.trial.specs.Inner.Turns.{values, tried, unread, turns, semantic_tree, TurnsReady, Turned}

-- the assignment

put-values : (table : List Bool) (x : ℕ) (v : Bool) → x < length table → put (values table) x v ≡ values (set table x v)
put-values table x v h = fun_ext (λ y. go y (eqb y x) refl)
  where
    go : (y : ℕ) (e : Bool) → eqb y x ≡ e → cond e v (get_or table y false) ≡ get_or (set table x v) y false
    go y true e = sym (ap (λ z. get_or (set table x v) z false) (eqb-true y x e) ∙ get_or-set_same table x v false h)
    go y false e = sym (get_or-set_other table x y v false (eqb-false y x e))

-- a turn on two values

turn_stops : (q : Quantifier) (t₀ t₁ : formula.Tried) → beq (stops_at q) t₀.verdict ≡ true → turn q t₀ t₁ ≡ t₀
unfolding turn
turn_stops q t₀ t₁ e = rw e

turn-goes_on : (q : Quantifier) (t₀ t₁ : formula.Tried) → beq (stops_at q) t₀.verdict ≡ false
    → turn q t₀ t₁ ≡ record { verdict = t₁.verdict; leaves = t₀.leaves + t₁.leaves }
unfolding turn
turn-goes_on q t₀ t₁ e = rw e

-- the prefix rows

-- the side that owns row i
abbrev pub owner : Layout → Bytes → ℕ → Quantifier
owner s b i = (binding_in s b i).quantifier

-- the side by whether it is existential
pub owned_by : (q : Quantifier) {asked u : Bool} → asked ≡ same_op exists q → asked ≡ u → q ≡ cond u exists for_all
owned_by and h e = rw (← e, h)
owned_by or h e = rw (← e, h)

module _ (s : Layout) (b : Bytes) (ok : Readable s b) where
  unread-row : (i : ℕ) → i < s.variables → unread s b i ≡ binding_in s b i ∷ unread s b (i + 1)
  unfolding unread
  unread-row i h = rw add-one (prefix_row b ok i h)

  pub turns_leaf : (table : List Bool) (v : Bool) → v ≡ eval (matrix_in s b) (values table)
      → record { verdict = v; leaves = 1 } ≡ turns s b s.variables table
  unfolding turns unread try
  turns_leaf table v e =
      rw (drop_of_length-le (prefix_in s b) {i = s.variables} (omega (arith, length_prefix b ok)))
      (ap (λ u. record { verdict = u; leaves = 1 }) e)

  pub turned_leaf : (o : Tried) (i : ℕ) (table : List Bool) → i ≡ s.variables → tried o ≡ turns s b s.variables table
      → Turned s b i table o table
  turned_leaf o i table e h = record { outcome = rw e h; unchanged = refl }

  turns-leaves : (i : ℕ) (table : List Bool) → s.variables ≤ 20 → (turns s b i table).leaves ≤ 2 ^ 20
  unfolding turns unread
  turns-leaves i table few =
      let left : length (unread s b i) ≤ 20 = omega (arith, length-drop i (prefix_in s b), length_prefix b ok) in
      omega (arith, try-leaves (unread s b i) (eval (matrix_in s b)) (values table), pow_mono left)

  -- what a row's turn makes of the turns on its two values
  turns-row : (i x : ℕ) (table : List Bool) → i < s.variables → x ≡ (binding_in s b i).variable → x < length table
      → turns s b i table ≡
      turn (owner s b i) (turns s b (i + 1) (set table x false)) (turns s b (i + 1) (set table x true))
  unfolding turns try
  turns-row i x table h e l = rw (unread-row i h, ← e, put-values table x false l, put-values table x true l)

-- row i is of the side q and binds x
pub record Own (q : Quantifier) (s : Layout) (b : Bytes) (i x : ℕ) (table : List Bool) : Type 0 where
  pub readable : Readable s b
  pub few : s.variables ≤ 20
  pub within : i < s.variables
  pub owned : owner s b i ≡ q
  pub binds : x ≡ (binding_in s b i).variable
  pub inside : x < length table

pub own_row : {q : Quantifier} {s : Layout} {b : Bytes} {i x : ℕ} {table : List Bool} {high low : List ℕ}
    → TurnsReady s b high low (length table) → i < s.variables → owner s b i ≡ q → x ≡ (binding_in s b i).variable → Own q s b i x table
own_row {i = i} ready within owned binds =
    record {
      readable = ready.playable.readable;
      few = ready.playable.few;
      within = within;
      owned = owned;
      binds = binds;
      inside = omega (arith, binds, ready.playable.numbered i within);
    }

-- 0 was tried first
module _ {q : Quantifier} {s : Layout} {b : Bytes} {i x : ℕ} {table t₀ : List Bool} {zero : Tried} (own : Own q s b i x table)
    (first : Turned s b (i + 1) (set table x false) zero t₀) where
  row-turn : turns s b i table ≡ turn q (tried zero) (turns s b (i + 1) (set table x true))
  row-turn =
      turns-row s b own.readable i x table own.within own.binds own.inside ∙
      ap₂ (λ u t. turn u t (turns s b (i + 1) (set table x true))) own.owned (sym first.outcome)

  pub restored_one : set t₀ x (get_or table x false) ≡ table
  restored_one = rw (first.unchanged, set-set) (set-get_or table x false)

  pub inside_one : x < length t₀
  inside_one = rw (first.unchanged, length-set) own.inside

  pub kept_one : length (set t₀ x true) ≡ length table
  kept_one = length-set t₀ x true ∙ ap length first.unchanged ∙ length-set table x false

  pub turn_stopped : {stop : Bool} → stop ≡ beq (stops_at q) zero.verdict → stop ≡ true
      → Turned s b i table zero (set t₀ x (get_or table x false))
  turn_stopped asked v =
      record {
        outcome = sym (row-turn ∙ turn_stops q (tried zero) (turns s b (i + 1) (set table x true)) (sym asked ∙ v));
        unchanged = restored_one;
      }

  -- then 1
  module _ {one : Tried} {t₁ : List Bool} (second : Turned s b (i + 1) (set t₀ x true) one t₁) where
    pub leaves-fit : zero.leaves + one.leaves < 2 ^ 64
    leaves-fit =
        omega (
          arith,
          turns-leaves s b own.readable (i + 1) (set table x false) own.few,
          turns-leaves s b own.readable (i + 1) (set t₀ x true) own.few,
          ap (λ (t : formula.Tried). t.leaves) first.outcome,
          ap (λ (t : formula.Tried). t.leaves) second.outcome,
        )

    pub restored-both : set t₁ x (get_or table x false) ≡ table
    restored-both = rw (second.unchanged, set-set) restored_one

    pub inside_both : x < length t₁
    inside_both = rw (second.unchanged, length-set) inside_one

    pub turn-went-on : {stop : Bool} → stop ≡ beq (stops_at q) zero.verdict → stop ≡ false → (o : Tried)
        → (o.verdict ≡ one.verdict) × (o.leaves ≡ zero.leaves + one.leaves) → Turned s b i table o (set t₁ x (get_or table x false))
    turn-went-on asked v o sum =
        record {
          outcome =
              ap₂ (λ u n. record { verdict = u; leaves = n }) sum.0 sum.1 ∙
              sym
              (row-turn ∙
              ap (λ l. turn q (tried zero) (turns s b (i + 1) l))
              (sym (ap (λ t. set t x true) first.unchanged ∙ set-set table x false true)) ∙
              ap (turn q (tried zero)) (sym second.outcome) ∙
              turn-goes_on q (tried zero) (tried one) (sym asked ∙ v));
          unchanged = restored-both;
        }

-- the first turn, under the table of all false
pub turns_first : (s : Layout) (b : Bytes) (n : ℕ) (o : Tried) → tried o ≡ turns s b 0 (replicate n false) → tried o ≡ semantic_tree s b
unfolding turns semantic_tree unread
turns_first s b n o e = e ∙ ap (try (prefix_in s b) (eval (matrix_in s b))) (fun_ext (none n))
  where
    none : (n x : ℕ) → get_or (replicate n false) x false ≡ false
    none zero x = refl
    none (suc n) zero = refl
    none (suc n) (suc x) = none n x

-- how many calls of turns may follow one of the side q at row i: two for each row left, and one more if the row is the other side's
pub calls : Quantifier → Layout → Bytes → ℕ → ℕ
calls q s b i = 2 * (s.variables - i) + cond (same_op q (owner s b i)) 0 1

falls : (q : Quantifier) (s : Layout) (b : Bytes) (i : ℕ) → i < s.variables → calls q s b (i + 1) < calls q s b i
unfolding calls
falls q s b i h = omega (arith, one (same_op q (owner s b (i + 1))))
  where
    one : (u : Bool) → cond u 0 1 ≤ 1
    one true = omega arith
    one false = omega arith

-- the side that owns the row has fewer calls before it
pub hands_over : (q : Quantifier) (s : Layout) (b : Bytes) (i : ℕ) → owner s b i ≡ dual q → calls (dual q) s b i < calls q s b i
unfolding calls
hands_over and s b i e = rw e (omega arith)
hands_over or s b i e = rw e (omega arith)

-- the next row's turn has fewer calls before it, and finds what this one found
pub next_turn : {q : Quantifier} {s : Layout} {b : Bytes} {i x t m : ℕ} {table : List Bool} {high low : List ℕ} → Own q s b i x table
    → TurnsReady s b high low (length table) → calls q s b i ≡ t → m ≡ length table
    → (calls q s b (i + 1) < t) × (TurnsReady s b high low m × (i + 1 ≤ s.variables))
next_turn {q} {s} {b} {i} {high = high} {low = low} own ready is same = (
  omega (arith, falls q s b i own.within, is),
  (subst (TurnsReady s b high low) (sym same) ready, omega (arith, own.within)),
)

-- The runs of an operator's children: the rows of the children that hold a chosen literal, and those of the others.
-- Assumes nothing.
use mathlib.Core.Path.{◌≡◌, refl, sym, ap, ap₂, ◌∙◌}
use mathlib.Core.Bool.{Bool, true, false, not, ◌||◌, cond, beq, false≢true}
use mathlib.Core.List.{List, [], ◌∷◌, ◌++◌, append_assoc, map}
use Prim.Native.Nat.{ℕ, ◌+◌, ◌≤◌}
use native.Mathlib.Omega.{arith}
use lib.ListN.{length, get_or, take, drop, length-append, length-drop}
use lib.Seq.{slice, slice_empty, take-add, take_at, drop_at, drop-append-le, drop-drop, length-take-le}
use Rattle.formula.specs.Tree.{Tree, Forest, ∅, ◌▸◌, Literals, rows, rows_all, has, has_any, keep}
use Rattle.formula.specs.Expand.{relevant, at_first}
use Rattle.formula.proofs.Tidy.Children.{keep_same}
use Rattle.sheet.specs.Format.{Row}
use Rattle.sheet.specs.Sheet.{tree_rows, forest_rows}
use Rattle.sheet.proofs.Preorder.{length-tree_rows, length-forest_rows}
use Rattle.subtrees.specs.Cuts.{turns, cuts, every_other}
use Rattle.substitution.specs.Changes.{chosen, changed_row}
use Rattle.substitution.proofs.Changed.{rows-kept-all}
use Rattle.raw.specs.Expansions.{Climbs}

-- slice

module _ {A : Type 0} (l : List A) where
  pub slice_take : (i k : ℕ) → i ≤ length l → slice i (i + k) l ≡ take k (drop i l)
  slice_take i k h = ap (drop i) (take-add i k l) ∙ drop_at (take i l) (take k (drop i l)) i (length-take-le i l h)

  slice_next : (from i k : ℕ) → from ≤ i → i ≤ length l → slice from (i + k) l ≡ slice from i l ++ take k (drop i l)
  slice_next from i k h e =
      ap (drop from) (take-add i k l) ∙ drop-append-le from (take i l) (take k (drop i l)) (omega (arith, length-take-le i l e))

-- the rows of trees stand side by side from row i on
pub record Stands (N : List Row) (i : ℕ) (ts : Forest) : Type 0 where
  pub more : List Row
  pub start : i ≤ length N
  pub are : drop i N ≡ forest_rows ts ++ more

module _ {N : List Row} {i : ℕ} {t : Tree} {ts : Forest} (s : Stands N i (t ▸ ts)) where
  parts : drop i N ≡ tree_rows t ++ (forest_rows ts ++ s.more)
  unfolding forest_rows
  parts = s.are ∙ append_assoc (tree_rows t) (forest_rows ts) s.more

  long : rows t ≤ length (drop i N)
  long = omega (arith, ap length parts, length-append (tree_rows t) (forest_rows ts ++ s.more), length-tree_rows t)

  pub stands_next : Stands N (i + rows t) ts
  stands_next =
      record {
        more = s.more;
        start = omega (arith, s.start, long, length-drop i N);
        are =
            sym (drop-drop (rows t) i N) ∙ ap (drop (rows t)) parts ∙
            drop_at (tree_rows t) (forest_rows ts ++ s.more) (rows t) (length-tree_rows t);
      }

  pub slice_tree : (from : ℕ) → from ≤ i → slice from (i + rows t) N ≡ slice from i N ++ tree_rows t
  slice_tree from h =
      slice_next N from i (rows t) h s.start ∙
      ap (λ l. slice from i N ++ l) (ap (take (rows t)) parts ∙ take_at (tree_rows t) (forest_rows ts ++ s.more) (rows t) (length-tree_rows t))

  only_tree : slice i (i + rows t) N ≡ tree_rows t
  only_tree = slice_tree i (omega arith) ∙ ap (λ l. l ++ tree_rows t) (slice_empty i N)

-- Climbs

pub climbs_from : (lo lo' n : ℕ) → lo ≤ lo' → (cs : List ℕ) → Climbs lo' cs n → Climbs lo cs n
climbs_from lo lo' n h [] c = omega arith
climbs_from lo lo' n h (x ∷ cs) c = (omega (arith, c.0), c.1)

-- keep

beq_true : (b : Bool) → beq b true ≡ b
beq_true true = refl
beq_true false = refl

beq_false : (b : Bool) → beq b false ≡ not b
beq_false true = refl
beq_false false = refl

module _ (L : Literals) where
  -- the trees that hold a chosen literal, or the others
  abbrev pick : Bool → Forest → Forest
  pick h ts = keep (λ t. beq (has L t) h) ts

  pick_relevant : (ts : Forest) → pick true ts ≡ relevant L ts
  unfolding relevant
  pick_relevant ts = keep_same {P = λ t. beq (has L t) true} {Q = has L} (λ t. beq_true (has L t)) ts

  pick_others : (ts : Forest) → pick false ts ≡ keep (λ t. not (has L t)) ts
  pick_others ts = keep_same {P = λ t. beq (has L t) false} {Q = λ t. not (has L t)} (λ t. beq_false (has L t)) ts

  none-picked : (ts : Forest) → has_any L (pick false ts) ≡ false
  unfolding keep has
  none-picked ∅ = refl
  none-picked (t ▸ ts) = by (has L t) refl (none-picked ts)
    where
      by : (m : Bool) → has L t ≡ m → has_any L (pick false ts) ≡ false → has_any L (cond (beq m false) (t ▸ pick false ts) (pick false ts)) ≡ false
      by true e rest = rest
      by false e rest = ap₂ ◌||◌ e rest

  climbs_turns : (ts : Forest) (h : Bool) (i n : ℕ) → i + rows_all ts ≤ n → Climbs i (turns L h i ts) n
  unfolding turns rows_all
  climbs_turns ∅ h i n l = (omega arith, omega arith)
  climbs_turns (t ▸ ts) h i n l =
      by (beq (has L t) h) (climbs_turns ts h (i + rows t) n (omega arith)) (climbs_turns ts (not h) (i + rows t) n (omega arith))
    where
      by : (m : Bool) → Climbs (i + rows t) (turns L h (i + rows t) ts) n → Climbs (i + rows t) (turns L (not h) (i + rows t) ts) n
          → Climbs i (cond m (turns L h (i + rows t) ts) (i ∷ turns L (not h) (i + rows t) ts)) n
      by true same other = climbs_from i (i + rows t) n (omega arith) (turns L h (i + rows t) ts) same
      by false same other = (omega arith, climbs_from i (i + rows t) n (omega arith) (turns L (not h) (i + rows t) ts) other)

  -- there is an end
  some_turn : (ts : Forest) (h : Bool) (i : ℕ) → 1 ≤ length (turns L h i ts)
  unfolding turns
  some_turn ∅ h i = omega arith
  some_turn (t ▸ ts) h i = by (beq (has L t) h) (some_turn ts h (i + rows t))
    where
      by : (m : Bool) → 1 ≤ length (turns L h (i + rows t) ts)
          → 1 ≤ length (cond m (turns L h (i + rows t) ts) (i ∷ turns L (not h) (i + rows t) ts))
      by true e = e
      by false e = omega arith

  module _ (N : List Row) where
    mutual
      unfolding turns every_other keep forest_rows

      -- the run at hand is one of those
      picked-on : (ts : Forest) (h : Bool) (from i : ℕ) → from ≤ i → Stands N i ts
          → every_other (from ∷ turns L h i ts) N ≡ slice from i N ++ forest_rows (pick h ts)
      picked-on ∅ h from i l s = refl
      picked-on (t ▸ ts) h from i l s =
          by (beq (has L t) h) (picked-on ts h from (i + rows t) (omega arith) (stands_next s))
          (picked-later ts h (i + rows t) (stands_next s))
        where
          by : (m : Bool)
              → every_other (from ∷ turns L h (i + rows t) ts) N ≡ slice from (i + rows t) N ++ forest_rows (pick h ts)
              → every_other (turns L (not h) (i + rows t) ts) N ≡ forest_rows (pick h ts)
              → every_other (from ∷ cond m (turns L h (i + rows t) ts) (i ∷ turns L (not h) (i + rows t) ts)) N ≡
              slice from i N ++ forest_rows (cond m (t ▸ pick h ts) (pick h ts))
          by true on later =
              on ∙ ap (λ r. r ++ forest_rows (pick h ts)) (slice_tree s from l) ∙
              append_assoc (slice from i N) (tree_rows t) (forest_rows (pick h ts))
          by false on later = ap (λ r. slice from i N ++ r) later

      -- the next run is
      picked-later : (ts : Forest) (h : Bool) (i : ℕ) → Stands N i ts → every_other (turns L (not h) i ts) N ≡ forest_rows (pick h ts)
      picked-later ∅ h i s = refl
      picked-later (t ▸ ts) h i s =
          by (has L t) h (picked-on ts h i (i + rows t) (omega arith) (stands_next s)) (picked-later ts h (i + rows t) (stands_next s))
        where
          by : (m h : Bool)
              → every_other (i ∷ turns L h (i + rows t) ts) N ≡ slice i (i + rows t) N ++ forest_rows (pick h ts)
              → every_other (turns L (not h) (i + rows t) ts) N ≡ forest_rows (pick h ts)
              → every_other (cond (beq m (not h)) (turns L (not h) (i + rows t) ts) (i ∷ turns L (not (not h)) (i + rows t) ts)) N ≡
              forest_rows (cond (beq m h) (t ▸ pick h ts) (pick h ts))
          by true true on later = on ∙ ap (λ r. r ++ forest_rows (pick true ts)) (only_tree s)
          by true false on later = later
          by false true on later = later
          by false false on later = on ∙ ap (λ r. r ++ forest_rows (pick false ts)) (only_tree s)

    abbrev first_cut : ℕ → Forest → ℕ
    first_cut i ts = get_or (turns L false i ts) 0 0

    abbrev later-cuts : ℕ → Forest → List ℕ
    later-cuts i ts = drop 1 (turns L false i ts)

    -- the new node stands behind the first run, and the others of the children that hold none behind it
    spot : (new : Tree) (ts : Forest) (from i : ℕ) → from ≤ i → Stands N i ts → has_any L ts ≡ true
        → slice from i N ++ forest_rows (at_first L new ts) ≡
        slice from (first_cut i ts) N ++ (tree_rows new ++ every_other (later-cuts i ts) N)
    unfolding turns at_first forest_rows has
    spot new ∅ from i l s h = absurd (false≢true h)
    spot new (t ▸ ts) from i l s h =
        by (has L t) h (spot new ts from (i + rows t) (omega arith) (stands_next s))
      where
        by : (m : Bool) → (m || has_any L ts) ≡ true
            → (has_any L ts ≡ true
            → slice from (i + rows t) N ++ forest_rows (at_first L new ts) ≡
            slice from (first_cut (i + rows t) ts) N ++ (tree_rows new ++ every_other (later-cuts (i + rows t) ts) N))
            → slice from i N ++ forest_rows (cond m (new ▸ keep (λ u. not (has L u)) ts) (t ▸ at_first L new ts)) ≡
            slice from (get_or (cond (beq m false) (turns L false (i + rows t) ts) (i ∷ turns L true (i + rows t) ts)) 0 0) N ++
            (tree_rows new ++
            every_other (drop 1 (cond (beq m false) (turns L false (i + rows t) ts) (i ∷ turns L true (i + rows t) ts))) N)
        by true k rest =
            ap (λ r. slice from i N ++ (tree_rows new ++ r))
            (ap forest_rows (sym (pick_others ts)) ∙ sym (picked-later ts false (i + rows t) (stands_next s)))
        by false k rest =
            sym (append_assoc (slice from i N) (tree_rows t) (forest_rows (at_first L new ts))) ∙
            ap (λ r. r ++ forest_rows (at_first L new ts)) (sym (slice_tree s from l)) ∙ rest k

-- rows outside the runs that hold chosen literals stay, by the table that chooses

module _ (t : List ℕ) (N : List Row) where
  others_kept : (ts : Forest) (i : ℕ) → Stands N i ts
      → map (changed_row t) (every_other (later-cuts (chosen t) N i ts) N) ≡ every_other (later-cuts (chosen t) N i ts) N
  unfolding turns every_other
  others_kept ∅ i s = refl
  others_kept (u ▸ ts) i s = by (has (chosen t) u) (others_kept ts (i + rows u) (stands_next s))
    where
      by : (m : Bool)
          → map (changed_row t) (every_other (later-cuts (chosen t) N (i + rows u) ts) N) ≡ every_other (later-cuts (chosen t) N (i + rows u) ts) N
          → let cs = drop 1 (cond (beq m false) (turns (chosen t) false (i + rows u) ts) (i ∷ turns (chosen t) true (i + rows u) ts)) in
          map (changed_row t) (every_other cs N) ≡ every_other cs N
      by true rest =
          let those = picked-later (chosen t) N ts false (i + rows u) (stands_next s) in
          ap (map (changed_row t)) those ∙ rows-kept-all t (pick (chosen t) false ts) (none-picked (chosen t) ts) ∙ sym those
      by false rest = rest

-- What the cuts of an operator's children say, by the table that chooses.
pub record Parted (t : List ℕ) (N : List Row) (i : ℕ) (ts : Forest) (cs : List ℕ) : Type 0 where
  pub two : 2 ≤ length cs
  pub begins : get_or cs 0 0 ≡ i
  pub climbs : Climbs 0 cs (length N)
  pub holding : every_other (drop 1 cs) N ≡ forest_rows (relevant (chosen t) ts)
  pub others : map (changed_row t) (every_other (drop 2 cs) N) ≡ every_other (drop 2 cs) N
  pub placed : (new : Tree) → has_any (chosen t) ts ≡ true
      → forest_rows (at_first (chosen t) new ts) ≡
      slice (get_or cs 0 0) (get_or cs 1 0) N ++ (tree_rows new ++ every_other (drop 2 cs) N)

pub parted : (t : List ℕ) (N : List Row) (i : ℕ) (ts : Forest) → Stands N i ts → {cs : List ℕ} → cs ≡ cuts (chosen t) i ts → Parted t N i ts cs
unfolding cuts
parted t N i ts s e = rw e (known)
  where
    L : Literals
    L = chosen t

    within : i + rows_all ts ≤ length N
    within = omega (arith, s.start, ap length s.are, length-append (forest_rows ts) s.more, length-forest_rows ts, length-drop i N)

    known : Parted t N i ts (i ∷ turns L false i ts)
    known =
        record {
          two = omega (arith, some_turn L ts false i);
          begins = refl;
          climbs = (omega arith, climbs_turns L ts false i (length N) within);
          holding = picked-later L N ts true i s ∙ ap forest_rows (pick_relevant L ts);
          others = others_kept t N ts i s;
          placed = λ new h. ap (λ l. l ++ forest_rows (at_first L new ts)) (sym (slice_empty i N)) ∙ spot L N new ts i i (omega arith) s h;
        }

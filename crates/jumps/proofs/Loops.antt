-- One turn of each loop that builds the tables.
-- Assumes nothing.
use mathlib.Core.Path.{◌≡◌, ◌∙◌}
use mathlib.Core.Bool.{not}
use mathlib.Core.List.{List}
use Prim.Native.Nat.{ℕ, zero, suc, ◌+◌, ◌≤◌, ◌<◌}
use native.Mathlib.Decide.{dec_lt}
use native.Mathlib.Omega.{arith}
use lib.Dec.{eqb}
use lib.ListN.{length, get_or, set}
use lib.Seq.{get_or-set_same, get_or-set_other}
use Rattle.sheet.specs.Format.{Row, row}
use Rattle.jumps.specs.Jumps.{entry, Parent, Parents, past, is_and, Wired, Targets}

-- parent_of: the subtrees between p and i have come to their ends

abbrev pub Closed : List ℕ → ℕ → ℕ → Type 0
Closed ends p i = (y : ℕ) → p < y → y < i → entry ends y ≤ i

module _ (ends parents : List ℕ) (i : ℕ) (root-open : i < entry ends 0) (known : Parents ends parents i) where
  -- a subtree that has come to its end is not the root, and lies with the others between its parent and i
  pub climb : (p p' : ℕ) → p < i → entry ends p ≤ i → p' ≡ entry parents p → Closed ends p i → (p' < p) × Closed ends p' i
  climb zero p' l e q closed = absurd (omega arith)
  climb (suc p) p' l e q closed =
      let P = known (suc p) (omega arith) l in
      rw q (P.before, λ y py yr. go y py yr (P.others_closed y py) (dec_lt y (suc p)) (dec_lt (suc p) y))
    where
      go : (y : ℕ) → entry parents (suc p) < y → y < i → (y < suc p → entry ends y ≤ suc p) → Dec (y < suc p) → Dec (suc p < y)
          → entry ends y ≤ i
      go y py yr k (yes d) b = omega (arith, k d)
      go y py yr k (no f) (yes d) = closed y d yr
      go y py yr k (no f) (no g) =
          let same : y ≡ suc p = omega arith in
          rw same e

-- wire

module _ (ends parents : List ℕ) (i p : ℕ) (room : i < length parents) (P : Parent ends p i) (known : Parents ends parents i) where
  pub parents_more : Parents ends (set parents i p) (i + 1)
  parents_more q h l = go (dec_lt q i)
    where
      go : Dec (q < i) → Parent ends (entry (set parents i p) q) q
      go (yes d) = rw (get_or-set_other parents i q p 0 (λ e. omega arith)) (known q h d)
      go (no f) =
          let e : q ≡ i = omega arith in
          rw (e, get_or-set_same parents i p 0 room) P

module _ (R : List Row) (ends high low : List ℕ) (i p k x y : ℕ) (first : 0 < i) (high_room : i < length high) (low_room : i < length low)
    (P : Parent ends p i) (kind_is : k ≡ (get_or R p (row 0 0)).kind)
    (high_is : x ≡ past (eqb k 5) (entry ends i) (entry ends p) (entry high p))
    (low-is : y ≡ past (not (eqb k 5)) (entry ends i) (entry ends p) (entry low p)) (before : Targets R ends high low i) where
  kept : (table : List ℕ) (v j : ℕ) → j < i → entry (set table i v) j ≡ entry table j
  kept table v j l = get_or-set_other table i j v 0 (λ e. omega arith)

  wired_kept : (q : ℕ) → q < i → Wired R ends high low q → Wired R ends (set high i x) (set low i y) q
  wired_kept q l W =
      let u = W.is_parent.before in
      record {
        parent = W.parent;
        is_parent = W.is_parent;
        high_target = rw (kept high x q l, kept high x W.parent (omega arith)) W.high_target;
        low_target = rw (kept low y q l, kept low y W.parent (omega arith)) W.low_target;
      }

  wired_new : Wired R ends (set high i x) (set low i y) i
  unfolding is_and
  wired_new =
      record {
        parent = p;
        is_parent = P;
        high_target = rw (get_or-set_same high i x 0 high_room, kept high x p P.before, ← kind_is) high_is;
        low_target = rw (get_or-set_same low i y 0 low_room, kept low y p P.before, ← kind_is) low-is;
      }

  pub wire_row : Targets R ends (set high i x) (set low i y) (i + 1)
  wire_row =
      record {
        root_high = kept high x 0 first ∙ before.root_high;
        root_low = kept low y 0 first ∙ before.root_low;
        wired = λ q h l. go q h l (dec_lt q i);
      }
    where
      go : (q : ℕ) → 0 < q → q < i + 1 → Dec (q < i) → Wired R ends (set high i x) (set low i y) q
      go q h l (yes d) = wired_kept q d (before.wired q h d)
      go q h l (no f) =
          let e : q ≡ i = omega arith in
          rw e wired_new

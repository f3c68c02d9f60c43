-- The turns of marking.
-- Assumes nothing.
use mathlib.Core.Path.{◌≡◌, refl, sym, ◌∙◌, ap, ap₂}
use mathlib.Core.Bool.{Bool, true, false, ◌&&◌, ◌||◌, cond, or-false, or_assoc}
use mathlib.Core.List.{List, ◌++◌}
use Prim.Native.Nat.{ℕ, zero, suc, ◌+◌, ◌-◌, ◌≤◌, ◌<◌}
use native.Mathlib.Omega.{arith}
use lib.Dec.{eqb, ltb}
use lib.ListN.{length, get_or, take}
use lib.Seq.{take-append_seam}
use borrow.Author.Tests.{ne_eqb, lt-ltb, le-ltb}
use Rattle.formula.specs.Tree.{Tree, lit, node, Forest, ◌▸◌, Literals, of, rows, has, has_any, keep}
use Rattle.formula.specs.Tidy.{any}
use Rattle.formula.specs.Settle.{is_lit}
use Rattle.formula.specs.Expand.{relevant}
use Rattle.formula.proofs.Booleans.{eqb_comm}
use Rattle.sheet.specs.Format.{Bytes}
use Rattle.rows.specs.Formulas.{Readable}
use Rattle.rows.specs.declared.Layout.{Layout}
use Rattle.sets.specs.Sets.{holds}
use Rattle.subtrees.specs.Subtrees.{forest_in, subtree_in, siblings_in}
use Rattle.subtrees.proofs.Siblings.{Walked, siblings-none, subtree_within}
use Rattle.occurrences.specs.Chains.{hits, hits_all}
use Rattle.occurrences.specs.Occurrences.{variable_of}
use Rattle.occurrences.proofs.Hits.{has-hits, length-hits, hits-row, hits_subtree}
use Rattle.relevance.specs.Walks.{Way}
use Rattle.relevance.proofs.TurnSubtree.{Begun, Walk, walk_start, walked, held_by, walk-next}
use Rattle.dependence.specs.Marks.{Marked, literal_in}

-- a test that no number passes marks nothing
pub marked-none : {Q : ℕ → Bool} {old : List ℕ} → ((v : ℕ) → v ≤ 1024 → Q v ≡ false) → Marked Q old old
marked-none {Q} {old} none =
    record { same_length = refl; is = λ v h. sym (ap (λ (m : Bool). holds old v || m) (none v h) ∙ or-false (holds old v)) }

-- one number
pub marked_one : {Q : ℕ → Bool} {old new : List ℕ} (x : ℕ) → length new ≡ length old → ((v : ℕ) → v ≤ 1024 → Q v ≡ eqb v x)
    → ((v : ℕ) → holds new v ≡ (eqb v x || holds old v)) → Marked Q old new
marked_one {Q} {old} {new} x l q is =
    record {
      same_length = l;
      is = λ v h. is v ∙ turned (eqb v x) (holds old v) ∙ ap (λ (m : Bool). holds old v || m) (sym (q v h));
    }
  where
    turned : (a b : Bool) → (a || b) ≡ (b || a)
    turned true true = refl
    turned true false = refl
    turned false true = refl
    turned false false = refl

-- two tests one after the other
pub marked-both : {P Q R : ℕ → Bool} {old mid new : List ℕ} → Marked P old mid → Marked Q mid new
    → ((v : ℕ) → v ≤ 1024 → R v ≡ (P v || Q v)) → Marked R old new
marked-both {P} {Q} {R} {old} {mid} {new} m n r =
    record {
      same_length = n.same_length ∙ m.same_length;
      is = λ v h. n.is v h ∙ ap (λ (c : Bool). c || Q v) (m.is v h) ∙ or_assoc (holds old v) (P v) (Q v) ∙
          ap (λ (c : Bool). holds old v || c) (sym (r v h));
    }

-- the same test by another name
pub marked_as : {P Q : ℕ → Bool} {old new : List ℕ} → Marked P old new → ((v : ℕ) → v ≤ 1024 → P v ≡ Q v) → Marked Q old new
marked_as {P} {Q} {old} {new} m same =
    record { same_length = m.same_length; is = λ v h. m.is v h ∙ ap (λ (c : Bool). holds old v || c) (same v h) }

-- a row

-- the literal at a row is one of v exactly if v is its variable
is_variable : (v : ℕ) (t : Tree) → v ≤ 1024 → is_lit (of v) t ≡ eqb v (variable_of t)
unfolding is_lit
is_variable v (lit s x) h = eqb_comm x v
is_variable v (node o ts) h = sym (ne_eqb v 1025 (λ e. omega (arith, e, h)))

pub row-marked : (s : Layout) (b : Bytes) (i : ℕ) {x : ℕ} {old new : List ℕ} → x ≡ variable_of (subtree_in s b i) → length new ≡ length old
    → ((v : ℕ) → holds new v ≡ (eqb v x || holds old v)) → Marked (λ v. is_lit (of v) (subtree_in s b i)) old new
row-marked s b i {x} e l is =
    marked_one x l (λ v h. is_variable v (subtree_in s b i) h ∙ ap (eqb v) (sym e)) is

pub row_unmarked : (s : Layout) (b : Bytes) (i : ℕ) {x : ℕ} {old : List ℕ} → x ≡ variable_of (subtree_in s b i) → 1025 ≤ x
    → Marked (λ v. is_lit (of v) (subtree_in s b i)) old old
row_unmarked s b i {x} e far =
    marked-none (λ v h. is_variable v (subtree_in s b i) h ∙ ap (eqb v) (sym e) ∙ ne_eqb v x (λ q. omega (arith, q, h, far)))

-- rows

literal_more : (s : Layout) (b : Bytes) (v n i : ℕ) → literal_in s b v (suc n) i ≡ (literal_in s b v n i || is_lit (of v) (subtree_in s b (i + n)))
unfolding literal_in
literal_more s b v zero i = or-false _ ∙ ap (λ (j : ℕ). is_lit (of v) (subtree_in s b j)) (none i)
  where
    none : (i : ℕ) → i ≡ i + 0
    none i = omega arith
literal_more s b v (suc n) i =
    ap (λ (m : Bool). is_lit (of v) (subtree_in s b i) || m)
    (literal_more s b v n (suc i) ∙ ap (λ (j : ℕ). literal_in s b v n (suc i) || is_lit (of v) (subtree_in s b j)) (next i n)) ∙
    sym (or_assoc (is_lit (of v) (subtree_in s b i)) (literal_in s b v n (suc i)) (is_lit (of v) (subtree_in s b (i + suc n))))
  where
    next : (i n : ℕ) → suc i + n ≡ i + suc n
    next i n = omega arith

-- the rows from `from` up to i are marked
pub rows_start : (s : Layout) (b : Bytes) (from : ℕ) {old : List ℕ} → Marked (λ v. literal_in s b v (from - from) from) old old
unfolding literal_in
rows_start s b from = marked-none (λ v h. ap (λ (n : ℕ). literal_in s b v n from) (none from))
  where
    none : (i : ℕ) → i - i ≡ 0
    none i = omega arith

pub rows_next : (s : Layout) (b : Bytes) (from i : ℕ) {j : ℕ} {old mid new : List ℕ} → from ≤ i → j ≡ suc i
    → Marked (λ v. literal_in s b v (i - from) from) old mid → Marked (λ v. is_lit (of v) (subtree_in s b i)) mid new
    → Marked (λ v. literal_in s b v (j - from) from) old new
rows_next s b from i {j} h next m n =
    marked-both m n
    (λ v k. ap (λ (n : ℕ). literal_in s b v n from) more ∙ literal_more s b v (i - from) from ∙
    ap (λ (l : ℕ). literal_in s b v (i - from) from || is_lit (of v) (subtree_in s b l)) back)
  where
    more : j - from ≡ suc (i - from)
    more = omega arith

    back : from + (i - from) ≡ i
    back = omega arith

module _ {s : Layout} (b : Bytes) (ok : Readable s b) where
  literal-hits : (v n i : ℕ) → i + n ≤ s.nodes → literal_in s b v n i ≡ any (take n (hits_all (of v) (forest_in s b i)))
  unfolding literal_in any
  literal-hits v zero i h = refl
  literal-hits v (suc n) i h =
      ap (λ (m : Bool). is_lit (of v) (subtree_in s b i) || m) (literal-hits v n (suc i) (omega arith)) ∙
      sym (ap (λ (l : List Bool). any (take (suc n) l)) (hits-row (of v) b ok i (omega arith)))

  -- the rows of a subtree
  literal_subtree : (v i : ℕ) → i < s.nodes → literal_in s b v (rows (subtree_in s b i)) i ≡ has (of v) (subtree_in s b i)
  literal_subtree v i h =
      literal-hits v (rows (subtree_in s b i)) i (subtree_within b ok i h) ∙
      ap (λ (l : List Bool). any (take (rows (subtree_in s b i)) l)) (hits_subtree (of v) b ok i h) ∙
      ap (λ (n : ℕ). any (take n (hits (of v) (subtree_in s b i) ++ hits_all (of v) (forest_in s b (i + rows (subtree_in s b i))))))
      (sym (length-hits (of v) (subtree_in s b i))) ∙
      ap any (take-append_seam (hits (of v) (subtree_in s b i)) (hits_all (of v) (forest_in s b (i + rows (subtree_in s b i))))) ∙
      sym (has-hits (of v) (subtree_in s b i))

-- a child

pub child_marked : (s : Layout) (b : Bytes) (at end row : ℕ) {old new : List ℕ} → row < end
    → Marked (λ v. literal_in s b v (end - at) at) old new → Marked (λ v. ltb row end && literal_in s b v (end - at) at) old new
child_marked s b at end row h m =
    marked_as m (λ v k. sym (ap (λ (c : Bool). c && literal_in s b v (end - at) at) (lt-ltb row end h)))

pub child_unmarked : (s : Layout) (b : Bytes) (at end row : ℕ) {old : List ℕ} → end ≤ row
    → Marked (λ v. ltb row end && literal_in s b v (end - at) at) old old
child_unmarked s b at end row h =
    marked-none (λ v k. ap (λ (c : Bool). c && literal_in s b v (end - at) at) (le-ltb row end h))

-- children

-- what the subtrees to go add is that of all
pub record Marking (L : Literals) (s : Layout) (b : Bytes) (ts : Forest) (old : List ℕ) (at left row : ℕ) (set : List ℕ) : Type 0 where
  pub walk : Walk L s b at left row
  pub same_length : length set ≡ length old
  pub are : (v : ℕ) → v ≤ 1024
      → (holds set v || has_any (of v) (relevant L (siblings_in s b at left))) ≡ (holds old v || has_any (of v) (relevant L ts))

relevant_first : (L M : Literals) (t : Tree) (ts : Forest) → has_any M (relevant L (t ▸ ts)) ≡ ((has L t && has M t) || has_any M (relevant L ts))
unfolding relevant keep has_any
relevant_first L M t ts = by (has L t)
  where
    by : (c : Bool) → has_any M (cond c (t ▸ keep (has L) ts) (keep (has L) ts)) ≡ ((c && has M t) || has_any M (keep (has L) ts))
    by true = refl
    by false = refl

module _ (L : Literals) {s : Layout} {b : Bytes} {ends next : List ℕ} {from k first : ℕ} (begun : Begun L s b ends next from k first) where
  pub marking_start : (old : List ℕ) {left : ℕ} → left ≡ k → Marking L s b (siblings_in s b from k) old from left first old
  marking_start old whole = rw whole (record { walk = walk_start L begun; same_length = refl; are = λ v h. refl })

  pub marking_on : {ts : Forest} {old set new : List ℕ} {at end left left' row row' : ℕ} → 0 < left → left' ≡ left - 1 → end ≡ get_or ends at 0 → Marking L s b ts old at left row set
      → Marked (λ v. ltb row end && literal_in s b v (end - at) at) set new → Way next end row row' → Marking L s b ts old end left' row' new
  marking_on {ts} {old} {set} {new} {at} {end} {left} {left'} {row} {row'} some less is p marked way =
      let m = rw is at marked in
      let to_end = rw is at way in
      rw (less, is) (record {
        walk = walk-next L begun some p.walk to_end;
        same_length = m.same_length ∙ p.same_length;
        are = λ v h. ap (λ (c : Bool). c || has_any (of v) (relevant L others)) (m.is v h ∙ ap (λ (c : Bool). holds set v || c) (child v)) ∙
            or_assoc (holds set v) (has L (subtree_in s b at) && has (of v) (subtree_in s b at)) (has_any (of v) (relevant L others)) ∙
            ap (λ (c : Bool). holds set v || c)
            (sym (ap (λ (us : Forest). has_any (of v) (relevant L us)) w.split ∙ relevant_first L (of v) (subtree_in s b at) others)) ∙
            p.are v h;
      })
    where
      w : Walked s b ends at left
      w = walked L begun some p.walk

      others : Forest
      others = siblings_in s b (get_or ends at 0) (left - 1)

      size : get_or ends at 0 - at ≡ rows (subtree_in s b at)
      size = omega (arith, w.next)

      child : (v : ℕ) → (ltb row (get_or ends at 0) && literal_in s b v (get_or ends at 0 - at) at) ≡ (has L (subtree_in s b at) && has (of v) (subtree_in s b at))
      child v =
          ap₂ ◌&&◌ (held_by L begun some p.walk)
          (ap (λ (n : ℕ). literal_in s b v n at) size ∙ literal_subtree b begun.indexed.readable v at w.inside)

  pub marking_done : {ts : Forest} {old set : List ℕ} {at left row : ℕ} → left ≤ 0 → Marking L s b ts old at left row set
      → Marked (λ v. has_any (of v) (relevant L ts)) old set
  unfolding relevant keep has_any
  marking_done {ts} {old} {set} {at} {left} h p =
      record {
        same_length = p.same_length;
        is = λ v k. sym (ap (λ (us : Forest). holds set v || has_any (of v) (keep (has L) us)) (siblings-none s b at h) ∙ or-false (holds set v)) ∙
            p.are v k;
      }

-- The turns of the walk that cuts an operator's children into runs.
-- Assumes nothing.
use mathlib.Core.Path.{◌≡◌, refl, sym, ap, ap₂, ◌∙◌}
use mathlib.Core.Bool.{Bool, true, false, not, cond, beq, true≢false}
use mathlib.Core.List.{List, [], ◌∷◌, ◌++◌, append-nil, append_assoc}
use Prim.Native.Nat.{ℕ, ◌+◌, ◌-◌, ◌≤◌, ◌<◌}
use native.Mathlib.Numerals.{add-one}
use native.Mathlib.Omega.{arith}
use lib.Dec.{ltb}
use lib.ListN.{length, get_or, take, drop, set, length-set, take-append-drop}
use lib.Seq.{drop-drop, drop-set-lt, take-suc-set, length-take-le}
use Rattle.formula.specs.Tree.{Forest, Literals, has}
use Rattle.sheet.specs.Format.{Bytes}
use Rattle.rows.specs.declared.Layout.{Layout}
use Rattle.subtrees.specs.Subtrees.{subtree_in, siblings_in}
use Rattle.subtrees.proofs.Siblings.{Walked, siblings-none}
use Rattle.subtrees.specs.Cuts.{turns, cuts}
use Rattle.relevance.specs.Walks.{Way, run_cut, table_cut}
use Rattle.relevance.specs.declared.cuts.Runs.{Runs}
use Rattle.relevance.proofs.TurnSubtree.{Begun, Walk, walk_start, walk-next, walked, end_later, held_by}

-- The cuts in the table and those to come are the cuts of all; there is at most one for each row.
pub record Cutting (L : Literals) (s : Layout) (b : Bytes) (ts : Forest) (from at left row : ℕ) (runs : Runs) (table : List ℕ) : Type 0 where
  pub walk : Walk L s b at left row
  pub few : runs.cuts + from ≤ at + 1
  pub same : cuts L from ts ≡ take runs.cuts table ++ turns L runs.holding at (siblings_in s b at left)

-- one cut more
cut_put : (table : List ℕ) (k at : ℕ) (later : List ℕ) → k < length table
    → take k table ++ (at ∷ later) ≡ take (k + 1) (set table k at) ++ later
cut_put table k at later h =
    sym (append_assoc (take k table) (at ∷ []) later) ∙
    ap (λ l. l ++ later) (sym (ap (λ m. take m (set table k at)) (add-one k) ∙ take-suc-set table k at h))

-- the entries past the cuts stay
pub record Kept (before : List ℕ) (runs : Runs) (table : List ℕ) : Type 0 where
  pub same_length : length table ≡ length before
  pub behind : drop runs.cuts table ≡ drop runs.cuts before

kept_put : (before table : List ℕ) (k at : ℕ) → drop k table ≡ drop k before → drop (k + 1) (set table k at) ≡ drop (k + 1) before
kept_put before table k at e =
    drop-set-lt (k + 1) table k at (omega arith) ∙ sym (drop-drop 1 k table) ∙ ap (drop 1) e ∙ drop-drop 1 k before

other_side : (x y : Bool) → beq x y ≡ false → not y ≡ x
other_side true true e = absurd (true≢false e)
other_side true false e = refl
other_side false true e = refl
other_side false false e = absurd (true≢false e)

pub kept-turn : {before table table' : List ℕ} {runs after : Runs} (holds : Bool) (at : ℕ) → after ≡ run_cut holds runs
    → table' ≡ table_cut holds runs at table → Kept before runs table → Kept before after table'
unfolding run_cut table_cut
kept-turn {before} {table} {table'} {runs} {after} holds at r t k = go (beq holds runs.holding) r t
  where
    go : (e : Bool) → after ≡ cond e runs (record { cuts = runs.cuts + 1; holding = holds })
        → table' ≡ cond e table (set table runs.cuts at) → Kept before after table'
    go true r t = rw (r, t) k
    go false r t =
        rw (r, t)
        (record {
          same_length = length-set table runs.cuts at ∙ k.same_length;
          behind = kept_put before table runs.cuts at k.behind;
        })

module _ (L : Literals) {s : Layout} {b : Bytes} {ends next : List ℕ} {from k first : ℕ} (begun : Begun L s b ends next from k first) where
  pub cut_start : (before : List ℕ) → 0 < length before
      → Cutting L s b (siblings_in s b from k) from from k first (record { cuts = 1; holding = false }) (set before 0 from)
  unfolding cuts
  cut_start before h =
      record {
        walk = walk_start L begun;
        few = omega arith;
        same = cut_put before 0 from (turns L false from (siblings_in s b from k)) h;
      }

  pub cut_on : {ts : Forest} {at left left' row row' : ℕ} {runs after : Runs} {table table' : List ℕ} → 0 < left → left' ≡ left - 1
      → runs.cuts < length table
      → Cutting L s b ts from at left row runs table → after ≡ run_cut (ltb row (get_or ends at 0)) runs
      → table' ≡ table_cut (ltb row (get_or ends at 0)) runs at table → Way next (get_or ends at 0) row row'
      → Cutting L s b ts from (get_or ends at 0) left' row' after table'
  unfolding run_cut table_cut turns
  cut_on {ts} {at} {left} {left'} {row} {row'} {runs} {after} {table} {table'} some one room p r t to_end =
      rw one
      (go (beq (has L (subtree_in s b at)) runs.holding) refl (r ∙ ap (λ x. run_cut x runs) held)
      (t ∙ ap (λ x. table_cut x runs at table) held) unrolled)
    where
      held : ltb row (get_or ends at 0) ≡ has L (subtree_in s b at)
      held = held_by L begun some p.walk

      w : Walked s b ends at left
      w = walked L begun some p.walk

      others : Forest
      others = siblings_in s b (get_or ends at 0) (left - 1)

      unrolled : turns L runs.holding at (siblings_in s b at left) ≡
          cond (beq (has L (subtree_in s b at)) runs.holding) (turns L runs.holding (get_or ends at 0) others)
          (at ∷ turns L (not runs.holding) (get_or ends at 0) others)
      unrolled =
          ap (turns L runs.holding at) w.split ∙
          ap (λ m. cond (beq (has L (subtree_in s b at)) runs.holding) (turns L runs.holding m others)
          (at ∷ turns L (not runs.holding) m others)) (sym w.next)

      go : (e : Bool) → beq (has L (subtree_in s b at)) runs.holding ≡ e
          → after ≡ cond e runs (record { cuts = runs.cuts + 1; holding = has L (subtree_in s b at) })
          → table' ≡ cond e table (set table runs.cuts at)
          → turns L runs.holding at (siblings_in s b at left) ≡
          cond e (turns L runs.holding (get_or ends at 0) others) (at ∷ turns L (not runs.holding) (get_or ends at 0) others)
          → Cutting L s b ts from (get_or ends at 0) (left - 1) row' after table'
      go true e r t u =
          rw (r, t)
          (record {
            walk = walk-next L begun some p.walk to_end;
            few = omega (arith, p.few, end_later L begun some p.walk);
            same = p.same ∙ ap (λ l. take runs.cuts table ++ l) u;
          })
      go false e r t u =
          rw (r, t)
          (record {
            walk = walk-next L begun some p.walk to_end;
            few = omega (arith, p.few, end_later L begun some p.walk);
            same =
                p.same ∙ ap (λ l. take runs.cuts table ++ l) u ∙
                cut_put table runs.cuts at (turns L (not runs.holding) (get_or ends at 0) others) room ∙
                ap (λ y. take (runs.cuts + 1) (set table runs.cuts at) ++ turns L y (get_or ends at 0) others)
                (other_side (has L (subtree_in s b at)) runs.holding e);
          })

-- the end is the last cut
cut_none : (L : Literals) {s : Layout} {b : Bytes} {ts : Forest} {from at left row : ℕ} {runs : Runs} {table : List ℕ} → left ≤ 0
    → runs.cuts < length table → Cutting L s b ts from at left row runs table
    → take (runs.cuts + 1) (set table runs.cuts at) ≡ cuts L from ts
unfolding turns
cut_none L {s} {b} {ts} {from} {at} {left} {row} {runs} {table} h room p =
    sym
    (p.same ∙ ap (λ us. take runs.cuts table ++ turns L runs.holding at us) (siblings-none s b at h) ∙
    cut_put table runs.cuts at [] room ∙ append-nil (take (runs.cuts + 1) (set table runs.cuts at)))

-- with what the table held before its first entry was set
module _ (before : List ℕ) (first : ℕ) {table : List ℕ} {runs : Runs} (k : Kept (set before 0 first) runs table) (at : ℕ) where
  pub length-kept : length (set table runs.cuts at) ≡ length before
  length-kept = length-set table runs.cuts at ∙ k.same_length ∙ length-set before 0 first

  pub cuts_done : (L : Literals) {s : Layout} {b : Bytes} {ts : Forest} {from left row : ℕ} → left ≤ 0 → runs.cuts < length table
      → Cutting L s b ts from at left row runs table
      → (runs.cuts + 1 ≡ length (cuts L from ts))
      × (set table runs.cuts at ≡ cuts L from ts ++ drop (runs.cuts + 1) before)
  cuts_done L {s} {b} {ts} {from} h room p =
      let all = cut_none L h room p in
      let after = set table runs.cuts at in (
        sym (length-take-le (runs.cuts + 1) after (omega (arith, length-set table runs.cuts at))) ∙ ap length all,
        sym (take-append-drop (runs.cuts + 1) after) ∙
            ap₂ ◌++◌ all
            (kept_put (set before 0 first) table runs.cuts at k.behind ∙
            drop-set-lt (runs.cuts + 1) before 0 first (omega arith)),
      )

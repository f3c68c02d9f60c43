-- Hashes, row by row: what a row's kind says of them, children mix in one after another, and the table filled from its last entry on.
-- Assumes nothing.
use mathlib.Core.Path.{◌≡◌, refl, sym, ap, ap₂, ◌∙◌}
use mathlib.Core.Bool.{Bool, true, false}
use mathlib.Core.List.{List}
use Prim.Native.Nat.{ℕ, zero, suc, ◌-◌, ◌≤◌, ◌<◌}
use native.Mathlib.Omega.{arith}
use lib.Dec.{eqb}
use lib.ListN.{length, get_or, set, length-set}
use lib.Seq.{get_or-set_same, get_or-set_other}
use borrow.Author.Tests.{eqb-true, eqb-false}
use Rattle.formula.specs.Tree.{and, or, Tree, lit, node, ◌▸◌}
use Rattle.sheet.specs.Format.{Bytes}
use Rattle.rows.specs.declared.Layout.{Layout}
use Rattle.subtrees.specs.Subtrees.{top, kids, subtree_in, siblings_in, Beside}
use Rattle.subtrees.specs.Ends.{Indexed}
use Rattle.subtrees.proofs.Siblings.{siblings-none, walk_on}
use Rattle.buckets.specs.Hashes.{literal_mix, mix, hash, hash_on}
use Rattle.duplicates.specs.Hashes.{mixes, Mixes, Hashed}

-- hash

pub hash-literal : (t : Tree) {k v : ℕ} → k ≡ (top t).kind → v ≡ (top t).argument → k ≤ 4 → literal_mix (4 - k) v ≡ hash t
unfolding hash
hash-literal (lit true v) {k} e f h = let one : 4 - k ≡ 1 = omega arith in ap₂ literal_mix one f
hash-literal (lit false v) {k} e f h = let none : 4 - k ≡ 0 = omega arith in ap₂ literal_mix none f
hash-literal (node and ts) e f h = absurd (omega arith)
hash-literal (node or ts) e f h = absurd (omega arith)

pub hash_operator : (t : Tree) {k : ℕ} → k ≡ (top t).kind → 4 < k → hash_on k (kids t) ≡ hash t
unfolding hash
hash_operator (lit true v) e h = absurd (omega arith)
hash_operator (lit false v) e h = absurd (omega arith)
hash_operator (node and ts) e h = ap (λ (k : ℕ). hash_on k ts) e
hash_operator (node or ts) e h = ap (λ (k : ℕ). hash_on k ts) e

-- mixes

pub record Mixed (ends hashes : List ℕ) (at left left' a at' : ℕ) : Type 0 where
  pub in_ends : at < length ends
  pub in_hashes : at < length hashes
  pub onward : Mixes ends hashes at' left'
  pub same : mixes ends hashes at left a ≡ mixes ends hashes at' left' (mix a (get_or hashes at 0))

pub mix_on : (ends hashes : List ℕ) {at left left' : ℕ} (a : ℕ) → left ≡ suc left' → Mixes ends hashes at left
    → Mixed ends hashes at left left' a (get_or ends at 0)
unfolding mixes
mix_on ends hashes {at} {left = zero} a next m = absurd (omega arith)
mix_on ends hashes {at} {left = suc l} {left'} a next m =
    let e : left' ≡ l = omega arith in
    rw e (record { in_ends = m.0; in_hashes = m.1; onward = m.2; same = refl })

pub mixes-none : (ends hashes : List ℕ) (at : ℕ) {left : ℕ} (a : ℕ) → left ≤ 0 → mixes ends hashes at left a ≡ a
unfolding mixes
mixes-none ends hashes at {left = zero} a h = refl
mixes-none ends hashes at {left = suc l} a h = absurd (omega arith)

-- siblings are mix in as the definition says
module _ {s : Layout} (b : Bytes) (ends hashes : List ℕ) (e : Indexed s b ends) {from : ℕ} (p : Hashed s b hashes from) where
  pub mixes-siblings : (left at a : ℕ) → from ≤ at → Beside s b at left
      → Mixes ends hashes at left × (mixes ends hashes at left a ≡ hash_on a (siblings_in s b at left))
  unfolding mixes hash
  mixes-siblings zero at a l few = (tt, sym (ap (λ ts. hash_on a ts) (siblings-none s b at (omega arith))))
  mixes-siblings (suc k) at a l few =
      let w = walk_on b e.readable ends e at (omega arith) few in
      let back : suc k - 1 ≡ k = omega arith in
      let next = mixes-siblings k (get_or ends at 0) (mix a (get_or hashes at 0)) (omega (arith, w.next)) (rw back at w.few) in
      let all : siblings_in s b at (suc k) ≡ subtree_in s b at ▸ siblings_in s b (get_or ends at 0) k = rw back at w.split in (
        (omega (arith, w.inside, e.holds), omega (arith, w.inside, p.room), next.0),
        next.1 ∙ ap (λ (x : ℕ). hash_on (mix a x) (siblings_in s b (get_or ends at 0) k)) (p.filled at l w.inside) ∙
            sym (ap (λ ts. hash_on a ts) all),
      )

-- the table

-- a loop that fills it, from the last row down to row i
pub record Filling (s : Layout) (b : Bytes) (before now : List ℕ) (i : ℕ) : Type 0 where
  pub hashed : Hashed s b now i
  pub within : i ≤ s.nodes
  pub same_length : length now ≡ length before

module _ {s : Layout} {b : Bytes} where
  pub hashed_none : {hashes : List ℕ} → s.nodes ≤ length hashes → Hashed s b hashes s.nodes
  hashed_none h = record { room = h; filled = λ i l u. absurd (omega arith) }

  pub hashed_later : {hashes : List ℕ} (from at : ℕ) → Hashed s b hashes from → from ≤ at → Hashed s b hashes at
  hashed_later from at p l = record { room = p.room; filled = λ i u h. p.filled i (omega arith) h }

  pub hashed_more : {hashes : List ℕ} {i j p : ℕ} → i ≡ suc j → j < s.nodes → Hashed s b hashes i → p ≡ hash (subtree_in s b j)
      → Hashed s b (set hashes j p) j
  hashed_more {hashes} {i} {j} {p} next inside f e =
      record { room = omega (arith, f.room, length-set hashes j p); filled = entry }
    where
      entry : (k : ℕ) → j ≤ k → k < s.nodes → get_or (set hashes j p) k 0 ≡ hash (subtree_in s b k)
      entry k l u = by (eqb k j) refl
        where
          by : (c : Bool) → eqb k j ≡ c → get_or (set hashes j p) k 0 ≡ hash (subtree_in s b k)
          by true q =
              let same = eqb-true k j q in
              ap (λ (n : ℕ). get_or (set hashes j p) n 0) same ∙ get_or-set_same hashes j p 0 (omega (arith, f.room)) ∙ e ∙
              ap (λ (n : ℕ). hash (subtree_in s b n)) (sym same)
          by false q = let other = eqb-false k j q in get_or-set_other hashes j k p 0 other ∙ f.filled k (above other) u
            where
              above : (k ≡ j → ⊥) → i ≤ k
              above d = omega arith

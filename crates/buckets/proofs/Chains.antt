-- Laws of chains: which members they visit, what adding a member does to them, and a walk along one.
-- Assumes nothing.
use mathlib.Core.Path.{◌≡◌, refl, sym, ap, ◌∙◌, subst}
use mathlib.Core.Bool.{cond}
use mathlib.Core.List.{List}
use mathlib.Core.Logic.{inl, inr, ⊎_elim}
use Prim.Native.Nat.{ℕ, zero, suc, ◌+◌, ◌≤◌, ◌<◌}
use native.Mathlib.Numerals.{add-one}
use native.Mathlib.Omega.{arith}
use lib.Dec.{eqb, ltb}
use lib.ListN.{length, get_or, set}
use lib.Seq.{get_or-set_same, get_or-set_other}
use borrow.Author.Tests.{eqb-true, eqb-false, eq-eqb, ne_eqb, ltb-true, ltb-false}
use Rattle.formula.proofs.Booleans.{by_cases}
use Rattle.buckets.specs.Chains.{entry_of, BUCKETS, bucket, last, Head, Linked, Passed}
use Rattle.std.specs.Prelude.{Option, Some, None}

-- both outcomes of a test
decide : {A : Type 0} (a b : ℕ) → (a ≡ b → A) → ((a ≡ b → ⊥) → A) → A
decide {A} a b f g =
    by_cases (eqb a b)
    (λ e. f (eqb-true a b e))
    (λ e. g (eqb-false a b e))

-- a link by its entry
same_link : (l r : Option ℕ) → entry_of l ≡ entry_of r → l ≡ r
same_link None None e = refl
same_link None (Some j) e = absurd (omega arith)
same_link (Some i) None e = absurd (omega arith)
same_link (Some i) (Some j) e = ap Some (omega arith)

last_here : (M : List ℕ) (k n : ℕ) → bucket (get_or M n 0) ≡ k → last M k (suc n) ≡ Some n
unfolding last
last_here M k n e = rw (eq-eqb (bucket (get_or M n 0)) k e)

last-before : (M : List ℕ) (k n : ℕ) → (bucket (get_or M n 0) ≡ k → ⊥) → last M k (suc n) ≡ last M k n
unfolding last
last-before M k n e = rw (ne_eqb (bucket (get_or M n 0)) k e)

pub last_within : (M : List ℕ) (k n : ℕ) → entry_of (last M k n) ≤ n
unfolding last
last_within M k zero = omega arith
last_within M k (suc n) =
    decide (bucket (get_or M n 0)) k (λ e. omega (arith, ap entry_of (last_here M k n e)))
    (λ e. omega (arith, ap entry_of (last-before M k n e), last_within M k n))

-- it is a member of the bucket
pub last_in : (M : List ℕ) (k n : ℕ) {i : ℕ} → last M k n ≡ Some i → bucket (get_or M i 0) ≡ k
unfolding last
last_in M k zero l = absurd (omega (arith, ap entry_of l))
last_in M k (suc n) {i} l =
    decide (bucket (get_or M n 0)) k (λ e. ap (λ (j : ℕ). bucket (get_or M j 0)) (same (sym l ∙ last_here M k n e)) ∙ e)
    (λ e. last_in M k n (sym (last-before M k n e) ∙ l))
  where
    same : Some i ≡ Some n → i ≡ n
    same e = cc

pub less_or_same : {A : Type 0} (j n : ℕ) → j < suc n → (j ≡ n → A) → (j < n → A) → A
less_or_same j n l f g = decide j n f (λ e. g (omega arith))

-- and none stands behind it
pub last_covers : (M : List ℕ) (k n j : ℕ) → j < n → bucket (get_or M j 0) ≡ k → j < entry_of (last M k n)
unfolding last
last_covers M k zero j l e = absurd (omega arith)
last_covers M k (suc n) j l e =
    decide (bucket (get_or M n 0)) k (λ f. omega (arith, ap entry_of (last_here M k n f)))
    (λ f.
    less_or_same j n l (λ i. absurd (f (ap (λ (i : ℕ). bucket (get_or M i 0)) (sym i) ∙ e)))
    (λ i. omega (arith, ap entry_of (last-before M k n f), last_covers M k n j i e)))

-- what is stored from there on doesn't matter
pub last_set : (M : List ℕ) (k n m i : ℕ) → i ≤ n → last (set M n m) k i ≡ last M k i
unfolding last
last_set M k n m zero l = refl
last_set M k n m (suc i) l =
    let same : get_or (set M n m) i 0 ≡ get_or M i 0 = get_or-set_other M n i m 0 (λ e. omega arith) in
    ap (λ (x : ℕ). cond (eqb (bucket x) k) (Some i) (last (set M n m) k i)) same ∙
    ap (λ (r : Option ℕ). cond (eqb (bucket (get_or M i 0)) k) (Some i) r) (last_set M k n m i (omega arith))

-- first

module _ (M : List ℕ) (k n : ℕ) {h : ℕ} (s : Head M k n h) where
  module _ {i : ℕ} (is : h ≡ suc i) where
    pub first_above : n ≤ i → None ≡ last M k n
    first_above l = ⊎_elim (λ z. sym z) (λ z. absurd (omega (arith, last_within M k n))) s

    pub first_other : (bucket (get_or M i 0) ≡ k → ⊥) → None ≡ last M k n
    first_other d = ⊎_elim (λ z. sym z) (λ z. absurd (d (last_in M k n (same_link (last M k n) (Some i) (z ∙ is))))) s

    pub first-right : i < n → bucket (get_or M i 0) ≡ k → Some i ≡ last M k n
    first-right l e =
        ⊎_elim (λ z. absurd (omega (arith, last_covers M k n i l e, ap entry_of z))) (λ z. sym (same_link (last M k n) (Some i) (z ∙ is))) s

-- add

pub linked-none : (H L M : List ℕ) → Linked H L M 0
unfolding last
linked-none H L M = record { heads = λ k l. inl refl; links = λ i l. absurd (omega arith) }

module _ (m : ℕ) {H L M H' L' M' : List ℕ} {n f : ℕ} (lk : Linked H L M n) (few : n < length L) (few' : n < length M) (some : bucket m < length H)
    (f-is : f ≡ entry_of (last M (bucket m) n)) (H-is : H' ≡ set H (bucket m) (suc n)) (L-is : L' ≡ set L n f) (M-is : M' ≡ set M n m) where
  member-new : get_or M' n 0 ≡ m
  member-new = ap (λ (l : List ℕ). get_or l n 0) M-is ∙ get_or-set_same M n m 0 few'

  member_old : (i : ℕ) → i < n → get_or M' i 0 ≡ get_or M i 0
  member_old i l = ap (λ (l : List ℕ). get_or l i 0) M-is ∙ get_or-set_other M n i m 0 (λ e. omega arith)

  last_old : (k i : ℕ) → i ≤ n → last M' k i ≡ last M k i
  last_old k i l = ap (λ (l : List ℕ). last l k i) M-is ∙ last_set M k n m i l

  head-entry : (k : ℕ) → k < BUCKETS → Head M' k (n + 1) (get_or H' k 0)
  head-entry k l =
      decide k (bucket m)
      (λ e.
      inr
      (ap entry_of (ap (last M' k) (add-one n) ∙ last_here M' k n (ap bucket member-new ∙ sym e)) ∙
      sym (ap (λ (l : List ℕ). get_or l k 0) H-is ∙ ap (λ (i : ℕ). get_or (set H (bucket m) (suc n)) i 0) e ∙ get_or-set_same H (bucket m) (suc n) 0 some)))
      (λ e.
      let same : last M' k (n + 1) ≡ last M k n =
      ap (last M' k) (add-one n) ∙ last-before M' k n (λ g. e (sym g ∙ ap bucket member-new)) ∙ last_old k n (omega arith) in
      ⊎_elim (λ z. inl (same ∙ z))
      (λ z. inr (ap entry_of same ∙ z ∙ sym (ap (λ (l : List ℕ). get_or l k 0) H-is ∙ get_or-set_other H (bucket m) k (suc n) 0 e)))
      (lk.heads k l))

  link_entry : (i : ℕ) → i < n + 1 → get_or L' i 0 ≡ entry_of (last M' (bucket (get_or M' i 0)) i)
  link_entry i l =
      less_or_same i n (omega arith)
      (λ e.
      ap (λ (l : List ℕ). get_or l i 0) L-is ∙ ap (λ (j : ℕ). get_or (set L n f) j 0) e ∙ get_or-set_same L n f 0 few ∙ f-is ∙
      sym
      (ap entry_of
      (ap (λ (j : ℕ). last M' (bucket (get_or M' j 0)) j) e ∙ ap (λ (x : ℕ). last M' (bucket x) n) member-new ∙ last_old (bucket m) n (omega arith))))
      (λ below.
      ap (λ (l : List ℕ). get_or l i 0) L-is ∙ get_or-set_other L n i f 0 (λ e. omega arith) ∙ lk.links i below ∙
      sym (ap entry_of (ap (λ (x : ℕ). last M' (bucket x) i) (member_old i below) ∙ last_old (bucket (get_or M i 0)) i (omega arith))))

  pub linked_more : Linked H' L' M' (n + 1)
  linked_more = record { heads = head-entry; links = link_entry }

-- a walk along a chain

pub passed_none : {M : List ℕ} {n k : ℕ} {r : Option ℕ} {Test : ℕ → Type 0} → r ≡ last M k n → Passed M n k Test r
passed_none {M} {n} {k} e =
    record {
      within = omega (arith, ap entry_of e, last_within M k n);
      here = λ i q. last_in M k n (sym e ∙ q);
      failed = λ j l u g _. omega (arith, ap entry_of e, last_covers M k n j u g);
    }

-- the walk is at a member
module _ {H L M : List ℕ} {n i : ℕ} {l : Option ℕ} (lk : Linked H L M n) (within : entry_of l ≤ n) (told : l ≡ Some i) (r : Option ℕ)
    (r-is : entry_of r ≡ get_or L i 0) where
  there : i < n
  there = omega (arith, within, ap entry_of told)

  pub passed_more : {k : ℕ} {Test : ℕ → Type 0} → Passed M n k Test l → (Test i → ⊥) → Passed M n k Test r
  passed_more {k} {Test} p t =
      let next : r ≡ last M k i = same_link r _ (r-is ∙ lk.links i there) ∙ ap (λ (j : ℕ). last M j i) (p.here i told) in
      record {
        within = omega (arith, ap entry_of next, last_within M k i, there);
        here = λ j q. last_in M k i (sym next ∙ q);
        failed =
            λ j a u g x.
            below j (suc i) (λ b. less_or_same j i b (λ s. t (subst Test s x)) (λ s. omega (arith, ap entry_of next, last_covers M k i j s g)))
            (λ b. p.failed j (omega (arith, b, ap entry_of told)) u g x);
      }
    where
      below : {A : Type 0} (j i : ℕ) → (j < i → A) → (i ≤ j → A) → A
      below {A} j i f g =
          by_cases (ltb j i)
          (λ e. f (ltb-true j i e))
          (λ e. g (ltb-false j i e))

  -- the chain goes down
  pub link_down : entry_of r < entry_of l
  link_down = omega (arith, r-is, lk.links i there, last_within M (bucket (get_or M i 0)) i, ap entry_of told)
